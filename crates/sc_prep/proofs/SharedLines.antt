-- What configurations put out in the lines of a file they share, line by line, up to its end.
use Rattle.std.proofs.Common.{◌≡◌, ℕ, ◌+◌, ◌<◌, ◌&&◌, ◌⊎◌, inl, inr, take, Bool, true, false, List, [], ◌∷◌, length, Option, Some, None, Result, Ok, Err, refl, sym, ap, ◌∙◌, subst, arith, is_none, MatchBool, if◌then◌else◌}
use Rattle.std.proofs.lemmas.List.{get_or-take, length-take}
use Rattle.c11_directives.specs.Footprints.{Spot, Used}
use Rattle.c11_directives.specs.PutOut.{PutsOut}
use Rattle.c11_directives.specs.Reaches.{at_line}
use Rattle.sc_base.specs.declared.token.Token as base
use Rattle.sc_lines.specs.declared.line.Line as declared
use Rattle.sc_expand.proofs.TakingParts.{none-found}
use Rattle.sc_model.specs.Token.{Token}
use Rattle.sc_prep.proofs.BetweenRuns.{closing-between}
use Rattle.sc_prep.proofs.ComesBack.{comes-acts, comes-one, runs-same}
use Rattle.sc_prep.proofs.ComesFrom.{comes-append, comes-more, comes-none}
use Rattle.sc_prep.proofs.ComesPassed.{next-nowhere}
use Rattle.sc_prep.proofs.Facts.{IsConfig-Keeps, and-false, and_parts, take_more}
use Rattle.sc_prep.proofs.InFile.{idle-inert, runs-idle, top-is-in}
use Rattle.sc_prep.proofs.Levels.{closing-level, ends-acting}
use Rattle.sc_prep.proofs.LinesApart.{one-line, seen-apart}
use Rattle.sc_prep.proofs.Machine.{branch-kept, end-kept, inert_plain, inert_takes}
use Rattle.sc_prep.proofs.NthItems.{some-item}
use Rattle.sc_prep.proofs.Passing.{one-more}
use Rattle.sc_prep.proofs.PlainRuns.{in-more, unfaulty}
use Rattle.sc_prep.proofs.SettledText.{text-empty}
pub use Rattle.sc_prep.proofs.SharesKept.{any-shares as shares-any}
use Rattle.sc_prep.proofs.SharesKept.{Behind, puts-behind, shares-behind, shares-refl}
use Rattle.sc_prep.proofs.Terms.{AllByRecursion as Every, Alternative, Closed, ComesAt, ComesIn, ComesOver, Conditional, Context, Else, Endif, EndsAt, Entry, Extends, Fault, IsAtTop, IsConfig, IsIn, IsNever, Keeps, Leads, Line, Machine, Opening, Place, Runs, Sets, Simulates, StandApart, StandFor, Standard, State, Takes, Walk, acts, any_machine, asks_by, closing_run, conditional_of, ended, has_none, is_empty, items_at, line_at, next_branch, no_line, seen_lines, start, step_by, within}
use Rattle.sc_prep.specs.Simulates as simulates
use Rattle.sc_prep.specs.Thin.{HaveOne, KeepsShares, KeepsSharesOf, Shares, WherePutOut, one_held, other_held, put, waits}

-- ---- a fault stays

faulty-quiet : (m : Machine) (c : Option Conditional) → is_none m.fault ≡ false → asks_by m c ≡ false
faulty-quiet m None e = refl
faulty-quiet m (Some (Opening test)) e = ap (λ b. m.active && b) e ∙ and-false m.active
faulty-quiet m (Some Else) e = refl
faulty-quiet m (Some Endif) e = refl
faulty-quiet m (Some (Alternative test)) e = by m.sections
  where
    by : (ss : List (Bool × Bool)) → acts (next_branch m true ss) ≡ false
    by [] = ap (λ b. m.active && b) e ∙ and-false m.active
    by (s ∷ ss) = ap (λ b. s.1 && b) e ∙ and-false s.1

step-fault : (m : Machine) (l : Line) (c : Option Conditional) → acts m ≡ false → (step_by m l (Ok false) c).fault ≡ m.fault
step-fault m l None e = ap (λ (k : Machine). k.fault) (inert_plain m l e)
step-fault m l (Some (Opening test)) e = refl
step-fault m l (Some (Alternative test)) e = (branch-kept m false m.sections).0
step-fault m l (Some Else) e = (branch-kept m true m.sections).0
step-fault m l (Some Endif) e = (end-kept m m.sections).0

takes-fine : {x : Context} {m n : Machine} {l : Line} → Takes x m l n → is_none n.fault ≡ true → is_none m.fault ≡ true
takes-fine {m = m} {n} {l} taking fine = by (is_none m.fault) refl
  where
    by : (b : Bool) → is_none m.fault ≡ b → is_none m.fault ≡ true
    by true e = e
    by false e =
        let still : acts m ≡ false = ap (λ b. m.active && b) e ∙ and-false m.active in
        let same : n.fault ≡ m.fault = ap (λ (k : Machine). k.fault) (inert_takes still (faulty-quiet m (conditional_of l) e) taking) ∙ step-fault m l (conditional_of l) still in
        let both : true ≡ false = sym fine ∙ (ap (λ (f : Option Fault). is_none f) same ∙ e) in
        absurd (cc)

closing-fine : (m : Machine) (r : Result (List Token) Fault) → is_none (closing_run m r).fault ≡ true → is_none m.fault ≡ true
closing-fine m (Ok output) fine = fine
closing-fine m (Err fault) fine = by (acts m) fine
  where
    by : (b : Bool) → is_none (if b then Some fault else m.fault) ≡ true → is_none m.fault ≡ true
    by true e = absurd (cc)
    by false e = e

closed-fine : {m n : Machine} → Closed m n → is_none n.fault ≡ true → is_none m.fault ≡ true
closed-fine {m} closed fine = closing-fine m closed.answer (ap (λ (k : Machine). is_none k.fault) (sym closed.is) ∙ fine)

closed-acts : {m n : Machine} → Closed m n → acts m ≡ true → is_none n.fault ≡ true → acts n ≡ true
closed-acts {m} {n} closed acting fine =
    ap (λ a. a && is_none n.fault) (ap (λ (k : Machine). k.active) closed.is ∙ (ap (λ p. p.0) (closing-level m closed.answer) ∙ (and_parts m.active (is_none m.fault) acting).0)) ∙ fine

-- ---- where nothing waits

-- A configuration's run ended: nothing of it is gathered or held.
record IsQuiet (s : Sets) (w : Walk) (c : List ℕ) : Type 0 where
  gathered : items_at s w.runs.gathered c ≡ []
  held : has_none s w.runs.held.items c ≡ true

quiet-at : {s : Sets} {names files : List (List ℕ)} {w : Walk} {c : List ℕ} {n : Machine} → Simulates s names files w c n → is_none n.fault ≡ true → n.state.run ≡ [] → IsQuiet s w c
quiet-at {s} {w = w} {c} {n} at fine ended =
    let text = (at.text (unfaulty n.fault fine)).text in
    let none = text-empty n.state _ _ _ _ ended text in
    record { gathered = none-found _ (items_at s w.runs.gathered c) (none-found _ _ none.0); held = ap is_empty (none-found _ _ (none-found _ _ none.2)) }

settled-one : {s : Sets} {names files : List (List ℕ)} {w : Walk} {c d : List ℕ} {index n m : ℕ} → IsQuiet s w c → IsQuiet s w d → Shares s names files w c d index n m → HaveOne s w.prepared.list c d n m
settled-one one other (put shared) = shared
settled-one {s} {w = w} {c} one other (waits at size span inside first second) = absurd (some-item s c w.runs.gathered at span.one.item span.one.is span.one.has one.gathered)
settled-one one other (one_held is) = absurd (is one.held)
settled-one one other (other_held is) = absurd (is other.held)

-- ---- of so many first lines of a file

-- What was shared before is shared, and so is what two machines put out in these lines.
pub record SharesLines (x : Context) (entry : Entry) (standard : Standard) (tokens : List base.Token) (number : ℕ) (old : Sets) (names files : List (List ℕ)) (walk : Walk) (new : Sets) (more more_files : List (List ℕ)) (next : Walk) : Type 0 where
  pub shares : KeepsSharesOf (IsAtTop files entry) files names old walk more_files more new next
  pub puts : StandApart tokens → WherePutOut files names old walk (IsAtTop files entry) (λ config m chain k. ComesIn x chain k m (take number (seen_lines standard names files tokens))) new next
      (Shares new more more_files next)

-- before the first
pub shares-none : {x : Context} {entry : Entry} {standard : Standard} {tokens : List base.Token} {s : Sets} {names files : List (List ℕ)} {w : Walk} → SharesLines x entry standard tokens 0 s names files w s names files w
shares-none {w = w} = record {
  shares = shares-refl;
  puts = λ apart c d c_is d_is c_live d_live k l k_at l_at k_from l_from chain line other s t f index n m c_comes d_comes c_puts d_puts. absurd (comes-none c_comes);
}

module _ {a b : Sets} {names files mid mid_files : List (List ℕ)} {u v : Walk} (entry : Entry) (x : Context) (standard : Standard) (tokens : List base.Token) (number : ℕ) (keeps : Keeps a b) (grows : Extends files mid_files)
    (leads : Leads files names a u mid_files mid b v (IsAtTop files entry) (λ config m n. Runs x m (take number (seen_lines standard names files tokens)) n)) where
  abbrev file_seen : List Line
  file_seen = seen_lines standard names files tokens

  -- where a configuration's machine is behind these lines
  record Here (c : List ℕ) (k : Machine) : Type 0 where
    machine : Machine
    ran : Runs x k (take number file_seen) machine
    at : Simulates b mid mid_files v c machine
    inside : IsIn mid_files entry machine
    listed : IsConfig b.arities c

  here : (c : List ℕ) (k : Machine) → IsConfig a.arities c → Simulates a names files u c k → IsAtTop files entry k → Here c k
  here c k listed at from =
      let to = leads.at c k listed at from in
      record { machine = to.machine; ran = to.done; at = to.simulates; inside = in-more to.machine grows (top-is-in from to.done); listed = IsConfig-Keeps keeps listed }

  module _ {z : Sets} {more more_files : List (List ℕ)} {w : Walk} (between : Machine → Type 0) (later : List ℕ → Machine → Machine → Type 0) (inside : (m : Machine) → IsIn mid_files entry m → between m)
      (fine : (config : List ℕ) (m n : Machine) → later config m n → is_none n.fault ≡ true → is_none m.fault ≡ true) (leads_on : Leads mid_files mid b v more_files more z w between later)
      (shares : KeepsSharesOf between mid_files mid b v more_files more z w) (so_far : SharesLines x entry standard tokens number a names files u b mid mid_files v) where
    -- one that isn't refused later isn't yet
    behind : (c : List ℕ) (k : Machine) → IsConfig a.arities c → Simulates a names files u c k → IsAtTop files entry k → z.has w.prepared.live.0 c ≡ true
        → Behind b mid mid_files v between c
    behind c k listed at from live =
        let was = here c k listed at from in
        let so = inside was.machine was.inside in
        let to = leads_on.at c was.machine was.listed was.at so in
        let fault = fine c was.machine to.machine to.done (sym to.simulates.prepared.live ∙ live) in
        record { machine = was.machine; simulates = was.at; live = was.at.prepared.live ∙ fault; is = so }

    pub shares-then : KeepsSharesOf (IsAtTop files entry) files names a u more_files more z w
    shares-then = shares-behind keeps behind shares so_far.shares

    -- what was put out in the lines before
    pub puts-then : StandApart tokens
        → WherePutOut files names a u (IsAtTop files entry) (λ config m chain k. ComesIn x chain k m (take number file_seen)) z w (Shares z more more_files w)
    puts-then apart = puts-behind keeps behind shares (λ config m chain k. ComesIn x chain k m (take number file_seen)) (so_far.puts apart)

  -- ---- one line more

  module _ {z : Sets} {more more_files : List (List ℕ)} {w : Walk} (l : Line) (is : l ≡ line_at file_seen number) (below : number < length file_seen)
      (leads_on : Leads mid_files mid b v more_files more z w (IsIn mid_files entry) (λ config m n. Takes x m l n))
      (shares : KeepsSharesOf (IsIn mid_files entry) mid_files mid b v more_files more z w)
      (puts : StandApart tokens → WherePutOut mid_files mid b v (IsIn mid_files entry) (λ config m. ComesAt x m l) z w (Shares z more more_files w))
      (later_keeps : Keeps b z) (next : ℕ) (passed : Bool) (ends : MatchBool passed (EndsAt file_seen (number + 1) next) (next ≡ number + 1)) (never : passed ≡ true → IsNever z w.acting.0)
      (so_far : SharesLines x entry standard tokens number a names files u b mid mid_files v) where
    -- it comes to the moment in the lines before, or at the line
    abbrev Found : (c : List ℕ) (k : Machine) → Here c k → List Place → Line → State → Type 0
    Found c k was chain at end = ComesIn x chain (at_line at end) k (take number file_seen) ⊎ ComesAt x was.machine (line_at file_seen number) chain (at_line at end)

    found : (c : List ℕ) (k : Machine) (was : Here c k) {chain : List Place} {at : Line} {end : State} → ComesIn x chain (at_line at end) k (take next file_seen) → Found c k was chain at end
    found c k was {chain} {at} {end} comes =
        let to = leads_on.at c was.machine was.listed was.at was.inside in
        let taken = subst (λ l. Takes x was.machine l to.machine) is to.done in
        let some = next-nowhere file_seen x k chain at end number next passed to.machine ends
        (λ p. sym to.simulates.acting ∙ (never p).none c (IsConfig-Keeps later_keeps was.listed))
        (one-more file_seen x k number below was.ran taken) comes in
        elim (comes-append (take number file_seen) (line_at file_seen number ∷ []) (subst (λ ls. ComesIn x chain (at_line at end) k ls) (take_more file_seen number no_line below) some)) [
          | inl before ↦ inl before
          | inr past ↦ elim (comes-more past.2) [
            | inl there ↦ inr (subst (λ n. ComesAt x n (line_at file_seen number) chain (at_line at end)) (runs-same past.1 was.ran) there)
            | inr after ↦ absurd (comes-none after.2)
          ]
        ]

    -- no other line before puts out what the line does
    earlier : StandApart tokens → {k m : Machine} {chain : List Place} {at other : Line} {s t : State} {f : Spot × Used} {index n p : ℕ} → ComesIn x chain (at_line at s) k (take number file_seen)
        → ComesAt x m (line_at file_seen number) chain (at_line other t) → PutsOut s at f index n → PutsOut t other f index p → ⊥
    earlier apart {chain = chain} {at} {s = s} comes there one two =
        let first = comes-one comes in
        let i = first.index in
        let low : i < number = omega (arith, first.below, length-take number file_seen) in
        let same = one-line file_seen (seen-apart standard names files tokens apart) i number
        (subst (λ l. ComesAt x first.before l chain (at_line at s)) (get_or-take number file_seen i no_line low) first.comes) there one two in
        omega (arith, low, same)

    pub shares-next : SharesLines x entry standard tokens next a names files u z more more_files w
    shares-next = record {
      shares = shares-then (IsIn mid_files entry) (λ config m n. Takes x m l n) (λ m i. i) (λ config m n taking fine. takes-fine taking fine) leads_on shares so_far;
      puts = λ apart c d c_is d_is c_live d_live k o k_at o_at k_from o_from chain line other s t f index n m c_comes d_comes c_puts d_puts.
          let c_here = here c k c_is k_at k_from in
          let d_here = here d o d_is o_at o_from in
          elim (found c k c_here c_comes) [
            | inl c_before ↦ elim (found d o d_here d_comes) [
              | inl d_before ↦
                  puts-then (IsIn mid_files entry) (λ config m n. Takes x m l n) (λ m i. i) (λ config m n taking fine. takes-fine taking fine) leads_on shares so_far apart
                  c d c_is d_is c_live d_live k o k_at o_at k_from o_from chain line other s t f index n m c_before d_before c_puts d_puts
              | inr d_there ↦ absurd (earlier apart c_before d_there c_puts d_puts)
            ]
            | inr c_there ↦ elim (found d o d_here d_comes) [
              | inl d_before ↦ absurd (earlier apart d_before c_there d_puts c_puts)
              | inr d_there ↦
                  puts apart c d c_here.listed d_here.listed c_live d_live c_here.machine d_here.machine c_here.at d_here.at c_here.inside d_here.inside chain line other s t f index n m
                  (subst (λ l. ComesAt x c_here.machine l chain (at_line line s)) (sym is) c_there) (subst (λ l. ComesAt x d_here.machine l chain (at_line other t)) (sym is) d_there) c_puts d_puts
            ]
          ];
    }

  -- ---- the end of the file

  module _ {z : Sets} {more : List (List ℕ)} {w : Walk} (all : take number file_seen ≡ file_seen) (lines : List declared.Line) (stand : StandFor file_seen lines)
      (leads_on : Leads mid_files mid b v mid_files more z w any_machine (λ config m n. Closed m n)) (shares : KeepsShares mid_files mid b v mid_files more z w)
      (so_far : SharesLines x entry standard tokens number a names files u b mid mid_files v) where
    pub shares-over : KeepsSharesOf (IsAtTop files entry) files names a u mid_files more z w
    shares-over = shares-then any_machine (λ config m n. Closed m n) (λ m i. tt) (λ config m n closed fine. closed-fine closed fine) leads_on shares so_far

    -- a machine that comes to a line begins with the file
    begins-here : {k : Machine} {chain : List Place} {at : Line} {end : State} → IsAtTop files entry k → ComesIn x chain (at_line at end) k file_seen → (s : State) × (k ≡ start s)
    begins-here (simulates.begins first is inside) comes = (first, is)
    begins-here (simulates.idles inactive none) comes =
        let one = comes-one comes in
        let idle = runs-idle (record { active = inactive; sections = subst (Every (λ s. s ≡ (false, false))) (sym none) tt }) one.runs in
        let both = sym (idle-inert idle) ∙ comes-acts one.comes in
        absurd (cc)

    quiet-over : (c : List ℕ) (k : Machine) {chain : List Place} {at : Line} {end : State} → Here c k → IsAtTop files entry k → ComesIn x chain (at_line at end) k file_seen → z.has w.prepared.live.0 c ≡ true
        → IsQuiet z w c
    quiet-over c k was from comes live =
        let to = leads_on.at c was.machine was.listed was.at tt in
        let fine : is_none to.machine.fault ≡ true = sym to.simulates.prepared.live ∙ live in
        let first = begins-here from comes in
        let acting = ends-acting file_seen x lines stand (subst (λ m. Runs x m file_seen was.machine) first.1 (subst (λ ls. Runs x k ls was.machine) all was.ran)) (closed-fine to.done fine) in
        quiet-at to.simulates fine
        (subst (λ (m : Machine). acts m ≡ true → m.state.run ≡ []) (sym to.done.is) (closing-between was.machine to.done.answer) (closed-acts to.done acting fine))

    -- all that they put out is in one element
    pub puts-over : StandApart tokens
        → WherePutOut files names a u (IsAtTop files entry) (λ config m. ComesOver x file_seen m) z w (λ c d index n m. HaveOne z w.prepared.list c d n m)
    puts-over apart = λ c d c_is d_is c_live d_live k l k_at l_at k_from l_from chain line other s t f index n m c_over d_over c_puts d_puts.
        let c_here = here c k c_is k_at k_from in
        let d_here = here d l d_is l_at l_from in
        let c_comes = over c_over in
        let d_comes = over d_over in
        settled-one (quiet-over c k c_here k_from c_comes c_live) (quiet-over d l d_here l_from d_comes d_live)
        (puts-then any_machine (λ config m n. Closed m n) (λ m i. tt) (λ config m n closed fine. closed-fine closed fine) leads_on shares so_far apart
        c d c_is d_is c_live d_live k l k_at l_at k_from l_from chain line other s t f index n m
        (subst (λ ls. ComesIn x chain (at_line line s) k ls) (sym all) c_comes) (subst (λ ls. ComesIn x chain (at_line other t) l ls) (sym all) d_comes) c_puts d_puts)
      where
        over : {m : Machine} {chain : List Place} {at : Line} {end : State} → ComesOver x file_seen m chain (at_line at end) → ComesIn x chain (at_line at end) m file_seen
        over (within comes) = comes
