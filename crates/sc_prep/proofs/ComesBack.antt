-- A machine does one thing at its lines, and comes to each line of text to which the walk of its
-- file comes.
use Rattle.std.proofs.Common.{◌≡◌, ℕ, suc, ◌<◌, Bool, true, false, List, [], ◌∷◌, ◌++◌, map, take, Option, Some, None, Result, Ok, refl, sym, ap, ◌∙◌, subst, length, arith}
use Rattle.c11_directives.proofs.PreLaws.{carries-sole, decides-sole, run-sole, steps-sole}
use Rattle.c11_directives.specs.Lines.{nested, split_lines}
use Rattle.c11_directives.specs.Reaches as moments
use Rattle.c11_directives.specs.Reaches.{at_line}
use Rattle.c11_tokens.proofs.LexLaws.{lexes-unique}
use Rattle.sc_model.specs.Token.{Token}
use Rattle.sc_prep.proofs.Facts.{same_Some}
use Rattle.sc_prep.proofs.Machine.{HasHash, HaveHashes, after, conditional_taken, given, hashes-parts, inert_arriving, inert_branches_run, inert_closing, inert_run, lines-hashes, plain_takes, runs-join, runs-more, runs-none, said-barrier, step_is, taking, unasked, unasked_taken, untaken}
use Rattle.sc_prep.proofs.Terms.{Answers, AreBranches, Branches, BranchesReach, CarriesOut, ComesAt, ComesIn, ComesOver, Conditional, Context, Decides, Directive, Fault, File, FileReaches, Group, GroupReaches, IsGroup, Lexed, Lexeme, Line, LineReaches, Machine, Moment, Place, RunExpands, Runs, State, Steps, Takes, Walks, WalksBranches, acts, alternative, arriving, asks_by, branch_lines, carried_out, carries, closed, closes, closing, closing_run, conditional_of, does, done, empty, ends_run, file_lines, group_lines, here, inside, in_file, is_newline, is_said, last_taken, later, later_passed, later_taken, line, line_at, none_taken, null, otherwise, passed, plain, section, start, step, step_by, taken, takes, text, within}
use Rattle.sc_prep.specs.Machine as machine

-- ---- at which line a machine comes to a moment

pub record ComesAtOne (x : Context) (chain : List Place) (k : Moment) (m : Machine) (lines : List Line) : Type 0 where
  pub index : ℕ
  pub below : index < length lines
  pub before : Machine
  pub runs : Runs x m (take index lines) before
  pub comes : ComesAt x before (line_at lines index) chain k

pub comes-one : {x : Context} {chain : List Place} {k : Moment} {m : Machine} {lines : List Line} → ComesIn x chain k m lines → ComesAtOne x chain k m lines
comes-one {m = m} (here at) = record { index = 0; below = omega arith; before = m; runs = machine.no_line; comes = at }
comes-one (later first rest) =
    let one = comes-one rest in
    let below = one.below in
    record { index = suc one.index; below = omega (arith, below); before = one.before; runs = machine.line first one.runs; comes = one.comes }

-- ---- only a machine that does something comes to a line of text

pub comes-acts : {x : Context} {chain : List Place} {m : Machine} {l at : Line} {s : State} → ComesAt x m l chain (at_line at s) → acts m ≡ true
comes-acts (does acting none reaches) = acting

pub comes-line : {x : Context} {chain : List Place} {m : Machine} {l at : Line} {s : State} → ComesAt x m l chain (at_line at s) → LineReaches x l m.state chain (at_line at s)
comes-line (does acting none reaches) = reaches

pub inert-nowhere : {x : Context} {chain : List Place} {m : Machine} {l at : Line} {s : State} → acts m ≡ false → ComesAt x m l chain (at_line at s) → ⊥
inert-nowhere e at = let both = sym e ∙ comes-acts at in cc

-- ---- a machine does one thing

answers-one : {x : Context} (m : Machine) (l : Line) {r q : Result Bool Fault} → Answers x m l r → Answers x m l q → r ≡ q
answers-one {x} m l {r} {q} one other = by (asks_by m (conditional_of l)) refl
  where
    by : (b : Bool) → asks_by m (conditional_of l) ≡ b → r ≡ q
    by true asks = decides-sole (one.asked asks) q (other.asked asks)
    by false quiet = one.not_asked quiet ∙ sym (other.not_asked quiet)

closing-one : (m : Machine) {r q : Result (List Token) Fault} → RunExpands m r → RunExpands m q → closing_run m r ≡ closing_run m q
closing-one m {r} {q} one other = by (acts m) refl
  where
    by : (b : Bool) → acts m ≡ b → closing_run m r ≡ closing_run m q
    by true acting = ap (closing_run m) (run-sole (one acting) q (other acting))
    by false inactive = inert_closing m r inactive ∙ sym (inert_closing m q inactive)

-- the directive is carried out one way
carried-one : {x : Context} (l : Line) (k : Machine) {d e : Directive} {r q : Result State Fault} → d ≡ e → CarriesOut x k l d r → CarriesOut x k l e q → arriving k r ≡ arriving k q
carried-one {x} l k {d} {e} {r} {q} same one other = by (acts k) refl
  where
    by : (b : Bool) → acts k ≡ b → arriving k r ≡ arriving k q
    by true acting = ap (arriving k) (carries-sole (one acting) q (subst (λ d. CarriesOut x k l d q) (sym same) other acting))
    by false inactive = inert_arriving k r inactive ∙ sym (inert_arriving k q inactive)

directive-one : (l : Line) {d e : Directive} → l.directive ≡ Some d → l.directive ≡ Some e → d ≡ e
directive-one l {d} {e} one other = same_Some d e (sym one ∙ other)

pub takes-one : {x : Context} {m n o : Machine} {l : Line} → Takes x m l n → Takes x m l o → n ≡ o
takes-one {m = m} {l = l} (takes r mild answers) (takes q still others) = ap (step m l) (answers-one m l answers others)
takes-one (takes r mild answers) (closes d q is barrier unsaid expands) = let both = sym mild ∙ (ap ends_run is ∙ barrier) in cc
takes-one (takes r mild answers) (carries d q e is said expands carried) = let both = sym mild ∙ (ap ends_run is ∙ said-barrier d said) in cc
takes-one (closes d r is barrier unsaid expands) (takes q mild answers) = let both = sym mild ∙ (ap ends_run is ∙ barrier) in cc
takes-one {m = m} {l = l} (closes d r is barrier unsaid expands) (closes e q at ends silent becomes) = ap (λ k. step k l (Ok false)) (closing-one m expands becomes)
takes-one {l = l} (closes d r is barrier unsaid expands) (carries e q end at said becomes carried) = let both = sym unsaid ∙ (ap is_said (directive-one l is at) ∙ said) in cc
takes-one (carries d r e is said expands carried) (takes q mild answers) = let both = sym mild ∙ (ap ends_run is ∙ said-barrier d said) in cc
takes-one {l = l} (carries d r e is said expands carried) (closes f q at barrier unsaid becomes) = let both = sym unsaid ∙ (ap is_said (directive-one l at is) ∙ said) in cc
takes-one {x} {m} {l = l} (carries d r e is said expands carried) (carries f q end at says becomes others) =
    let same = closing-one m expands becomes in
    carried-one l (closing_run m r) (directive-one l is at) carried (subst (λ k. CarriesOut x k l f end) (sym same) others) ∙ ap (λ k. arriving k end) same

pub runs-same : {x : Context} {m n o : Machine} {lines : List Line} → Runs x m lines n → Runs x m lines o → n ≡ o
runs-same machine.no_line other = sym (runs-none other)
runs-same {x} {o = o} (machine.line {ls = ls} first rest) other =
    let parts = runs-more other in
    runs-same rest (subst (λ k. Runs x k ls o) (takes-one parts.1 first) parts.2)

-- ---- what the walk does the machine does

module _ {x : Context} where
  head-taken : (h : Line) (m : Machine) (r : Result Bool Fault) {c : Conditional} → conditional_of h ≡ Some c → asks_by m (Some c) ≡ true → Decides x m.state h r → Takes x m h (step_by m h r (Some c))
  head-taken h m r named asks d =
      subst (Takes x m h) (step_is m h r named)
      (conditional_taken named (record { asked = λ _. d; not_asked = λ quiet. let both = sym (ap (asks_by m) named ∙ asks) ∙ quiet in cc }))

  -- the machine behind the line, whichever it is
  some-machine : (l : Line) (s : State) (ss : List (Bool × Bool)) {t : State} → conditional_of l ≡ None → Steps x l s (Ok t) → (n : Machine) × Takes x (taking ss s) l n
  some-machine l s ss none (text e) = (_, takes (Ok false) (ap ends_run e) (unasked (ap (asks_by (taking ss s)) none)))
  some-machine l s ss none (null e) = (_, takes (Ok false) (ap ends_run e) (unasked (ap (asks_by (taking ss s)) none)))
  some-machine l s ss {t} none (carried_out d u e b (closed output becomes) c) = by (is_said d) refl
    where
      by : (said : Bool) → is_said d ≡ said → (n : Machine) × Takes x (taking ss s) l n
      by true said = (_, carries d (Ok output) (Ok t) e said (λ _. becomes) (λ _. c))
      by false unsaid = (_, closes d (Ok output) e b unsaid (λ _. becomes))

  step-taken : (l : Line) (s : State) (ss : List (Bool × Bool)) {t : State} → HasHash l → conditional_of l ≡ None → Steps x l s (Ok t) → Takes x (taking ss s) l (taking ss t)
  step-taken l s ss {t} has none steps =
      let some = some-machine l s ss none steps in
      let e = plain_takes x l s has none ss some.1 in
      by e.end e.fault e.walks e.is (steps-sole steps (given e.end e.fault) e.walks) some.1
    where
      by : (end : State) (fault : Option Fault) → Steps x l s (given end fault) → {n : Machine} → n ≡ after ss end fault → Ok t ≡ given end fault → Takes x (taking ss s) l n → Takes x (taking ss s) l (taking ss t)
      by end None walks is same taking_it =
          let ends : end ≡ t = cc in
          subst (Takes x (taking ss s) l) (is ∙ ap (taking ss) ends) taking_it
      by end (Some fault) walks is same taking_it = absurd (cc)

  -- the branches behind one that was taken
  passed-over : (bs : Branches) → AreBranches bs → (ss : List (Bool × Bool)) (t : State) → Runs x (taking ((true, false) ∷ ss) t) (branch_lines bs) (taking ss t)
  passed-over bs w ss t = inert_branches_run bs w true false ss (taking ((true, false) ∷ ss) t) refl refl

  mutual
    walks-run : (g : Group) → IsGroup g → HaveHashes (group_lines g) → {s t : State} → Walks x g s (Ok t) → (ss : List (Bool × Bool)) → Runs x (taking ss s) (group_lines g) (taking ss t)
    walks-run empty w has done ss = machine.no_line
    walks-run (plain l rest) w has {s} (line t steps walks) ss = machine.line (step-taken l s ss has.0 w.0 steps) (walks-run rest w.1 has.1 walks ss)
    walks-run (section h g bs rest) w has {s} (taken t d first walks) ss =
        let parts = hashes-parts (group_lines g ++ branch_lines bs) (group_lines rest) has.1 in
        let inner = hashes-parts (group_lines g) (branch_lines bs) parts.0 in
        machine.line (head-taken h (taking ss s) (Ok true) w.0.named refl d)
        (runs-join (group_lines g ++ branch_lines bs) (runs-join (group_lines g) (walks-run g w.1 inner.0 first ((true, false) ∷ ss)) (passed-over bs w.2 ss t)) (walks-run rest w.3 parts.1 walks ss))
    walks-run (section h g bs rest) w has {s} (passed t d others walks) ss =
        let parts = hashes-parts (group_lines g ++ branch_lines bs) (group_lines rest) has.1 in
        let inner = hashes-parts (group_lines g) (branch_lines bs) parts.0 in
        machine.line (head-taken h (taking ss s) (Ok false) w.0.named refl d)
        (runs-join (group_lines g ++ branch_lines bs) (runs-join (group_lines g) (inert_run g w.1 (untaken false ss s) refl) (branches-run bs w.2 inner.1 others false ss)) (walks-run rest w.3 parts.1 walks ss))

    branches-run : (bs : Branches) → AreBranches bs → HaveHashes (branch_lines bs) → {s t : State} → WalksBranches x bs s (Ok t) → (active : Bool) (ss : List (Bool × Bool))
        → Runs x (untaken active ss s) (branch_lines bs) (taking ss t)
    branches-run (closing l) w has none_taken active ss = machine.line (unasked_taken w refl) machine.no_line
    branches-run (otherwise h g l) w has (last_taken walks) active ss =
        machine.line (unasked_taken w.0 refl)
        (runs-join (group_lines g) (walks-run g w.1 (hashes-parts (group_lines g) (l ∷ []) has.1).0 walks ((true, false) ∷ ss)) (machine.line (unasked_taken w.2 refl) machine.no_line))
    branches-run (alternative h g bs) w has {s} {t} (later_taken d walks) active ss =
        let inner = hashes-parts (group_lines g) (branch_lines bs) has.1 in
        machine.line (head-taken h (untaken active ss s) (Ok true) w.0.named refl d)
        (runs-join (group_lines g) (walks-run g w.1 inner.0 walks ((true, false) ∷ ss)) (passed-over bs w.2 ss t))
    branches-run (alternative h g bs) w has {s} (later_passed d walks) active ss =
        let inner = hashes-parts (group_lines g) (branch_lines bs) has.1 in
        machine.line (head-taken h (untaken active ss s) (Ok false) w.0.named refl d)
        (runs-join (group_lines g) (inert_run g w.1 (untaken false ss s) refl) (branches-run bs w.2 inner.1 walks false ss))

-- ---- and it comes to each line of text to which the walk comes

module _ {x : Context} {chain : List Place} {k : Moment} where
  pub comes-left : (xs ys : List Line) {m : Machine} → ComesIn x chain k m xs → ComesIn x chain k m (xs ++ ys)
  comes-left [] ys c = elim c [ ]
  comes-left (l ∷ ls) ys (here at) = here at
  comes-left (l ∷ ls) ys (later first rest) = later first (comes-left ls ys rest)

  pub comes-right : (xs : List Line) {ys : List Line} {m n : Machine} → Runs x m xs n → ComesIn x chain k n ys → ComesIn x chain k m (xs ++ ys)
  comes-right [] {ys} ran c = subst (λ m. ComesIn x chain k m ys) (runs-none ran) c
  comes-right (l ∷ ls) ran c = let parts = runs-more ran in later parts.1 (comes-right ls parts.2 c)

module _ {x : Context} {at : Line} {end : State} where
  mutual
    group-comes : (g : Group) → IsGroup g → HaveHashes (group_lines g) → {s : State} {chain : List Place} → GroupReaches x g s chain (at_line at end) → (ss : List (Bool × Bool))
        → ComesIn x chain (at_line at end) (taking ss s) (group_lines g)
    group-comes empty w has reaches ss = elim reaches [ ]
    group-comes (plain l rest) w has (moments.line reaches) ss = here (does refl w.0 reaches)
    group-comes (plain l rest) w has {s} (moments.after_line t steps reaches) ss = later (step-taken l s ss has.0 w.0 steps) (group-comes rest w.1 has.1 reaches ss)
    group-comes (section h g bs rest) w has {s} (moments.taken d reaches) ss =
        let parts = hashes-parts (group_lines g ++ branch_lines bs) (group_lines rest) has.1 in
        let inner = hashes-parts (group_lines g) (branch_lines bs) parts.0 in
        later (head-taken h (taking ss s) (Ok true) w.0.named refl d)
        (comes-left (group_lines g ++ branch_lines bs) (group_lines rest) (comes-left (group_lines g) (branch_lines bs) (group-comes g w.1 inner.0 reaches ((true, false) ∷ ss))))
    group-comes (section h g bs rest) w has {s} (moments.after_taken t d walks reaches) ss =
        let parts = hashes-parts (group_lines g ++ branch_lines bs) (group_lines rest) has.1 in
        let inner = hashes-parts (group_lines g) (branch_lines bs) parts.0 in
        later (head-taken h (taking ss s) (Ok true) w.0.named refl d)
        (comes-right (group_lines g ++ branch_lines bs) (runs-join (group_lines g) (walks-run g w.1 inner.0 walks ((true, false) ∷ ss)) (passed-over bs w.2 ss t)) (group-comes rest w.3 parts.1 reaches ss))
    group-comes (section h g bs rest) w has {s} (moments.passed d reaches) ss =
        let parts = hashes-parts (group_lines g ++ branch_lines bs) (group_lines rest) has.1 in
        let inner = hashes-parts (group_lines g) (branch_lines bs) parts.0 in
        later (head-taken h (taking ss s) (Ok false) w.0.named refl d)
        (comes-left (group_lines g ++ branch_lines bs) (group_lines rest)
        (comes-right (group_lines g) (inert_run g w.1 (untaken false ss s) refl) (branches-come bs w.2 inner.1 reaches false ss)))
    group-comes (section h g bs rest) w has {s} (moments.after_passed t d walks reaches) ss =
        let parts = hashes-parts (group_lines g ++ branch_lines bs) (group_lines rest) has.1 in
        let inner = hashes-parts (group_lines g) (branch_lines bs) parts.0 in
        later (head-taken h (taking ss s) (Ok false) w.0.named refl d)
        (comes-right (group_lines g ++ branch_lines bs) (runs-join (group_lines g) (inert_run g w.1 (untaken false ss s) refl) (branches-run bs w.2 inner.1 walks false ss)) (group-comes rest w.3 parts.1 reaches ss))

    branches-come : (bs : Branches) → AreBranches bs → HaveHashes (branch_lines bs) → {s : State} {chain : List Place} → BranchesReach x bs s chain (at_line at end) → (active : Bool) (ss : List (Bool × Bool))
        → ComesIn x chain (at_line at end) (untaken active ss s) (branch_lines bs)
    branches-come (closing l) w has reaches active ss = elim reaches [ ]
    branches-come (otherwise h g l) w has (moments.in_last reaches) active ss =
        later (unasked_taken w.0 refl) (comes-left (group_lines g) (l ∷ []) (group-comes g w.1 (hashes-parts (group_lines g) (l ∷ []) has.1).0 reaches ((true, false) ∷ ss)))
    branches-come (alternative h g bs) w has {s} (moments.later_taken d reaches) active ss =
        let inner = hashes-parts (group_lines g) (branch_lines bs) has.1 in
        later (head-taken h (untaken active ss s) (Ok true) w.0.named refl d) (comes-left (group_lines g) (branch_lines bs) (group-comes g w.1 inner.0 reaches ((true, false) ∷ ss)))
    branches-come (alternative h g bs) w has {s} (moments.later_passed d reaches) active ss =
        let inner = hashes-parts (group_lines g) (branch_lines bs) has.1 in
        later (head-taken h (untaken active ss s) (Ok false) w.0.named refl d)
        (comes-right (group_lines g) (inert_run g w.1 (untaken false ss s) refl) (branches-come bs w.2 inner.1 reaches false ss))

  -- the lines of a file with these tokens
  pub comes-back : (f : File) (s : State) (lexemes : List Lexeme) → Lexed f.bytes (Ok lexemes) → {lines : List Line} → lines ≡ file_lines x f lexemes → {chain : List Place}
      → FileReaches x f s chain (at_line at end) → ComesOver x lines (start (inside f s)) chain (at_line at end)
  comes-back f s lexemes lexed {lines} are {chain} (moments.within tokens group few also (nested g tree) reaches) =
      let oks : Ok tokens ≡ Ok lexemes = lexes-unique also lexed in
      let same : tokens ≡ lexemes = cc in
      let whole : group_lines g ≡ lines = tree.whole ∙ (ap (file_lines x f) same ∙ sym are) in
      let hashes : HaveHashes (group_lines g) = subst HaveHashes (sym tree.whole) (lines-hashes x.standard (split_lines (λ t. is_newline t.kind) (map (in_file f.name) tokens))) in
      within (subst (λ ls. ComesIn x chain (at_line at end) (start (inside f s)) ls) whole (group-comes g tree.grouped hashes reaches []))
