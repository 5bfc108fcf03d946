-- The walk of one configuration over the lines of a file as they come, and that it is the walk of
-- their groups.
use Rattle.std.proofs.Common.{◌≡◌, ◌&&◌, not, Bool, true, false, List, [], ◌∷◌, ◌++◌, map, Option, Some, None, Result, Ok, Err, refl, sym, ap, ◌∙◌, subst, is_none, if◌then◌else◌}
use Rattle.c11_directives.specs.declared.directive.Directive.TheVariants as directive
use Rattle.sc_model.specs.Token.{Token}
use Rattle.sc_prep.proofs.Facts.{same_definition-false, same_definition-true}
use Rattle.sc_prep.proofs.Terms.{Alternative, Answers, AreBranches, Branches, Carries, Cause, Changes, Conditional, Context, Decided, Decides, Defined, Defines, Definition, Directive, Endif, Fault, Group, IsGroup, Line, Machine, Macros, Opens, Redefined, RefusedAt, Runs, Standard, State, Steps, Takes, Test, RunBecomes, Walks, WalksBranches, acting, acts, again, alternative, arriving, asks_by, behind_name, branch_lines, branched_as, carried_out, carries, changed, changed_by, changing, closed, closes, closing, closing_run, conditional_in, conditional_of, defined_as, defined_over, defines, defines_nothing, done, empty, ended, ends_run, error, first_place, fresh, group_lines, hash_of, head_stops, ignored, is_barrier, is_said, last_taken, later_passed, later_stops, later_taken, line, line_of, line_stops, next_branch, none_taken, not_changed, null, opened, opened_as, option_map, otherwise, passed, passed_stops, place_in, plain, plain_by, plain_step, put_out, reads, redefined, refusal, refused, refusing, same_definition, section, state_behind, step, step_by, stopped, taken, taken_stops, takes, text, turned, undefines, unknown, unwrap_or, with_macro, with_text}
use Rattle.sc_prep.specs.Machine as machine

-- ---- one line after another

pub runs-none : {x : Context} {m n : Machine} → Runs x m [] n → n ≡ m
runs-none machine.no_line = refl

pub runs-more : {x : Context} {m n : Machine} {l : Line} {ls : List Line} → Runs x m (l ∷ ls) n → (mid : Machine) × Takes x m l mid × Runs x mid ls n
runs-more (machine.line {n} first rest) = (n, first, rest)

pub runs-one : {x : Context} {m n : Machine} {l : Line} → Runs x m (l ∷ []) n → Takes x m l n
runs-one {x} {m} {l = l} ran = let parts = runs-more ran in subst (Takes x m l) (sym (runs-none parts.2)) parts.1

pub runs-append : {x : Context} (xs ys : List Line) {m n : Machine} → Runs x m (xs ++ ys) n → (mid : Machine) × Runs x m xs mid × Runs x mid ys n
runs-append [] ys {m} ran = (m, machine.no_line, ran)
runs-append (l ∷ ls) ys ran =
    let first = runs-more ran in
    let rest = runs-append ls ys first.2 in
    (rest.0, machine.line first.1 rest.1, rest.2)

pub runs-join : {x : Context} (xs : List Line) {ys : List Line} {m n o : Machine} → Runs x m xs n → Runs x n ys o → Runs x m (xs ++ ys) o
runs-join {x} [] {ys} {o = o} one two = subst (λ k. Runs x k ys o) (runs-none one) two
runs-join (l ∷ ls) one two = let parts = runs-more one in machine.line parts.1 (runs-join ls parts.2 two)

pub runs-once : {x : Context} {m n : Machine} {l : Line} → Takes x m l n → Runs x m (l ∷ []) n
runs-once first = machine.line first machine.no_line

-- ---- a conditional directive

-- it ends no run
conditional-mild : (d : Option Directive) {c : Conditional} → conditional_in d ≡ Some c → ends_run d ≡ false
conditional-mild None e = cc
conditional-mild (Some (directive.Conditional c)) e = refl
conditional-mild (Some directive.Include) e = cc
conditional-mild (Some directive.Define) e = cc
conditional-mild (Some directive.Undef) e = cc
conditional-mild (Some directive.Line) e = cc
conditional-mild (Some directive.Error) e = cc
conditional-mild (Some directive.Pragma) e = cc
conditional-mild (Some directive.Warning) e = cc
conditional-mild (Some directive.Null) e = cc
conditional-mild (Some directive.Unknown) e = cc

-- a directive is carried out only at the end of a run
pub said-barrier : (d : Directive) → is_said d ≡ true → is_barrier d ≡ true
said-barrier directive.Include e = refl
said-barrier directive.Line e = refl
said-barrier (directive.Conditional c) e = cc
said-barrier directive.Define e = cc
said-barrier directive.Undef e = cc
said-barrier directive.Error e = cc
said-barrier directive.Pragma e = cc
said-barrier directive.Warning e = cc
said-barrier directive.Null e = cc
said-barrier directive.Unknown e = cc

-- a barrier is no conditional directive
pub barrier-plain : (l : Line) (d : Directive) → l.directive ≡ Some d → is_barrier d ≡ true → conditional_of l ≡ None
barrier-plain l (directive.Conditional c) e b = cc
barrier-plain l directive.Include e b = ap conditional_in e
barrier-plain l directive.Define e b = ap conditional_in e
barrier-plain l directive.Undef e b = ap conditional_in e
barrier-plain l directive.Line e b = ap conditional_in e
barrier-plain l directive.Error e b = ap conditional_in e
barrier-plain l directive.Pragma e b = ap conditional_in e
barrier-plain l directive.Warning e b = ap conditional_in e
barrier-plain l directive.Null e b = ap conditional_in e
barrier-plain l directive.Unknown e b = ap conditional_in e

pub takes_conditional : {x : Context} {m n : Machine} {l : Line} {c : Conditional} → conditional_of l ≡ Some c → Takes x m l n → Decided x m l n
takes_conditional e (takes r mild answers) = record { decision = r; answers = answers; is = refl }
takes_conditional {l = l} e (closes d r is barrier unsaid expands) = let both = sym e ∙ barrier-plain l d is barrier in cc
takes_conditional {l = l} e (carries d r end is said expands does) = let both = sym e ∙ barrier-plain l d is (said-barrier d said) in cc

pub conditional_taken : {x : Context} {m : Machine} {l : Line} {r : Result Bool Fault} {c : Conditional} → conditional_of l ≡ Some c → Answers x m l r → Takes x m l (step m l r)
conditional_taken {l = l} {r} e answers = takes r (conditional-mild l.directive e) answers

pub step_is : (m : Machine) (l : Line) (r : Result Bool Fault) {c : Option Conditional} → conditional_of l ≡ c → step m l r ≡ step_by m l r c
step_is m l r e = ap (step_by m l r) e

-- no expression is evaluated
pub unasked : {x : Context} {m : Machine} {l : Line} → asks_by m (conditional_of l) ≡ false → Answers x m l (Ok false)
unasked e = record { asked = λ asks. let both = sym e ∙ asks in cc; not_asked = λ quiet. refl }

-- the same of a line that is this conditional directive
pub unasked_of : {x : Context} {m : Machine} {l : Line} {c : Conditional} → conditional_of l ≡ Some c → asks_by m (Some c) ≡ false → Answers x m l (Ok false)
unasked_of {m = m} named e = unasked (ap (asks_by m) named ∙ e)

-- what the line makes of the machine that asks nothing
pub takes_unasked : {x : Context} {m n : Machine} {l : Line} {c : Conditional} → conditional_of l ≡ Some c → asks_by m (Some c) ≡ false → Takes x m l n → n ≡ step_by m l (Ok false) (Some c)
takes_unasked {m = m} {l = l} {c} named e taking =
    let does = takes_conditional named taking in
    does.is ∙ (step_is m l does.decision named ∙ ap (λ r. step_by m l r (Some c)) (does.answers.not_asked (ap (asks_by m) named ∙ e)))

pub unasked_taken : {x : Context} {m : Machine} {l : Line} {c : Conditional} → conditional_of l ≡ Some c → asks_by m (Some c) ≡ false → Takes x m l (step_by m l (Ok false) (Some c))
unasked_taken {x} {m} {l} {c} named e = subst (Takes x m l) (step_is m l (Ok false) named) (conditional_taken named (unasked_of named e))

-- a machine that takes the lines, with no fault yet, or with one
abbrev pub after : List (Bool × Bool) → State → Option Fault → Machine
after ss s fault = record { active = true; sections = ss; state = s; fault = fault }

abbrev pub taking : List (Bool × Bool) → State → Machine
taking ss s = after ss s None

-- ---- the # of a directive

-- a directive has a first token
abbrev pub HasHash : Line → Type 0
HasHash l = (l.directive ≡ None → ⊥) → (t : Token) × (hash_of l ≡ Some t)

abbrev pub HaveHashes : List Line → Type 0
HaveHashes [] = Unit {0}
HaveHashes (l ∷ ls) = HasHash l × HaveHashes ls

line-hash : (standard : Standard) (ts : List Token) → HasHash (line_of standard ts)
line-hash standard [] = λ some. absurd (some refl)
line-hash standard (t ∷ ts) = λ some. (t, refl)

pub lines-hashes : (standard : Standard) (ls : List (List Token)) → HaveHashes (map (line_of standard) ls)
lines-hashes standard [] = tt
lines-hashes standard (ts ∷ ls) = (line-hash standard ts, lines-hashes standard ls)

pub hashes-parts : (xs ys : List Line) → HaveHashes (xs ++ ys) → HaveHashes xs × HaveHashes ys
hashes-parts [] ys have = (tt, have)
hashes-parts (x ∷ xs) ys have = let parts = hashes-parts xs ys have.1 in ((have.0, parts.0), parts.1)

refused_at : (s : State) (l : Line) (cause : Cause) → HasHash l → (l.directive ≡ None → ⊥) → RefusedAt s l cause (refusal s l cause)
refused_at s l cause has some =
    let hash = has some in
    let at : option_map (place_in s) (hash_of l) ≡ Some (place_in s hash.0) = ap (option_map (place_in s)) hash.1 in
    record { cause_is = refl; place_is = at ∙ sym (ap (λ o. Some (unwrap_or o (first_place []))) at) }

-- ---- lines that are not taken, or that follow a fault, do nothing

pub inert_refusing : (m : Machine) (l : Line) (cause : Cause) → acts m ≡ false → refusing m l cause ≡ m
inert_refusing m l cause e = ap (λ b. record m { fault = if b then Some (refusal m.state l cause) else m.fault }) e

pub inert_acting : (m : Machine) (next : State → State) → acts m ≡ false → acting m next ≡ m
inert_acting m next e = ap (λ b. record m { state = if b then next m.state else m.state }) e

pub inert_changing : (m : Machine) (l : Line) (d : Directive) (r : Result Macros Cause) → acts m ≡ false → changing m l d r ≡ m
inert_changing m l d (Ok macros) e = inert_acting m (λ s. state_behind s l d macros) e
inert_changing m l d (Err cause) e = inert_refusing m l cause e

pub right-none : {F : Type 0} (a : Bool) (f : Option F) → (a && is_none f) ≡ true → f ≡ None
right-none true None e = refl
right-none true (Some x) e = absurd (cc)
right-none false f e = absurd (cc)

-- the next branch of a section, and its end, leave the fault and the state
pub branch-kept : (m : Machine) (t : Bool) (ss : List (Bool × Bool)) → ((next_branch m t ss).fault ≡ m.fault) × ((next_branch m t ss).state ≡ m.state)
branch-kept m t [] = (refl, refl)
branch-kept m true (s ∷ ss) = (refl, refl)
branch-kept m false (s ∷ ss) = (refl, refl)

pub end-kept : (m : Machine) (ss : List (Bool × Bool)) → ((ended m ss).fault ≡ m.fault) × ((ended m ss).state ≡ m.state)
end-kept m [] = (refl, refl)
end-kept m (s ∷ ss) = (refl, refl)

pub inert_plain : (m : Machine) (l : Line) → acts m ≡ false → plain_step m l ≡ m
inert_plain m l e = by l.directive
  where
    barred : (d : Directive) (r : Result Macros Cause) (b : Bool) → (if b then changing m l d r else m) ≡ m
    barred d r true = inert_changing m l d r e
    barred d r false = refl

    by : (d : Option Directive) → plain_by m l d ≡ m
    by None = inert_acting m (λ s. with_text s l) e
    by (Some d) = barred d (changed_by m.state.macros l d) (is_barrier d)

pub inert_closing : (m : Machine) (r : Result (List Token) Fault) → acts m ≡ false → closing_run m r ≡ m
inert_closing m (Ok output) e = inert_acting m (λ s. put_out s output) e
inert_closing m (Err fault) e = ap (λ b. record m { fault = if b then Some fault else m.fault }) e

pub inert_arriving : (m : Machine) (r : Result State Fault) → acts m ≡ false → arriving m r ≡ m
inert_arriving m (Ok s) e = inert_acting m (λ _. s) e
inert_arriving m (Err fault) e = ap (λ b. record m { fault = if b then Some fault else m.fault }) e

-- no run is closed, nothing is carried out
pub inert_takes : {x : Context} {m n : Machine} {l : Line} → acts m ≡ false → asks_by m (conditional_of l) ≡ false → Takes x m l n → n ≡ step m l (Ok false)
inert_takes {m = m} {l = l} e quiet (takes r mild answers) = ap (step m l) (answers.not_asked quiet)
inert_takes {m = m} {l = l} e quiet (closes d r is barrier unsaid expands) = ap (λ k. step k l (Ok false)) (inert_closing m r e)
inert_takes {m = m} {l = l} e quiet (carries d r end is said expands does) =
    let none = barrier-plain l d is (said-barrier d said) in
    (ap (λ k. arriving k end) (inert_closing m r e) ∙ inert_arriving m end e) ∙ sym (step_is m l (Ok false) none ∙ inert_plain m l e)

pub inert_taken : {x : Context} (m : Machine) (l : Line) → acts m ≡ false → asks_by m (conditional_of l) ≡ false → Takes x m l (step m l (Ok false))
inert_taken {x} m l e quiet = by l.directive refl
  where
    barred : (d : Directive) → l.directive ≡ Some d → is_barrier d ≡ true → (b : Bool) → is_said d ≡ b → Takes x m l (step m l (Ok false))
    barred d is barrier false unsaid =
        subst (λ k. Takes x m l (step k l (Ok false))) (inert_closing m (Ok []) e) (closes d (Ok []) is barrier unsaid (λ does. let both = sym e ∙ does in cc))
    barred d is barrier true said =
        let closed_at = inert_closing m (Ok []) e in
        let still : arriving (closing_run m (Ok [])) (Ok m.state) ≡ step m l (Ok false) =
        (ap (λ k. arriving k (Ok m.state)) closed_at ∙ inert_arriving m (Ok m.state) e) ∙ sym (step_is m l (Ok false) (barrier-plain l d is barrier) ∙ inert_plain m l e) in
        subst (Takes x m l) still
        (carries d (Ok []) (Ok m.state) is said (λ does. let both = sym e ∙ does in cc) (λ does. let both = sym (ap acts closed_at ∙ e) ∙ does in cc))

    within : (d : Directive) → l.directive ≡ Some d → (b : Bool) → is_barrier d ≡ b → Takes x m l (step m l (Ok false))
    within d is true barrier = barred d is barrier (is_said d) refl
    within d is false mild = takes (Ok false) (ap ends_run is ∙ mild) (unasked quiet)

    by : (d : Option Directive) → l.directive ≡ d → Takes x m l (step m l (Ok false))
    by None is = takes (Ok false) (ap ends_run is) (unasked quiet)
    by (Some d) is = within d is (is_barrier d) refl

-- a line that is no conditional directive does nothing
pub plain_unasked : (m : Machine) (l : Line) → conditional_of l ≡ None → asks_by m (conditional_of l) ≡ false
plain_unasked m l none = ap (asks_by m) none

pub inert_line : {x : Context} {m n : Machine} {l : Line} → acts m ≡ false → conditional_of l ≡ None → Takes x m l n → n ≡ m
inert_line {m = m} {l = l} e none taking = inert_takes e (plain_unasked m l none) taking ∙ (step_is m l (Ok false) none ∙ inert_plain m l e)

pub inert_line_taken : {x : Context} (m : Machine) (l : Line) → acts m ≡ false → conditional_of l ≡ None → Takes x m l m
inert_line_taken {x} m l e none = subst (Takes x m l) (step_is m l (Ok false) none ∙ inert_plain m l e) (inert_taken m l e (plain_unasked m l none))

-- a section's first line that does nothing only opens the section
pub record OpensInert (m : Machine) (l : Line) : Type 0 where
  pub quiet : asks_by m (conditional_of l) ≡ false
  pub test : Bool
  pub opens : step m l (Ok false) ≡ opened m test

pub inert_opens : (m : Machine) (l : Line) → Opens l → acts m ≡ false → OpensInert m l
inert_opens m l o e = record { quiet = ap (asks_by m) o.named ∙ e; test = false; opens = step_is m l (Ok false) o.named }

pub and_false : (a t n : Bool) → (a && n) ≡ false → ((a && t) && n) ≡ false
and_false true true n e = e
and_false true false n e = refl
and_false false t n e = refl

-- The test of an alternative isn't decided whose section took a branch, or that follows a fault.
pub alternative_unasked : (test : Test) (m : Machine) (a u : Bool) (ss : List (Bool × Bool)) → m.sections ≡ (a, u) ∷ ss → (u && is_none m.fault) ≡ false
    → asks_by m (Some (Alternative test)) ≡ false
alternative_unasked test m a u ss s e = ap (λ k. acts (next_branch m true k)) s ∙ e

mutual
  pub inert : {x : Context} (g : Group) → IsGroup g → (m : Machine) {n : Machine} → acts m ≡ false → Runs x m (group_lines g) n → n ≡ m
  inert empty w m e ran = runs-none ran
  inert (plain l rest) w m e ran =
      let parts = runs-more ran in
      let same = inert_line e w.0 parts.1 in
      inert rest w.1 parts.0 (ap acts same ∙ e) parts.2 ∙ same
  inert (section h g bs rest) w m e ran =
      let parts = runs-more ran in
      let o = inert_opens m h w.0 e in
      let through = runs-append (group_lines g ++ branch_lines bs) (group_lines rest) parts.2 in
      let inner = runs-append (group_lines g) (branch_lines bs) through.1 in
      let opens : parts.0 ≡ opened m o.test = inert_takes e o.quiet parts.1 ∙ o.opens in
      let group : inner.0 ≡ opened m o.test = inert g w.1 parts.0 (ap acts opens ∙ and_false m.active o.test (is_none m.fault) e) inner.1 ∙ opens in
      let branches : through.0 ≡ m =
      inert_branches bs w.2 m.active (m.active && not o.test) m.sections inner.0 (ap (λ k. k.sections) group) (ap (λ k. (m.active && not o.test) && is_none k.fault) group ∙ and_false m.active (not o.test) (is_none m.fault) e) inner.2
      ∙ ap (λ k. turned k m.active m.sections) group in
      inert rest w.3 through.0 (ap acts branches ∙ e) through.2 ∙ branches

  pub inert_branches : {x : Context} (bs : Branches) → AreBranches bs → (a u : Bool) (ss : List (Bool × Bool)) (m : Machine) {n : Machine} → m.sections ≡ (a, u) ∷ ss → (u && is_none m.fault) ≡ false
      → Runs x m (branch_lines bs) n → n ≡ turned m a ss
  inert_branches (closing l) w a u ss m s e ran = takes_unasked w refl (runs-one ran) ∙ ap (ended m) s
  inert_branches (otherwise h g l) w a u ss m s e ran =
      let turn = turned m u ((a, false) ∷ ss) in
      let parts = runs-more ran in
      let inner = runs-append (group_lines g) (l ∷ []) parts.2 in
      let turns : parts.0 ≡ turn = takes_unasked w.0 refl parts.1 ∙ ap (next_branch m true) s in
      let group : inner.0 ≡ turn = inert g w.1 parts.0 (ap acts turns ∙ e) inner.1 ∙ turns in
      takes_unasked w.2 refl (runs-one inner.2) ∙ ap (λ k. step_by k l (Ok false) (Some Endif)) group
  inert_branches (alternative h g bs) w a u ss m s e ran =
      let turn = turned m false ((a, u) ∷ ss) in
      let parts = runs-more ran in
      let inner = runs-append (group_lines g) (branch_lines bs) parts.2 in
      let turns : parts.0 ≡ turn = takes_unasked w.0.named (alternative_unasked w.0.test m a u ss s e) parts.1 ∙ ap (next_branch m false) s in
      let group : inner.0 ≡ turn = inert g w.1 parts.0 (ap acts turns) inner.1 ∙ turns in
      inert_branches bs w.2 a u ss inner.0 (ap (λ k. k.sections) group) (ap (λ k. u && is_none k.fault) group ∙ e) inner.2 ∙ ap (λ k. turned k a ss) group

mutual
  -- there is such a run
  pub inert_run : {x : Context} (g : Group) → IsGroup g → (m : Machine) → acts m ≡ false → Runs x m (group_lines g) m
  inert_run empty w m e = machine.no_line
  inert_run (plain l rest) w m e = machine.line (inert_line_taken m l e w.0) (inert_run rest w.1 m e)
  inert_run {x} (section h g bs rest) w m e =
      let o = inert_opens m h w.0 e in
      let turn = opened m o.test in
      machine.line (subst (Takes x m h) o.opens (inert_taken m h e o.quiet))
      (runs-join (group_lines g ++ branch_lines bs)
      (runs-join (group_lines g) (inert_run g w.1 turn (and_false m.active o.test (is_none m.fault) e))
      (inert_branches_run bs w.2 m.active (m.active && not o.test) m.sections turn refl (and_false m.active (not o.test) (is_none m.fault) e)))
      (inert_run rest w.3 m e))

  pub inert_branches_run : {x : Context} (bs : Branches) → AreBranches bs → (a u : Bool) (ss : List (Bool × Bool)) (m : Machine) → m.sections ≡ (a, u) ∷ ss → (u && is_none m.fault) ≡ false
      → Runs x m (branch_lines bs) (turned m a ss)
  inert_branches_run {x} (closing l) w a u ss m s e = runs-once (subst (Takes x m l) (ap (ended m) s) (unasked_taken w refl))
  inert_branches_run {x} (otherwise h g l) w a u ss m s e =
      let turn = turned m u ((a, false) ∷ ss) in
      machine.line (subst (Takes x m h) (ap (next_branch m true) s) (unasked_taken w.0 refl))
      (runs-join (group_lines g) (inert_run g w.1 turn e) (runs-once (unasked_taken w.2 refl)))
  inert_branches_run {x} (alternative h g bs) w a u ss m s e =
      let turn = turned m false ((a, u) ∷ ss) in
      machine.line (subst (Takes x m h) (ap (next_branch m false) s) (unasked_taken w.0.named (alternative_unasked w.0.test m a u ss s e)))
      (runs-join (group_lines g) (inert_run g w.1 turn refl) (inert_branches_run bs w.2 a u ss turn refl e))

-- ---- after a fault no line changes the state or the fault

-- ---- the machine goes as the walk does

-- what a walk gives that ends in this state, or stops at a fault
abbrev pub given : State → Option Fault → Result State Fault
given s None = Ok s
given s (Some fault) = Err fault

-- the machine is at the end of the walk, or at its fault
pub record EndsAs (walk : State → Result State Fault → Type 0) (s : State) (ss : List (Bool × Bool)) (n : Machine) : Type 0 where
  pub end : State
  pub fault : Option Fault
  pub walks : walk s (given end fault)
  pub is : n ≡ after ss end fault

-- the machine in a section that took no branch yet
abbrev pub untaken : Bool → List (Bool × Bool) → State → Machine
untaken active ss s = record { active = active; sections = (true, true) ∷ ss; state = s; fault = None }

module _ (x : Context) where
  -- From a state the machine takes the lines as the walk goes.
  abbrev pub Follows : List Line → (State → Result State Fault → Type 0) → State → Type 0
  Follows lines walk s = (ss : List (Bool × Bool)) (n : Machine) → Runs x (taking ss s) lines n → EndsAs walk s ss n

  -- the same of the branches after a first one that wasn't taken
  abbrev FollowsBranches : List Line → (State → Result State Fault → Type 0) → State → Type 0
  FollowsBranches lines walk s = (active : Bool) (ss : List (Bool × Bool)) (n : Machine) → Runs x (untaken active ss s) lines n → EndsAs walk s ss n

  -- what the first line of a section that is taken says
  pub record OpensTaken (l : Line) (s : State) (ss : List (Bool × Bool)) (n : Machine) : Type 0 where
    pub says : Result Bool Fault
    pub decides : Decides x s l says
    pub opens : n ≡ opened_as (taking ss s) says

  pub opens_taken : (l : Line) (s : State) → Opens l → (ss : List (Bool × Bool)) {n : Machine} → Takes x (taking ss s) l n → OpensTaken l s ss n
  opens_taken l s o ss taking_it =
      let does = takes_conditional o.named taking_it in
      record {
        says = does.decision;
        decides = does.answers.asked (ap (asks_by (taking ss s)) o.named);
        opens = does.is ∙ step_is (taking ss s) l does.decision o.named;
      }

  -- one part of the lines, and then what follows
  module _ (first : State → Result State Fault → Type 0) {second whole : State → Result State Fault → Type 0} (ys : List Line) (s : State) where
    then_from : ((t : State) → Follows ys second t)
        → ((m n : Machine) → acts m ≡ false → Runs x m ys n → n ≡ m)
        → ((t : State) (r : Result State Fault) → first s (Ok t) → second t r → whole s r)
        → ((f : Fault) → first s (Err f) → whole s (Err f))
        → (end : State) (fault : Option Fault) → first s (given end fault) → (ss : List (Bool × Bool)) (n : Machine) → Runs x (after ss end fault) ys n → EndsAs whole s ss n
    then_from rest still join stop end None walks ss n ran =
        let more = rest end ss n ran in
        record { end = more.end; fault = more.fault; walks = join end (given more.end more.fault) walks more.walks; is = more.is }
    then_from rest still join stop end (Some fault) walks ss n ran =
        record { end = end; fault = Some fault; walks = stop fault walks; is = still (after ss end (Some fault)) n refl ran }

    then_by : ((t : State) → Follows ys second t)
        → ((m n : Machine) → acts m ≡ false → Runs x m ys n → n ≡ m)
        → ((t : State) (r : Result State Fault) → first s (Ok t) → second t r → whole s r)
        → ((f : Fault) → first s (Err f) → whole s (Err f))
        → (ss : List (Bool × Bool)) {mid : Machine} (n : Machine) → EndsAs first s ss mid → Runs x mid ys n → EndsAs whole s ss n
    then_by rest still join stop ss n e ran = then_from rest still join stop e.end e.fault e.walks ss n (subst (λ m. Runs x m ys n) e.is ran)

  -- what a definition makes of the macros
  defines_over : (macros : Macros) (d : Defined) (found : Option Definition) → macros d.name ≡ found → Defines macros d (defined_over macros d found)
  defines_over macros d None e = fresh e
  defines_over macros d (Some other) e = by (same_definition other d.definition) refl
    where
      by : (b : Bool) → same_definition other d.definition ≡ b → Defines macros d (if b then Ok (with_macro macros d) else Err Redefined)
      by true same = again (e ∙ ap Some (same_definition-true other d.definition same))
      by false differ = redefined other e (same_definition-false other d.definition differ)

  defines_as : (macros : Macros) (l : Line) (r : Result Defined Cause) → reads l.standard (behind_name l) ≡ r → Changes macros l directive.Define (defined_as macros r)
  defines_as macros l (Ok d) e = defines d e (defines_over macros d (macros d.name) refl)
  defines_as macros l (Err cause) e = defines_nothing cause e

  changes : (macros : Macros) (l : Line) (d : Directive) → is_barrier d ≡ true → is_said d ≡ false → Changes macros l d (changed_by macros l d)
  changes macros l (directive.Conditional c) b unsaid = cc
  changes macros l directive.Include b unsaid = cc
  changes macros l directive.Define b unsaid = defines_as macros l (reads l.standard (behind_name l)) refl
  changes macros l directive.Undef b unsaid = undefines
  changes macros l directive.Line b unsaid = cc
  changes macros l directive.Error b unsaid = error
  changes macros l directive.Pragma b unsaid = ignored refl
  changes macros l directive.Warning b unsaid = ignored refl
  changes macros l directive.Null b unsaid = cc
  changes macros l directive.Unknown b unsaid = unknown

  -- a directive that is carried out where the run was closed
  carried_follows : (l : Line) (s : State) (d : Directive) → l.directive ≡ Some d → is_barrier d ≡ true → (output : List Token) → RunBecomes s.macros s.run (Ok output)
      → (ss : List (Bool × Bool)) (r : Result State Fault) → Carries x l (put_out s output) d r → EndsAs (Steps x l) s ss (arriving (taking ss (put_out s output)) r)
  carried_follows l s d e b output expands ss (Ok t) does =
      record { end = t; fault = None; walks = carried_out d (put_out s output) e b (closed output expands) does; is = refl }
  carried_follows l s d e b output expands ss (Err fault) does =
      record { end = put_out s output; fault = Some fault; walks = carried_out d (put_out s output) e b (closed output expands) does; is = refl }

  -- where the run has a fault
  stopped_follows : (l : Line) (s : State) (d : Directive) → l.directive ≡ Some d → is_barrier d ≡ true → (fault : Fault) → RunBecomes s.macros s.run (Err fault)
      → (ss : List (Bool × Bool)) (n : Machine) → n ≡ after ss s (Some fault) → EndsAs (Steps x l) s ss n
  stopped_follows l s d e b fault expands ss n is = record { end = s; fault = Some fault; walks = stopped d fault e b (refused fault expands); is = is }

  -- a directive that changes macros
  changed_follows : (l : Line) (s : State) → HasHash l → (d : Directive) → l.directive ≡ Some d → is_barrier d ≡ true → is_said d ≡ false → (output : List Token) → RunBecomes s.macros s.run (Ok output)
      → (ss : List (Bool × Bool)) (r : Result Macros Cause) → changed_by s.macros l d ≡ r → EndsAs (Steps x l) s ss (changing (taking ss (put_out s output)) l d r)
  changed_follows l s has d e b unsaid output expands ss (Ok macros) r =
      carried_follows l s d e b output expands ss (Ok (state_behind (put_out s output) l d macros)) (changed macros (subst (Changes s.macros l d) r (changes s.macros l d b unsaid)))
  changed_follows l s has d e b unsaid output expands ss (Err cause) r =
      let fault = refusal (put_out s output) l cause in
      carried_follows l s d e b output expands ss (Err fault)
      (not_changed cause fault (subst (Changes s.macros l d) r (changes s.macros l d b unsaid)) (refused_at (put_out s output) l cause has (λ none. let both = sym e ∙ none in cc)))

  barrier_is : (m : Machine) (l : Line) (d : Directive) → conditional_of l ≡ None → l.directive ≡ Some d → is_barrier d ≡ true → step m l (Ok false) ≡ changing m l d (changed_by m.state.macros l d)
  barrier_is m l d none e b = step_is m l (Ok false) none ∙ (ap (plain_by m l) e ∙ ap (λ t. if t then changing m l d (changed_by m.state.macros l d) else m) b)

  -- a barrier
  barrier_follows : (l : Line) (s : State) → HasHash l → conditional_of l ≡ None → (d : Directive) → l.directive ≡ Some d → is_barrier d ≡ true → is_said d ≡ false
      → (ss : List (Bool × Bool)) (r : Result (List Token) Fault) → RunBecomes s.macros s.run r → EndsAs (Steps x l) s ss (step (closing_run (taking ss s) r) l (Ok false))
  barrier_follows l s has none d e b unsaid ss (Ok output) expands =
      subst (EndsAs (Steps x l) s ss) (sym (barrier_is (taking ss (put_out s output)) l d none e b)) (changed_follows l s has d e b unsaid output expands ss (changed_by s.macros l d) refl)
  barrier_follows l s has none d e b unsaid ss (Err fault) expands =
      let stop = after ss s (Some fault) in
      stopped_follows l s d e b fault expands ss (step stop l (Ok false)) (step_is stop l (Ok false) none ∙ inert_plain stop l refl)

  -- a directive that is carried out by what it says
  said_follows : (l : Line) (s : State) (d : Directive) → l.directive ≡ Some d → is_barrier d ≡ true → (ss : List (Bool × Bool)) (r : Result (List Token) Fault) (end : Result State Fault)
      → RunBecomes s.macros s.run r → machine.CarriesOut x (closing_run (taking ss s) r) l d end → EndsAs (Steps x l) s ss (arriving (closing_run (taking ss s) r) end)
  said_follows l s d e b ss (Ok output) end expands does = carried_follows l s d e b output expands ss end (does refl)
  said_follows l s d e b ss (Err fault) end expands does =
      let stop = after ss s (Some fault) in
      stopped_follows l s d e b fault expands ss (arriving stop end) (inert_arriving stop end refl)

  -- a directive that is no barrier
  open_follows : (l : Line) (s : State) → conditional_of l ≡ None → (d : Directive) → l.directive ≡ Some d → is_barrier d ≡ false → (ss : List (Bool × Bool)) → EndsAs (Steps x l) s ss (plain_by (taking ss s) l (Some d))
  open_follows l s none (directive.Conditional c) e b ss = let some = sym none ∙ ap conditional_in e in cc
  open_follows l s none directive.Null e b ss = record { end = s; fault = None; walks = null e; is = refl }
  open_follows l s none directive.Include e b ss = cc
  open_follows l s none directive.Define e b ss = cc
  open_follows l s none directive.Undef e b ss = cc
  open_follows l s none directive.Line e b ss = cc
  open_follows l s none directive.Error e b ss = cc
  open_follows l s none directive.Pragma e b ss = cc
  open_follows l s none directive.Warning e b ss = cc
  open_follows l s none directive.Unknown e b ss = cc

  -- a line that ends no run
  opened_follows : (l : Line) (s : State) → conditional_of l ≡ None → (d : Option Directive) → l.directive ≡ d → ends_run d ≡ false → (ss : List (Bool × Bool)) → EndsAs (Steps x l) s ss (plain_by (taking ss s) l d)
  opened_follows l s none None e mild ss = record { end = with_text s l; fault = None; walks = text e; is = refl }
  opened_follows l s none (Some d) e mild ss = open_follows l s none d e mild ss

  pub plain_takes : (l : Line) (s : State) → HasHash l → conditional_of l ≡ None → (ss : List (Bool × Bool)) {n : Machine} → Takes x (taking ss s) l n → EndsAs (Steps x l) s ss n
  plain_takes l s has none ss (takes r mild answers) = subst (EndsAs (Steps x l) s ss) (sym (step_is (taking ss s) l r none)) (opened_follows l s none l.directive refl mild ss)
  plain_takes l s has none ss (closes d r is barrier unsaid expands) = barrier_follows l s has none d is barrier unsaid ss r (expands refl)
  plain_takes l s has none ss (carries d r end is said expands does) = said_follows l s d is (said-barrier d said) ss r end (expands refl) does

  -- the machine behind a conditional directive that has a fault
  abbrev told : List (Bool × Bool) → State → Fault → Machine
  told ss s fault = record { active = false; sections = (true, true) ∷ ss; state = s; fault = Some fault }

  -- the rest of its section does nothing
  told_passes : (g : Group) (bs : Branches) → IsGroup g → AreBranches bs → (s : State) (fault : Fault) (ss : List (Bool × Bool)) {mid : Machine} (n : Machine) → mid ≡ told ss s fault
      → Runs x mid (group_lines g ++ branch_lines bs) n → n ≡ after ss s (Some fault)
  told_passes g bs w v s fault ss {mid} n is ran =
      let inner = runs-append (group_lines g) (branch_lines bs) ran in
      let group : inner.0 ≡ told ss s fault = inert g w mid (ap acts is) inner.1 ∙ is in
      inert_branches bs v true true ss (told ss s fault) refl refl (subst (λ m. Runs x m (branch_lines bs) n) group inner.2)

  -- the branches behind one that was taken do nothing
  taken_passes : (bs : Branches) → AreBranches bs → (end : State) (fault : Option Fault) (ss : List (Bool × Bool)) {mid : Machine} (n : Machine) → mid ≡ after ((true, false) ∷ ss) end fault
      → Runs x mid (branch_lines bs) n → n ≡ after ss end fault
  taken_passes bs v end fault ss n is ran =
      let was = after ((true, false) ∷ ss) end fault in
      inert_branches bs v true false ss was refl refl (subst (λ m. Runs x m (branch_lines bs) n) is ran)

  -- a section as its first line says
  section_follows : (h : Line) (g : Group) (bs : Branches) (rest : Group) (s : State) → IsGroup (section h g bs rest) → (says : Result Bool Fault) → Decides x s h says
      → Follows (group_lines g) (Walks x g) s → FollowsBranches (branch_lines bs) (WalksBranches x bs) s
      → ((t : State) → Follows (group_lines rest) (Walks x rest) t)
      → (ss : List (Bool × Bool)) {mid : Machine} (n : Machine) → mid ≡ opened_as (taking ss s) says → Runs x mid (group_lines g ++ branch_lines bs ++ group_lines rest) n
      → EndsAs (Walks x (section h g bs rest)) s ss n
  section_follows h g bs rest s w (Ok true) d f fb fr ss n opens ran =
      let through = runs-append (group_lines g ++ branch_lines bs) (group_lines rest) ran in
      let inner = runs-append (group_lines g) (branch_lines bs) through.1 in
      let e = f ((true, false) ∷ ss) inner.0 (subst (λ m. Runs x m (group_lines g) inner.0) opens inner.1) in
      then_by (Walks x g) (group_lines rest) s fr (λ m n. inert rest w.3 m) (λ t r a b. taken t d a b) (λ fault a. taken_stops fault d a) ss n
      (record {
        end = e.end;
        fault = e.fault;
        walks = e.walks;
        is = taken_passes bs w.2 e.end e.fault ss through.0 e.is inner.2;
      })
      through.2
  section_follows h g bs rest s w (Ok false) d f fb fr ss {mid} n opens ran =
      let through = runs-append (group_lines g ++ branch_lines bs) (group_lines rest) ran in
      let inner = runs-append (group_lines g) (branch_lines bs) through.1 in
      let group : inner.0 ≡ untaken false ss s = inert g w.1 mid (ap acts opens) inner.1 ∙ opens in
      then_by (WalksBranches x bs) (group_lines rest) s fr (λ m n. inert rest w.3 m) (λ t r a b. passed t d a b) (λ fault a. passed_stops fault d a) ss n
      (fb false ss through.0 (subst (λ m. Runs x m (branch_lines bs) through.0) group inner.2))
      through.2
  section_follows h g bs rest s w (Err fault) d f fb fr ss n opens ran =
      let through = runs-append (group_lines g ++ branch_lines bs) (group_lines rest) ran in
      let branches = told_passes g bs w.1 w.2 s fault ss through.0 opens through.1 in
      record { end = s; fault = Some fault; walks = head_stops fault d; is = inert rest w.3 through.0 (ap acts branches) through.2 ∙ branches }

  -- a branch of an #elif as its line says, where no branch was taken before
  branch_follows : (h : Line) (g : Group) (bs : Branches) (s : State) → AreBranches (alternative h g bs) → (says : Result Bool Fault) → Decides x s h says
      → Follows (group_lines g) (Walks x g) s → FollowsBranches (branch_lines bs) (WalksBranches x bs) s
      → (active : Bool) (ss : List (Bool × Bool)) {mid : Machine} (n : Machine) → mid ≡ branched_as (untaken active ss s) says → Runs x mid (group_lines g ++ branch_lines bs) n
      → EndsAs (WalksBranches x (alternative h g bs)) s ss n
  branch_follows h g bs s w (Ok true) d f fb active ss n turns ran =
      let inner = runs-append (group_lines g) (branch_lines bs) ran in
      let e = f ((true, false) ∷ ss) inner.0 (subst (λ m. Runs x m (group_lines g) inner.0) turns inner.1) in
      record {
        end = e.end;
        fault = e.fault;
        walks = later_taken d e.walks;
        is = taken_passes bs w.2 e.end e.fault ss n e.is inner.2;
      }
  branch_follows h g bs s w (Ok false) d f fb active ss {mid} n turns ran =
      let inner = runs-append (group_lines g) (branch_lines bs) ran in
      let group : inner.0 ≡ untaken false ss s = inert g w.1 mid (ap acts turns) inner.1 ∙ turns in
      let e = fb false ss n (subst (λ m. Runs x m (branch_lines bs) n) group inner.2) in
      record { end = e.end; fault = e.fault; walks = later_passed d e.walks; is = e.is }
  branch_follows h g bs s w (Err fault) d f fb active ss n turns ran =
      record { end = s; fault = Some fault; walks = later_stops fault d; is = told_passes g bs w.1 w.2 s fault ss n turns ran }

  mutual
    pub follows : (g : Group) → IsGroup g → HaveHashes (group_lines g) → (s : State) → Follows (group_lines g) (Walks x g) s
    follows empty w has s ss n ran = record { end = s; fault = None; walks = done; is = runs-none ran }
    follows (plain l rest) w has s ss n ran =
        let parts = runs-more ran in
        then_by (Steps x l) (group_lines rest) s (λ t. follows rest w.1 has.1 t) (λ m n. inert rest w.1 m) (λ t r a b. line t a b) (λ f a. line_stops f a) ss n
        (plain_takes l s has.0 w.0 ss parts.1) parts.2
    follows (section h g bs rest) w has s ss n ran =
        let first = runs-more ran in
        let o = opens_taken h s w.0 ss first.1 in
        let parts = hashes-parts (group_lines g ++ branch_lines bs) (group_lines rest) has.1 in
        let inner = hashes-parts (group_lines g) (branch_lines bs) parts.0 in
        section_follows h g bs rest s w o.says o.decides (follows g w.1 inner.0 s) (follows_branches bs w.2 inner.1 s) (λ t. follows rest w.3 parts.1 t) ss n o.opens first.2

    pub follows_branches : (bs : Branches) → AreBranches bs → HaveHashes (branch_lines bs) → (s : State) → FollowsBranches (branch_lines bs) (WalksBranches x bs) s
    follows_branches (closing l) w has s active ss n ran = record {
      end = s;
      fault = None;
      walks = none_taken;
      is = takes_unasked w refl (runs-one ran);
    }
    follows_branches (otherwise h g l) w has s active ss n ran =
        let parts = runs-more ran in
        let inner = runs-append (group_lines g) (l ∷ []) parts.2 in
        let turns : parts.0 ≡ taking ((true, false) ∷ ss) s = takes_unasked w.0 refl parts.1 in
        let e = follows g w.1 (hashes-parts (group_lines g) (l ∷ []) has.1).0 s ((true, false) ∷ ss) inner.0 (subst (λ m. Runs x m (group_lines g) inner.0) turns inner.1) in
        record {
          end = e.end;
          fault = e.fault;
          walks = last_taken e.walks;
          is = takes_unasked w.2 refl (runs-one inner.2) ∙ ap (λ k. step_by k l (Ok false) (Some Endif)) e.is;
        }
    follows_branches (alternative h g bs) w has s active ss n ran =
        let parts = runs-more ran in
        let does = takes_conditional w.0.named parts.1 in
        let inner = hashes-parts (group_lines g) (branch_lines bs) has.1 in
        branch_follows h g bs s w does.decision (does.answers.asked (ap (asks_by (untaken active ss s)) w.0.named))
        (follows g w.1 inner.0 s) (follows_branches bs w.2 inner.1 s) active ss n (does.is ∙ step_is (untaken active ss s) h does.decision w.0.named) parts.2
