-- The lines of a file leave a machine in the file, and one that takes none of them stays so.
use Rattle.std.proofs.Common.{◌≡◌, ℕ, ◌&&◌, not, Bool, true, false, List, [], ◌∷◌, Option, Some, None, Result, Ok, Err, refl, sym, ap, ◌∙◌, subst, IfOk, is_none, if◌then◌else◌}
use Rattle.sc_model.specs.Token.{Token}
use Rattle.sc_prep.proofs.Machine.{branch-kept, end-kept, inert_plain, inert_takes}
use Rattle.sc_prep.proofs.Terms.{AllByRecursion as Every, Alternative, Carries, Cause, Conditional, Context, Directive, Else, Endif, Entry, Fault, Line, Machine, Macros, Opening, Runs, State, Takes, acts, arriving, asks_by, back, branched_as, carries, changed, changed_by, changing, closes, closing_run, conditional_of, ended, included, is_barrier, next_branch, no_header, not_changed, not_expanded, not_numbered, numbered, opened, opened_as, plain_by, put_out, result_map, state_behind, step_by, takes, too_deep, with_text}
use Rattle.sc_prep.specs.Machine as machine
use Rattle.sc_prep.specs.Simulates.{IsInside, IsIn, IsAtTop, begins, idles}

-- ---- the file of a state, and how deep it is

abbrev pub whereabouts : State → List ℕ × ℕ
whereabouts s = (s.file, s.depth)

abbrev pub Stays : State → Result State Fault → Type 0
Stays s r = IfOk r (λ t. whereabouts t ≡ whereabouts s)

back-stays : (s : State) (r : Result State Fault) → Stays s (result_map (back s) r)
back-stays s (Ok t) = refl
back-stays s (Err fault) = tt

-- behind an #include the walk is back in its file
pub carries-stays : {x : Context} {l : Line} {s : State} {d : Directive} {r : Result State Fault} → Carries x l s d r → Stays s r
carries-stays (changed macros changes) = refl
carries-stays (not_changed cause fault changes at) = tt
carries-stays (not_expanded fault is says) = tt
carries-stays (numbered ts says is) = refl
carries-stays (not_numbered ts fault says is at) = tt
carries-stays (no_header ts cause fault says is at) = tt
carries-stays (too_deep ts header fault says is deep at) = tt
carries-stays {s = s} (included {r = r} ts header hash says is deep at does) = back-stays s r

either-stays : (s t : State) (b : Bool) → whereabouts t ≡ whereabouts s → whereabouts (if b then t else s) ≡ whereabouts s
either-stays s t true e = e
either-stays s t false e = refl

arriving-stays : (m : Machine) (r : Result State Fault) → (acts m ≡ true → Stays m.state r) → whereabouts (arriving m r).state ≡ whereabouts m.state
arriving-stays m (Ok t) does = by (acts m) refl
  where
    by : (b : Bool) → acts m ≡ b → whereabouts (if b then t else m.state) ≡ whereabouts m.state
    by true acting_here = does acting_here
    by false inactive = refl
arriving-stays m (Err fault) does = refl

closing-stays : (m : Machine) (r : Result (List Token) Fault) → whereabouts (closing_run m r).state ≡ whereabouts m.state
closing-stays m (Ok output) = either-stays m.state (put_out m.state output) (acts m) refl
closing-stays m (Err fault) = refl

changing-stays : (m : Machine) (l : Line) (d : Directive) (r : Result Macros Cause) → whereabouts (changing m l d r).state ≡ whereabouts m.state
changing-stays m l d (Ok macros) = either-stays m.state (state_behind m.state l d macros) (acts m) refl
changing-stays m l d (Err cause) = refl

plain-stays : (m : Machine) (l : Line) (d : Option Directive) → whereabouts (plain_by m l d).state ≡ whereabouts m.state
plain-stays m l None = either-stays m.state (with_text m.state l) (acts m) refl
plain-stays m l (Some d) = by (is_barrier d)
  where
    by : (b : Bool) → whereabouts (if b then changing m l d (changed_by m.state.macros l d) else m).state ≡ whereabouts m.state
    by true = changing-stays m l d (changed_by m.state.macros l d)
    by false = refl

opened_as-stays : (m : Machine) (r : Result Bool Fault) → whereabouts (opened_as m r).state ≡ whereabouts m.state
opened_as-stays m (Ok test) = refl
opened_as-stays m (Err fault) = refl

branched-stays : (m : Machine) (r : Result Bool Fault) → whereabouts (branched_as m r).state ≡ whereabouts m.state
branched-stays m (Ok test) = ap whereabouts (branch-kept m test m.sections).1
branched-stays m (Err fault) = ap whereabouts (branch-kept (record m { fault = Some fault }) false m.sections).1

step-stays : (m : Machine) (l : Line) (r : Result Bool Fault) (c : Option Conditional) → whereabouts (step_by m l r c).state ≡ whereabouts m.state
step-stays m l r None = plain-stays m l l.directive
step-stays m l r (Some (Opening test)) = opened_as-stays m r
step-stays m l r (Some (Alternative test)) = branched-stays m r
step-stays m l r (Some Else) = ap whereabouts (branch-kept m true m.sections).1
step-stays m l r (Some Endif) = ap whereabouts (end-kept m m.sections).1

pub takes-stays : {x : Context} {m n : Machine} {l : Line} → Takes x m l n → whereabouts n.state ≡ whereabouts m.state
takes-stays {m = m} {l = l} (takes r mild answers) = step-stays m l r (conditional_of l)
takes-stays {m = m} {l = l} (closes d r is barrier unsaid expands) = step-stays (closing_run m r) l (Ok false) (conditional_of l) ∙ closing-stays m r
takes-stays {m = m} {l = l} (carries d r end is said expands does) = arriving-stays (closing_run m r) end (λ here. carries-stays (does here)) ∙ closing-stays m r

pub runs-stay : {x : Context} {m n : Machine} {ls : List Line} → Runs x m ls n → whereabouts n.state ≡ whereabouts m.state
runs-stay machine.no_line = refl
runs-stay (machine.line first rest) = runs-stay rest ∙ takes-stays first

-- a state in the same file, as deep
pub inside-as : {files : List (List ℕ)} {entry : Entry} {s t : State} → whereabouts t ≡ whereabouts s → IsInside files entry s → IsInside files entry t
inside-as e inside = record { name = inside.name ∙ ap Some (sym (ap (λ p. p.0) e)); deep = ap (λ p. p.1) e ∙ inside.deep }

-- ---- a machine that takes none of the lines

pub record IsIdle (m : Machine) : Type 0 where
  pub active : m.active ≡ false
  pub sections : Every (λ s. s ≡ (false, false)) m.sections

and-idle : (m : Machine) → m.active ≡ false → acts m ≡ false
and-idle m e = ap (λ a. a && is_none m.fault) e

pub idle-inert : {m : Machine} → IsIdle m → acts m ≡ false
idle-inert {m} idle = and-idle m idle.active

opened-idle : (m : Machine) (test : Bool) → IsIdle m → IsIdle (opened m test)
opened-idle m test idle = record { active = ap (λ a. a && test) idle.active; sections = (ap (λ a. (a, a && not test)) idle.active, idle.sections) }

next-idle : (m : Machine) (test : Bool) (ss : List (Bool × Bool)) → IsIdle m → Every (λ s. s ≡ (false, false)) ss → IsIdle (next_branch m test ss)
next-idle m test [] idle all = idle
next-idle m true (s ∷ ss) idle all = record { active = ap (λ p. p.1) all.0; sections = (ap (λ p. (p.0, false)) all.0, all.1) }
next-idle m false (s ∷ ss) idle all = record { active = refl; sections = all }

ended-idle : (m : Machine) (ss : List (Bool × Bool)) → IsIdle m → Every (λ s. s ≡ (false, false)) ss → IsIdle (ended m ss)
ended-idle m [] idle all = idle
ended-idle m (s ∷ ss) idle all = record { active = ap (λ p. p.0) all.0; sections = all.1 }

step-idle : (m : Machine) (l : Line) (c : Option Conditional) → IsIdle m → IsIdle (step_by m l (Ok false) c)
step-idle m l None idle = subst IsIdle (sym (inert_plain m l (idle-inert idle))) idle
step-idle m l (Some (Opening test)) idle = opened-idle m false idle
step-idle m l (Some (Alternative test)) idle = next-idle m false m.sections idle idle.sections
step-idle m l (Some Else) idle = next-idle m true m.sections idle idle.sections
step-idle m l (Some Endif) idle = ended-idle m m.sections idle idle.sections

idle-unasked : (m : Machine) (c : Option Conditional) → IsIdle m → asks_by m c ≡ false
idle-unasked m None idle = refl
idle-unasked m (Some (Opening test)) idle = idle-inert idle
idle-unasked m (Some (Alternative test)) idle = idle-inert (next-idle m true m.sections idle idle.sections)
idle-unasked m (Some Else) idle = refl
idle-unasked m (Some Endif) idle = refl

pub takes-idle : {x : Context} {m n : Machine} {l : Line} → IsIdle m → Takes x m l n → IsIdle n
takes-idle {m = m} {l = l} idle taking =
    subst IsIdle (sym (inert_takes (idle-inert idle) (idle-unasked m (conditional_of l) idle) taking)) (step-idle m l (conditional_of l) idle)

pub runs-idle : {x : Context} {m n : Machine} {ls : List Line} → IsIdle m → Runs x m ls n → IsIdle n
runs-idle idle machine.no_line = idle
runs-idle idle (machine.line first rest) = runs-idle (takes-idle idle first) rest

-- ---- from the top of a file

-- after so many lines of the file
pub top-is-in : {x : Context} {files : List (List ℕ)} {entry : Entry} {m n : Machine} {ls : List Line} → IsAtTop files entry m → Runs x m ls n → IsIn files entry n
top-is-in (begins first is inside) ran here = inside-as (runs-stay ran ∙ ap (λ k. whereabouts k.state) is) inside
top-is-in (idles inactive none) ran here =
    let idle = runs-idle (record { active = inactive; sections = subst (Every (λ s. s ≡ (false, false))) (sym none) tt }) ran in
    let both = sym (idle-inert idle) ∙ here in
    cc
