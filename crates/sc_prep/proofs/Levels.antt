-- Behind a group, and behind the lines of a file, a machine is in the sections in which it was
-- before.
use Rattle.std.proofs.Common.{◌≡◌, ℕ, zero, suc, ◌+◌, ◌-◌, drop, ◌<◌, ◌≤◌, ◌&&◌, not, Bool, true, false, List, [], ◌∷◌, ◌++◌, length, get_or, Option, Some, None, Result, Ok, Err, inl, inr, refl, sym, ap, ◌∙◌, subst, arith, is_none, slice_range, if◌then◌else◌}
use Rattle.std.proofs.lemmas.List.{drop-drop}
use Rattle.sc_lines.specs.declared.line.Branch.{Branch}
use Rattle.sc_lines.specs.declared.line.Line as declared
use Rattle.sc_model.specs.Token.{Token}
use Rattle.sc_prep.proofs.Facts.{cases_lt, drop-cons, drop_all, take-append-drop}
use Rattle.sc_prep.proofs.Machine.{runs-append, runs-more, runs-none, runs-one, step_is, takes_conditional, takes_unasked}
use Rattle.sc_prep.proofs.Passing.{closes-after, closes-begins, ends-within, found-branch, found-long}
use Rattle.sc_prep.proofs.Terms.{Alternative, AreBranches, Branches, Cause, ClosesAt, Conditional, Context, Directive, Else, Endif, Fault, Group, HasBranch, IsGroup, Line, Machine, Macros, Opening, Opens, Runs, StandFor, State, Takes, Test, acts, alternative, begins_branch, branch_lines, branched_as, carries, changed_by, changing, closes, closing, closing_run, conditional_of, empty, ended, ends_branch, group_lines, is_barrier, last_branch, line_at, more_branches, next_branch, no_line, opened_as, otherwise, plain, plain_by, section, takes}
use Rattle.sc_prep.specs.Machine.{start}

-- whether the lines are taken, and the open sections
abbrev pub level : Machine → Bool × List (Bool × Bool)
level m = (m.active, m.sections)

-- ---- a line that is no conditional directive

pub closing-level : (m : Machine) (r : Result (List Token) Fault) → level (closing_run m r) ≡ level m
closing-level m (Ok output) = refl
closing-level m (Err fault) = refl

changing-level : (m : Machine) (l : Line) (d : Directive) (r : Result Macros Cause) → level (changing m l d r) ≡ level m
changing-level m l d (Ok macros) = refl
changing-level m l d (Err cause) = refl

plain-level : (m : Machine) (l : Line) (d : Option Directive) → level (plain_by m l d) ≡ level m
plain-level m l None = refl
plain-level m l (Some d) = by (is_barrier d)
  where
    by : (b : Bool) → level (if b then changing m l d (changed_by m.state.macros l d) else m) ≡ level m
    by true = changing-level m l d (changed_by m.state.macros l d)
    by false = refl

line-level : {x : Context} {m n : Machine} {l : Line} → conditional_of l ≡ None → Takes x m l n → level n ≡ level m
line-level {m = m} {l = l} none (takes r mild answers) = ap level (step_is m l r none) ∙ plain-level m l l.directive
line-level {m = m} {l = l} none (closes d r is barrier unsaid expands) =
    ap level (step_is (closing_run m r) l (Ok false) none) ∙ (plain-level (closing_run m r) l l.directive ∙ closing-level m r)
line-level {m = m} none (carries d r (Ok s) is said expands does) = closing-level m r
line-level {m = m} none (carries d r (Err fault) is said expands does) = closing-level m r

-- ---- a conditional directive

-- one section more is open
record OpensAt (m n : Machine) : Type 0 where
  active : Bool
  untaken : Bool
  is : level n ≡ (active, (m.active, untaken) ∷ m.sections)

opens-level : {x : Context} {m n : Machine} {l : Line} → Opens l → Takes x m l n → OpensAt m n
opens-level {m = m} {n} {l} o taking =
    let does = takes_conditional o.named taking in
    by does.decision (does.is ∙ step_is m l does.decision o.named)
  where
    by : (r : Result Bool Fault) → n ≡ opened_as m r → OpensAt m n
    by (Ok test) is = record { active = m.active && test; untaken = m.active && not test; is = ap level is }
    by (Err fault) is = record { active = m.active && false; untaken = m.active && not false; is = ap level is }

-- the innermost is the same section
record TurnsAt (a : Bool) (ss : List (Bool × Bool)) (n : Machine) : Type 0 where
  active : Bool
  untaken : Bool
  is : level n ≡ (active, (a, untaken) ∷ ss)

next-level : (m n : Machine) (a u : Bool) (ss : List (Bool × Bool)) → m.sections ≡ (a, u) ∷ ss → (test : Bool) → n ≡ next_branch m test m.sections → TurnsAt a ss n
next-level m n a u ss s test is = by test (is ∙ ap (next_branch m test) s)
  where
    by : (test : Bool) → n ≡ next_branch m test ((a, u) ∷ ss) → TurnsAt a ss n
    by true is = record { active = u; untaken = false; is = ap level is }
    by false is = record { active = false; untaken = u; is = ap level is }

branch-level : {x : Context} {m n : Machine} {l : Line} (c : Option Conditional) → conditional_of l ≡ c → begins_branch c ≡ true → ends_branch c ≡ true → (a u : Bool) (ss : List (Bool × Bool))
    → m.sections ≡ (a, u) ∷ ss → Takes x m l n → TurnsAt a ss n
branch-level None named begins ends a u ss s taking = absurd (cc)
branch-level (Some (Opening test)) named begins ends a u ss s taking = absurd (cc)
branch-level (Some Endif) named begins ends a u ss s taking = absurd (cc)
branch-level {m = m} {n} (Some Else) named begins ends a u ss s taking = next-level m n a u ss s true (takes_unasked named refl taking)
branch-level {m = m} {n} {l} (Some (Alternative test)) named begins ends a u ss s taking =
    let does = takes_conditional named taking in
    by does.decision (does.is ∙ step_is m l does.decision named)
  where
    by : (r : Result Bool Fault) → n ≡ branched_as m r → TurnsAt a ss n
    by (Ok test) is = next-level m n a u ss s test is
    by (Err fault) is = next-level (record m { fault = Some fault }) n a u ss s false is

endif-level : {x : Context} {m n : Machine} {l : Line} → conditional_of l ≡ Some Endif → (a u : Bool) (ss : List (Bool × Bool)) → m.sections ≡ (a, u) ∷ ss → Takes x m l n → level n ≡ (a, ss)
endif-level {m = m} named a u ss s taking = ap level (takes_unasked named refl taking ∙ ap (ended m) s)

-- ---- groups

mutual
  group-level : {x : Context} (g : Group) → IsGroup g → {m n : Machine} → Runs x m (group_lines g) n → level n ≡ level m
  group-level empty w ran = ap level (runs-none ran)
  group-level (plain l rest) w ran = let parts = runs-more ran in group-level rest w.1 parts.2 ∙ line-level w.0 parts.1
  group-level (section h g bs rest) w {m} ran =
      let parts = runs-more ran in
      let through = runs-append (group_lines g ++ branch_lines bs) (group_lines rest) parts.2 in
      let inner = runs-append (group_lines g) (branch_lines bs) through.1 in
      let o = opens-level w.0 parts.1 in
      let inside = group-level g w.1 inner.1 ∙ o.is in
      group-level rest w.3 through.2 ∙ branches-level bs w.2 m.active o.untaken m.sections inner.0 (ap (λ p. p.1) inside) inner.2

  branches-level : {x : Context} (bs : Branches) → AreBranches bs → (a u : Bool) (ss : List (Bool × Bool)) (m : Machine) {n : Machine} → m.sections ≡ (a, u) ∷ ss → Runs x m (branch_lines bs) n
      → level n ≡ (a, ss)
  branches-level (closing l) w a u ss m s ran = endif-level w a u ss s (runs-one ran)
  branches-level (otherwise h g l) w a u ss m s ran =
      let parts = runs-more ran in
      let inner = runs-append (group_lines g) (l ∷ []) parts.2 in
      let t = branch-level (Some Else) w.0 refl refl a u ss s parts.1 in
      endif-level w.2 a t.untaken ss (ap (λ p. p.1) (group-level g w.1 inner.1 ∙ t.is)) (runs-one inner.2)
  branches-level (alternative h g bs) w a u ss m s ran =
      let parts = runs-more ran in
      let inner = runs-append (group_lines g) (branch_lines bs) parts.2 in
      let t = branch-level (Some (Alternative w.0.test)) w.0.named refl refl a u ss s parts.1 in
      branches-level bs w.2 a t.untaken ss inner.0 (ap (λ p. p.1) (group-level g w.1 inner.1 ∙ t.is)) inner.2

-- ---- lines of which each that opens a section has its #endif

-- of a line behind others
cut-lines : (ms : List Line) (i j : ℕ) → i ≤ j → j < length ms → drop i ms ≡ slice_range ms i j ++ line_at ms j ∷ drop (j + 1) ms
cut-lines ms i j up below =
    let size : i + (j - i) ≡ j = omega (arith, up) in
    let next : suc j ≡ j + 1 = omega arith in
    sym (take-append-drop (j - i) (drop i ms))
    ∙ ap (λ ls. slice_range ms i j ++ ls) (drop-drop (j - i) i ms ∙ (ap (λ k. drop k ms) size ∙ (drop-cons ms j no_line below ∙ ap (λ k. line_at ms j ∷ drop k ms) next)))

module _ (ms : List Line) (x : Context) where
  -- the branches of a section
  closes-level : {i e : ℕ} → ClosesAt ms i e → (a u : Bool) (ss : List (Bool × Bool)) {m n : Machine} → m.sections ≡ (a, u) ∷ ss → Runs x m (drop (i + 1) ms) n
      → (k : Machine) × (level k ≡ (a, ss)) × Runs x k (drop (e + 1) ms) n
  closes-level {i} {e} (last_branch next endif) a u ss {m} {n} s ran =
      let after = next.after in
      let parts = runs-append (slice_range ms (i + 1) e) (line_at ms e ∷ drop (e + 1) ms)
      (subst (λ ls. Runs x m ls n) (cut-lines ms (i + 1) e (omega (arith, after)) (ends-within ms e next.ends)) ran) in
      let inside : level parts.0 ≡ level m = group-level next.between.0 next.between.1.grouped (subst (λ ls. Runs x m ls parts.0) (sym next.between.1.whole) parts.1) in
      let last = runs-more parts.2 in
      (last.0, endif-level endif a u ss (ap (λ p. p.1) inside ∙ s) last.1, last.2)
  closes-level {i} {e} (more_branches {j = j} next more) a u ss {m} {n} s ran =
      let after = next.after in
      let parts = runs-append (slice_range ms (i + 1) j) (line_at ms j ∷ drop (j + 1) ms)
      (subst (λ ls. Runs x m ls n) (cut-lines ms (i + 1) j (omega (arith, after)) (ends-within ms j next.ends)) ran) in
      let inside : level parts.0 ≡ level m = group-level next.between.0 next.between.1.grouped (subst (λ ls. Runs x m ls parts.0) (sym next.between.1.whole) parts.1) in
      let head = runs-more parts.2 in
      let t = branch-level (conditional_of (line_at ms j)) refl (closes-begins ms more) next.ends a u ss (ap (λ p. p.1) inside ∙ s) head.1 in
      closes-level more a t.untaken ss (ap (λ p. p.1) t.is) head.2

  -- a line outside of sections, which opens none
  outside-level : {m n : Machine} {l : Line} (c : Option Conditional) → conditional_of l ≡ c → (((test : Test) → c ≡ Some (Opening test) → ⊥)) → m.sections ≡ [] → Takes x m l n → level n ≡ level m
  outside-level None named opens none taking = line-level named taking
  outside-level (Some (Opening test)) named opens none taking = absurd (opens test refl)
  outside-level {m} (Some Else) named opens none taking = ap level (takes_unasked named refl taking ∙ ap (next_branch m true) none)
  outside-level {m} (Some Endif) named opens none taking = ap level (takes_unasked named refl taking ∙ ap (ended m) none)
  outside-level {m} {n} {l} (Some (Alternative test)) named opens none taking =
      let does = takes_conditional named taking in
      by does.decision (does.is ∙ step_is m l does.decision named)
    where
      by : (r : Result Bool Fault) → n ≡ branched_as m r → level n ≡ level m
      by (Ok test) is = ap level (is ∙ ap (next_branch m test) none)
      by (Err fault) is = ap level (is ∙ ap (next_branch (record m { fault = Some fault }) false) none)

  module _ (found : List declared.Line) (stand : StandFor ms found) where
    abbrev LevelFrom : ℕ → Type 0
    LevelFrom i = (m n : Machine) → m.sections ≡ [] → Runs x m (drop i ms) n → level n ≡ level m

    one-level : (i : ℕ) → i < length ms → ((j : ℕ) → i < j → LevelFrom j) → LevelFrom i
    one-level i below later m n none ran =
        let here : declared.Line = record { first = 0; end = 0; directive = None; branch = None } in
        let next : suc i ≡ i + 1 = omega arith in
        let parts = runs-more (subst (λ ls. Runs x m ls n) (drop-cons ms i no_line below ∙ ap (λ k. line_at ms i ∷ drop k ms) next) ran) in
        by (conditional_of (line_at ms i)) refl (get_or found i here).branch (found-branch ms found stand i here (omega (arith, below, found-long ms found stand))) parts.0 parts.1 parts.2
      where
        past : (k : Machine) → level k ≡ level m → Runs x k (drop (i + 1) ms) n → level n ≡ level m
        past k same rest = later (i + 1) (omega arith) k n (ap (λ p. p.1) same ∙ none) rest ∙ same

        by : (c : Option Conditional) → conditional_of (line_at ms i) ≡ c → (branch : Option Branch) → HasBranch ms i branch → (k : Machine) → Takes x m (line_at ms i) k → Runs x k (drop (i + 1) ms) n
            → level n ≡ level m
        by (Some (Opening test)) named None has k taking rest = let begins = sym has ∙ ap begins_branch named in absurd (cc)
        by (Some (Opening test)) named (Some branch) has k taking rest =
            let o = opens-level (record { test = test; named = named }) taking in
            let closed = closes-level has.close m.active o.untaken m.sections (ap (λ p. p.1) o.is) rest in
            let after = closes-after ms has.close in
            later (branch.close + 1) (omega (arith, after)) closed.0 n (ap (λ p. p.1) closed.1 ∙ none) closed.2 ∙ closed.1
        by None named branch has k taking rest = past k (outside-level None named (λ test e. cc) none taking) rest
        by (Some Else) named branch has k taking rest = past k (outside-level (Some Else) named (λ test e. cc) none taking) rest
        by (Some Endif) named branch has k taking rest = past k (outside-level (Some Endif) named (λ test e. cc) none taking) rest
        by (Some (Alternative test)) named branch has k taking rest = past k (outside-level (Some (Alternative test)) named (λ test e. cc) none taking) rest

    -- from a line on, of which no more than so many follow
    rest-level : (count i : ℕ) → length ms ≤ i + count → LevelFrom i
    rest-level zero i enough m n none ran = ap level (runs-none (subst (λ ls. Runs x m ls n) (drop_all i ms (omega (arith, enough))) ran))
    rest-level (suc count) i enough m n none ran = elim (cases_lt i (length ms)) [
      | inl below ↦ one-level i below (λ j more. rest-level count j (omega (arith, enough, more))) m n none ran
      | inr past ↦ ap level (runs-none (subst (λ ls. Runs x m ls n) (drop_all i ms past) ran))
    ]

    pub lines-level : {m n : Machine} → m.sections ≡ [] → Runs x m ms n → level n ≡ level m
    lines-level {m} {n} none ran = rest-level (length ms) 0 (omega arith) m n none ran

    -- A machine that begins with the file and has no fault acts at its end.
    pub ends-acting : {s : State} {n : Machine} → Runs x (start s) ms n → is_none n.fault ≡ true → acts n ≡ true
    ends-acting {n = n} ran fine = ap (λ a. a && is_none n.fault) (ap (λ p. p.0) (lines-level refl ran)) ∙ fine
