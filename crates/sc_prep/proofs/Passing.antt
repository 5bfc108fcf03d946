-- Lines that are passed over where a machine doesn't act leave it as it is.
use Rattle.std.proofs.Common.{◌≡◌, ℕ, ◌+◌, ◌-◌, take, ◌<◌, ◌≤◌, ◌&&◌, not, Bool, true, false, List, ◌∷◌, length, Option, Some, None, get_or, refl, sym, ap, subst, inl, inr, arith, is_none, slice_range, MatchBool}
use Rattle.sc_lines.proofs.Judging.{same_at, same_length}
use Rattle.sc_lines.specs.declared.line.Branch.{Branch}
use Rattle.sc_lines.specs.declared.line.Line as declared
use Rattle.sc_prep.proofs.Facts.{cases_lt, get_or_past, slice_get-get_or, take-add, take_more}
use Rattle.sc_prep.proofs.Machine.{runs-join, runs-once, unasked_taken, alternative_unasked, inert_run, inert_taken, inert_line_taken, inert_opens, and_false}
use Rattle.sc_prep.proofs.Terms.{Alternative, ClosesAt, Conditional, Context, Else, Endif, EndsAt, Group, HasBranch, IsBranchOf, IsNextBranch, IsTree, Line, Machine, Opening, Opens, PassesOver, Runs, StandFor, Takes, acts, begins_branch, conditional_in, conditional_of, ended, ends_branch, last_branch, line_at, more_branches, next_branch, no_line, nothing, opened, option_map, plain_line, turned, unwrap_or, whole_group, whole_section}

-- ---- the machine

-- the next branch, which the machine doesn't act in: an alternative is left to be taken
pub record BranchInert (x : Context) (m : Machine) (l : Line) (a u : Bool) (ss : List (Bool × Bool)) : Type 0 where
  pub active : Bool
  pub untaken : Bool
  pub taken : Takes x m l (turned m active ((a, untaken) ∷ ss))
  pub inactive : (active && is_none m.fault) ≡ false
  pub later : (untaken && is_none m.fault) ≡ false

pub branch-inert : {x : Context} (m : Machine) (l : Line) (c : Option Conditional) (a u : Bool) (ss : List (Bool × Bool)) → conditional_of l ≡ c → begins_branch c ≡ true → ends_branch c ≡ true
    → m.sections ≡ (a, u) ∷ ss → (u && is_none m.fault) ≡ false → BranchInert x m l a u ss
branch-inert m l None a u ss e begins ends s inactive = cc
branch-inert m l (Some (Opening test)) a u ss e begins ends s inactive = cc
branch-inert {x} m l (Some (Alternative test)) a u ss e begins ends s inactive = record {
  active = false;
  untaken = u;
  taken = subst (Takes x m l) (ap (next_branch m false) s) (unasked_taken e (alternative_unasked test m a u ss s inactive));
  inactive = refl;
  later = inactive;
}
branch-inert {x} m l (Some Else) a u ss e begins ends s inactive = record {
  active = u;
  untaken = false;
  taken = subst (Takes x m l) (ap (next_branch m true) s) (unasked_taken e refl);
  inactive = inactive;
  later = refl;
}
branch-inert m l (Some Endif) a u ss e begins ends s inactive = cc

module _ (ms : List Line) where
  pub ends-within : (i : ℕ) → ends_branch (conditional_of (line_at ms i)) ≡ true → i < length ms
  ends-within i ends =
      elim (cases_lt i (length ms)) [
        | inl h ↦ h
        | inr past ↦ (let nothing_there = ap (λ l. ends_branch (conditional_of l)) (get_or_past ms i no_line past) in cc)
      ]

  pub closes-begins : {i e : ℕ} → ClosesAt ms i e → begins_branch (conditional_of (line_at ms i)) ≡ true
  closes-begins (last_branch next endif) = next.begins
  closes-begins (more_branches next closes) = next.begins

  pub closes-within : {i e : ℕ} → ClosesAt ms i e → e < length ms
  closes-within {i} {e} (last_branch next endif) = ends-within e next.ends
  closes-within (more_branches next closes) = closes-within closes

  pub closes-after : {i e : ℕ} → ClosesAt ms i e → i < e
  closes-after (last_branch next endif) = next.after
  closes-after (more_branches next closes) = let later = closes-after closes in let after = next.after in omega (arith, later, after)

  module _ (x : Context) (m : Machine) where
    -- the machine before the line of a number
    abbrev Before : ℕ → Machine → Type 0
    Before i n = Runs x m (take i ms) n

    pub one-more : (i : ℕ) {n o : Machine} → i < length ms → Before i n → Takes x n (line_at ms i) o → Before (i + 1) o
    one-more i {o = o} within before taking = subst (λ ls. Runs x m ls o) (sym (take_more ms i no_line within)) (runs-join (take i ms) before (runs-once taking))

    group-passed : (group : Group) (i j : ℕ) (n : Machine) → i ≤ j → IsTree (slice_range ms i j) group → acts n ≡ false → Before i n → Before j n
    group-passed group i j n up tree inactive before =
        let size : j ≡ i + (j - i) = omega (arith, up) in
        let still : Runs x n (slice_range ms i j) n = subst (λ ls. Runs x n ls n) tree.whole (inert_run group tree.grouped n inactive) in
        subst (λ k. Before k n) (sym size) (subst (λ ls. Runs x m ls n) (sym (take-add i (j - i) ms)) (runs-join (take i ms) before still))

    pub branch-passed : (i j : ℕ) (n : Machine) → IsNextBranch ms i j → acts n ≡ false → Before (i + 1) n → Before j n
    branch-passed i j n next inactive before =
        let after = next.after in
        group-passed next.between.0 (i + 1) j n (omega (arith, after)) next.between.1 inactive before

    -- the branches of a section
    branches-passed : {i e : ℕ} → ClosesAt ms i e → (n : Machine) (a u : Bool) (ss : List (Bool × Bool)) → Before (i + 1) n → n.sections ≡ (a, u) ∷ ss
        → acts n ≡ false → (u && is_none n.fault) ≡ false → Before (e + 1) (turned n a ss)
    branches-passed {i} {e} (last_branch next endif) n a u ss before s inactive later =
        one-more e (ends-within e next.ends) (branch-passed i e n next inactive before)
        (subst (Takes x n (line_at ms e)) (ap (ended n) s) (unasked_taken endif refl))
    branches-passed {i} {e} (more_branches {j = j} next closes) n a u ss before s inactive later =
        let b : BranchInert x n (line_at ms j) a u ss = branch-inert n (line_at ms j) (conditional_of (line_at ms j)) a u ss refl (closes-begins closes) next.ends s later in
        branches-passed closes (turned n b.active ((a, b.untaken) ∷ ss)) a b.untaken ss
        (one-more j (ends-within j next.ends) (branch-passed i j n next inactive before) b.taken)
        refl b.inactive b.later

    section-passed : (i e : ℕ) (n : Machine) → i < length ms → Opens (line_at ms i) → ClosesAt ms i e → acts n ≡ false → Before i n → Before (e + 1) n
    section-passed i e n within opens closes inactive before =
        let o = inert_opens n (line_at ms i) opens inactive in
        branches-passed closes (opened n o.test) n.active (n.active && not o.test) n.sections
        (one-more i within before (subst (Takes x n (line_at ms i)) o.opens (inert_taken n (line_at ms i) inactive o.quiet))) refl
        (and_false n.active o.test (is_none n.fault) inactive) (and_false n.active (not o.test) (is_none n.fault) inactive)

    pub over-passed : (i : ℕ) {j : ℕ} (n : Machine) → PassesOver ms i j → acts n ≡ false → Before i n → Before j n
    over-passed i n nothing inactive before = before
    over-passed i {j} n (whole_group group up tree) inactive before = group-passed group i j n up tree inactive before
    over-passed i n (plain_line {j} over within none) inactive before =
        one-more j within (over-passed i n over inactive before) (inert_line_taken n (line_at ms j) inactive none)
    over-passed i n (whole_section {j} {e} over within opens closes) inactive before =
        section-passed j e n within opens closes inactive (over-passed i n over inactive before)

    -- the machine before the next line that it takes
    pub next-passed : (i next : ℕ) (is_passed : Bool) (n : Machine) → MatchBool is_passed (EndsAt ms (i + 1) next) (next ≡ i + 1) → (is_passed ≡ true → acts n ≡ false)
        → Before (i + 1) n → Before next n
    next-passed i next true n goes inactive before = over-passed (i + 1) n goes.over (inactive refl) before
    next-passed i next false n goes inactive before = subst (λ k. Before k n) (sym goes) before

  -- ---- the numbers of lines

  pub over-up : (i : ℕ) {j : ℕ} → PassesOver ms i j → i ≤ j
  over-up i nothing = omega arith
  over-up i (whole_group group up tree) = up
  over-up i (plain_line over within none) = let up = over-up i over in omega (arith, up)
  over-up i (whole_section over within opens closes) =
      let up = over-up i over in
      let after = closes-after closes in
      omega (arith, up, after)

  pub next-after : (i next : ℕ) (is_passed : Bool) → MatchBool is_passed (EndsAt ms (i + 1) next) (next ≡ i + 1) → i < next
  next-after i next true goes = let up = over-up (i + 1) goes.over in omega (arith, up)
  next-after i next false goes = omega (arith, goes)

  -- the rest of a branch, from its first line on
  pub branch-over : (i : ℕ) (branch : Branch) → IsBranchOf ms i branch → EndsAt ms (i + 1) branch.next
  branch-over i branch of =
      let after = of.next.after in
      record { over = whole_group of.next.between.0 (omega (arith, after)) of.next.between.1; ends = λ _. of.next.ends }

  -- one line more, or the section that it opens
  over-more : (i j : ℕ) (c : Option Conditional) (branch : Option Branch) → conditional_of (line_at ms j) ≡ c → ends_branch c ≡ false → HasBranch ms j branch → j < length ms
      → PassesOver ms i j → PassesOver ms i (unwrap_or (option_map (λ b. b.close) branch) j + 1)
  over-more i j None None e ends has within over = plain_line over within e
  over-more i j (Some (Opening test)) None e ends has within over = let begins = ap begins_branch e in cc
  over-more i j (Some (Alternative test)) branch e ends has within over = cc
  over-more i j (Some Else) branch e ends has within over = cc
  over-more i j (Some Endif) branch e ends has within over = cc
  over-more i j None (Some branch) e ends has within over = let here = has.next.begins in let begins = ap begins_branch e in cc
  over-more i j (Some (Opening test)) (Some branch) e ends has within over = whole_section over within (record { test = test; named = e }) has.close

  module _ (found : List declared.Line) (stand : StandFor ms found) where
    pub found-long : length ms ≡ length found
    found-long = same_length conditional_of (λ l. conditional_in l.directive) ms found stand.conditionals

    module _ (i : ℕ) (d : declared.Line) (h : i < length found) where
      pub found-conditional : conditional_of (line_at ms i) ≡ conditional_in (get_or found i d).directive
      found-conditional = same_at conditional_of (λ l. conditional_in l.directive) ms found i no_line d stand.conditionals h

      pub found-branch : HasBranch ms i (get_or found i d).branch
      found-branch = stand.branches.each i (get_or found i d) (slice_get-get_or found i d h)

      pub found-more : (first : ℕ) → ends_branch (conditional_in (get_or found i d).directive) ≡ false → PassesOver ms first i
          → PassesOver ms first (unwrap_or (option_map (λ b. b.close) (get_or found i d).branch) i + 1)
      found-more first ends over = over-more first i _ (get_or found i d).branch found-conditional ends found-branch (omega (arith, h, found-long)) over

    -- the last line of a section is a line, and none before its first
    last-within : (i : ℕ) (branch : Option Branch) → HasBranch ms i branch → i < length found
        → (i ≤ unwrap_or (option_map (λ b. b.close) branch) i) × (unwrap_or (option_map (λ b. b.close) branch) i < length found)
    last-within i None has h = (omega arith, h)
    last-within i (Some branch) has h =
        let after = closes-after has.close in
        let within = closes-within has.close in
        (omega (arith, after), omega (arith, within, found-long))

    pub found-within : (i : ℕ) (d : declared.Line) → i < length found
        → (i ≤ unwrap_or (option_map (λ b. b.close) (get_or found i d).branch) i) × (unwrap_or (option_map (λ b. b.close) (get_or found i d).branch) i < length found)
    found-within i d h = last-within i (get_or found i d).branch (found-branch i d h) h
