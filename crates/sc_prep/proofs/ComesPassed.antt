-- Where a machine doesn't act it comes to no line of text, nor in lines that are passed over.
use Rattle.std.proofs.Common.{◌≡◌, ℕ, ◌+◌, ◌-◌, take, ◌<◌, ◌≤◌, ◌&&◌, not, Bool, true, false, List, [], ◌∷◌, ◌++◌, length, inl, inr, refl, sym, ap, ◌∙◌, subst, arith, is_none, slice_range, MatchBool}
use Rattle.c11_directives.specs.Reaches.{at_line}
use Rattle.sc_prep.proofs.ComesBack.{inert-nowhere, runs-same}
use Rattle.sc_prep.proofs.ComesFrom.{comes-append, comes-more, comes-none, inert-comes}
use Rattle.sc_prep.proofs.Facts.{take-add, take_more}
use Rattle.sc_prep.proofs.Machine.{and_false, inert_opens, inert_taken}
use Rattle.sc_prep.proofs.Passing.{branch-inert, branch-passed, closes-begins, ends-within, one-more, over-passed}
use Rattle.sc_prep.proofs.Terms.{ClosesAt, ComesIn, Context, EndsAt, Group, IsNextBranch, IsTree, Line, Machine, Opens, PassesOver, Place, Runs, State, Takes, acts, conditional_of, last_branch, line_at, more_branches, no_line, nothing, opened, plain_line, turned, whole_group, whole_section}

module _ (ms : List Line) (x : Context) (m : Machine) (chain : List Place) (at : Line) (end : State) where
  abbrev Before : ℕ → Machine → Type 0
  Before i n = Runs x m (take i ms) n

  -- the machine comes to it in so many first lines
  abbrev Comes : ℕ → Type 0
  Comes i = ComesIn x chain (at_line at end) m (take i ms)

  line-nowhere : (i : ℕ) (n : Machine) → i < length ms → acts n ≡ false → Before i n → Comes (i + 1) → Comes i
  line-nowhere i n within inactive before c = elim (comes-append (take i ms) (line_at ms i ∷ []) (subst (λ ls. ComesIn x chain (at_line at end) m ls) (take_more ms i no_line within) c)) [
    | inl first ↦ first
    | inr past ↦ elim (comes-more past.2) [
      | inl there ↦ absurd (inert-nowhere (ap acts (runs-same past.1 before) ∙ inactive) there)
      | inr next ↦ absurd (comes-none next.2)
    ]
  ]

  group-nowhere : (group : Group) (i j : ℕ) (n : Machine) → i ≤ j → IsTree (slice_range ms i j) group → acts n ≡ false → Before i n → Comes j → Comes i
  group-nowhere group i j n up tree inactive before c =
      let size : j ≡ i + (j - i) = omega (arith, up) in
      let parts : ComesIn x chain (at_line at end) m (take i ms ++ slice_range ms i j) = subst (λ ls. ComesIn x chain (at_line at end) m ls) (ap (λ k. take k ms) size ∙ take-add i (j - i) ms) c in
      elim (comes-append (take i ms) (slice_range ms i j) parts) [
        | inl first ↦ first
        | inr past ↦ absurd (inert-comes group tree.grouped past.0 (ap acts (runs-same past.1 before) ∙ inactive) (subst (λ ls. ComesIn x chain (at_line at end) past.0 ls) (sym tree.whole) past.2))
      ]

  branch-nowhere : (i j : ℕ) (n : Machine) → IsNextBranch ms i j → acts n ≡ false → Before (i + 1) n → Comes j → Comes (i + 1)
  branch-nowhere i j n next inactive before c =
      let after = next.after in
      group-nowhere next.between.0 (i + 1) j n (omega (arith, after)) next.between.1 inactive before c

  branches-nowhere : {i e : ℕ} → ClosesAt ms i e → (n : Machine) (a u : Bool) (ss : List (Bool × Bool)) → Before (i + 1) n → n.sections ≡ (a, u) ∷ ss
      → acts n ≡ false → (u && is_none n.fault) ≡ false → Comes (e + 1) → Comes (i + 1)
  branches-nowhere {i} {e} (last_branch next endif) n a u ss before s inactive later c =
      branch-nowhere i e n next inactive before (line-nowhere e n (ends-within ms e next.ends) inactive (branch-passed ms x m i e n next inactive before) c)
  branches-nowhere {i} {e} (more_branches {j = j} next closes) n a u ss before s inactive later c =
      let b = branch-inert {x = x} n (line_at ms j) (conditional_of (line_at ms j)) a u ss refl (closes-begins ms closes) next.ends s later in
      let there = branch-passed ms x m i j n next inactive before in
      branch-nowhere i j n next inactive before
      (line-nowhere j n (ends-within ms j next.ends) inactive there
      (branches-nowhere closes (turned n b.active ((a, b.untaken) ∷ ss)) a b.untaken ss (one-more ms x m j (ends-within ms j next.ends) there b.taken) refl b.inactive b.later c))

  section-nowhere : (i e : ℕ) (n : Machine) → i < length ms → Opens (line_at ms i) → ClosesAt ms i e → acts n ≡ false → Before i n → Comes (e + 1) → Comes i
  section-nowhere i e n within opens closes inactive before c =
      let o = inert_opens n (line_at ms i) opens inactive in
      line-nowhere i n within inactive before
      (branches-nowhere closes (opened n o.test) n.active (n.active && not o.test) n.sections
      (one-more ms x m i within before (subst (Takes x n (line_at ms i)) o.opens (inert_taken n (line_at ms i) inactive o.quiet))) refl
      (and_false n.active o.test (is_none n.fault) inactive) (and_false n.active (not o.test) (is_none n.fault) inactive) c)

  over-nowhere : (i : ℕ) {j : ℕ} (n : Machine) → PassesOver ms i j → acts n ≡ false → Before i n → Comes j → Comes i
  over-nowhere i n nothing inactive before c = c
  over-nowhere i {j} n (whole_group group up tree) inactive before c = group-nowhere group i j n up tree inactive before c
  over-nowhere i n (plain_line {j} over within none) inactive before c =
      over-nowhere i n over inactive before (line-nowhere j n within inactive (over-passed ms x m i n over inactive before) c)
  over-nowhere i n (whole_section {j} {e} over within opens closes) inactive before c =
      over-nowhere i n over inactive before (section-nowhere j e n within opens closes inactive (over-passed ms x m i n over inactive before) c)

  -- nor before the next line that it takes
  pub next-nowhere : (i next : ℕ) (is_passed : Bool) (n : Machine) → MatchBool is_passed (EndsAt ms (i + 1) next) (next ≡ i + 1) → (is_passed ≡ true → acts n ≡ false)
      → Before (i + 1) n → Comes next → Comes (i + 1)
  next-nowhere i next true n goes inactive before c = over-nowhere (i + 1) n goes.over (inactive refl) before c
  next-nowhere i next false n goes inactive before c = subst Comes goes c
