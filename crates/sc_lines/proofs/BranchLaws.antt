-- A line begins one branch or none.
use Rattle.std.proofs.Common.{◌≡◌, ℕ, zero, suc, ◌+◌, ◌-◌, ◌<◌, true, false, List, [], ◌∷◌, ◌++◌, length, take, drop, get_or, Option, Some, None, refl, sym, ap, ◌∙◌, subst, inl, inr, arith}
use Rattle.std.proofs.lemmas.Bool.{cases_lt}
use Rattle.std.proofs.lemmas.List.{get_or-drop, get_or_past, length-drop}
use Rattle.std.specs.Option.{option_and_then}
use Rattle.sc_lines.specs.Branches.{begins_branch, ends_branch, IsNextBranch, ClosesAt, last_branch, more_branches, HasBranch}
use Rattle.sc_lines.specs.declared.line.Branch.{Branch}
use Rattle.sc_lines.specs.Judges.{no_line, line_at}
use Rattle.c11_directives.specs.Sections.{nest_by}
use Rattle.c11_directives.proofs.Nesting.{nest_all, nest_all-append, nest-group}
use Rattle.c11_directives.specs.declared.directive.Conditional.{Conditional}
use Rattle.c11_directives.specs.declared.directive.Conditional.TheVariants.{Opening, Alternative, Else, Endif}
use Rattle.c11_directives.specs.Lines.{Line, conditional_of, Group, group_lines}

-- a longer front of a list has the shorter one, and what follows that
record HasFront (xs : List Line) (n m : ℕ) : Type 0 where
  rest : List Line
  whole : take m xs ≡ take n xs ++ get_or xs n no_line ∷ rest

has-front : (xs : List Line) (n m : ℕ) → n < m → n < length xs → HasFront xs n m
has-front [] n m longer within = absurd (omega arith)
has-front (x ∷ xs) n zero longer within = absurd (omega arith)
has-front (x ∷ xs) zero (suc m) longer within = record { rest = take m xs; whole = refl }
has-front (x ∷ xs) (suc n) (suc m) longer within =
    let f = has-front xs n m (omega arith) (omega arith) in
    record { rest = f.rest; whole = ap (λ ls. x ∷ ls) f.whole }

-- no group goes on with a line that ends a branch
stuck-by : (line : Line) (c : Option Conditional) → ends_branch c ≡ true → nest_by line [] c ≡ None
stuck-by line None e = cc
stuck-by line (Some (Opening test)) e = cc
stuck-by line (Some (Alternative test)) e = refl
stuck-by line (Some Else) e = refl
stuck-by line (Some Endif) e = refl

stuck : (g : Group) (line : Line) (rest lines : List Line) → nest_all (group_lines g) [] ≡ Some [] → ends_branch (conditional_of line) ≡ true → lines ≡ group_lines g ++ line ∷ rest → nest_all lines [] ≡ None
stuck g line rest lines fine ends e =
    ap (λ ls. nest_all ls []) e
    ∙ (nest_all-append (group_lines g) (line ∷ rest) []
    ∙ (ap (option_and_then (nest_all (line ∷ rest))) fine ∙ ap (option_and_then (nest_all rest)) (stuck-by line (conditional_of line) ends)))

module _ (ms : List Line) where
  ends-within : (j : ℕ) → ends_branch (conditional_of (line_at ms j)) ≡ true → j < length ms
  ends-within j ends =
      elim (cases_lt j (length ms)) [
        | inl h ↦ h
        | inr past ↦ (let nothing : ends_branch (conditional_of (line_at ms j)) ≡ false = ap (λ l. ends_branch (conditional_of l)) (get_or_past ms j no_line past) in cc)
      ]

  not-before : {i j k : ℕ} → IsNextBranch ms i j → IsNextBranch ms i k → j < k → ⊥
  not-before {i} {j} {k} a b before =
      let lines = drop (i + 1) ms in
      let n = j - (i + 1) in
      let i_before = a.after in
      let within : n < length lines = omega (arith, i_before, ends-within j a.ends, length-drop (i + 1) ms) in
      let longer : n < k - (i + 1) = omega arith in
      let front = has-front lines n (k - (i + 1)) longer within in
      let here : (i + 1) + n ≡ j = omega arith in
      let next : get_or lines n no_line ≡ line_at ms j = get_or-drop (i + 1) ms n no_line ∙ ap (λ m. get_or ms m no_line) here in
      let shorter = a.between.1 in
      let whole = b.between.1 in
      let fine : nest_all (group_lines b.between.0) [] ≡ Some [] = nest-group b.between.0 whole.grouped [] in
      let fails : nest_all (group_lines b.between.0) [] ≡ None =
      stuck a.between.0 (get_or lines n no_line) front.rest (group_lines b.between.0) (nest-group a.between.0 shorter.grouped [])
      (ap (λ l. ends_branch (conditional_of l)) next ∙ a.ends)
      (whole.whole ∙ (front.whole ∙ ap (λ ls. ls ++ get_or lines n no_line ∷ front.rest) (sym shorter.whole))) in
      cc

  next-same : {i j k : ℕ} → IsNextBranch ms i j → IsNextBranch ms i k → j ≡ k
  next-same {i} {j} {k} a b =
      elim (cases_lt j k) [
        | inl before ↦ absurd (not-before a b before)
        | inr behind ↦ elim (cases_lt k j) [
          | inl before ↦ absurd (not-before b a before)
          | inr same ↦ omega arith
        ]
      ]

  closes-begins : {i e : ℕ} → ClosesAt ms i e → begins_branch (conditional_of (line_at ms i)) ≡ true
  closes-begins (last_branch next e) = next.begins
  closes-begins (more_branches next close) = next.begins

  closes-not : {i e : ℕ} {P : Type 0} → ClosesAt ms i e → conditional_of (line_at ms i) ≡ Some Endif → P
  closes-not close e =
      let begins = closes-begins close in
      let not = ap begins_branch e in
      cc

  closes-same : {i e f : ℕ} → ClosesAt ms i e → ClosesAt ms i f → e ≡ f
  closes-same (last_branch a p) (last_branch b q) = next-same a b
  closes-same (last_branch a p) (more_branches b s) = closes-not s (ap (λ k. conditional_of (line_at ms k)) (next-same b a) ∙ p)
  closes-same (more_branches a r) (last_branch b q) = closes-not r (ap (λ k. conditional_of (line_at ms k)) (next-same a b) ∙ q)
  closes-same {i} {e} {f} (more_branches a r) (more_branches b s) = closes-same r (subst (λ k. ClosesAt ms k f) (next-same b a) s)

  pub branch-same : (i : ℕ) (a b : Option Branch) → HasBranch ms i a → HasBranch ms i b → a ≡ b
  branch-same i None None w v = refl
  branch-same i None (Some b) w v = let begins = v.next.begins in cc
  branch-same i (Some a) None w v = let begins = w.next.begins in cc
  branch-same i (Some a) (Some b) w v =
      let next : a.next ≡ b.next = next-same w.next v.next in
      let close : a.close ≡ b.close = closes-same w.close v.close in
      ap (λ n. Some (record { next = n; close = a.close })) next ∙ ap (λ e. Some (record { next = b.next; close = e })) close
