-- Part of a part of a list.
use Rattle.std.proofs.Common.{◌≡◌, ◌≤◌, ◌∙◌, ℕ, ◌+◌, ◌-◌, List, ap, arith, drop, sym, take}
use Rattle.std.proofs.lemmas.List.{drop-drop, drop-take, take-take}

module _ {A : Type 0} where
  -- what is left of the items from one index on, up to another, once the first n are dropped
  pub dropped : (xs : List A) (from to n : ℕ) → n ≤ to - from → take (to - (from + n)) (drop (from + n) xs) ≡ drop n (take (to - from) (drop from xs))
  dropped xs from to n low =
      let ys = drop from xs in
      let rest : to - from ≡ n + (to - (from + n)) = omega (arith, low) in
      ap (take (to - (from + n))) (sym (drop-drop n from xs)) ∙ (sym (drop-take n (to - (from + n)) ys) ∙ ap (λ m. drop n (take m ys)) (sym rest))

  pub shared : (xs : List A) (from to first last : ℕ) → first ≤ last → last ≤ to - from
      → take ((from + last) - (from + first)) (drop (from + first) xs) ≡ take (last - first) (drop first (take (to - from) (drop from xs)))
  shared xs from to first last ordered low =
      let ys = drop from xs in
      let count = last - first in
      let wide : to - from ≡ first + ((to - from) - first) = omega (arith, ordered, low) in
      let narrow : count ≤ (to - from) - first = omega (arith, ordered, low) in
      let many : (from + last) - (from + first) ≡ count = omega (arith, ordered) in
      ap (λ m. take m (drop (from + first) xs)) many
      ∙ (ap (take count) (sym (drop-drop first from xs))
      ∙ (sym (take-take count ((to - from) - first) (drop first ys) narrow)
      ∙ ap (take count) (sym (drop-take first ((to - from) - first) ys) ∙ ap (λ m. drop first (take m ys)) (sym wide))))
