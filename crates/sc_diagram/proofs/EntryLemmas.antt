-- Entries that are kept at slots, and the results that they are.
use Rattle.std.proofs.Common.{◌≡◌, ℕ, ◌<◌, List, length, map, set, replicate, Contains, Option, Some, None, ◌⊎◌, inl, inr, sym, ◌∙◌, ap, arith, get_or}
use Rattle.std.proofs.lemmas.Bool.{cases_eq}
use Rattle.std.proofs.lemmas.List.{get_or-map, get_or-replicate, get_or-set_other, get_or-set_same, length-map, length-replicate, length-set}
use Rattle.std.proofs.lemmas.Option.{none-some}

-- an element of a list in which one was set is that one, or was there
pub Contains-set_cases : {X : Type 0} (xs : List X) (i : ℕ) (x y : X) → Contains (set xs i x) y → Contains xs y ⊎ (x ≡ y)
Contains-set_cases xs i x y has = elim (cases_eq has.0 i) [
  | inl same ↦ (
      let within : i < length xs = omega (arith, has.1, length-set xs i x, same) in
      inr (sym (get_or-set_same xs i x y within) ∙ ap (λ k. get_or (set xs i x) k y) (sym same) ∙ has.2)
      )
  | inr other ↦ inl (has.0, omega (arith, has.1, length-set xs i x), sym (get_or-set_other xs i has.0 x y other) ∙ has.2)
]

-- of a thing that stands for nothing there are no results
pub none-replicate : {X Y : Type 0} (f : X → Option Y) (x : X) (n : ℕ) (y : Y) → f x ≡ None → Contains (map f (replicate n x)) (Some y) → ⊥
none-replicate f x n y nothing has =
    let within : has.0 < n = omega (arith, has.1, length-map (replicate n x) f, length-replicate n x) in
    let read = get_or-map f (replicate n x) has.0 x (Some y) (omega (arith, within, length-replicate n x)) in
    none-some y (sym nothing ∙ ap f (sym (get_or-replicate n has.0 x x within)) ∙ sym read ∙ has.2)
