-- The search for a terminal by how it is written.
use Rattle.std.proofs.Common.{◌≡◌, ℕ, suc, ◌+◌, ◌-◌, ◌<◌, Bool, true, false, cond, List, take, drop, Some, ap, ◌∙◌, arith}
use Rattle.std.proofs.lemmas.List.{drop_more}
use Rattle.std.proofs.lemmas.Option.{get_or_from_slice_get, slice_get_within}
use Rattle.std.specs.List.{position_from, slice_get}

-- one step of the search
module _ (test : List ℕ → Bool) (names : List (List ℕ)) (i last : ℕ) (name : List ℕ) (at : slice_get names i ≡ Some name) (within : i < last + 1) where
  step : (left : ℕ) → position_from test i (take (suc left) (drop i names)) ≡ cond (test name) (Some i) (position_from test (i + 1) (take left (drop (i + 1) names)))
  step left = rw (drop_more names i name (slice_get_within names i name at), get_or_from_slice_get names i name name at)

  next : position_from test i (take (last + 1 - i) (drop i names)) ≡ cond (test name) (Some i) (position_from test (i + 1) (take (last + 1 - (i + 1)) (drop (i + 1) names)))
  next =
      let more : last + 1 - i ≡ suc (last + 1 - (i + 1)) = omega arith in
      ap (λ left. position_from test i (take left (drop i names))) more ∙ step (last + 1 - (i + 1))

  pub found : test name ≡ true → position_from test i (take (last + 1 - i) (drop i names)) ≡ Some i
  found same = next ∙ ap (λ b. cond b (Some i) (position_from test (i + 1) (take (last + 1 - (i + 1)) (drop (i + 1) names)))) same

  pub passed : test name ≡ false → position_from test i (take (last + 1 - i) (drop i names)) ≡ position_from test (i + 1) (take (last + 1 - (i + 1)) (drop (i + 1) names))
  passed differs = next ∙ ap (λ b. cond b (Some i) (position_from test (i + 1) (take (last + 1 - (i + 1)) (drop (i + 1) names)))) differs
