-- Why an expansion gives no answer.
use Rattle.std.specs.Prelude.{◌≡◌, ℕ, ◌+◌, ◌≤◌, List, length, All, AllPairs}
use Rattle.sc_base.specs.declared.stop.Stop.{Stop}
use Rattle.sc_base.specs.declared.stop.Stop.TheVariants.{BranchesFull, ReadFault, OutOfMemory}
use Rattle.sc_model.specs.Sets.{IsConfig}

-- at least so many configurations of which no two are the same
pub record HasConfigs (arities : List ℕ) (count : ℕ) : Type 0 where
  pub configs : List (List ℕ)
  pub many : count ≤ length configs
  pub listed : All (IsConfig arities) configs
  pub apart : AllPairs (λ a b. a ≡ b → ⊥) configs

-- a call has more different lists of tokens than the limit, or there is no memory
abbrev pub StopsBy : List ℕ → ℕ → Stop → Type 0
StopsBy arities limit (BranchesFull count) = (count ≡ limit + 1) × HasConfigs arities (limit + 1)
StopsBy arities limit ReadFault = ⊥
StopsBy arities limit OutOfMemory = Unit {0}
