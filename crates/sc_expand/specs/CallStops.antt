-- Why the calls of a name give no answer.
use Rattle.std.specs.Prelude.{◌≡◌, ℕ, ◌+◌, ◌≤◌, List, length, All, AllPairs}
use Rattle.sc_base.specs.declared.id.Cond.{Cond}
use Rattle.sc_base.specs.declared.stop.Stop.{Stop}
use Rattle.sc_base.specs.declared.stop.Stop.TheVariants.{BranchesFull, ReadFault, OutOfMemory}
use Rattle.sc_expand.specs.Having.{tokens_in}
use Rattle.sc_hoist.specs.Calls.{call_end_at, call_places, closed}
use Rattle.sc_model.specs.Sets.{Sets, IsConfig}
use Rattle.sc_subst.specs.declared.hidden.Hidden.{Hidden}

-- At least so many configurations of which this holds call the name that stands first, by different
-- tokens each.
pub record HasCalls (s : Sets) (names : List (List ℕ)) (Takes : List ℕ → Type 0) (list : List (Cond × Hidden)) (count : ℕ) : Type 0 where
  pub configs : List (List ℕ)
  pub many : count ≤ length configs
  pub listed : All (IsConfig s.arities) configs
  pub take : All Takes configs
  pub ends : All (λ c. call_end_at s names (tokens_in list) 0 c ≡ closed) configs
  pub apart : AllPairs (λ c d. call_places s names (tokens_in list) 0 c ≡ call_places s names (tokens_in list) 0 d → ⊥) configs

-- the name that stands first has more different calls than the limit, or there is no memory
abbrev pub StopsAt : Sets → List (List ℕ) → (List ℕ → Type 0) → List (Cond × Hidden) → ℕ → Stop → Type 0
StopsAt s names Takes list limit (BranchesFull count) = (count ≡ limit + 1) × HasCalls s names Takes list (limit + 1)
StopsAt s names Takes list limit ReadFault = ⊥
StopsAt s names Takes list limit OutOfMemory = Unit {0}
