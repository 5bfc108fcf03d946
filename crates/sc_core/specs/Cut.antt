-- A space with one configuration.
use Rattle.std.specs.Prelude.{ℕ, ◌-◌, List, [], ◌∷◌, drop, length, map, take}
use Rattle.sc_model.specs.Space.{Space, Variable}

-- each variable with the option alone that it has at the configuration
abbrev pub cut_variables : List Variable → List ℕ → List Variable
cut_variables [] config = []
cut_variables (v ∷ vs) [] = []
cut_variables (v ∷ vs) (k ∷ ks) = record { name = v.name; options = take 1 (drop k v.options) } ∷ cut_variables vs ks

-- the space that has this configuration alone
abbrev pub cut_space : Space → List ℕ → Space
cut_space space config = record space { variables = cut_variables space.variables config }

-- where each variable has its last option
abbrev pub last_config : Space → List ℕ
last_config space = map (λ (v : Variable). length v.options - 1) space.variables

-- where each variable has its first option: the one configuration of such a space
abbrev pub first_config : Space → List ℕ
first_config space = map (λ (v : Variable). 0) space.variables
