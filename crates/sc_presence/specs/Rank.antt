-- The order of the configurations: by the first variable, then by the second, and so on.
use Rattle.std.specs.Prelude.{ℕ, ◌+◌, ◌-◌, ◌*◌, ◌/◌, ◌%◌, List, [], ◌∷◌}
use Rattle.sc_model.specs.Sets.{config_count}

-- for each variable, how many configurations the variables after it have
abbrev pub strides_of : List ℕ → List ℕ
strides_of [] = []
strides_of (arity ∷ arities) = config_count arities ∷ strides_of arities

-- how many configurations come before this one, by the strides
abbrev pub rank : List ℕ → List ℕ → ℕ
rank [] config = 0
rank (stride ∷ strides) [] = 0
rank (stride ∷ strides) (option ∷ config) = option * stride + rank strides config

-- the option of a variable in the configuration at place i
abbrev pub digit : ℕ → ℕ → ℕ → ℕ
digit stride arity i = i / stride % arity

-- the place of the configuration that differs from the one at place i in this option of a variable
abbrev pub moved : ℕ → ℕ → ℕ → ℕ → ℕ
moved stride arity option i = i - digit stride arity i * stride + option * stride

-- the configuration at place i
abbrev pub config_at : List ℕ → ℕ → List ℕ
config_at [] i = []
config_at (arity ∷ arities) i = digit (config_count arities) arity i ∷ config_at arities i
