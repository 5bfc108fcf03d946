-- Conditions that are kept as rows.
use Rattle.std.specs.Prelude.{◌≡◌, ℕ, ◌<◌, ◌≤◌, Bool, true, false, List, [], length, slice_get, slice_index_or, Some, replicate}
use Rattle.sc_model.specs.Growth.{IsOneToOne}
use Rattle.sc_model.specs.Sets.{Sets, HasOptions, config_count}
use Rattle.sc_presence.specs.declared.plain_sets.TheConstants.{MAX_CONFIGS}
use Rattle.sc_presence.specs.Rank.{strides_of, rank}
use Rattle.sc_presence.specs.Rows.{value_at}

-- the arity of each variable, and the row of each condition
pub record Plain : Type 0 where
  pub arities : List ℕ
  pub rows : List (List Bool)

abbrev pub row_of : Plain → ℕ → List Bool
row_of p a = slice_index_or p.rows a []

-- a condition has the configurations at which its row is true
abbrev pub sets_of : Plain → Sets
sets_of p = record {
  arities = p.arities;
  count = length p.rows;
  has = λ a config. value_at (row_of p a) (rank (strides_of p.arities) config);
}

-- there is a row for never and a row for always, and no row stands twice
pub record IsPlain (p : Plain) : Type 0 where
  pub options : HasOptions p.arities
  pub long : (a : ℕ) → a < length p.rows → length (row_of p a) ≡ config_count p.arities
  pub never : slice_get p.rows 0 ≡ Some (replicate (config_count p.arities) false)
  pub always : slice_get p.rows 1 ≡ Some (replicate (config_count p.arities) true)
  pub different : IsOneToOne p.rows

-- what is kept beside the rows: the strides, and how many configurations there are
pub record IsKept (strides : List ℕ) (count : ℕ) (p : Plain) : Type 0 where
  pub plain : IsPlain p
  pub wide : strides ≡ strides_of p.arities
  pub whole : count ≡ config_count p.arities
  pub small : count ≤ MAX_CONFIGS

-- r is a condition of the new ones with this row
pub record Stores (old new : Plain) (r : ℕ) (row : List Bool) : Type 0 where
  pub plain : IsPlain old
  pub arities : new.arities ≡ old.arities
  pub stored : slice_get new.rows r ≡ Some row
