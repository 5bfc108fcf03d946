-- The places of one configuration.
use Rattle.std.specs.Prelude.{ℕ, ◌+◌, List, [], ◌∷◌, map, if◌then◌else◌}
use Rattle.sc_base.specs.declared.id.Cond.{Cond}
use Rattle.sc_model.specs.Sets.{Sets}

-- the indexes, counted from n, of the conditions that have the configuration
abbrev pub places_from : Sets → ℕ → List Cond → List ℕ → List ℕ
places_from s n [] c = []
places_from s n (cond ∷ conds) c = if s.has cond.0 c then n ∷ places_from s (n + 1) conds c else places_from s (n + 1) conds c

-- the indexes of the items of a list that the configuration has
abbrev pub places_at : {T : Type 0} → Sets → List (Cond × T) → List ℕ → List ℕ
places_at s items c = places_from s 0 (map (λ item. item.0) items) c
