-- Sets of names as lists in rising order.
use Rattle.std.specs.Prelude.{◌<◌, ◌==◌, nat_lt, Bool, List, [], ◌∷◌, if◌then◌else◌}
use Rattle.std.specs.List.{list_any}
use Rattle.sc_base.specs.declared.id.Name.{Name}

abbrev pub has_name : List Name → Name → Bool
has_name set name = list_any (λ other. other.0 == name.0) set

-- each name stands before greater ones
abbrev pub IsRising : List Name → Type 0
IsRising [] = Unit {0}
IsRising (x ∷ []) = Unit {0}
IsRising (x ∷ (y ∷ ys)) = (x.0 < y.0) × IsRising (y ∷ ys)

-- the name in its place
abbrev pub inserted : List Name → Name → List Name
inserted [] name = name ∷ []
inserted (x ∷ xs) name = if x.0 == name.0 then x ∷ xs else (if nat_lt name.0 x.0 then name ∷ (x ∷ xs) else x ∷ inserted xs name)
