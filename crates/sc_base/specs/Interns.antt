-- A table of different items, to which an item is added once.
use Rattle.std.specs.Prelude.{◌≡◌, List, [], ◌∷◌, ◌++◌, Contains}

-- the item was there and nothing changed, or it was not and went last
pub data Interns {A : Type 0} (old new : List A) (item : A) : Type 0 where
  known : Contains old item → new ≡ old → Interns old new item
  fresh : (Contains old item → ⊥) → new ≡ old ++ item ∷ [] → Interns old new item
