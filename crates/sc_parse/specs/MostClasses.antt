-- The greatest number of classes at one place of a list.
use Rattle.std.specs.Prelude.{◌≡◌, ℕ, ◌+◌, ◌<◌, List, length}
use Rattle.c11_parsing.specs.Classes.{AreDistinct, Input, HasMoreClasses}

-- at some place there are so many classes, and at none there are more
pub record HasMostClasses (input : Input) (most : ℕ) : Type 0 where
  pub place : ℕ
  pub within : place < length input.items + 1
  pub configs : List (List ℕ)
  pub distinct : AreDistinct input place configs
  pub many : length configs ≡ most
  pub none_more : HasMoreClasses input most → ⊥
