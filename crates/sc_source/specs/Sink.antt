-- A write that failed.
use Rattle.std.specs.Prelude.{ℕ, List, Option}
use Rattle.sc_model.specs.Outside.{Write, Writes, IsCut}

-- nothing of the piece was written, or a prefix of it
pub record WritesCut (old new : Option (List Write)) (piece : List ℕ) : Type 0 where
  pub end : List Write
  pub broken : IsCut piece end
  pub writes : Writes old new end
