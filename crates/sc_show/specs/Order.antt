-- The order of faults.
use Rattle.std.specs.Prelude.{◌≡◌, ℕ, ◌+◌, List, [], ◌∷◌, ◌++◌, Some, slice_get, false}
use Rattle.std.specs.Borrow.{Bor}
use Rattle.std.specs.Ordering.{is_lt}
use Rattle.sc_model.specs.Cause.{code_of}
use Rattle.sc_text.specs.Layout.{fault_order}
use Rattle.sc_model.specs.Fault.{Fault}

-- what the fault is ordered by
pub record IsKeyOf (f : Fault) (key : Bor (List ℕ) × ℕ × ℕ × ℕ) : Type 0 where
  pub name : key.0.now ≡ f.place.file
  pub line : key.1 ≡ f.place.position.line
  pub column : key.2 ≡ f.place.position.column
  pub code : key.3 ≡ code_of f.cause

-- no fault is before the one that stands before it
pub record IsInOrder (faults : List Fault) : Type 0 where
  pub each : (k : ℕ) (f g : Fault) → slice_get faults k ≡ Some f → slice_get faults (k + 1) ≡ Some g → is_lt (fault_order g f) ≡ false

-- the fault is not before the last one
pub record MayFollow (faults : List Fault) (g : Fault) : Type 0 where
  pub last : (front : List Fault) (f : Fault) → faults ≡ front ++ f ∷ [] → is_lt (fault_order g f) ≡ false

pub record EndsWith (faults : List Fault) (f : Fault) : Type 0 where
  pub front : List Fault
  pub is : faults ≡ front ++ f ∷ []
