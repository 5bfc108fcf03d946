-- What stands on one line.
use Rattle.std.specs.Prelude.{◌≡◌, ℕ, true, List, Some}
use Rattle.c11_macros.specs.Hidden.{Hidden, Provenance}
use Rattle.c11_macros.specs.Macros.{Definition, IsOneLineList, Macros}
use Rattle.sc_model.specs.Bytes.{has_no_newline}

-- a token and the name of its file
pub record IsOneLine {P : Type 0} (provenance : Provenance P) (t : Hidden P) : Type 0 where
  pub spelling : has_no_newline t.spelling ≡ true
  pub file : has_no_newline (provenance.place t.place).file ≡ true

-- the list of each macro
pub record AreOneLine (macros : Macros) : Type 0 where
  pub each : (name : List ℕ) (d : Definition) → macros name ≡ Some d → IsOneLineList d.replacement

-- a token that a substitution put in stands where it stood
pub record IsInPlace {P : Type 0} (provenance : Provenance P) : Type 0 where
  pub place : (p : P) → provenance.place (provenance.mark p) ≡ provenance.place p
