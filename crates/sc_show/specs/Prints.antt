-- What a printer printed, read so far, and what its numbers stand for.
use Rattle.std.specs.Prelude.{◌≡◌, ℕ, Bool, true, false, List, [], ◌∷◌, length, map, All, Some, slice_get}
use Rattle.std.specs.List.{list_all}
use Rattle.sc_base.specs.declared.id.Cond.{Cond}
use Rattle.sc_base.specs.declared.id.FileId.{FileId}
use Rattle.sc_base.specs.declared.place.Place as declared_place
use Rattle.sc_base.specs.Seen.{text_at}
use Rattle.sc_base.specs.Seen.{position_of}
use Rattle.sc_model.specs.Growth.{IsOneToOne}
use Rattle.sc_model.specs.Sets.{Sets, IsConfig, IsCond, Denotes}
use Rattle.sc_model.specs.Space.{Space, Variable}
use Rattle.sc_text.specs.Answer.{Condition}
use Rattle.sc_text.specs.Text.{Printed, Reading, TextLine, nothing_read, read_lines, condition_at, is_clear, is_word}
use Rattle.sc_show.specs.declared.printer.Printer.{Printer}

-- each name can stand in a line, and names one variable
pub record HasWordNames (space : Space) : Type 0 where
  pub words : All (λ (v : Variable). is_word v.name ≡ true) space.variables
  pub differ : IsOneToOne (map (λ (v : Variable). v.name) space.variables)

-- the options' words, each with the number of what remains
abbrev pub choices_of : List (List ℕ) → List ℕ → List (List ℕ × ℕ)
choices_of [] numbers = []
choices_of (word ∷ words) [] = []
choices_of (word ∷ words) (number ∷ numbers) = (word, number) ∷ choices_of words numbers

abbrev pub printed_place : ℕ → declared_place.Place → Printed
printed_place file p = record { file = file; position = position_of p }

-- the condition of this number has the configurations that pass the test
pub record IsNumberOf (s : Sets) (conditions : List Cond) (test : List ℕ → Bool) (number : ℕ) : Type 0 where
  pub cond : Cond
  pub found : slice_get conditions number ≡ Some cond
  pub means : Denotes s cond.0 test

-- the first two numbers are those of never and of always
pub record IsTable (s : Sets) (conditions : List Cond) : Type 0 where
  pub own : All (λ (cond : Cond). IsCond s cond.0) conditions
  pub never : IsNumberOf s conditions (λ _. false) 0
  pub always : IsNumberOf s conditions (λ _. true) 1

-- the tests that were read are those of the conditions
pub record Agrees (s : Sets) (conditions : List Cond) (tests : List Condition) : Type 0 where
  pub long : length tests ≡ length conditions
  pub each : (n : ℕ) (cond : Cond) → slice_get conditions n ≡ Some cond → (c : List ℕ) → IsConfig s.arities c → condition_at tests n c ≡ s.has cond.0 c

-- These lines of the text so far, read from the first to the last, give the conditions and the
-- files their numbers.
pub record Prints (space : Space) (s : Sets) (files : List (List ℕ)) (printer : Printer) (lines : List TextLine) : Type 0 where
  pub clear : list_all is_clear lines ≡ true
  pub reading : Reading
  pub read : read_lines space nothing_read lines ≡ Some reading
  pub unended : reading.ended ≡ false
  pub conditions : Agrees s printer.conditions.keys reading.conditions
  pub names : reading.files ≡ map (λ (f : FileId). text_at files f.0) printer.files.keys
