-- The configuration that words `NAME=OPTION` choose.
use Rattle.std.specs.Prelude.{◌≡◌, ℕ, ◌<◌, ◌==◌, ◌+◌, slice_index_or, List, [], ◌∷◌, length, take, drop, map, slice_get, Option, Some, None, is_some, option_map, unwrap_or, Result, Ok, Err, if◌then◌else◌}
use Rattle.std.specs.List.{position, range_with_len}
use Rattle.std.specs.Option.{ok_or}
use Rattle.sc_model.specs.Bytes.{same_bytes}
use Rattle.sc_model.specs.Space.{VariableOption, Variable, Space, option_words}
use Rattle.sc_space.specs.declared.config.Choice.{Choice}
use Rattle.sc_space.specs.SpaceFile.{Fault, unknown_variable, repeated_variable, unknown_option, ◌>>=◌}

-- what stands before and after the first `=`
abbrev pub split_word : List ℕ → Option (List ℕ × List ℕ)
split_word word = option_map (λ i. (take i word, drop (i + 1) word)) (position (λ b. b == 61) word)

-- the place of the variable with this name
abbrev pub variable_named : Space → List ℕ → Option ℕ
variable_named space name = position (λ (v : Variable). same_bytes v.name name) space.variables

-- the options of the variable at this place
abbrev pub options_at : Space → ℕ → List VariableOption
options_at space v = unwrap_or (option_map (λ (v : Variable). v.options) (slice_get space.variables v)) []

-- the place of the option that is written so
abbrev pub option_written : List VariableOption → List ℕ → Option ℕ
option_written options word = position (same_bytes word) (option_words options)

-- the option that the choices give to a variable, if they name it
abbrev pub option_for : List Choice → ℕ → Option ℕ
option_for [] v = None
option_for (choice ∷ choices) v = if choice.variable == v then Some choice.option else option_for choices v

-- the option chosen for each variable, in the order of the variables, is that of the choices
pub record Fills (choices : List Choice) (chosen : List (Option ℕ)) : Type 0 where
  pub at : (v : ℕ) → v < length chosen → slice_index_or chosen v None ≡ option_for choices v

-- a variable is chosen once
abbrev pub check_fresh : List Choice → ℕ → List ℕ → Result (Unit {0}) Fault
check_fresh before v name = if is_some (option_for before v) then Err (repeated_variable name) else Ok tt

unfoldable pub read_parts : Space → List Choice → List ℕ × List ℕ → Result Choice Fault
read_parts space before parts = do
  v ← ok_or (variable_named space parts.0) (unknown_variable parts.0)
  fresh ← check_fresh before v parts.0
  o ← ok_or (option_written (options_at space v) parts.1) (unknown_option parts.0)
  Ok (record { variable = v; option = o })

-- what a word chooses, after these choices
unfoldable pub read_choice : Space → List Choice → List ℕ → Result Choice Fault
read_choice space before word = ok_or (split_word word) (unknown_variable word) >>= read_parts space before

-- each word is read before the next
unfoldable pub read_choices : Space → List Choice → List (List ℕ) → Result (List Choice) Fault
read_choices space before [] = Ok before
read_choices space before (word ∷ words) = do
  choice ← read_choice space before word
  read_choices space (choice ∷ before) words

-- a variable that no word names has its first option
abbrev pub config_of : Space → List Choice → List ℕ
config_of space choices = map (λ v. unwrap_or (option_for choices v) 0) (range_with_len 0 (length space.variables))

unfoldable pub read_config : Space → List (List ℕ) → Result (List ℕ) Fault
read_config space words = do
  choices ← read_choices space [] words
  Ok (config_of space choices)
