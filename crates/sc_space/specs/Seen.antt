-- A space and a refusal as the definitions see them.
use Rattle.std.specs.Prelude.{◌≡◌, map, option_map, string_bytes, Result, Ok, Err}
use Rattle.sc_model.specs.Space as model
use Rattle.sc_model.specs.Token.{Item}
use Rattle.sc_space.specs.declared.fault.SpaceFault.{SpaceFault}
use Rattle.sc_space.specs.declared.fault.SpaceFault.TheVariants as fault
use Rattle.sc_space.specs.declared.fault.SpaceStop.{SpaceStop}
use Rattle.sc_space.specs.declared.fault.SpaceStop.TheVariants as stop
use Rattle.sc_space.specs.declared.option.SpelledItem.{SpelledItem}
use Rattle.sc_space.specs.declared.option.VariableOption.{VariableOption}
use Rattle.sc_space.specs.declared.option.VariableOption.TheVariants.{Undefined, Number, Text}
use Rattle.sc_space.specs.declared.space.Space.{Space}
use Rattle.sc_space.specs.declared.space.Variable.{Variable}
use Rattle.sc_space.specs.SpaceFile.{Fault, too_large, not_toml, unknown_key, no_variables, bad_name, bad_option, repeated_option, too_many, bad_limit, bad_include, bad_date, bad_standard, bad_valid, unknown_variable, repeated_variable, unknown_option, no_configuration, invalid}

abbrev pub seen_item : SpelledItem → Item
seen_item i = record { kind = i.kind; spelling = i.spelling.items; space = i.space }

abbrev pub seen_option : VariableOption → model.VariableOption
seen_option Undefined = model.undefined
seen_option (Number n) = model.number n
seen_option (Text text list) = model.text (string_bytes text) (map seen_item list.items)

abbrev pub seen_variable : Variable → model.Variable
seen_variable v = record { name = string_bytes v.name; options = map seen_option v.options.items }

abbrev pub seen_space : Space → model.Space
seen_space space = record {
  variables = map seen_variable space.variables.items;
  include = map string_bytes space.include.items;
  branches = space.limits.branches;
  include_depth = space.limits.include_depth;
  date = string_bytes space.date;
  time = string_bytes space.time;
  standard = space.standard;
  valid = option_map string_bytes space.valid;
}

abbrev pub seen_fault : SpaceFault → Fault
seen_fault fault.TooLarge = too_large
seen_fault fault.NotToml = not_toml
seen_fault (fault.UnknownKey key) = unknown_key (string_bytes key)
seen_fault fault.NoVariables = no_variables
seen_fault (fault.BadName name) = bad_name (string_bytes name)
seen_fault (fault.BadOption name) = bad_option (string_bytes name)
seen_fault (fault.RepeatedOption name) = repeated_option (string_bytes name)
seen_fault fault.TooMany = too_many
seen_fault (fault.BadLimit key) = bad_limit (string_bytes key)
seen_fault (fault.BadInclude place) = bad_include (string_bytes place)
seen_fault (fault.BadDate key) = bad_date (string_bytes key)
seen_fault fault.BadStandard = bad_standard
seen_fault (fault.BadValid cause) = bad_valid cause
seen_fault (fault.UnknownVariable name) = unknown_variable (string_bytes name)
seen_fault (fault.RepeatedVariable name) = repeated_variable (string_bytes name)
seen_fault (fault.UnknownOption name) = unknown_option (string_bytes name)
seen_fault fault.NoConfiguration = no_configuration
seen_fault fault.Invalid = invalid

-- The call refuses for the fault of the definition, or memory ran out.
abbrev pub Refuses : {T : Type 0} → SpaceStop → Result T Fault → Type 0
Refuses (stop.Fault refusal) answer = answer ≡ Err (seen_fault refusal)
Refuses stop.OutOfMemory answer = Unit {0}

-- The call gave what the definition says: this value, or this fault. Or memory ran out.
abbrev pub Answers : {T U : Type 0} → (T → U) → Result T SpaceStop → Result U Fault → Type 0
Answers see (Ok value) answer = answer ≡ Ok (see value)
Answers see (Err refused) answer = Refuses refused answer
