-- What a space file says, or the first reason for which it is refused.
use Rattle.std.specs.Prelude.{ℕ, ◌==◌, ◌&&◌, ◌||◌, ◌+◌, ◌++◌, ◌^◌, not, nat_lt, Bool, true, false, List, [], ◌∷◌, length, codes, decimal, pos, Option, Some, None, option_map, Result, Ok, Err, if◌then◌else◌}
use Rattle.std.specs.List.{list_all, list_any}
use Rattle.std.specs.Option.{option_and_then, ok_or}
use Rattle.std.specs.Str.{is_utf8}
use Rattle.sc_model.specs.Bytes.{same_bytes, is_between, is_digit}
use Rattle.sc_model.specs.Outside.{largest_file}
use Rattle.sc_model.specs.Space.{VariableOption, undefined, number, text, Variable, Space}
use Rattle.sc_model.specs.Cause as causes
use Rattle.sc_model.specs.declared.cause.Cause.{Cause}
use Rattle.sc_model.specs.declared.cause.Cause.TheVariants.{BadIf}
use Rattle.sc_model.specs.declared.standard.Standard.{Standard}
use Rattle.sc_model.specs.declared.standard.Standard.TheVariants.{C11}
use Rattle.c11_macros.specs.Macros.{predefined_names}
use Rattle.sc_space.specs.Settings.{setting, limit_of, directory_of, date_of, standard_of, valid_of}
use Rattle.sc_space.specs.Texts.{Texts}
use Rattle.toml.specs.Data.{Data, string, integer, array, Items, no_items, item, Members, no_members, member, as_table, get_member}
use Rattle.toml.specs.Parse.{parse_document}

-- Why a space file, or the words for a configuration, are refused, with what is at fault. The last
-- two tell that no configuration is valid, or that the chosen one isn't.
pub data Fault : Type 0 where
  too_large : Fault
  not_toml : Fault
  unknown_key : (key : List ℕ) → Fault
  no_variables : Fault
  bad_name : (name : List ℕ) → Fault
  bad_option : (name : List ℕ) → Fault
  repeated_option : (name : List ℕ) → Fault
  too_many : Fault
  bad_limit : (key : List ℕ) → Fault
  bad_include : (place : List ℕ) → Fault
  bad_date : (key : List ℕ) → Fault
  bad_standard : Fault
  bad_valid : (cause : Cause) → Fault
  unknown_variable : (name : List ℕ) → Fault
  repeated_variable : (name : List ℕ) → Fault
  unknown_option : (name : List ℕ) → Fault
  no_configuration : Fault
  invalid : Fault

-- the first fault ends the reading
infixl 10 ◌>>=◌
abbrev pub ◌>>=◌ : {A B : Type 0} → Result A Fault → (A → Result B Fault) → Result B Fault
Ok a >>= f = f a
Err fault >>= f = Err fault

-- The table that the file is: text in UTF-8, by the grammar of TOML 1.1. Its members are in the
-- order of their keys' bytes.
unfoldable pub read_document : List ℕ → Result Members Fault
read_document bytes =
    if nat_lt largest_file (length bytes) then Err too_large
    else if is_utf8 bytes then ok_or (parse_document bytes) not_toml else Err not_toml

-- the keys that a space file may have
abbrev pub known_keys : List (List ℕ)
known_keys = codes "variables" ∷ codes "include" ∷ codes "branches" ∷ codes "include_depth" ∷ codes "date" ∷ codes "time" ∷ codes "standard" ∷ codes "valid" ∷ []

-- the first key that is not known is at fault
unfoldable pub check_keys : Members → Result (Unit {0}) Fault
check_keys no_members = Ok tt
check_keys (member key value ms) = if list_any (same_bytes key) known_keys then check_keys ms else Err (unknown_key key)

unfoldable pub variables_table : Members → Result Members Fault
variables_table document = ok_or (option_and_then as_table (get_member (codes "variables") document)) no_variables

-- an identifier (C11 6.4.2.1) in ASCII
abbrev pub is_identifier_start : ℕ → Bool
is_identifier_start b = is_between 65 90 b || is_between 97 122 b || b == 95

abbrev pub is_identifier_byte : ℕ → Bool
is_identifier_byte b = is_identifier_start b || is_digit b

unfoldable pub is_ascii_identifier : List ℕ → Bool
is_ascii_identifier [] = false
is_ascii_identifier (b ∷ bs) = is_identifier_start b && list_all is_identifier_byte bs

-- the names that no program may define (C11 6.10.8)
abbrev pub protected_names : List (List ℕ)
protected_names = codes "defined" ∷ codes "__VA_ARGS__" ∷ predefined_names

unfoldable pub is_protected : List ℕ → Bool
is_protected name = list_any (same_bytes name) protected_names

-- The text `undef`, another text that is a replacement list, or a whole number below 2 ^ 63, as an
-- option of the name.
unfoldable pub read_option : Texts → List ℕ → Data → Option VariableOption
read_option texts name (string bytes) =
    if same_bytes bytes (codes "undef") then Some undefined else option_map (text bytes) (texts name bytes)
read_option texts name (integer (pos n)) = if nat_lt n (2 ^ 63) then Some (number n) else None
read_option texts name _ = None

-- the options, if each item is one
unfoldable pub read_each : Texts → List ℕ → Items → Option (List VariableOption)
read_each texts name no_items = Some []
read_each texts name (item value values) =
    option_and_then (λ o. option_map (λ os. o ∷ os) (read_each texts name values)) (read_option texts name value)

-- 1 to 64 options
abbrev pub few : List VariableOption → Option (List VariableOption)
few options = if is_between 1 64 (length options) then Some options else None

unfoldable pub read_options : Texts → List ℕ → Data → Option (List VariableOption)
read_options texts name (array values) = option_and_then few (read_each texts name values)
read_options texts name _ = None

-- texts are compared whole; the number 1 and the text `1` differ
abbrev pub same_option : VariableOption → VariableOption → Bool
same_option undefined undefined = true
same_option (number m) (number n) = m == n
same_option (text bytes list) (text others more) = same_bytes bytes others
same_option _ _ = false

unfoldable pub are_different : List VariableOption → Bool
are_different [] = true
are_different (o ∷ os) = not (list_any (same_option o) os) && are_different os

abbrev pub with_options : List ℕ → List VariableOption → Result Variable Fault
with_options name options = if are_different options then Ok (record { name = name; options = options }) else Err (repeated_option name)

unfoldable pub read_variable : Texts → List ℕ → Data → Result Variable Fault
read_variable texts name value =
    if is_ascii_identifier name && not (is_protected name)
    then ok_or (read_options texts name value) (bad_option name) >>= with_options name
    else Err (bad_name name)

-- each variable is read before the next
unfoldable pub read_variables : Texts → Members → Result (List Variable) Fault
read_variables texts no_members = Ok []
read_variables texts (member name value ms) = do
  v ← read_variable texts name value
  vs ← read_variables texts ms
  Ok (v ∷ vs)

unfoldable pub read_limit : List ℕ → ℕ → ℕ → ℕ → Members → Result ℕ Fault
read_limit key least most default document = ok_or (setting default (limit_of least most) (get_member key document)) (bad_limit key)

-- the directories, or the place of the first value that is none
unfoldable pub read_directories : ℕ → Items → Result (List (List ℕ)) Fault
read_directories place no_items = Ok []
read_directories place (item value values) = do
  name ← ok_or (directory_of value) (bad_include (decimal place))
  names ← read_directories (place + 1) values
  Ok (name ∷ names)

-- what is no array is refused as its first value
abbrev pub directories_of : Option Data → Result (List (List ℕ)) Fault
directories_of None = Ok []
directories_of (Some (array values)) = read_directories 0 values
directories_of (Some _) = Err (bad_include (decimal 0))

unfoldable pub read_include : Members → Result (List (List ℕ)) Fault
read_include document = directories_of (get_member (codes "include") document)

unfoldable pub read_date : List ℕ → ℕ → List ℕ → Members → Result (List ℕ) Fault
read_date key size default document = ok_or (setting default (date_of size) (get_member key document)) (bad_date key)

unfoldable pub read_standard : Members → Result Standard Fault
read_standard document = ok_or (setting C11 standard_of (get_member (codes "standard") document)) bad_standard

-- the text, if there is one
unfoldable pub read_valid : Members → Result (Option (List ℕ)) Fault
read_valid document = ok_or (setting None (λ value. option_map Some (valid_of value)) (get_member (codes "valid") document)) (bad_valid BadIf)

-- the variables with the settings that the file gives, or their defaults
unfoldable pub with_settings : List Variable → Members → Result Space Fault
with_settings variables document = do
  branches ← read_limit (codes "branches") 1 1000000 4096 document
  include_depth ← read_limit (codes "include_depth") 15 200 64 document
  include ← read_include document
  date ← read_date (codes "date") 11 (codes "Jan  1 1970") document
  time ← read_date (codes "time") 8 (codes "00:00:00") document
  standard ← read_standard document
  valid ← read_valid document
  Ok (record { variables = variables; include = include; branches = branches; include_depth = include_depth; date = date; time = time; standard = standard; valid = valid })

-- at most 1,024 variables
abbrev pub check_number : List Variable → Result (Unit {0}) Fault
check_number variables = if nat_lt 1024 (length variables) then Err too_many else Ok tt

-- what the file says, or its first fault
unfoldable pub read_space : Texts → List ℕ → Result Space Fault
read_space texts bytes = do
  document ← read_document bytes
  known ← check_keys document
  table ← variables_table document
  variables ← read_variables texts table
  few ← check_number variables
  with_settings variables document

-- how a fault is written: its name, and after a space its item
abbrev pub name_of : Fault → List ℕ
name_of too_large = codes "TooLarge"
name_of not_toml = codes "NotToml"
name_of (unknown_key key) = codes "UnknownKey"
name_of no_variables = codes "NoVariables"
name_of (bad_name name) = codes "BadName"
name_of (bad_option name) = codes "BadOption"
name_of (repeated_option name) = codes "RepeatedOption"
name_of too_many = codes "TooMany"
name_of (bad_limit key) = codes "BadLimit"
name_of (bad_include place) = codes "BadInclude"
name_of (bad_date key) = codes "BadDate"
name_of bad_standard = codes "BadStandard"
name_of (bad_valid cause) = codes "BadValid"
name_of (unknown_variable name) = codes "UnknownVariable"
name_of (repeated_variable name) = codes "RepeatedVariable"
name_of (unknown_option name) = codes "UnknownOption"
name_of no_configuration = codes "NoConfiguration"
name_of invalid = codes "Invalid"

abbrev pub item_of : Fault → Option (List ℕ)
item_of too_large = None
item_of not_toml = None
item_of (unknown_key key) = Some key
item_of no_variables = None
item_of (bad_name name) = Some name
item_of (bad_option name) = Some name
item_of (repeated_option name) = Some name
item_of too_many = None
item_of (bad_limit key) = Some key
item_of (bad_include place) = Some place
item_of (bad_date key) = Some key
item_of bad_standard = None
item_of (bad_valid cause) = Some (causes.name_of cause)
item_of (unknown_variable name) = Some name
item_of (repeated_variable name) = Some name
item_of (unknown_option name) = Some name
item_of no_configuration = None
item_of invalid = None

abbrev pub with_item : List ℕ → Option (List ℕ) → List ℕ
with_item name None = name
with_item name (Some thing) = name ++ codes " " ++ thing

abbrev pub fault_text : Fault → List ℕ
fault_text fault = with_item (name_of fault) (item_of fault)
