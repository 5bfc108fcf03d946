-- What each space that was read keeps.
use Rattle.std.specs.Prelude.{◌≡◌, ℕ, ◌<◌, ◌≤◌, ◌^◌, true, false, List, map, length, All, AllPairs}
use Rattle.std.specs.Cmp.Lexicographic.{slice_cmp}
use Rattle.std.specs.List.{list_all, list_any}
use Rattle.std.specs.Ordering.{nat_cmp}
use Rattle.std.specs.declared.cmp.Ordering.TheVariants.{Less}
use Rattle.sc_model.specs.Bytes.{has_no_newline, same_bytes}
use Rattle.sc_model.specs.Growth.{IsOneToOne}
use Rattle.c11_tokens.specs.Lex.{is_identifier}
use Rattle.sc_model.specs.Sets.{HasOptions}
use Rattle.sc_model.specs.Space.{VariableOption, undefined, number, text, Variable, Space, arities_of}
use Rattle.c11_macros.specs.Macros.{predefined_names}
use Rattle.sc_text.specs.Text.{is_word}
use Rattle.sc_space.specs.Settings.{is_directory, is_date_byte}
use Rattle.sc_space.specs.SpaceFile.{is_ascii_identifier, is_protected}

-- a number is one of the machine's signed whole numbers, and a list stands on one line
abbrev pub IsInRange : VariableOption → Type 0
IsInRange undefined = Unit {0}
IsInRange (number n) = n < 2 ^ 63
IsInRange (text bytes list) = All (λ i. has_no_newline i.spelling ≡ true) list

pub record IsSoundVariable (v : Variable) : Type 0 where
  pub ascii : is_ascii_identifier v.name ≡ true
  pub identifier : is_identifier v.name ≡ true
  pub word : is_word v.name ≡ true
  pub unprotected : is_protected v.name ≡ false
  pub not_predefined : list_any (same_bytes v.name) predefined_names ≡ false
  pub some : 0 < length v.options
  pub few : length v.options ≤ 64
  pub different : IsOneToOne v.options
  pub in_range : All IsInRange v.options

abbrev pub IsBefore : List ℕ → List ℕ → Type 0
IsBefore a b = slice_cmp nat_cmp a b ≡ Less

abbrev pub names_of : List Variable → List (List ℕ)
names_of variables = map (λ v. v.name) variables

pub record IsSound (space : Space) : Type 0 where
  pub each : All IsSoundVariable space.variables
  pub ascending : AllPairs IsBefore (names_of space.variables)
  pub names_differ : IsOneToOne (names_of space.variables)
  pub has_options : HasOptions (arities_of space)
  pub few_variables : length space.variables ≤ 1024
  pub branches_least : 1 ≤ space.branches
  pub branches_most : space.branches ≤ 1000000
  pub include_depth_least : 15 ≤ space.include_depth
  pub include_depth_most : space.include_depth ≤ 200
  pub directories : All (λ name. is_directory name ≡ true) space.include
  pub date_long : length space.date ≡ 11
  pub date_plain : list_all is_date_byte space.date ≡ true
  pub time_long : length space.time ≡ 8
  pub time_plain : list_all is_date_byte space.time ≡ true
