-- What the words of a call ask for. `clap` says which errors words have, and what it finds in them.
use Rattle.std.specs.Prelude.{◌&&◌, ◌==◌, ℕ, Bool, true, not, List, [], ◌∷◌, length, Option, Some, None, Result, Ok, Err, if◌then◌else◌, codes, nat_le, slice_index, unwrap_or}
use Rattle.std.specs.List.{list_all}
use Rattle.std.specs.Char.{is_ascii_digit}
use Rattle.std.specs.Str.{bytes_eq}
use Rattle.std.specs.Str.Parse.{digits_value}
use Rattle.clap.specs.Lexer.{usize_max}
use Rattle.clap.specs.Words.{App, Kinds, Row, Rule, Text, all_of, fault_of, first_of, new_app, new_rule, subcommand_of, with_rule, with_subcommand}

pub data Asked : Type 0 where
  tokens : (space file : List ℕ) → Asked
  parse : (space file : List ℕ) → Asked
  project : (space file : List ℕ) (choices : List (List ℕ)) → Asked
  conflicts : Asked
  make : (items : ℕ) → Asked

pub data Misuse : Type 0 where
  usage : Misuse
  bad_file : Misuse
  bad_count : Misuse

-- A main file's name is not empty and has no byte below 32.
abbrev pub is_file_name : List ℕ → Bool
is_file_name name = not (length name == 0) && list_all (nat_le 32) name

-- The digits, without a leading zero, of a number from 1 to 100,000.
abbrev pub is_count : List ℕ → Bool
is_count word = list_all is_ascii_digit word && not (slice_index word 0 == 48) && nat_le 1 (digits_value 10 word) && nat_le (digits_value 10 word) 100000

-- ---- the command: `superc tokens SPACE FILE`, `superc parse SPACE FILE`,
-- `superc project SPACE FILE [NAME=OPTION]...`, `superc conflicts` and `superc make N`

abbrev pub required_rule : Text → Rule
required_rule id = record (new_rule id) { value_names = 1; required = true }

-- Any number of words, none too.
abbrev pub choices_rule : Rule
choices_rule = record (new_rule (codes "choices")) { range = Some (record { start_inclusive = 0; end_inclusive = usize_max }); value_names = 1 }

-- A command on a space file and a main file.
abbrev pub file_app : Text → App
file_app name = with_rule (with_rule (new_app name) (required_rule (codes "space"))) (required_rule (codes "file"))

abbrev pub project_app : App
project_app = with_rule (file_app (codes "project")) choices_rule

abbrev pub conflicts_app : App
conflicts_app = new_app (codes "conflicts")

abbrev pub make_app : App
make_app = with_rule (new_app (codes "make")) (required_rule (codes "items"))

-- A subcommand is required.
abbrev pub bare_app : App
bare_app = record (new_app (codes "superc")) { top = record (new_app (codes "superc")).top { subcommand_required = true } }

abbrev pub superc_app : App
superc_app =
    with_subcommand (with_subcommand (with_subcommand (with_subcommand (with_subcommand bare_app (file_app (codes "tokens")).top) (file_app (codes "parse")).top) project_app.top) conflicts_app.top)
    make_app.top

-- ---- what is found in the words

-- A command with the texts of its two files, each of which is required.
abbrev pub asked_with : (Text → Text → Asked) → Option Text → Option Text → Result Asked Misuse
asked_with command (Some space) (Some file) = if is_file_name file then Ok (command space file) else Err bad_file
asked_with command _ _ = Err usage

abbrev pub asked_on_files : (Text → Text → Asked) → List Row → Result Asked Misuse
asked_on_files command rows = asked_with command (first_of (codes "space") rows) (first_of (codes "file") rows)

abbrev pub choices_in : List Row → List Text
choices_in rows = unwrap_or (all_of (codes "choices") rows) []

-- A file of so many items.
abbrev pub asked_to_make : Option Text → Result Asked Misuse
asked_to_make (Some word) = if is_count word then Ok (make (digits_value 10 word)) else Err bad_count
asked_to_make None = Err usage

-- What the command that was named asks for, with what was found after it.
abbrev pub asked_by : Option (Text × List Row) → Result Asked Misuse
asked_by None = Err usage
asked_by (Some p) =
    if bytes_eq p.0 (codes "tokens") then asked_on_files tokens p.1
    else if bytes_eq p.0 (codes "parse") then asked_on_files parse p.1
    else if bytes_eq p.0 (codes "project") then asked_on_files (λ space file. project space file (choices_in p.1)) p.1
    else if bytes_eq p.0 (codes "conflicts") then Ok conflicts
    else if bytes_eq p.0 (codes "make") then asked_to_make (first_of (codes "items") p.1) else Err usage

-- What the words ask for, given the kinds of their errors. Words with an error, as those that ask
-- for help, are no use of the command.
abbrev pub asked_where : Kinds → List Text → Result Asked Misuse
asked_where [] words = asked_by (subcommand_of superc_app words)
asked_where (k ∷ ks) words = Err usage

-- What the words ask for, of which the first is the program's name.
unfoldable pub asked_of : List Text → Result Asked Misuse
asked_of words = asked_where (fault_of superc_app words) words
