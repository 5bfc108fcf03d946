-- What the words ask for has a main file's name.
use Rattle.std.proofs.Common.{◌≡◌, Bool, true, false, List, [], ◌∷◌, Option, Some, None, Result, Ok, Err, refl, subst}
use Rattle.std.specs.Prelude.{codes, if◌then◌else◌}
use Rattle.std.specs.Str.{bytes_eq}
use Rattle.std.specs.Str.Parse.{digits_value}
use Rattle.clap.specs.Words.{Kinds, Row, Text, fault_of, first_of, subcommand_of}
use Rattle.sc_args.specs.Words.{Asked, tokens, parse, project, conflicts, make, Misuse, bad_count, is_count, asked_to_make, bad_file, usage, is_file_name, asked_of, asked_by, asked_on_files, asked_where, asked_with, choices_in, superc_app}

-- a main file that is asked for has such a name
abbrev pub HasFileName : Asked → Type 0
HasFileName (tokens space file) = is_file_name file ≡ true
HasFileName (parse space file) = is_file_name file ≡ true
HasFileName (project space file choices) = is_file_name file ≡ true
HasFileName conflicts = Unit {0}
HasFileName (make items) = Unit {0}

abbrev IsNamed : Result Asked Misuse → Type 0
IsNamed (Ok asked) = HasFileName asked
IsNamed (Err misuse) = Unit {0}

-- a command on files that are named
abbrev IsOnFiles : (Text → Text → Asked) → Type 0
IsOnFiles command = (space file : Text) → is_file_name file ≡ true → HasFileName (command space file)

with-named : (command : Text → Text → Asked) → IsOnFiles command → (space file : Option Text) → IsNamed (asked_with command space file)
with-named command on (Some space) (Some file) = by (is_file_name file) refl
  where
    by : (b : Bool) → is_file_name file ≡ b → IsNamed (if b then Ok (command space file) else Err bad_file)
    by true e = on space file e
    by false e = tt
with-named command on (Some space) None = tt
with-named command on None file = tt

on_files-named : (command : Text → Text → Asked) → IsOnFiles command → (rows : List Row) → IsNamed (asked_on_files command rows)
on_files-named command on rows = with-named command on (first_of (codes "space") rows) (first_of (codes "file") rows)

make-named : (word : Option Text) → IsNamed (asked_to_make word)
make-named (Some word) = by (is_count word)
  where
    by : (b : Bool) → IsNamed (if b then Ok (make (digits_value 10 word)) else Err bad_count)
    by true = tt
    by false = tt
make-named None = tt

command-named : (a b c d e : Bool) (rows : List Row)
    → IsNamed (if a then asked_on_files tokens rows else if b then asked_on_files parse rows else if c then asked_on_files (λ space file. project space file (choices_in rows)) rows
    else if d then Ok conflicts else if e then asked_to_make (first_of (codes "items") rows) else Err usage)
command-named true b c d e rows = on_files-named tokens (λ space file e. e) rows
command-named false true c d e rows = on_files-named parse (λ space file e. e) rows
command-named false false true d e rows = on_files-named (λ space file. project space file (choices_in rows)) (λ space file e. e) rows
command-named false false false true e rows = tt
command-named false false false false true rows = make-named (first_of (codes "items") rows)
command-named false false false false false rows = tt

asked-named : (found : Option (Text × List Row)) → IsNamed (asked_by found)
asked-named None = tt
asked-named (Some p) =
    command-named (bytes_eq p.0 (codes "tokens")) (bytes_eq p.0 (codes "parse")) (bytes_eq p.0 (codes "project")) (bytes_eq p.0 (codes "conflicts")) (bytes_eq p.0 (codes "make")) p.1

words-named : (faults : Kinds) (words : List Text) → IsNamed (asked_where faults words)
words-named [] words = asked-named (subcommand_of superc_app words)
words-named (fault ∷ faults) words = tt

pub file-named : (words : List Text) (asked : Asked) → asked_of words ≡ Ok asked → HasFileName asked
unfolding asked_of
file-named words asked e = subst IsNamed e (words-named (fault_of superc_app words) words)
