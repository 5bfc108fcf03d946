-- The definition, computed on examples.
use Rattle.std.proofs.Common.{◌≡◌, List, [], ◌∷◌, codes, decimal, None, Some, Ok, Err, refl}
use Rattle.std.specs.Prelude.{⊤}
use Rattle.std.specs.Str.{chars, is_utf8}
use Rattle.sc_model.specs.Space.{undefined, number, text, Variable, Space}
use Rattle.sc_space.specs.Texts.{Texts}
use Rattle.sc_space.specs.Settings.{limit_of, directory_of, date_of, standard_of, valid_of}
use Rattle.sc_space.specs.SpaceFile.{unknown_key, no_variables, bad_name, bad_option, repeated_option, not_toml, bad_limit, bad_include, bad_date, bad_standard, bad_valid, read_document, check_keys, variables_table, is_ascii_identifier, is_protected, read_option, read_each, read_options, are_different, read_variable, read_variables, read_limit, read_directories, read_include, read_date, read_standard, read_valid, with_settings, read_space}
use Rattle.toml.proofs.OnLiterals.{toml_on_literals}
use Rattle.sc_model.specs.declared.cause.Cause.TheVariants.{BadIf}
use Rattle.sc_model.specs.declared.standard.Standard.TheVariants.{C11, C23, Gnu11}

unfoldable on_examples : ⊤
unfolding toml_on_literals chars is_utf8 read_document check_keys variables_table is_ascii_identifier is_protected read_option read_each read_options are_different read_variable read_variables read_limit limit_of read_directories directory_of read_include read_date date_of read_standard standard_of read_valid valid_of with_settings read_space
on_examples = tt

-- no text is an option
abbrev no_texts : Texts
no_texts name bytes = None

empty_file : read_space no_texts [] ≡ Err no_variables
unfolding on_examples
empty_file = refl

no_text : read_space no_texts (255 ∷ []) ≡ Err not_toml
unfolding on_examples
no_text = refl

least_key : read_space no_texts (codes "b = 1\na = 1\n") ≡ Err (unknown_key (codes "a"))
unfolding on_examples
least_key = refl

same_option_twice : read_space no_texts (codes "[variables]\nA = [1, 1]\n") ≡ Err (repeated_option (codes "A"))
unfolding on_examples
same_option_twice = refl

first_variable : read_space no_texts (codes "[variables]\ndefined = [0]\nA = []\n") ≡ Err (bad_option (codes "A"))
unfolding on_examples
first_variable = refl

protected_name : read_space no_texts (codes "[variables]\n__LINE__ = [0]\n") ≡ Err (bad_name (codes "__LINE__"))
unfolding on_examples
protected_name = refl

-- the settings of a file that names none
abbrev with_defaults : List Variable → Space
with_defaults variables = record { variables = variables; include = []; branches = 4096; include_depth = 64; date = codes "Jan  1 1970"; time = codes "00:00:00"; standard = C11; valid = None }

two_variables : read_space no_texts (codes "[variables]\nHZ = [\"undef\", 100]\nA = [0]\n")
    ≡ Ok (with_defaults (record { name = codes "A"; options = number 0 ∷ [] } ∷ record { name = codes "HZ"; options = undefined ∷ number 100 ∷ [] } ∷ []))
unfolding on_examples
two_variables = refl

limit_first : read_space no_texts (codes "date = 1\nbranches = 0\ninclude_depth = 0\n[variables]\n") ≡ Err (bad_limit (codes "branches"))
unfolding on_examples
limit_first = refl

place_of_directory : read_space no_texts (codes "include = [\"a\", \"\", 1]\n[variables]\n") ≡ Err (bad_include (decimal 1))
unfolding on_examples
place_of_directory = refl

date_with_quote : read_space no_texts (codes "time = 1\ndate = \"Jan \\\" 1970\"\n[variables]\n") ≡ Err (bad_date (codes "date"))
unfolding on_examples
date_with_quote = refl

standard_last : read_space no_texts (codes "standard = 23\ntime = 1\n[variables]\n") ≡ Err (bad_date (codes "time"))
unfolding on_examples
standard_last = refl

standard_of_gnu : read_space no_texts (codes "standard = \"gnu\"\n[variables]\n") ≡ Err bad_standard
unfolding on_examples
standard_of_gnu = refl

standard_c23 : read_space no_texts (codes "standard = \"c23\"\n[variables]\n") ≡ Ok (record (with_defaults []) { standard = C23 })
unfolding on_examples
standard_c23 = refl

standard_gnu11 : read_space no_texts (codes "standard = \"gnu11\"\n[variables]\n") ≡ Ok (record (with_defaults []) { standard = Gnu11 })
unfolding on_examples
standard_gnu11 = refl

valid_text : read_space no_texts (codes "valid = \"!A\"\n[variables]\n") ≡ Ok (record (with_defaults []) { valid = Some (codes "!A") })
unfolding on_examples
valid_text = refl

valid_number : read_space no_texts (codes "valid = 1\n[variables]\n") ≡ Err (bad_valid BadIf)
unfolding on_examples
valid_number = refl

valid_of_two_lines : read_space no_texts (codes "valid = \"1\\n\"\n[variables]\n") ≡ Err (bad_valid BadIf)
unfolding on_examples
valid_of_two_lines = refl

valid_last : read_space no_texts (codes "valid = 1\nstandard = 1\n[variables]\n") ≡ Err bad_standard
unfolding on_examples
valid_last = refl

-- every text is an option, with an empty list
abbrev all_texts : Texts
all_texts name bytes = Some []

number_and_text : read_space all_texts (codes "[variables]\nA = [1, \"1\"]\n") ≡ Ok (with_defaults (record { name = codes "A"; options = number 1 ∷ text (codes "1") [] ∷ [] } ∷ []))
unfolding on_examples
number_and_text = refl

same_text_twice : read_space all_texts (codes "[variables]\nA = [\"b\", 1, \"b\"]\n") ≡ Err (repeated_option (codes "A"))
unfolding on_examples
same_text_twice = refl

no_option : read_space no_texts (codes "[variables]\nA = [\"##\", \"##\"]\n") ≡ Err (bad_option (codes "A"))
unfolding on_examples
no_option = refl
