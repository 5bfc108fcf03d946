-- What the definition of the command line says at words that are written out.
use Rattle.std.proofs.Common.{◌≡◌, refl, [], ◌∷◌, codes, ℕ, List}
use Rattle.std.specs.Prelude.{Ok, Err}
use Rattle.clap.proofs.OnLiterals.{clap_on_literals}
use Rattle.sc_args.specs.Words.{asked_of, tokens, project, usage, bad_file}

pub no_word : (program : List ℕ) → asked_of (program ∷ []) ≡ Err usage
unfolding asked_of clap_on_literals
no_word program = refl

pub unknown_word : (program : List ℕ) → asked_of (program ∷ codes "frob" ∷ []) ≡ Err usage
unfolding asked_of clap_on_literals
unknown_word program = refl

pub word_too_few : (program : List ℕ) → asked_of (program ∷ codes "tokens" ∷ codes "a" ∷ []) ≡ Err usage
unfolding asked_of clap_on_literals
word_too_few program = refl

pub project_too_few : (program : List ℕ) → asked_of (program ∷ codes "project" ∷ codes "a" ∷ []) ≡ Err usage
unfolding asked_of clap_on_literals
project_too_few program = refl

pub parse_too_many : (program : List ℕ) → asked_of (program ∷ codes "parse" ∷ codes "a" ∷ codes "b" ∷ codes "c" ∷ []) ≡ Err usage
unfolding asked_of clap_on_literals
parse_too_many program = refl

choices_in_order : (program : List ℕ)
    → asked_of (program ∷ codes "project" ∷ codes "a" ∷ codes "b" ∷ codes "X=0" ∷ codes "Y=1" ∷ codes "" ∷ []) ≡ Ok (project (codes "a") (codes "b") (codes "X=0" ∷ codes "Y=1" ∷ [] ∷ []))
unfolding asked_of clap_on_literals
choices_in_order program = refl

pub word_too_many : (program : List ℕ) → asked_of (program ∷ codes "conflicts" ∷ codes "x" ∷ []) ≡ Err usage
unfolding asked_of clap_on_literals
word_too_many program = refl

pub help_flag : (program : List ℕ) → asked_of (program ∷ codes "tokens" ∷ codes "--help" ∷ []) ≡ Err usage
unfolding asked_of clap_on_literals
help_flag program = refl

pub help_word : (program : List ℕ) → asked_of (program ∷ codes "help" ∷ []) ≡ Err usage
unfolding asked_of clap_on_literals
help_word program = refl

plain_names : (program : List ℕ) → asked_of (program ∷ codes "tokens" ∷ codes "a" ∷ codes "b" ∷ []) ≡ Ok (tokens (codes "a") (codes "b"))
unfolding asked_of clap_on_literals
plain_names program = refl

name_after_dashes : (program : List ℕ) → asked_of (program ∷ codes "tokens" ∷ codes "--" ∷ codes "-a" ∷ codes "b" ∷ []) ≡ Ok (tokens (codes "-a") (codes "b"))
unfolding asked_of clap_on_literals
name_after_dashes program = refl

empty_name : (program : List ℕ) → asked_of (program ∷ codes "tokens" ∷ codes "a" ∷ [] ∷ []) ≡ Err bad_file
unfolding asked_of clap_on_literals
empty_name program = refl

name_with_a_control : (program : List ℕ) → asked_of (program ∷ codes "tokens" ∷ codes "a" ∷ (98 ∷ 31 ∷ []) ∷ []) ≡ Err bad_file
unfolding asked_of clap_on_literals
name_with_a_control program = refl
