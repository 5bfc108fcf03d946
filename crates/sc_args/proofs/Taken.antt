-- Which words `clap` takes for this command.
use Rattle.std.proofs.Common.{◌≡◌, ◌∙◌, ap, refl, [], ◌∷◌, codes, ℕ, List, true, false, arith, ◌==◌, ◌&&◌}
use Rattle.std.specs.Prelude.{Ok, Err, Some, None, if◌then◌else◌, Bool, option_and_then}
use Rattle.std.specs.Str.{bytes_eq}
use Rattle.clap.proofs.OnLiterals.{clap_on_literals}
use Rattle.clap.specs.Lexer.{strip_byte, long_of, long_of_rest, short_of, short_of_rest}
use Rattle.sc_args.specs.Laws.{IsPlainWord}
use Rattle.clap.specs.Words.{fault_of, subcommand_of}
use Rattle.sc_args.specs.Words.{asked_by, asked_of, asked_where, is_file_name, superc_app, tokens, parse, project, conflicts, bad_file}

pub conflicts_alone : (program : List ℕ) → asked_of (program ∷ codes "conflicts" ∷ []) ≡ Ok conflicts
unfolding asked_of clap_on_literals
conflicts_alone program = refl

no_dashes : (word : List ℕ) → IsPlainWord word → bytes_eq word (45 ∷ 45 ∷ []) ≡ false
no_dashes [] plain = refl
no_dashes (x ∷ xs) plain = differs (x == 45) _ plain
  where
    differs : (b rest : Bool) → (if b then Some xs else None) ≡ None → (b && rest) ≡ false
    differs true rest e = grind arith
    differs false rest e = refl

no_long : (word : List ℕ) → IsPlainWord word → long_of word ≡ None
no_long word plain = ap (λ o. option_and_then long_of_rest (option_and_then (strip_byte 45) o)) plain

no_short : (word : List ℕ) → IsPlainWord word → short_of word ≡ None
no_short word plain = ap (option_and_then short_of_rest) plain

tokens-no_fault : (program space file : List ℕ) → IsPlainWord space → IsPlainWord file → fault_of superc_app (program ∷ codes "tokens" ∷ space ∷ file ∷ []) ≡ []
unfolding clap_on_literals
tokens-no_fault program space file plain_space plain_file =
    rw (no_dashes space plain_space, no_long space plain_space, no_short space plain_space, no_dashes file plain_file, no_long file plain_file, no_short file plain_file) refl

tokens-found : (program space file : List ℕ) → IsPlainWord space → IsPlainWord file
    → asked_by (subcommand_of superc_app (program ∷ codes "tokens" ∷ space ∷ file ∷ [])) ≡ (if is_file_name file then Ok (tokens space file) else Err bad_file)
unfolding clap_on_literals
tokens-found program space file plain_space plain_file =
    rw (no_dashes space plain_space, no_long space plain_space, no_short space plain_space, no_dashes file plain_file, no_long file plain_file, no_short file plain_file) refl

pub tokens_taken : (program space file : List ℕ) → IsPlainWord space → IsPlainWord file
    → asked_of (program ∷ codes "tokens" ∷ space ∷ file ∷ []) ≡ (if is_file_name file then Ok (tokens space file) else Err bad_file)
unfolding asked_of
tokens_taken program space file plain_space plain_file =
    ap (λ faults. asked_where faults (program ∷ codes "tokens" ∷ space ∷ file ∷ [])) (tokens-no_fault program space file plain_space plain_file)
    ∙ tokens-found program space file plain_space plain_file

parse-no_fault : (program space file : List ℕ) → IsPlainWord space → IsPlainWord file → fault_of superc_app (program ∷ codes "parse" ∷ space ∷ file ∷ []) ≡ []
unfolding clap_on_literals
parse-no_fault program space file plain_space plain_file =
    rw (no_dashes space plain_space, no_long space plain_space, no_short space plain_space, no_dashes file plain_file, no_long file plain_file, no_short file plain_file) refl

parse-found : (program space file : List ℕ) → IsPlainWord space → IsPlainWord file
    → asked_by (subcommand_of superc_app (program ∷ codes "parse" ∷ space ∷ file ∷ [])) ≡ (if is_file_name file then Ok (parse space file) else Err bad_file)
unfolding clap_on_literals
parse-found program space file plain_space plain_file =
    rw (no_dashes space plain_space, no_long space plain_space, no_short space plain_space, no_dashes file plain_file, no_long file plain_file, no_short file plain_file) refl

pub parse_taken : (program space file : List ℕ) → IsPlainWord space → IsPlainWord file
    → asked_of (program ∷ codes "parse" ∷ space ∷ file ∷ []) ≡ (if is_file_name file then Ok (parse space file) else Err bad_file)
unfolding asked_of
parse_taken program space file plain_space plain_file =
    ap (λ faults. asked_where faults (program ∷ codes "parse" ∷ space ∷ file ∷ [])) (parse-no_fault program space file plain_space plain_file)
    ∙ parse-found program space file plain_space plain_file

project-no_fault : (program space file : List ℕ) → IsPlainWord space → IsPlainWord file → fault_of superc_app (program ∷ codes "project" ∷ space ∷ file ∷ []) ≡ []
unfolding clap_on_literals
project-no_fault program space file plain_space plain_file =
    rw (no_dashes space plain_space, no_long space plain_space, no_short space plain_space, no_dashes file plain_file, no_long file plain_file, no_short file plain_file) refl

project-found : (program space file : List ℕ) → IsPlainWord space → IsPlainWord file
    → asked_by (subcommand_of superc_app (program ∷ codes "project" ∷ space ∷ file ∷ [])) ≡ (if is_file_name file then Ok (project space file []) else Err bad_file)
unfolding clap_on_literals
project-found program space file plain_space plain_file =
    rw (no_dashes space plain_space, no_long space plain_space, no_short space plain_space, no_dashes file plain_file, no_long file plain_file, no_short file plain_file) refl

pub project_taken : (program space file : List ℕ) → IsPlainWord space → IsPlainWord file
    → asked_of (program ∷ codes "project" ∷ space ∷ file ∷ []) ≡ (if is_file_name file then Ok (project space file []) else Err bad_file)
unfolding asked_of
project_taken program space file plain_space plain_file =
    ap (λ faults. asked_where faults (program ∷ codes "project" ∷ space ∷ file ∷ [])) (project-no_fault program space file plain_space plain_file)
    ∙ project-found program space file plain_space plain_file

project_with-no_fault : (program space file choice : List ℕ) → IsPlainWord space → IsPlainWord file → IsPlainWord choice → fault_of superc_app (program ∷ codes "project" ∷ space ∷ file ∷ choice ∷ []) ≡ []
unfolding clap_on_literals
project_with-no_fault program space file choice plain_space plain_file plain_choice =
    rw (no_dashes space plain_space, no_long space plain_space, no_short space plain_space, no_dashes file plain_file, no_long file plain_file, no_short file plain_file, no_dashes choice plain_choice, no_long choice plain_choice, no_short choice plain_choice) refl

project_with-found : (program space file choice : List ℕ) → IsPlainWord space → IsPlainWord file → IsPlainWord choice
    → asked_by (subcommand_of superc_app (program ∷ codes "project" ∷ space ∷ file ∷ choice ∷ [])) ≡ (if is_file_name file then Ok (project space file (choice ∷ [])) else Err bad_file)
unfolding clap_on_literals
project_with-found program space file choice plain_space plain_file plain_choice =
    rw (no_dashes space plain_space, no_long space plain_space, no_short space plain_space, no_dashes file plain_file, no_long file plain_file, no_short file plain_file, no_dashes choice plain_choice, no_long choice plain_choice, no_short choice plain_choice) refl

pub project_with_taken : (program space file choice : List ℕ) → IsPlainWord space → IsPlainWord file → IsPlainWord choice
    → asked_of (program ∷ codes "project" ∷ space ∷ file ∷ choice ∷ []) ≡ (if is_file_name file then Ok (project space file (choice ∷ [])) else Err bad_file)
unfolding asked_of
project_with_taken program space file choice plain_space plain_file plain_choice =
    ap (λ faults. asked_where faults (program ∷ codes "project" ∷ space ∷ file ∷ choice ∷ [])) (project_with-no_fault program space file choice plain_space plain_file plain_choice)
    ∙ project_with-found program space file choice plain_space plain_file plain_choice
