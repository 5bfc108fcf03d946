use Rattle.std.proofs.Common.{◌≡◌, ◌∙◌, Global, ap, ap₂, map, sym, Ok, Result, List, ℕ}
use Rattle.std.specs.declared.string.String.{String}
use Rattle.std.proofs.lemmas.Result.{IfErr-weaker, IfOk-weaker}
use Rattle.std.specs.Prelude.{string_bytes}
use Rattle.sc_args.proofs.FileNames.{file-named}
use Rattle.sc_args.specs.declared.command.Command.{Command}
use Rattle.sc_args.specs.Seen.{seen_command}
use Rattle.sc_args.specs.Words.{Asked, Misuse, tokens, parse, project, conflicts, make}
use Rattle.sc_core.proofs.Failing.{fails-with}
use Rattle.sc_core.proofs.texts.text_for.Goals as goal

-- the names of files that are passed on are those of the command
as-passed : (command : List ℕ → List ℕ → Asked) (asked : Result Asked Misuse) (space file passed_space passed_file : List ℕ) → passed_space ≡ space → passed_file ≡ file
    → asked ≡ Ok (command space file) → asked ≡ Ok (command passed_space passed_file)
as-passed command asked space file passed_space passed_file same_space same_file is = is ∙ ap₂ (λ s f. Ok (command s f)) (sym same_space) (sym same_file)

pub tokens_text-requires : goal.tokens_text-requires
tokens_text-requires g c =
    let asked = c.in_ok-space.ensures ∙ ap (λ (command : Command). Ok (seen_command command)) c.in-Tokens.is in
    rw c.as_str-in-Tokens.ensures.value (file-named _ _ asked)

pub returns-in-Tokens-clause-text : goal.returns-in-Tokens-clause-text
returns-in-Tokens-clause-text g c =
    let asked = as-passed tokens _ (string_bytes c.in-Tokens.space) (string_bytes c.in-Tokens.file) c.as_str.result.now c.as_str-in-Tokens.result.now c.as_str.ensures.value c.as_str-in-Tokens.ensures.value
    (c.in_ok-space.ensures ∙ ap (λ (command : Command). Ok (seen_command command)) c.in-Tokens.is) in
    IfOk-weaker c.tokens_text.result _ _ (λ text is. record { asked = tokens c.as_str.result.now c.as_str-in-Tokens.result.now; asked_is = asked; text = is }) c.tokens_text.ensures.text

pub returns-in-Tokens-clause-error : goal.returns-in-Tokens-clause-error
returns-in-Tokens-clause-error g c =
    let asked = as-passed tokens _ (string_bytes c.in-Tokens.space) (string_bytes c.in-Tokens.file) c.as_str.result.now c.as_str-in-Tokens.result.now c.as_str.ensures.value c.as_str-in-Tokens.ensures.value
    (c.in_ok-space.ensures ∙ ap (λ (command : Command). Ok (seen_command command)) c.in-Tokens.is) in
    IfErr-weaker c.tokens_text.result _ _ (λ e fails. fails-with (tokens c.as_str.result.now c.as_str-in-Tokens.result.now) _ _ asked e fails) c.tokens_text.ensures.error

pub parse_text-requires : goal.parse_text-requires
parse_text-requires g c =
    let asked = c.in_ok-space.ensures ∙ ap (λ (command : Command). Ok (seen_command command)) c.in-Parse.is in
    rw c.as_str-in-Parse-2.ensures.value (file-named _ _ asked)

pub returns-in-Parse-clause-text : goal.returns-in-Parse-clause-text
returns-in-Parse-clause-text g c =
    let asked = as-passed parse _ (string_bytes c.in-Parse.space) (string_bytes c.in-Parse.file) c.as_str-in-Parse.result.now c.as_str-in-Parse-2.result.now c.as_str-in-Parse.ensures.value c.as_str-in-Parse-2.ensures.value
    (c.in_ok-space.ensures ∙ ap (λ (command : Command). Ok (seen_command command)) c.in-Parse.is) in
    IfOk-weaker c.parse_text.result _ _ (λ text is. record { asked = parse c.as_str-in-Parse.result.now c.as_str-in-Parse-2.result.now; asked_is = asked; text = is }) c.parse_text.ensures.text

pub returns-in-Parse-clause-error : goal.returns-in-Parse-clause-error
returns-in-Parse-clause-error g c =
    let asked = as-passed parse _ (string_bytes c.in-Parse.space) (string_bytes c.in-Parse.file) c.as_str-in-Parse.result.now c.as_str-in-Parse-2.result.now c.as_str-in-Parse.ensures.value c.as_str-in-Parse-2.ensures.value
    (c.in_ok-space.ensures ∙ ap (λ (command : Command). Ok (seen_command command)) c.in-Parse.is) in
    IfErr-weaker c.parse_text.result _ _ (λ e fails. fails-with (parse c.as_str-in-Parse.result.now c.as_str-in-Parse-2.result.now) _ _ asked e fails) c.parse_text.ensures.error

pub project_text-requires : goal.project_text-requires
project_text-requires g c =
    let asked = c.in_ok-space.ensures ∙ ap (λ (command : Command). Ok (seen_command command)) c.in-Project.is in
    rw c.as_str-in-Project-2.ensures.value (file-named _ _ asked)

pub returns-in-Project-clause-text : goal.returns-in-Project-clause-text
returns-in-Project-clause-text g c =
    let words = map string_bytes c.deref.result.now in
    let asked = as-passed (λ space file. project space file words) _ (string_bytes c.in-Project.space) (string_bytes c.in-Project.file) c.as_str-in-Project.result.now c.as_str-in-Project-2.result.now c.as_str-in-Project.ensures.value c.as_str-in-Project-2.ensures.value
    (c.in_ok-space.ensures ∙ (ap (λ (command : Command). Ok (seen_command command)) c.in-Project.is
    ∙ ap (λ (items : List (String Global)). Ok (project (string_bytes c.in-Project.space) (string_bytes c.in-Project.file) (map string_bytes items))) (sym c.deref.ensures.value))) in
    IfOk-weaker c.project_text.result _ _ (λ text is. record { asked = project c.as_str-in-Project.result.now c.as_str-in-Project-2.result.now words; asked_is = asked; text = is }) c.project_text.ensures.text

pub returns-in-Project-clause-error : goal.returns-in-Project-clause-error
returns-in-Project-clause-error g c =
    let words = map string_bytes c.deref.result.now in
    let asked = as-passed (λ space file. project space file words) _ (string_bytes c.in-Project.space) (string_bytes c.in-Project.file) c.as_str-in-Project.result.now c.as_str-in-Project-2.result.now c.as_str-in-Project.ensures.value c.as_str-in-Project-2.ensures.value
    (c.in_ok-space.ensures ∙ (ap (λ (command : Command). Ok (seen_command command)) c.in-Project.is
    ∙ ap (λ (items : List (String Global)). Ok (project (string_bytes c.in-Project.space) (string_bytes c.in-Project.file) (map string_bytes items))) (sym c.deref.ensures.value))) in
    IfErr-weaker c.project_text.result _ _ (λ e fails. fails-with (project c.as_str-in-Project.result.now c.as_str-in-Project-2.result.now words) _ _ asked e fails) c.project_text.ensures.error

pub returns-in_ok-conflicts_text-in-Conflicts-clause-text : goal.returns-in_ok-conflicts_text-in-Conflicts-clause-text
returns-in_ok-conflicts_text-in-Conflicts-clause-text g c =
    record {
      asked = conflicts;
      asked_is = c.in_ok-space.ensures ∙ ap (λ (command : Command). Ok (seen_command command)) c.in-Conflicts.is;
      text = c.in_ok-conflicts_text-in-Conflicts.ensures (g.S.Source.holds c.args.src.now);
    }

pub returns-in-Make-clause-text : goal.returns-in-Make-clause-text
returns-in-Make-clause-text g c =
    let asked = c.in_ok-space.ensures ∙ ap (λ (command : Command). Ok (seen_command command)) c.in-Make.is in
    IfOk-weaker c.make_text.result _ _ (λ text is. record { asked = make c.in-Make.items; asked_is = asked; text = is }) (c.make_text.ensures.text (g.S.Source.holds c.args.src.now))

pub returns-in-Make-clause-error : goal.returns-in-Make-clause-error
returns-in-Make-clause-error g c =
    let asked = c.in_ok-space.ensures ∙ ap (λ (command : Command). Ok (seen_command command)) c.in-Make.is in
    IfErr-weaker c.make_text.result _ _ (λ e fails. fails-with (make c.in-Make.items) _ _ asked e fails)
    (c.make_text.ensures.error (record { holds = g.S.Source.holds c.args.src.now; before = g.S.Source.faults c.args.src.now; after = g.S.Source.faults c.args.src.now }))
