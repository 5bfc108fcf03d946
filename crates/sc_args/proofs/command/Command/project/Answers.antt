use Rattle.std.proofs.Common.{◌∙◌, [], List, Ok, Option, ap, codes, string_bytes, sym, unwrap_or}
use Rattle.clap.specs.Words.{Text, found_of, rows_of}
use Rattle.clap.proofs.WalkLemmas.{raw_values-rows}
use Rattle.sc_args.specs.Words.{choices_in, project}
use Rattle.sc_args.proofs.command.Command.project.Goals as goal

pub returns : goal.returns
returns c =
    let found = found_of c.args.found.now in
    let space = string_bytes c.in_ok-space.space in
    let file = string_bytes c.in_ok-space.file in
    let words = c.in_ok-choices.ensures.ok ∙ ap (λ (texts : Option (List Text)). unwrap_or texts []) (c.get_strs.ensures ∙ raw_values-rows found (codes "choices")) in
    c.in_ok-space.ensures.ok (λ space file. project space file (choices_in (rows_of found))) ∙ ap (λ choices. Ok (project space file choices)) (sym words)
