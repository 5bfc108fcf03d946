use Rattle.std.proofs.Common.{◌∙◌, ◌≡◌, ap, codes, subst, sym, None, Some}
use Rattle.std.specs.Prelude.{option_map}
use Rattle.clap.specs.Words.{found_of, first_of, rows_of}
use Rattle.clap.proofs.WalkLemmas.{first_value-rows}
use Rattle.sc_args.proofs.Counts.{asked-count, asked-no-count}
use Rattle.sc_args.specs.Seen.{Refuses}
use Rattle.sc_args.specs.Words.{asked_to_make}
use Rattle.sc_args.proofs.command.Command.make.Goals as goal

pub returns-in_default : goal.returns-in_default
returns-in_default c =
    let word = c.get_str.ensures ∙ first_value-rows (found_of c.args.found.now) (codes "items") in
    let none : first_of (codes "items") (rows_of (found_of c.args.found.now)) ≡ None = sym word ∙ ap (option_map (λ s. s.now)) c.in_default.is in
    subst (Refuses c.no_command.result) (ap asked_to_make (sym none)) c.no_command.ensures

pub returns-in-Some-items_in : goal.returns-in-Some-items_in
returns-in-Some-items_in c =
    let word = c.get_str.ensures ∙ first_value-rows (found_of c.args.found.now) (codes "items") in
    let some : first_of (codes "items") (rows_of (found_of c.args.found.now)) ≡ Some c.in-Some.word.now = sym word ∙ ap (option_map (λ s. s.now)) c.in-Some.is in
    ap asked_to_make some ∙ asked-count c.in-Some.word.now c.in-Some-items_in.items (sym c.in-Some-items_in.is ∙ c.items_in.ensures)

pub returns-in-None : goal.returns-in-None
returns-in-None c =
    let word = c.get_str.ensures ∙ first_value-rows (found_of c.args.found.now) (codes "items") in
    let some : first_of (codes "items") (rows_of (found_of c.args.found.now)) ≡ Some c.in-Some.word.now = sym word ∙ ap (option_map (λ s. s.now)) c.in-Some.is in
    ap asked_to_make some ∙ asked-no-count c.in-Some.word.now (sym c.in-None.is ∙ c.items_in.ensures)
