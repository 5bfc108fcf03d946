use Rattle.std.proofs.Common.{◌∙◌, ap₂, codes, subst, sym}
use Rattle.std.proofs.lemmas.Result.{IfErr-weaker, IfOk-weaker}
use Rattle.clap.specs.Words.{found_of}
use Rattle.clap.proofs.WalkLemmas.{first_value-rows}
use Rattle.sc_args.specs.Seen.{Refuses}
use Rattle.sc_args.specs.Words.{asked_with}
use Rattle.sc_args.proofs.command.files.Goals as goal

pub returns-clause-ok : goal.returns-clause-ok
returns-clause-ok c =
    let found = found_of c.args.found.now in
    let space = c.get_str.ensures ∙ first_value-rows found (codes "space") in
    let file = c.get_str-2.ensures ∙ first_value-rows found (codes "file") in
    IfOk-weaker c.named_files.result _ _ (λ names h command. ap₂ (asked_with command) (sym space) (sym file) ∙ h command) c.named_files.ensures.ok

pub returns-clause-err : goal.returns-clause-err
returns-clause-err c =
    let found = found_of c.args.found.now in
    let space = c.get_str.ensures ∙ first_value-rows found (codes "space") in
    let file = c.get_str-2.ensures ∙ first_value-rows found (codes "file") in
    IfErr-weaker c.named_files.result _ _ (λ refused h command. subst (Refuses refused) (ap₂ (asked_with command) space file) (h command)) c.named_files.ensures.err
