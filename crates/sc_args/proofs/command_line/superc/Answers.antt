use Rattle.std.proofs.Common.{◌≡◌, ◌∙◌, ◌||◌, ap, ap₂, codes, true}
use Rattle.std.proofs.lemmas.Result.{IfOk-weaker}
use Rattle.clap.specs.Words.{App, app_of, new_app, with_rule, with_subcommand}
use Rattle.clap.specs.Simple.{app_of_fields}
use Rattle.clap.specs.declared.builder.command.Command.{Command}
use Rattle.clap.specs.declared.builder.command.Command.TheOpen.{Command-F}
use Rattle.sc_args.specs.Words.{bare_app, conflicts_app, make_app, project_app}
use Rattle.sc_args.proofs.command_line.superc.Goals as goal

pub returns : goal.returns
returns c =
    let project_is : app_of c.in_ok-project.project ≡ project_app =
    c.in_ok-project.ensures.shape c.choices.ensures.local ∙ ap₂ with_rule c.in_ok-on_files.ensures.app c.choices.ensures.rule in
    let project_local = c.in_ok-project.ensures.globals ∙ ap₂ ◌||◌ c.in_ok-on_files.ensures.local c.choices.ensures.local in
    let conflicts_is : app_of c.about-conflicts.result ≡ conflicts_app = ap app_of_fields c.about-conflicts.ensures ∙ c.new.ensures.app in
    let named : app_of c.after_help.result ≡ new_app (codes "superc") = ap app_of_fields c.after_help.ensures ∙ ap app_of_fields c.about-2.ensures ∙ c.new-3.ensures.app in
    let bare_is : app_of c.subcommand_required.result ≡ bare_app =
    ap app_of_fields c.subcommand_required.ensures ∙ ap (λ (a : App). record a { top = record a.top { subcommand_required = true } }) named in
    let top = λ (a : App). a.top in
    let first_is = c.in_ok-subcommand.ensures.shape c.in_ok-tokens.ensures.local ∙ ap₂ with_subcommand bare_is (ap top c.in_ok-tokens.ensures.app) in
    let second_is = c.in_ok-subcommand-2.ensures.shape c.in_ok-parse.ensures.local ∙ ap₂ with_subcommand first_is (ap top c.in_ok-parse.ensures.app) in
    let third_is = c.in_ok-subcommand-3.ensures.shape project_local ∙ ap₂ with_subcommand second_is (ap top project_is) in
    let has_globals = λ (fields : Command-F Command). fields.has_globals in
    let conflicts_local = ap has_globals c.about-conflicts.ensures ∙ c.new.ensures.local in
    let fourth_is = c.in_ok-subcommand-4.ensures.shape conflicts_local ∙ ap₂ with_subcommand third_is (ap top conflicts_is) in
    let about_is : app_of c.about.result ≡ new_app (codes "make") = ap app_of_fields c.about.ensures ∙ c.new-2.ensures.app in
    let make_is : app_of c.in_ok-make.make ≡ make_app = c.in_ok-make.ensures.shape c.required-items.ensures.local ∙ ap₂ with_rule about_is c.required-items.ensures.rule in
    let make_local = c.in_ok-make.ensures.globals ∙ ap₂ ◌||◌ (ap has_globals c.about.ensures ∙ c.new-2.ensures.local) c.required-items.ensures.local in
    IfOk-weaker c.subcommand-5.result _ _ (λ r h. h.shape make_local ∙ ap₂ with_subcommand fourth_is (ap top make_is)) c.subcommand-5.ensures
