use Rattle.std.proofs.Common.{◌∙◌, Some, ap, refl, subst, sym}
use Rattle.std.proofs.lemmas.Result.{err_from_is_err_and}
use Rattle.std.specs.Prelude.{not}
use Rattle.sc_core.proofs.Failing.{held_or, may-hold}
use Rattle.sc_core.proofs.MadeSpaces.{made-sound}
use Rattle.sc_core.proofs.summaries.make_text.Goals as goal
use Rattle.sc_core.specs.Made.{holds_of, made_files, made_name, made_space}
use Rattle.sc_core.specs.Ordinary.{HasManyBranches}
use Rattle.sc_core.specs.CommandTexts.{IsSummaryText}
use Rattle.sc_core.specs.RunError.{branches_line}
use Rattle.sc_core.specs.Texts.{StopsIn, lines_of, setting_of}
use Rattle.sc_model.specs.Outside.{Files}
use Rattle.sc_space.specs.Sound.{IsSound}

pub conditions-requires : goal.conditions-requires
conditions-requires c = subst IsSound (sym c.in_ok-space.ensures) made-sound

pub summary_under-requires-clause-live : goal.summary_under-requires-clause-live
summary_under-requires-clause-live c = record { all = c.always-live.ensures.meaning.at }

-- whatever the source holds, the file is the one that is made
pub returns-in-Ok-clause-text : goal.returns-in-Ok-clause-text
returns-in-Ok-clause-text c = λ holds.
    let told = c.in-Ok.ensures.summary in
    let items = c.args.items in
    let text = c.in-Ok.text in
    let made = told.held (holds_of c.in_ok-file.file) refl ∙ c.in_ok-file.ensures in
    record {
      lines = c.in-Ok.ensures.lines;
      setting = setting_of made_space made_name told.parser (held_or holds (made_files items));
      held = may-hold holds (made_files items);
      has = refl;
      text = subst (λ (files : Files). IsSummaryText items (setting_of made_space made_name told.parser files) (lines_of text) (not text.is_refused)) made told.text_of;
    }

pub returns-clause-error : goal.returns-clause-error
returns-clause-error c = λ reading.
    let items = c.args.items in
    let many = subst (StopsIn (λ s. HasManyBranches s) (Some (holds_of c.in_ok-file.file)) 0 0 made_space made_name) c.in-Err-BranchesFull.field-0-is c.in-Err-BranchesFull.ensures.stops in
    record {
      setting = setting_of made_space made_name many.1.parser (held_or reading.holds (made_files items));
      held = may-hold reading.holds (made_files items);
      has = refl;
      configs = many.1.configs;
      why = subst (λ (files : Files). HasManyBranches (setting_of made_space made_name many.1.parser files)) c.in_ok-file.ensures (many.1.why (holds_of c.in_ok-file.file) refl);
      told = c.in_ok-branches_line-in-Err-BranchesFull.ensures ∙ ap branches_line many.0;
    }

pub returns-in_err-branches_line-in-Err-BranchesFull-clause-error : goal.returns-in_err-branches_line-in-Err-BranchesFull-clause-error
returns-in_err-branches_line-in-Err-BranchesFull-clause-error c = λ reading.
    let exit = c.from_residual-in_err-branches_line-in-Err-BranchesFull in
    let p = err_from_is_err_and exit.result exit.ensures.1 in
    rw (p.1, p.2) tt
