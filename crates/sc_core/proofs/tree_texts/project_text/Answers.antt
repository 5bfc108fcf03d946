use Rattle.std.proofs.Common.{◌≡◌, ◌∙◌, ap, inl, map, refl, sym, subst, List, Ok, ℕ, string_bytes}
use Rattle.std.proofs.lemmas.Result.{err_from_is_err_and}
use Rattle.std.specs.Prelude.{not}
use Rattle.c11_directives.specs.Listed.{IsListed}
use Rattle.sc_args.specs.Words.{project}
use Rattle.sc_core.proofs.Cuts.{cut-sound, first-cut, first-formed, one-config}
use Rattle.sc_core.proofs.Failing.{choice-fails, space-fails}
use Rattle.sc_core.proofs.Listing.{alone-fails, chosen-listed}
use Rattle.sc_core.proofs.Projecting.{projected}
use Rattle.sc_core.proofs.Telling.{name-plain}
use Rattle.sc_core.proofs.tree_texts.project_text.Goals as goal
use Rattle.sc_core.specs.Cut.{first_config}
use Rattle.sc_core.specs.CommandTexts.{HasNoFault, IsTranslation, Tells}
use Rattle.sc_core.specs.Outcome.{job_of}
use Rattle.sc_core.specs.Texts.{FailsAlone, lines_of, setting_of}
use Rattle.sc_fork.specs.Parsers.{IsC11Parser}
use Rattle.sc_model.specs.Sets.{IsConfig}
use Rattle.sc_model.specs.Space.{Space, arities_of}
use Rattle.sc_show.specs.PlainText.{IsPlainAnswer}
use Rattle.sc_text.specs.Answer.{At}
use Rattle.sc_text.specs.Layout.{IsTextOf}
use Rattle.sc_space.specs.Seen.{seen_space}
use Rattle.sc_space.specs.Sound.{IsSound}

pub cut-requires : goal.cut-requires
cut-requires g c = subst (IsConfig (arities_of (seen_space c.in_ok-space.space))) (sym c.deref.ensures.value) c.in_ok-config.ensures.formed

pub text_alone-requires-clause-sound : goal.text_alone-requires-clause-sound
text_alone-requires-clause-sound g c =
    let space = seen_space c.in_ok-space.space in
    let formed = subst (IsConfig (arities_of space)) (sym c.deref.ensures.value) c.in_ok-config.ensures.formed in
    subst IsSound (sym c.in_ok-only.ensures) (cut-sound space c.deref.result.now formed c.in_ok-space.ensures.sound)

pub text_alone-requires-clause-plain : goal.text_alone-requires-clause-plain
text_alone-requires-clause-plain g c = name-plain c.args.file.now c.requires

pub text_alone-requires-clause-formed : goal.text_alone-requires-clause-formed
text_alone-requires-clause-formed g c =
    let space = seen_space c.in_ok-space.space in
    let formed = subst (IsConfig (arities_of space)) (sym c.deref.ensures.value) c.in_ok-config.ensures.formed in
    subst (λ (only : Space). IsConfig (arities_of only) (first_config only)) (sym c.in_ok-only.ensures) (first-formed space c.deref.result.now formed)

pub text_alone-requires-clause-one : goal.text_alone-requires-clause-one
text_alone-requires-clause-one g c =
    let space = seen_space c.in_ok-space.space in
    let formed = subst (IsConfig (arities_of space)) (sym c.deref.ensures.value) c.in_ok-config.ensures.formed in
    subst (λ (only : Space). (d : List ℕ) → IsConfig (arities_of only) d → d ≡ first_config only) (sym c.in_ok-only.ensures) (one-config space c.deref.result.now formed)

pub returns-in_err-space-clause-error : goal.returns-in_err-space-clause-error
returns-in_err-space-clause-error g c =
    let name = c.args.space.now in
    let p = err_from_is_err_and c.from_residual.result c.from_residual.ensures.1 in
    rw (p.1, p.2) (space-fails (job_of (project name c.args.file.now (map string_bytes c.args.choices.now)))
    (record { holds = g.S.Source.holds c.args.src.now; before = g.S.Source.faults c.args.src.now; after = g.S.Source.faults c.read_space.new.src })
    name refl (λ files line bad. inl bad) c.in_err-space.field-0.0 c.in_err-space.ensures.error)

pub returns-in_err-config-clause-error : goal.returns-in_err-config-clause-error
returns-in_err-config-clause-error g c =
    let p = err_from_is_err_and c.from_residual-in_err-config.result c.from_residual-in_err-config.ensures.1 in
    rw (p.1, p.2) (choice-fails (record { holds = g.S.Source.holds c.args.src.now; before = g.S.Source.faults c.args.src.now; after = g.S.Source.faults c.read_space.new.src })
    c.args.space.now c.args.file.now (map string_bytes c.args.choices.now) (seen_space c.in_ok-space.space) c.in_ok-space.ensures.space c.in_err-config.field-0.0 c.in_err-config.ensures.error)

pub returns-in_err-text-clause-error : goal.returns-in_err-text-clause-error
returns-in_err-text-clause-error g c =
    let space = seen_space c.in_ok-space.space in
    let config = c.deref.result.now in
    let formed = subst (IsConfig (arities_of space)) (sym c.deref.ensures.value) c.in_ok-config.ensures.formed in
    let before = g.S.Source.faults c.read_space.new.src in
    let after = g.S.Source.faults c.text_alone.new.src in
    let p = err_from_is_err_and c.from_residual-in_err-text.result c.from_residual-in_err-text.ensures.1 in
    rw (p.1, p.2) (alone-fails (record { holds = g.S.Source.holds c.args.src.now; before = g.S.Source.faults c.args.src.now; after = after })
    c.args.space.now c.args.file.now (map string_bytes c.args.choices.now) space config formed (c.in_ok-config.ensures.config ∙ ap (λ (d : List ℕ). Ok d) (sym c.deref.ensures.value))
    (cut-sound space config formed c.in_ok-space.ensures.sound) c.in_ok-space.ensures.space before c.read_space.ensures.counted c.in_err-text.field-0.0
    (subst (λ (only : Space). FailsAlone before after only c.in_err-text.field-0.0) c.in_ok-only.ensures c.in_err-text.ensures.error))

pub returns-clause-text : goal.returns-clause-text
returns-clause-text g c =
    let space = seen_space c.in_ok-space.space in
    let config = c.deref.result.now in
    let formed = subst (IsConfig (arities_of space)) (sym c.deref.ensures.value) c.in_ok-config.ensures.formed in
    let told = c.in_ok-text.ensures.tree in
    let tells = told.tells in
    let answer = tells.answer in
    let is = c.in_ok-only.ensures in
    let first = ap (λ (only : Space). first_config only) is ∙ first-cut space config formed in
    let same = subst (λ (d : List ℕ). At answer d told.result) first told.same in
    let plain = subst (λ (d : List ℕ). IsPlainAnswer answer d told.result) first told.plain in
    let text = c.in_ok-text.text in
    let found = c.in_ok-space.ensures.space in
    let setting = setting_of space c.args.file.now tells.parser tells.files in
    let listed : IsListed space config = chosen-listed formed is c.in_ok-text.ensures.listed in
    record {
      lines = c.in_ok-text.ensures.lines;
      setting = setting;
      held = λ told holds. tells.held told (c.in_ok-space.ensures.kept ∙ holds);
      has = record { files = found.files; held = found.held; has_space = found.has; main_is = refl };
      text = record {
        config = config;
        chosen = c.in_ok-config.ensures.config ∙ ap (λ (d : List ℕ). Ok d) (sym c.deref.ensures.value);
        listed = listed;
        answer = answer;
        text = subst (λ (only : Space). IsTextOf only (lines_of text) answer) is tells.text_of;
        verdict = subst (λ (only : Space). Tells (not text.is_refused) (HasNoFault only answer)) is tells.verdict;
        c11 = subst (λ (only : Space). IsC11Parser only.standard tells.parser) is tells.c11;
        right = projected setting config listed answer (not text.is_refused) told.result same plain
            (subst (λ (only : Space). IsTranslation (record setting { space = only }) answer (not text.is_refused)) is tells.right);
      };
    }
