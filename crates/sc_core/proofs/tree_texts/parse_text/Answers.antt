use Rattle.std.proofs.Common.{◌∙◌, inl, inr, refl}
use Rattle.std.proofs.lemmas.Result.{err_from_is_err_and}
use Rattle.sc_args.specs.Words.{parse}
use Rattle.sc_core.proofs.Failing.{space-fails}
use Rattle.sc_core.proofs.Listing.{under-fails}
use Rattle.sc_core.proofs.Telling.{name-plain}
use Rattle.sc_core.proofs.tree_texts.parse_text.Goals as goal
use Rattle.sc_core.specs.Ordinary.{HasManyBranches}
use Rattle.sc_core.specs.Outcome.{job_of}
use Rattle.sc_core.specs.Texts.{setting_of}
use Rattle.sc_space.specs.Seen.{seen_space}

pub tree_in-requires-clause-plain : goal.tree_in-requires-clause-plain
tree_in-requires-clause-plain g c = name-plain c.args.file.now c.requires

pub returns-in_err-space-clause-error : goal.returns-in_err-space-clause-error
returns-in_err-space-clause-error g c =
    let name = c.args.space.now in
    let p = err_from_is_err_and c.from_residual.result c.from_residual.ensures.1 in
    rw (p.1, p.2) (space-fails (job_of (parse name c.args.file.now)) (record { holds = g.S.Source.holds c.args.src.now; before = g.S.Source.faults c.args.src.now; after = g.S.Source.faults c.read_space.new.src })
    name refl (λ files line bad. inl bad) c.in_err-space.field-0.0 c.in_err-space.ensures.error)

pub returns-in_err-text-clause-error : goal.returns-in_err-text-clause-error
returns-in_err-text-clause-error g c =
    let name = c.args.space.now in
    let main = c.args.file.now in
    let space = seen_space c.in_ok-space.space in
    let p = err_from_is_err_and c.from_residual-in_err-text.result c.from_residual-in_err-text.ensures.1 in
    rw (p.1, p.2) (under-fails (job_of (parse name main)) (λ s. HasManyBranches s)
    (record { holds = g.S.Source.holds c.args.src.now; before = g.S.Source.faults c.args.src.now; after = g.S.Source.faults c.tree_in.new.src }) name main
    space refl (λ s on. on) (λ s why. why)
    (λ s many. inl many) (λ files line fault has why told. inr (record { space = space; fault = fault; has_space = has; why = why; told = told }))
    c.in_ok-space.ensures.space
    (g.S.Source.holds c.read_space.new.src) c.in_ok-space.ensures.kept (g.S.Source.faults c.read_space.new.src) c.read_space.ensures.counted
    c.in_err-text.field-0.0 c.in_err-text.ensures.error)

pub returns-clause-text : goal.returns-clause-text
returns-clause-text g c =
    let is = c.in_ok-space.ensures.space in
    let told = c.in_ok-text.ensures.tree in
    let tells = told.tells in
    let lists = c.in_ok-text.ensures.some in
    record {
      lines = c.in_ok-text.ensures.lines;
      setting = setting_of (seen_space c.in_ok-space.space) c.args.file.now tells.parser tells.files;
      held = λ told holds. tells.held told (c.in_ok-space.ensures.kept ∙ holds);
      has = record { files = is.files; held = is.held; has_space = is.has; main_is = refl };
      text = record { answer = tells.answer; text = tells.text_of; choices = told.choices; rooted = told.rooted; valid = lists; verdict = tells.verdict; right = tells.right; few = tells.few };
    }
