use Rattle.std.proofs.Common.{◌==◌, sym, ◌∙◌, refl}
use Rattle.sc_base.specs.declared.id.FileId.{FileId}
use Rattle.sc_show.proofs.PrinterNumbers.{pushed, pushed_at, stays}
use Rattle.sc_show.proofs.PrinterIntroducing.{IntroducedFile-new, IntroducedFile-known}
use Rattle.sc_show.proofs.printer.Printer.file_number.Goals as goal

pub returns-clause-lines : goal.returns-clause-lines
returns-clause-lines c =
    let fresh = sym c.if-not-is_new.false ∙ c.in_ok-number.ensures.added in
    IntroducedFile-new c.args.file c.text.result.now c.in_ok-number.number c.requires.one_line c.text.ensures
    (pushed_at (λ (a b : FileId). a.0 == b.0) _ _ c.insert_full.new.self.keys _ fresh c.in_ok-number.ensures.index)
    (pushed (λ (a b : FileId). a.0 == b.0) _ _ _ c.in_ok-number.number fresh c.in_ok-number.ensures.keys) refl refl c.in_ok-write_file.ensures

pub returns-then-not-is_new-clause-lines : goal.returns-then-not-is_new-clause-lines
returns-then-not-is_new-clause-lines c =
    let known = sym c.if-not-is_new.true ∙ c.in_ok-number.ensures.added in
    IntroducedFile-known c.in_ok-number.number c.in_ok-number.ensures.within
    (stays (λ (a b : FileId). a.0 == b.0) _ _ _ c.in_ok-number.number known c.in_ok-number.ensures.keys) refl refl refl
