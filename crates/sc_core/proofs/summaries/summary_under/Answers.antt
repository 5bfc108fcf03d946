use Rattle.std.proofs.Common.{◌≡◌, ◌∙◌, All, ap, refl, subst, sym, true}
use Rattle.std.proofs.lemmas.List.Elements.{All-nil}
use Rattle.std.proofs.lemmas.Result.{err_from_is_err_and}
use Rattle.c11_directives.specs.Listed.{IsListed}
use Rattle.sc_core.proofs.MadeSpaces.{made-sound}
use Rattle.sc_core.proofs.SummaryLemmas.{made-answers, made-some, made-valid, summary-told}
use Rattle.sc_core.proofs.summaries.summary_under.Goals as goal
use Rattle.sc_core.specs.Made.{made_name}
use Rattle.sc_core.specs.Texts.{AreTranslated, HasAnswers, seen_by}
use Rattle.sc_model.specs.Bytes.{has_no_newline}
use Rattle.sc_model.specs.Space.{Space, arities_of}
use Rattle.sc_prep.specs.Printable.{ArePlainPaths}
use Rattle.sc_show.proofs.SummaryLines.{summary-lines}
use Rattle.sc_show.specs.Pieces.{IsLine}
use Rattle.sc_space.specs.Sound.{IsSound}

pub parsed-requires-clause-sound : goal.parsed-requires-clause-sound
parsed-requires-clause-sound g c = subst IsSound (sym c.requires.space) made-sound

pub parsed-requires-clause-paths : goal.parsed-requires-clause-paths
parsed-requires-clause-paths g c = subst ArePlainPaths (sym c.in_ok-files.ensures) (All-nil (λ path. has_no_newline path ≡ true))

pub parsed-requires-clause-listed : goal.parsed-requires-clause-listed
parsed-requires-clause-listed g c = made-valid c.requires.space c.requires.arities c.args.live.0 c.requires.own c.requires.live

pub parsed-requires-clause-some : goal.parsed-requires-clause-some
parsed-requires-clause-some g c = made-some c.requires.space c.requires.arities c.args.live.0 c.requires.own c.requires.live

pub summary_of-requires-clause-arities : goal.summary_of-requires-clause-arities
summary_of-requires-clause-arities g c = c.in_ok-parsed.ensures.keeps.arities ∙ c.requires.arities

pub summary_of-requires-clause-answered : goal.summary_of-requires-clause-answered
summary_of-requires-clause-answered g c =
    let s = g.C.Conditions.sets c.parsed.new.conds in
    let names = c.parsed.new.names in
    let files = c.parsed.new.files in
    let p = c.in_ok-parsed.parsed in
    let made = c.in_ok-parsed.ensures in
    let answered = subst (λ (space : Space). HasAnswers (IsListed space) (seen_by s names files p) p.root p.faults.items) c.requires.space made.answered in
    (names, made-answers s names files p (made.keeps.arities ∙ c.requires.arities ∙ ap arities_of c.requires.space) answered)

pub returns-in_err-summary-clause-stops : goal.returns-in_err-summary-clause-stops
returns-in_err-summary-clause-stops g c =
    let p = err_from_is_err_and c.from_residual-in_err-summary.result c.from_residual-in_err-summary.ensures.1 in
    rw (p.1, p.2) tt

pub returns-in_err-show_make-clause-stops : goal.returns-in_err-show_make-clause-stops
returns-in_err-show_make-clause-stops g c =
    let p = err_from_is_err_and c.from_residual-in_err-show_make.result c.from_residual-in_err-show_make.ensures.1 in
    rw (p.1, p.2) tt

pub returns-clause-lines : goal.returns-clause-lines
returns-clause-lines g c = subst (All IsLine) (sym c.in_ok-show_make.ensures.lines) (summary-lines c.in_ok-summary.summary)

pub returns-clause-summary : goal.returns-clause-summary
returns-clause-summary g c =
    let s = g.C.Conditions.sets c.parsed.new.conds in
    let names = c.parsed.new.names in
    let files = c.parsed.new.files in
    let p = c.in_ok-parsed.parsed in
    let made = c.in_ok-parsed.ensures in
    let arities = made.keeps.arities ∙ c.requires.arities ∙ ap arities_of c.requires.space in
    let holds = g.S.Source.holds c.args.src.now in
    let are = subst (λ (space : Space). AreTranslated holds space made_name (seen_by s names files p) p.root p.faults.items p.classes) c.requires.space made.translated in
    let told = c.in_ok-summary.ensures names in
    summary-told holds c.args.items s names files p _ c.in_ok-summary.summary are arities c.in_ok-show_make.ensures.lines told.items_are told.first told.last told.different told.of told.many told.classes refl
