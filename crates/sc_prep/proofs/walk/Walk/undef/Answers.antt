use Rattle.std.proofs.Common.{ap, Some}
use Rattle.c11_directives.specs.declared.directive.Directive.TheVariants as kind
use Rattle.sc_prep.proofs.Facts.{on_ok_weaker}
use Rattle.sc_prep.proofs.Terms.{BadDirective, changed_by, changing, refusing, seen_line, text_at, undefined}
use Rattle.sc_prep.proofs.WalkMoves.{between-as, between-runs}
use Rattle.sc_prep.proofs.walk.Walk.undef.Goals as goal

pub returns-in_ok-refuse_all-in-None-clause-moved : goal.returns-in_ok-refuse_all-in-None-clause-moved
returns-in_ok-refuse_all-in-None-clause-moved g c = λ standard.
    let names = c.args.names.now in
    let line = c.args.line.now in
    between-as (λ files config m. refusing m (seen_line standard names files line) BadDirective)
    (λ files config m. changing m (seen_line standard names files line) kind.Undef (changed_by m.state.macros (seen_line standard names files line) kind.Undef))
    (λ files config m _ _. ap (λ o. changing m (seen_line standard names files line) kind.Undef (undefined m.state.macros o)) (c.in-None.ensures.text standard files))
    (between-runs (c.in_ok-refuse_all-in-None.ensures.moved standard names))

pub returns-in-Some-clause-moved : goal.returns-in-Some-clause-moved
returns-in-Some-clause-moved g c = on_ok_weaker c.undef_macro.result (λ moved standard.
    let names = c.args.names.now in
    let line = c.args.line.now in
    between-as (λ files config m. changing m (seen_line standard names files line) kind.Undef (undefined m.state.macros (Some (text_at names c.in-Some.name.0))))
    (λ files config m. changing m (seen_line standard names files line) kind.Undef (changed_by m.state.macros (seen_line standard names files line) kind.Undef))
    (λ files config m _ _. ap (λ o. changing m (seen_line standard names files line) kind.Undef (undefined m.state.macros o)) (c.in-Some.ensures.text standard files))
    (moved standard)) c.undef_macro.ensures.moved
