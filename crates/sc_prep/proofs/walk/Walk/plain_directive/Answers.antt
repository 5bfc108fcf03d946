use Rattle.std.proofs.Common.{ap, sym, Some}
use Rattle.c11_directives.specs.declared.directive.Directive.TheVariants as kind
use Rattle.sc_prep.proofs.ApartLemmas.{gathers-same}
use Rattle.sc_prep.proofs.Facts.{on_ok_weaker}
use Rattle.sc_prep.proofs.Terms.{changed_by, changing, plain_by, seen_line}
use Rattle.sc_prep.proofs.WalkMoves.{between-as, between-runs}
use Rattle.sc_prep.proofs.walk.Walk.plain_directive.Goals as goal

pub returns-in-Define-clause-moved : goal.returns-in-Define-clause-moved
returns-in-Define-clause-moved g c = on_ok_weaker c.define.result (λ moved.
    let names = c.args.names.now in
    let line = c.args.line.now in
    let standard = c.args.standard in
    between-as (λ files config m. changing m (seen_line standard names files line) kind.Define (changed_by m.state.macros (seen_line standard names files line) kind.Define))
    (λ files config m. plain_by m (seen_line standard names files line) (Some c.args.directive))
    (λ files config m _ _. ap (λ d. plain_by m (seen_line standard names files line) (Some d)) (sym c.in-Define.is)) moved) c.define.ensures.moved

pub returns-in-Undef-clause-moved : goal.returns-in-Undef-clause-moved
returns-in-Undef-clause-moved g c = on_ok_weaker c.undef.result (λ moved.
    let names = c.args.names.now in
    let line = c.args.line.now in
    let standard = c.args.standard in
    between-as (λ files config m. changing m (seen_line standard names files line) kind.Undef (changed_by m.state.macros (seen_line standard names files line) kind.Undef))
    (λ files config m. plain_by m (seen_line standard names files line) (Some c.args.directive))
    (λ files config m _ _. ap (λ d. plain_by m (seen_line standard names files line) (Some d)) (sym c.in-Undef.is)) (moved standard)) c.undef.ensures.moved

pub returns-in_ok-pragma-in-Pragma-clause-moved : goal.returns-in_ok-pragma-in-Pragma-clause-moved
returns-in_ok-pragma-in-Pragma-clause-moved g c =
    let names = c.args.names.now in
    let line = c.args.line.now in
    let standard = c.args.standard in
    between-as (λ files config m. plain_by m (seen_line standard names files line) (Some kind.Pragma)) (λ files config m. plain_by m (seen_line standard names files line) (Some c.args.directive))
    (λ files config m _ _. ap (λ d. plain_by m (seen_line standard names files line) (Some d)) (sym c.in-Pragma.is)) (between-runs (c.in_ok-pragma-in-Pragma.ensures.moved standard))

pub returns-in_default-clause-moved : goal.returns-in_default-clause-moved
returns-in_default-clause-moved g c = on_ok_weaker c.other_line.result (λ moved. between-runs (moved c.args.standard c.args.names.now)) c.other_line.ensures.moved

pub returns-in-Define-clause-gathers : goal.returns-in-Define-clause-gathers
returns-in-Define-clause-gathers g c = on_ok_weaker c.define.result (gathers-same c.args.line.now c.args.self.now c.define.new.self) c.define.ensures.runs

pub returns-in-Undef-clause-gathers : goal.returns-in-Undef-clause-gathers
returns-in-Undef-clause-gathers g c = on_ok_weaker c.undef.result (gathers-same c.args.line.now c.args.self.now c.undef.new.self) c.undef.ensures.runs

pub returns-in_ok-pragma-in-Pragma-clause-gathers : goal.returns-in_ok-pragma-in-Pragma-clause-gathers
returns-in_ok-pragma-in-Pragma-clause-gathers g c = gathers-same c.args.line.now c.args.self.now c.pragma.new.self c.in_ok-pragma-in-Pragma.ensures.runs

pub returns-in_default-clause-gathers : goal.returns-in_default-clause-gathers
returns-in_default-clause-gathers g c = on_ok_weaker c.other_line.result (gathers-same c.args.line.now c.args.self.now c.other_line.new.self) c.other_line.ensures.runs

pub returns-in-Undef-clause-printable : goal.returns-in-Undef-clause-printable
returns-in-Undef-clause-printable g c = on_ok_weaker c.undef.result (λ printable. printable c.args.names.now) c.undef.ensures.printable

pub returns-in_default-clause-printable : goal.returns-in_default-clause-printable
returns-in_default-clause-printable g c = on_ok_weaker c.other_line.result (λ printable. printable c.args.names.now) c.other_line.ensures.printable
