use Rattle.std.proofs.Common.{◌∙◌, ap, sym, subst, Ok}
use Rattle.c11_directives.specs.declared.directive.Directive.TheVariants as kind
use Rattle.sc_macro.specs.Reads.{Refuses, seen_defined}
use Rattle.sc_prep.proofs.Facts.{drop-map, on_ok_weaker}
use Rattle.sc_prep.proofs.Terms.{changed_by, changing, defined_as, reads, refusing, seen, seen_line}
use Rattle.sc_prep.proofs.WalkMoves.{between-as, between-runs}
use Rattle.sc_prep.proofs.walk.Walk.define.Goals as goal

pub returns-in-Ok-clause-moved : goal.returns-in-Ok-clause-moved
returns-in-Ok-clause-moved g c = on_ok_weaker c.define_macro.result (λ moved.
    let standard = c.args.standard in
    let names = c.args.names.now in
    let line = c.args.line.now in
    between-as (λ files config m. changing m (seen_line standard names files line) kind.Define (defined_as m.state.macros (Ok (seen_defined names c.in-Ok.definition))))
    (λ files config m. changing m (seen_line standard names files line) kind.Define (changed_by m.state.macros (seen_line standard names files line) kind.Define))
    (λ files config m _ _. ap (λ r. changing m (seen_line standard names files line) kind.Define (defined_as m.state.macros r))
    (sym (c.in-Ok.ensures.ok files) ∙ ap (reads standard) (sym (drop-map (seen names files) 2 line))))
    (moved standard)) c.define_macro.ensures.moved

pub returns-in_ok-refuse_all-in-Err-Fault-clause-moved : goal.returns-in_ok-refuse_all-in-Err-Fault-clause-moved
returns-in_ok-refuse_all-in-Err-Fault-clause-moved g c =
    let standard = c.args.standard in
    let names = c.args.names.now in
    let line = c.args.line.now in
    let refuses = subst (Refuses standard names line) c.in-Err-Fault.field-0-is c.in-Err-Fault.ensures.err in
    between-as (λ files config m. refusing m (seen_line standard names files line) c.in-Err-Fault.cause)
    (λ files config m. changing m (seen_line standard names files line) kind.Define (changed_by m.state.macros (seen_line standard names files line) kind.Define))
    (λ files config m _ _. ap (λ r. changing m (seen_line standard names files line) kind.Define (defined_as m.state.macros r))
    (sym (refuses files) ∙ ap (reads standard) (sym (drop-map (seen names files) 2 line))))
    (between-runs (c.in_ok-refuse_all-in-Err-Fault.ensures.moved standard names))

pub returns-in-Ok-clause-printable : goal.returns-in-Ok-clause-printable
returns-in-Ok-clause-printable g c = on_ok_weaker c.define_macro.result (λ printable. printable c.args.names.now) c.define_macro.ensures.printable

pub returns-in_ok-refuse_all-in-Err-Fault-clause-printable : goal.returns-in_ok-refuse_all-in-Err-Fault-clause-printable
returns-in_ok-refuse_all-in-Err-Fault-clause-printable g c = c.in_ok-refuse_all-in-Err-Fault.ensures.printable c.args.names.now
