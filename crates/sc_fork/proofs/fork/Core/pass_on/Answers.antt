use Rattle.std.proofs.Common.{◌≡◌, Ok, Some, IfSome, length, refl, ap, subst}
use Rattle.std.proofs.lemmas.Option.{slice_get_within}
use Rattle.sc_fork.specs.Owns.{OwnsRow}
use Rattle.sc_fork.proofs.PassLemmas.{if-found, passed-done, still-numbered}
use Rattle.sc_fork.proofs.PieceLemmas.{at-all}
use Rattle.sc_fork.proofs.fork.Core.pass_on.Goals as goal

pub passed_state-requires-clause-own : goal.passed_state-requires-clause-own
passed_state-requires-clause-own c = λ s has.
    let core = c.self.inside in
    let own = rw (← c.self.view_is) at c.requires.own in (
      own.0,
      (
        own.1.0,
        at-all (λ row. IfSome row (OwnsRow own.0 own.1.0 core.source)) core.rows.items c.args.number (Some s) (own.1.1.rows c.if-self.false)
            (rw c.deref.ensures.value at has),
      ),
    )

pub renumber-requires : goal.renumber-requires
renumber-requires c =
    let passes = rw c.deref.ensures.value at c.in-Some.ensures in
    slice_get_within c.self.inside.rows.items c.args.number (Some passes.parent) passes.looks.has

pub invariant_of-self : goal.invariant_of-self
invariant_of-self c = λ usable.
    let passes = rw c.deref.ensures.value at c.in-Some.ensures in
    still-numbered c.self.inside.scope_numbers _ c.self.inside.rows.items c.renumber.new.rows.items c.args.number c.in-Some.state c.in-Ok.made passes
    (λ is. c.in-Ok.ensures.none (ap Ok is))
    (λ next s is has. c.in-Ok.ensures.rows next s (ap Ok is) has) (c.self.invariant usable)

pub returns-in-Ok-clause-done : goal.returns-in-Ok-clause-done
returns-in-Ok-clause-done c =
    let passes = rw c.deref.ensures.value at c.in-Some.ensures in
    rw (← c.self.view_is)
    (if-found c.in-Ok.made (λ made is sets lines own branches.
    passed-done sets lines _ _ c.args.number c.in-Some.state made passes (c.in-Ok.ensures.rows made passes.parent (ap Ok is) passes.looks.has) refl refl
    (subst (λ o. IfSome o (λ next. next ≡ length c.self.inside.rows.items)) is c.in-Ok.ensures.some) c.if-self.false c.if-self.false own branches))
