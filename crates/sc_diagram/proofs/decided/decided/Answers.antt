use Rattle.std.proofs.Common.{sym, subst, arith}
use Rattle.std.proofs.lemmas.Option.{IfSome_then}
use Rattle.sc_diagram.specs.Applied.{IsApplication, IsBefore, IsOperation, Applies, application}
use Rattle.sc_diagram.proofs.DecidedLemmas.{Applies-And, Applies-Or, Applies-Without, Applies-Negate, Applies-Part, IfNone_then, undecided-before, undecided-left, undecided-right}
use Rattle.sc_diagram.proofs.decided.decided.Goals as goal

pub returns-in-And-clause-some : goal.returns-in-And-clause-some
returns-in-And-clause-some c =
    let what = c.args.what in
    let is = subst (λ op. IsApplication c.args.table.now (application op what.left what.right)) c.in-And.is c.requires in
    IfSome_then c.short.result c.short.ensures.some (λ r short. subst (λ op. Applies c.args.table.now (application op what.left what.right) r) (sym c.in-And.is) (Applies-And c.count-count.ensures.valid what.left what.right r is short))

pub returns-in-Or-clause-some : goal.returns-in-Or-clause-some
returns-in-Or-clause-some c =
    let what = c.args.what in
    let is = subst (λ op. IsApplication c.args.table.now (application op what.left what.right)) c.in-Or.is c.requires in
    IfSome_then c.short-in-Or.result c.short-in-Or.ensures.some (λ r short. subst (λ op. Applies c.args.table.now (application op what.left what.right) r) (sym c.in-Or.is) (Applies-Or c.count-count.ensures.valid what.left what.right r is short))

pub returns-in-Negate-clause-some : goal.returns-in-Negate-clause-some
returns-in-Negate-clause-some c =
    let what = c.args.what in
    let is = subst (λ op. IsApplication c.args.table.now (application op what.left what.right)) c.in-Negate.is c.requires in
    IfSome_then c.decided_negate.result c.decided_negate.ensures.some (λ r at. subst (λ op. Applies c.args.table.now (application op what.left what.right) r) (sym c.in-Negate.is) (Applies-Negate c.count-count.ensures.valid what.left what.right r is at.0 at.1))

pub returns-in-Part-clause-some : goal.returns-in-Part-clause-some
returns-in-Part-clause-some c =
    let what = c.args.what in
    let is = subst (λ op. IsApplication c.args.table.now (application op what.left what.right)) c.in-Part.is c.requires in
    IfSome_then c.decided_part.result c.decided_part.ensures.some (λ r at. subst (λ op. Applies c.args.table.now (application op what.left what.right) r) (sym c.in-Part.is) (Applies-Part c.count-count.ensures.valid what.left what.right c.in-Part.variable c.in-Part.option r is at.0 at.1))

pub returns-in-Without-clause-some : goal.returns-in-Without-clause-some
returns-in-Without-clause-some c =
    let what = c.args.what in
    let is = subst (λ op. IsApplication c.args.table.now (application op what.left what.right)) c.in-Without.is c.requires in
    IfSome_then c.decided_without.result c.decided_without.ensures.some (λ r rest. subst (λ op. Applies c.args.table.now (application op what.left what.right) r) (sym c.in-Without.is) (Applies-Without c.count-count.ensures.valid what.left what.right r is rest))

pub returns-in-And-clause-none : goal.returns-in-And-clause-none
returns-in-And-clause-none c = IfNone_then c.short.result c.short.ensures.none (λ apart.
    let left = c.args.what.left in
    undecided-left c.count-count.ensures.valid left c.args.what.right c.args.what.operation c.requires.left (omega (arith, apart.0, apart.1)) (subst (λ op. IsBefore c.args.table.now op left) (sym c.in-And.is) tt))

pub returns-in-Or-clause-none : goal.returns-in-Or-clause-none
returns-in-Or-clause-none c = IfNone_then c.short-in-Or.result c.short-in-Or.ensures.none (λ apart.
    let left = c.args.what.left in
    undecided-left c.count-count.ensures.valid left c.args.what.right c.args.what.operation c.requires.left (omega (arith, apart.0, apart.1)) (subst (λ op. IsBefore c.args.table.now op left) (sym c.in-Or.is) tt))

pub returns-in-Without-clause-none : goal.returns-in-Without-clause-none
returns-in-Without-clause-none c = IfNone_then c.decided_without.result c.decided_without.ensures.none (λ inner.
    undecided-right c.count-count.ensures.valid c.args.what.left c.args.what.right c.args.what.operation c.requires.right inner (subst (λ op. IsBefore c.args.table.now op c.args.what.left) (sym c.in-Without.is) tt))

pub returns-in-Negate-clause-none : goal.returns-in-Negate-clause-none
returns-in-Negate-clause-none c = IfNone_then c.decided_negate.result c.decided_negate.ensures.none (λ inner.
    undecided-left c.count-count.ensures.valid c.args.what.left c.args.what.right c.args.what.operation c.requires.left inner (subst (λ op. IsBefore c.args.table.now op c.args.what.left) (sym c.in-Negate.is) tt))

pub returns-in-Part-clause-none : goal.returns-in-Part-clause-none
returns-in-Part-clause-none c = IfNone_then c.decided_part.result c.decided_part.ensures.none (λ before.
    let left = c.args.what.left in
    let is = subst (IsOperation c.args.table.now.arities) c.in-Part.is c.requires.operation in
    undecided-before c.count-count.ensures.valid left c.args.what.right c.args.what.operation c.requires.left (omega (arith, before, is.within)) (subst (λ op. IsBefore c.args.table.now op left) (sym c.in-Part.is) before))
