use Rattle.std.proofs.Common.{replicate, refl, ◌∙◌, ap, arith}
use Rattle.std.proofs.lemmas.Bool.{true≢false}
use Rattle.sc_diagram.proofs.ExampleLemmas.{LeadsTo-start, LeadsTo-step, has_example, IsNever-zero, not_never}
use Rattle.sc_diagram.proofs.example.example.Goals as goal

pub returns-then-node-eq-NEVER-clause-never : goal.returns-then-node-eq-NEVER-clause-never
returns-then-node-eq-NEVER-clause-never c = (λ e. IsNever-zero c.count-count.ensures.valid c.args.node c.if-node-eq-NEVER.true, λ never. refl)

pub loop-at-init : goal.loop-at-init
loop-at-init c = LeadsTo-start c.count-count.ensures.valid c.args.node c.clear.new.into c.requires.own c.if-node-eq-NEVER.false (c.clear.ensures ∙ ap (λ n. replicate n 0) c.requires.long)

pub loop-at-preserved : goal.loop-at-preserved
loop-at-preserved c =
    let read = c.variable-variable.ensures in
    let found = c.first_left-option.ensures in
    let to = LeadsTo-step read.valid c.args.node c.loop-at.at c.first_left-option.result c.loop-at.into (omega (arith, c.loop-at-test.true)) c.loop-at.invariant (rw c.children.ensures.children at found.within) (rw c.children.ensures.children at found.left) in
    rw (c.cofactor-at.ensures, read.variable) to

pub returns-clause-has : goal.returns-clause-has
returns-clause-has c = has_example c.count-count.ensures.valid c.args.node c.loop-at.at c.loop-at.into (omega (arith, c.loop-at-test.false)) c.loop-at.invariant

pub returns-clause-never : goal.returns-clause-never
returns-clause-never c = (
  λ e. absurd (true≢false e),
  λ never. absurd (not_never c.count-count.ensures.valid c.args.node c.loop-at.into c.loop-at.invariant.listed (returns-clause-has c) never),
)
