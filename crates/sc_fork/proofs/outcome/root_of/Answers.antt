use Rattle.std.proofs.Common.{inl, inr, arith}
use Rattle.sc_fork.specs.Roots.{chosen_root, no_choice, one_choice}
use Rattle.sc_fork.proofs.RootLemmas.{root-none, root-only}
use Rattle.sc_fork.proofs.outcome.root_of.Goals as goal

pub returns-in-empty-clause-root : goal.returns-in-empty-clause-root
returns-in-empty-clause-root c = root-none c.args.trees.now c.args.roots.now (omega (arith, c.in-empty.len_below))

pub returns-in-len1-clause-root : goal.returns-in-len1-clause-root
returns-in-len1-clause-root c = root-only c.args.trees.now c.args.roots.now _ (omega (arith, c.in-len1.len_at_least)) (omega (arith, c.in-len1.len_below))

pub returns-in_ok-choice-in_default-clause-root : goal.returns-in_ok-choice-in_default-clause-root
returns-in_ok-choice-in_default-clause-root c =
    chosen_root c.args.roots.now c.in_ok-choice-in_default.field-0 (omega (arith, c.in_default.len_at_least)) c.in_ok-choice-in_default.ensures.own c.in_ok-choice-in_default.ensures.named

pub returns-in_ok-choice-in_default-clause-adds : goal.returns-in_ok-choice-in_default-clause-adds
returns-in_ok-choice-in_default-clause-adds c = elim c.in_ok-choice-in_default.ensures.adds [
  | inl same ↦ no_choice same
  | inr more ↦ one_choice (omega (arith, c.in_default.len_at_least)) more
]
