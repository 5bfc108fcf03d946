use Rattle.std.proofs.Common.{ℕ, map, take}
use Rattle.sc_model.specs.Sets.{Keeps}
use Rattle.sc_space.specs.Seen.{seen_space}
use Rattle.sc_show.specs.Rules.{Introduced}
use Rattle.sc_show.specs.TreeRules.{AreBranchNumbers}
use Rattle.sc_show.proofs.printer.Printer.print_choice.Given as goal

abbrev pub invariant-loop-branch : goal.invariant-loop-branch
invariant-loop-branch g l =
    let sets = g.C.Conditions.sets in
    record {
      keeps : Keeps (sets l.fn.conds) (sets l.conds);
      lines : Introduced (seen_space l.space) (sets l.fn.conds) (sets l.conds) l.fn.self l.self (map (λ (branch : ℕ × ℕ). branch.0) l.numbers.items);
      numbers : AreBranchNumbers l.self.conditions.keys l.self.trees.keys (take l.branch-index l.branches) l.numbers.items;
    }
