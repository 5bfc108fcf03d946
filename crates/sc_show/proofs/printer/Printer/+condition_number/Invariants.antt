use Rattle.std.proofs.Common.{◌≡◌, ◌+◌, ◌-◌, length}
use Rattle.sc_model.specs.Sets.{IsCond, Keeps, DependsFrom}
use Rattle.sc_space.specs.Seen.{seen_space}
use Rattle.sc_show.specs.Rules.{AreFrom, Introduced}
use Rattle.sc_show.proofs.PrinterChildren.{HasChildren}
use Rattle.sc_show.proofs.printer.Printer.+condition_number.Given as goal

abbrev pub decreases-condition_number : goal.decreases-condition_number
decreases-condition_number g l = length l.space.now.variables.items - l.from

abbrev pub invariant-loop-option : goal.invariant-loop-option
invariant-loop-option g l =
    let sets = g.C.Conditions.sets in
    record {
      own : IsCond (sets l.conds) l.cond.0;
      later : DependsFrom (sets l.conds) l.cond.0 l.variable;
      keeps : Keeps (sets l.fn.conds) (sets l.conds);
      lines : Introduced (seen_space l.space) (sets l.fn.conds) (sets l.conds) l.fn.self l.self l.children.items;
      from : AreFrom (sets l.conds) l.fn.self.conditions.keys l.self.conditions.keys (l.variable + 1);
      children : HasChildren (sets l.conds) l.self.conditions.keys l.cond l.variable l.children.items;
      count : length l.children.items ≡ l.option;
    }
