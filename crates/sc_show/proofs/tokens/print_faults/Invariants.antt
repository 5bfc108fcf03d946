use Rattle.std.proofs.Common.{map, take}
use Rattle.sc_model.specs.Sets.{Keeps}
use Rattle.sc_space.specs.Seen.{seen_space}
use Rattle.sc_show.specs.Rules.{fault_item, LaidOut}
use Rattle.sc_show.proofs.tokens.print_faults.Given as goal

abbrev pub invariant-loop-fault : goal.invariant-loop-fault
invariant-loop-fault g l =
    let sets = g.C.Conditions.sets in
    record {
      keeps : Keeps (sets l.fn.conds) (sets l.conds);
      lines : LaidOut (seen_space l.space) (sets l.fn.conds) (sets l.conds) l.files l.fn.printer l.printer (map fault_item (take l.fault-index l.faults));
    }
