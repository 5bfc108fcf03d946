use Rattle.std.proofs.Common.{map, take}
use Rattle.sc_model.specs.Sets.{Keeps}
use Rattle.sc_space.specs.Seen.{seen_space}
use Rattle.sc_show.specs.Rules.{list_item, LaidOut}
use Rattle.sc_show.proofs.tokens.print_list.Given as goal

abbrev pub invariant-loop-index : goal.invariant-loop-index
invariant-loop-index g l =
    let sets = g.C.Conditions.sets in
    record {
      keeps : Keeps (sets l.fn.conds) (sets l.conds);
      lines : LaidOut (seen_space l.space) (sets l.fn.conds) (sets l.conds) l.files l.fn.printer l.printer (map (list_item l.names) (take l.index l.list));
    }
