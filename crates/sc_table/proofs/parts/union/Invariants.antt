use Rattle.std.proofs.Common.{take}
use Rattle.std.specs.List.{list_any}
use Rattle.sc_model.specs.Sets.{Denotes, Keeps}
use Rattle.sc_table.specs.Parts.{valued}
use Rattle.sc_table.proofs.parts.union.Given as goal

abbrev pub invariant-loop-part : goal.invariant-loop-part
invariant-loop-part g l =
    let sets = g.C.Conditions.sets in
    record {
      keeps : Keeps (sets l.fn.conds) (sets l.conds);
      meaning : Denotes (sets l.conds) l.all.0 (λ c. list_any (λ part. (sets l.fn.conds).has part.0.0 c) (take l.part-index (valued l.parts)));
    }
