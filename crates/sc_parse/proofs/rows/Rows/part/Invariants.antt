use Rattle.std.proofs.Common.{◌≡◌, length}
use Rattle.std.specs.Vec.Iter.{into_iter_items, into_iter_len}
use Rattle.sc_parse.proofs.PartLemmas.{ArePartlyFiled}
use Rattle.sc_parse.proofs.rows.Rows.part.Given as goal

abbrev pub invariant-loop-part : goal.invariant-loop-part
invariant-loop-part g l = record {
  parts : ArePartlyFiled (g.C.Conditions.sets l.fn.conds) (g.C.Conditions.sets l.conds) l.fn.trees l.trees l.number l.fn.self l.fn.steps (into_iter_items l.part-iterator) l.self l.steps;
  count : into_iter_len l.part-iterator ≡ length (into_iter_items l.part-iterator);
}
