use Rattle.std.proofs.Common.{◌≡◌, length}
use Rattle.std.specs.Vec.Iter.{into_iter_items, into_iter_len}
use Rattle.sc_parse.proofs.WeightLemmas.{HasReduced}
use Rattle.sc_parse.proofs.reductions.reduce_group.Given as goal

abbrev pub invariant-loop-made : goal.invariant-loop-made
invariant-loop-made g l = record {
  reduced : HasReduced (g.C.Conditions.sets l.fn.conds) (g.C.Conditions.sets l.conds) l.fn.trees l.trees l.fn.steps l.steps l.group l.fn.waiting.entries l.rank (into_iter_items l.made-iterator) l.waiting.entries;
  count : into_iter_len l.made-iterator ≡ length (into_iter_items l.made-iterator);
}
