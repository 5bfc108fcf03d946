use Rattle.std.proofs.Common.{◌≡◌, [], length}
use Rattle.std.specs.Vec.Iter.{into_iter_items, into_iter_len}
use Rattle.sc_parse.proofs.WeightLemmas.{bound_of, HasGone}
use Rattle.sc_parse.proofs.reductions.reduced.Given as goal

abbrev pub invariant-loop-number : goal.invariant-loop-number
invariant-loop-number g l = record {
  gone : HasGone (g.C.Conditions.sets l.fn.conds) (g.C.Conditions.sets l.conds) l.fn.trees l.trees l.fn.steps l.steps l.fn.row.items [] (into_iter_items l.number-iterator) l.waiting.entries;
  count : into_iter_len l.number-iterator ≡ length (into_iter_items l.number-iterator);
}

abbrev pub invariant-loop-heaviest : goal.invariant-loop-heaviest
invariant-loop-heaviest g l =
    HasGone (g.C.Conditions.sets l.fn.conds) (g.C.Conditions.sets l.conds) l.fn.trees l.trees l.fn.steps l.steps l.fn.row.items l.ready.items [] l.waiting.entries

-- what is put to those that wait is lighter than what was taken from them
abbrev pub decreases-loop-heaviest : goal.decreases-loop-heaviest
decreases-loop-heaviest g l = bound_of l.waiting.entries
