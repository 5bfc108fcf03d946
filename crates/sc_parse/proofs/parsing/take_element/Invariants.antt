use Rattle.std.proofs.Common.{◌≡◌, length}
use Rattle.std.specs.Vec.Iter.{into_iter_items, into_iter_len}
use Rattle.sc_parse.proofs.TurnLemmas.{ArePutBack}
use Rattle.sc_parse.proofs.parsing.take_element.Given as goal

abbrev pub invariant-loop-number : goal.invariant-loop-number
invariant-loop-number g l = record {
  put : ArePutBack (g.C.Conditions.sets l.fn.conds) (g.C.Conditions.sets l.conds) l.fn.trees l.trees l.fn.steps l.steps l.fn.rows l.rows l.fn.at (into_iter_items l.number-iterator);
  count : into_iter_len l.number-iterator ≡ length (into_iter_items l.number-iterator);
}
