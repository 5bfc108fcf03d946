use Rattle.std.proofs.Common.{◌≡◌, ◌++◌, length}
use Rattle.std.specs.Vec.Iter.{into_iter_items, into_iter_len}
use Rattle.sc_if.proofs.LineAnswers.{answers_to}
use Rattle.sc_if.proofs.answers.answers_to.Given as goal

abbrev pub invariant-loop-reading : goal.invariant-loop-reading
invariant-loop-reading l = record {
  can : goal.iterator-loop-reading.can_next l.reading-iterator;
  finite : goal.iterator-loop-reading.is_finite l.reading-iterator;
  long : into_iter_len l.reading-iterator ≡ length (into_iter_items l.reading-iterator);
  made : l.answers.items ++ answers_to (into_iter_items l.reading-iterator) ≡ answers_to l.fn.readings.items;
}
