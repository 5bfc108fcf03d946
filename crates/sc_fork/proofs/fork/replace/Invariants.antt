use Rattle.std.proofs.Common.{◌≡◌, ◌++◌, length}
use Rattle.std.specs.Vec.Iter.{into_iter_items, into_iter_len}
use Rattle.sc_fork.specs.Pieces.{IsPlaced}
use Rattle.sc_fork.proofs.fork.replace.Given as goal

abbrev pub invariant-loop-piece : goal.invariant-loop-piece
invariant-loop-piece l = record {
  placed : IsPlaced l.initial.rows.items l.initial.ended.items l.yielded l.rows.items l.ended.items l.made.items;
  left : l.yielded ++ into_iter_items l.piece-iterator ≡ into_iter_items l.initial.piece-iterator;
  count : into_iter_len l.piece-iterator ≡ length (into_iter_items l.piece-iterator);
}
