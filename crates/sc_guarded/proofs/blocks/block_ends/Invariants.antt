use Rattle.std.proofs.Common.{◌≡◌, ℕ, ◌<◌, ◌≤◌, length}
use Rattle.std.specs.Prelude.{slice_index}
use Rattle.sc_guarded.specs.Blocks.{IsBlock}
use Rattle.sc_model.specs.Sets.{Keeps}
use Rattle.sc_guarded.proofs.blocks.block_ends.Given as goal

abbrev pub invariant-loop-index : goal.invariant-loop-index
invariant-loop-index g l =
    let sets = g.C.Conditions.sets in
    record {
      keeps : Keeps (sets l.fn.conds) (sets l.conds);
      long : length l.ends.items ≡ length l.items;
      blocks : (i : ℕ) → l.index ≤ i → i < length l.items → IsBlock (sets l.conds) l.items i (slice_index l.ends.items i);
    }
