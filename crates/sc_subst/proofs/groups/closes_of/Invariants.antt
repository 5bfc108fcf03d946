use Rattle.std.proofs.Common.{◌≡◌, ◌<◌, ℕ, Some, length, slice_get, reverse}
use Rattle.sc_subst.proofs.GroupLemmas.{IsStack}
use Rattle.sc_subst.specs.Groups.{IsGroup, has_spelling}
use Rattle.sc_subst.proofs.groups.closes_of.Given as goal

abbrev pub invariant-loop-index : goal.invariant-loop-index
invariant-loop-index l = record {
  len : length l.closes.items ≡ length l.tokens;
  known : (index close : ℕ) → slice_get l.closes.items index ≡ Some close → 0 < close
      → IsGroup (has_spelling l.opening.0) (has_spelling l.closing.0) l.tokens index close;
  waiting : IsStack (has_spelling l.opening.0) (has_spelling l.closing.0) l.tokens l.index (reverse l.closing_ones.items);
}
