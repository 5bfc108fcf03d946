use Rattle.std.proofs.Common.{◌≡◌, ℕ, All, length}
use Rattle.sc_subst.proofs.groups.zeros.Given as goal

abbrev pub invariant-loop-index : goal.invariant-loop-index
invariant-loop-index l = record { len : length l.made.items ≡ l._index; zeros : All (λ (n : ℕ). n ≡ 0) l.made.items }
