use Rattle.std.proofs.Common.{◌≡◌, ℕ, All, map, drop, reverse}
use Rattle.sc_expand.proofs.Terms.{IsHeldToken, Stores, Wanted, tokens_of, with_argument}
use Rattle.sc_expand.proofs.beginning.wanted_arguments.Given as goal

abbrev pub invariant-loop-index : goal.invariant-loop-index
invariant-loop-index l = record {
  is : map tokens_of (reverse l.made.items) ≡ map (with_argument l.raw) (drop l.index l.wanted);
  own : (st : Stores) (files : ℕ) → All (All (IsHeldToken st files)) l.raw → All (λ (w : Wanted). All (IsHeldToken st files) w.tokens) l.made.items;
}
