use Rattle.std.proofs.Common.{◌≡◌, ◌≤◌, ℕ, List, true, false}
use Rattle.sc_hoist.specs.Reading.{depth_of, is_final}
use Rattle.sc_hoist.proofs.CommonLemmas.{Reads}
use Rattle.sc_model.specs.Sets.{Sets}
use Rattle.sc_hoist.proofs.found_calls.common_places.Given as goal

abbrev pub invariant-loop-index : goal.invariant-loop-index
invariant-loop-index g l = record {
  deep : depth_of l.state ≤ l.index;
  goes : is_final l.state ≡ false;
  reads : (s : Sets) (c : List ℕ) → s.has l.cond.0 c ≡ true → Reads s l.names (g.L.TokenList.tokens l.list) l.at l.index l.state l.places.items c;
}
