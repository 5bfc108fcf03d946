use Rattle.std.proofs.Common.{◌≡◌, ℕ, length}
use Rattle.std.specs.Vec.Iter.{into_iter_items, into_iter_len}
use Rattle.sc_parse.proofs.ShiftLemmas.{IsShifting}
use Rattle.sc_parse.specs.Numbers.{Each, IsReady}
use Rattle.sc_parse.proofs.parsing.shift.Given as goal

abbrev pub invariant-loop-made : goal.invariant-loop-made
invariant-loop-made g l = record {
  shifting : (j : ℕ) → Each (IsReady l.fn.steps.core.source j) l.fn.steps.core.subparsers l.fn.ready
      → IsShifting (g.C.Conditions.sets l.fn.conds) (g.C.Conditions.sets l.conds) l.fn.trees l.trees j l.fn.steps l.steps l.fn.ready l.behind.items (into_iter_items l.made-iterator);
  count : into_iter_len l.made-iterator ≡ length (into_iter_items l.made-iterator);
}
