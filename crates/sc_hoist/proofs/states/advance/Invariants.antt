use Rattle.std.proofs.Common.{◌≡◌, ℕ, ◌+◌, Bool, List, take, if◌then◌else◌}
use Rattle.sc_hoist.specs.declared.state.State.{State}
use Rattle.sc_hoist.specs.Reading.{AreEntries, AreShallow, in_states, step}
use Rattle.sc_model.specs.Sets.{IsConfig, Keeps}
use Rattle.sc_hoist.proofs.states.advance.Given as goal

abbrev pub invariant-loop-index : goal.invariant-loop-index
invariant-loop-index g l =
    let sets = g.C.Conditions.sets in
    record {
      keeps : Keeps (sets l.fn.conds) (sets l.conds);
      own : AreEntries (sets l.conds) l.next.items;
      states : (test : State → Bool) (c : List ℕ) → IsConfig (sets l.fn.conds).arities c
          → in_states (sets l.conds) l.next.items test c ≡ in_states (sets l.fn.conds) (take l.index l.entries.items) (λ st. test (if (sets l.fn.conds).has l.item.0 c then step l.role st else st)) c;
      shallow : (bound : ℕ) → AreShallow bound l.entries.items → AreShallow (bound + 1) l.next.items;
    }
