use Rattle.std.proofs.Common.{◌≡◌, ℕ, ◌+◌, ◌&&◌, Bool, List, drop}
use Rattle.sc_hoist.specs.declared.state.State.{State}
use Rattle.sc_hoist.specs.declared.state.State.TheVariants.{Alone}
use Rattle.sc_hoist.specs.Reading.{AreEntries, AreShallow, in_states, state_after}
use Rattle.sc_model.specs.Sets.{IsConfig, Keeps}
use Rattle.sc_hoist.proofs.ending.states_behind.Given as goal

abbrev pub invariant-loop-index : goal.invariant-loop-index
invariant-loop-index g l =
    let sets = g.C.Conditions.sets in
    let tokens = g.L.TokenList.tokens l.list in
    record {
      keeps : Keeps (sets l.fn.conds) (sets l.conds);
      own : AreEntries (sets l.conds) l.states.items;
      shallow : AreShallow l.index l.states.items;
      states : (test : State → Bool) (c : List ℕ) → IsConfig (sets l.fn.conds).arities c
          → in_states (sets l.conds) l.states.items (λ st. test (state_after (sets l.fn.conds) l.names (drop l.index tokens) c st)) c
          ≡ ((sets l.fn.conds).has l.fn.cond.0 c && test (state_after (sets l.fn.conds) l.names (drop (l.at + 1) tokens) c Alone));
    }
