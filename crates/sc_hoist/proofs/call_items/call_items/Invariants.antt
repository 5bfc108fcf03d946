use Rattle.std.proofs.Common.{◌≡◌, ℕ, ◌+◌, ◌&&◌, ◌∷◌, Bool, true, List, All, drop, length}
use Rattle.sc_base.specs.declared.id.Cond.{Cond}
use Rattle.sc_hoist.specs.declared.state.State.{State}
use Rattle.sc_hoist.specs.declared.state.State.TheVariants.{Alone}
use Rattle.sc_hoist.specs.Places.{places_from}
use Rattle.sc_hoist.specs.Reading.{AreEntries, AreShallow, in_states, state_after, taken_from}
use Rattle.sc_hoist.proofs.ItemLemmas.{IsRead}
use Rattle.sc_model.specs.Sets.{IsConfig, IsCond, Keeps}
use Rattle.sc_hoist.proofs.call_items.call_items.Given as goal

abbrev pub invariant-loop-index : goal.invariant-loop-index
invariant-loop-index g l =
    let sets = g.C.Conditions.sets in
    let tokens = g.L.TokenList.tokens l.list in
    record {
      keeps : Keeps (sets l.fn.conds) (sets l.conds);
      own : All (λ (item : Cond). IsCond (sets l.conds) item.0) l.taken.items;
      states_own : AreEntries (sets l.conds) l.states.items;
      shallow : AreShallow l.index l.states.items;
      long : l.at + length l.taken.items ≡ l.index;
      states : (test : State → Bool) (c : List ℕ) → IsConfig (sets l.fn.conds).arities c
          → in_states (sets l.conds) l.states.items (λ st. test (state_after (sets l.fn.conds) l.names (drop l.index tokens) c st)) c
          ≡ ((sets l.fn.conds).has l.fn.cond.0 c && test (state_after (sets l.fn.conds) l.names (drop (l.at + 1) tokens) c Alone));
      read : (c : List ℕ) → IsConfig (sets l.fn.conds).arities c → (sets l.fn.conds).has l.fn.cond.0 c ≡ true
          → IsRead (sets l.fn.conds) (sets l.conds) l.names tokens l.index l.states.items (places_from (sets l.conds) l.at l.taken.items c)
          (l.at ∷ taken_from (sets l.fn.conds) l.names Alone (l.at + 1) (drop (l.at + 1) tokens) c) c;
    }
