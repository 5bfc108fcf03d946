-- Branches of the configurations whose call was read to one kind of end, put behind others.
use Rattle.std.specs.Prelude.{◌≡◌, ℕ, Bool, List, [], ◌∷◌, ◌++◌, if◌then◌else◌}
use Rattle.sc_base.specs.declared.id.Cond.{Cond}
use Rattle.sc_hoist.specs.Branches.{lists_at}
use Rattle.sc_hoist.specs.Calls.{ends_at}
use Rattle.sc_hoist.specs.declared.branch.Branch.{Branch}
use Rattle.sc_hoist.specs.declared.branch.Ends.{Ends}
use Rattle.sc_hoist.specs.declared.state.State.{State}
use Rattle.sc_hoist.specs.declared.states.Entry.{Entry}
use Rattle.sc_hoist.specs.Leaves.{Agree, AreMet}
use Rattle.sc_hoist.specs.Places.{places_from}
use Rattle.sc_hoist.specs.Reading.{in_states}
use Rattle.sc_model.specs.Sets.{Sets, IsConfig}

-- those that pass the test have one branch more, with their places and this end
pub record Adds (old new : Sets) (states : List Entry) (test : State → Bool) (at : ℕ) (conds : List Cond) (kind : Ends) (before after : List Branch) : Type 0 where
  pub met : AreMet new after
  pub lists : (c : List ℕ) → IsConfig old.arities c → lists_at new after c ≡ lists_at old before c ++ (if in_states old states test c then places_from old at conds c ∷ [] else [])
  pub ends : (c : List ℕ) → IsConfig old.arities c → ends_at new after c ≡ ends_at old before c ++ (if in_states old states test c then kind ∷ [] else [])
  pub agree : (c d : List ℕ) → IsConfig old.arities c → IsConfig old.arities d → in_states old states test c ≡ in_states old states test d → places_from old at conds c ≡ places_from old at conds d
      → Agree old before c d → Agree new after c d
