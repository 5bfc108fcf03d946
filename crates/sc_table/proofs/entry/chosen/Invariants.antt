use Rattle.std.proofs.Common.{◌≡◌, ℕ, List, [], take, if◌then◌else◌}
use Rattle.std.specs.Option.{option_to_list}
use Rattle.std.specs.Prelude.{slice_index}
use Rattle.sc_guarded.specs.Items.{items_at}
use Rattle.sc_model.specs.Sets.{IsConfig, Keeps}
use Rattle.sc_table.specs.Parts.{valued, AreSome, AreDrawn}
use Rattle.sc_table.specs.Table.{AreOptionsNamed, definition_at, seen_options}
use Rattle.sc_table.proofs.entry.chosen.Given as goal

abbrev pub invariant-loop-place : goal.invariant-loop-place
invariant-loop-place g l =
    let sets = g.C.Conditions.sets in
    record {
      keeps : Keeps (sets l.fn.conds) (sets l.conds);
      parts : AreSome (sets l.conds) (valued l.met.items);
      items : (c : List ℕ) → IsConfig (sets l.fn.conds).arities c
          → items_at (sets l.conds) (valued l.met.items) c ≡ (if (sets l.fn.conds).has l.by.0 c then option_to_list (definition_at (take l.place l.definitions) (slice_index l.places (slice_index c l.variable))) else []);
      drawn : (names : List (List ℕ)) → AreOptionsNamed names l.definitions → AreDrawn names (seen_options names (take l.place l.definitions)) (valued l.met.items);
    }
