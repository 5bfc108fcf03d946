use Rattle.std.proofs.Common.{◌≡◌, ℕ, List, [], take, if◌then◌else◌}
use Rattle.sc_guarded.specs.Items.{items_at}
use Rattle.sc_model.specs.Sets.{IsConfig, Keeps}
use Rattle.sc_table.specs.Parts.{valued, AreSome, AreNamed, AreDrawn, seen_all}
use Rattle.sc_table.proofs.parts.restricted.Given as goal

abbrev pub invariant-loop-part : goal.invariant-loop-part
invariant-loop-part g l =
    let sets = g.C.Conditions.sets in
    record {
      keeps : Keeps (sets l.fn.conds) (sets l.conds);
      parts : AreSome (sets l.conds) (valued l.met.items);
      items : (c : List ℕ) → IsConfig (sets l.fn.conds).arities c
          → items_at (sets l.conds) (valued l.met.items) c ≡ (if (sets l.fn.conds).has l.by.0 c then items_at (sets l.fn.conds) (take l.part-index (valued l.parts)) c else []);
      drawn : (names : List (List ℕ)) → AreNamed names (valued l.parts) → AreDrawn names (seen_all names (take l.part-index (valued l.parts))) (valued l.met.items);
    }
