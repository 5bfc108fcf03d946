use Rattle.std.proofs.Common.{ℕ, List, All, map, take}
use Rattle.sc_base.specs.declared.id.Cond.{Cond}
use Rattle.sc_base.specs.declared.id.Name.{Name}
use Rattle.sc_guarded.specs.Items.{items_at}
use Rattle.sc_model.specs.Sets.{IsConfig, IsCond, Keeps}
use Rattle.sc_tree.specs.Parameters.{AreParameters}
use Rattle.sc_tree.specs.Reads.{Spells}
use Rattle.sc_tree.specs.Views.{line_of}
use Rattle.sc_tree.proofs.parameters.parameter_names.Given as goal

abbrev pub invariant-loop-list : goal.invariant-loop-list
invariant-loop-list g l =
    let sets = g.C.Conditions.sets in
    record {
      keeps : Keeps (sets l.fn.conds) (sets l.conds);
      own : All (λ (name : Cond × Name). IsCond (sets l.conds) name.0.0) l.names.items;
      spells : (names files : List (List ℕ)) (d : List ℕ) (texts : List (List ℕ)) → IsConfig (sets l.fn.conds).arities d
          → AreParameters (record { sets = sets l.fn.conds; names = names; files = files; lines = map line_of l.lines }) d (items_at (sets l.fn.conds) (take l.list-index l.lists) d) texts
          → Spells names (items_at (sets l.conds) l.names.items d) texts;
    }
