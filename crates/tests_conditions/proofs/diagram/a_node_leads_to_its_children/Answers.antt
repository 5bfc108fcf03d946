use Rattle.std.proofs.Common.{ℕ, ◌∙◌, sym, Bool, [], ◌∷◌}
use Rattle.std.proofs.lemmas.List.Elements.{All-cons, All-nil}
use Rattle.sc_diagram.specs.Diagram.{sets_of}
use Rattle.sc_diagram.specs.declared.node.Node.{Node}
use Rattle.sc_model.proofs.SetLemmas.{IsConfig-set}
use Rattle.sc_model.specs.Sets.{Denotes, DependsFrom, Sets}
use Rattle.tests_conditions.proofs.diagram.a_node_leads_to_its_children.Goals as goal

-- what all configurations have, or none, depends on no variable
constant : {s : Sets} {a : ℕ} {b : Bool} (v : ℕ) → Denotes s a (λ _. b) → DependsFrom s a v
constant v all = record {
  free = λ u below depends. depends.changes (all.at depends.config depends.listed
      ∙ sym (all.at _ (IsConfig-set u depends.option depends.listed depends.within depends.in_range)));
}

pub node-requires-clause-later : goal.node-requires-clause-later
node-requires-clause-later g c =
    let P : Node → Type 0 = λ child. DependsFrom (sets_of c.in_ok-store.store) child.0 1 in
    All-cons P c.never.result (c.always.result ∷ []) (constant 1 c.never.ensures.meaning)
    (All-cons P c.always.result [] (constant 1 c.always.ensures.meaning) (All-nil P))
