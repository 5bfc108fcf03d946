-- What a reduction makes of the levels and of the values that it takes from the stack.
use Rattle.std.specs.Prelude.{◌≡◌, ℕ, true, List, [], ◌∷◌, length, slice_get, Option, Some}
use Rattle.std.specs.List.{filter_map}
use Rattle.c11_parsing.specs.Bindings as plain
use Rattle.c11_parsing.specs.Bindings.{bind_all}
use Rattle.c11_parsing.specs.Trees.{Tree}
use Rattle.sc_base.specs.declared.id.Cond.{Cond}
use Rattle.sc_base.specs.declared.id.Name.{Name}
use Rattle.sc_base.specs.declared.id.TreeId.{TreeId}
use Rattle.sc_guarded.specs.Items.{items_at}
use Rattle.sc_merge.specs.Merges.{tables_with}
use Rattle.sc_merge.specs.Shows.{ValueReads}
use Rattle.sc_model.specs.Growth.{IsOneToOne}
use Rattle.sc_model.specs.Sets.{Sets, IsConfig}
use Rattle.sc_scope.specs.declared.kind.NameKind.{NameKind}
use Rattle.sc_scope.specs.Levels.{Level}
use Rattle.sc_scope.specs.Shows.{Shows, kind_of}
use Rattle.sc_tree.specs.Lines.{Line, node}
use Rattle.sc_tree.specs.Reads.{Spells}

-- At a configuration of the condition the names that have the configuration are bound, in order.
pub record BindsUnder (old new : Sets) (cond : Cond) (kind : NameKind) (found : List (Cond × Name)) (levels others : List Level) : Type 0 where
  pub shows : (names : List (List ℕ)) (c : List ℕ) (texts : List (List ℕ)) (shown : List plain.Level) → IsOneToOne names → IsConfig old.arities c
      → old.has cond.0 c ≡ true → Spells names (items_at old found c) texts → Shows old names c levels shown
      → Shows new names c others (bind_all (kind_of kind) texts shown)

-- At a configuration of the condition this is done to the levels, by the tree that the value stands
-- for there.
pub record Rebinds (old new : Sets) (lines : List Line) (cond : Cond) (value : Option TreeId) (does : Option Tree → List plain.Level → List plain.Level)
    (levels others : List Level) : Type 0 where
  pub shows : (names files : List (List ℕ)) (c : List ℕ) (tree : Option Tree) (shown : List plain.Level) → IsOneToOne names → IsConfig old.arities c
      → old.has cond.0 c ≡ true → ValueReads (tables_with old lines names files) c value tree → Shows old names c levels shown
      → Shows new names c others (does tree shown)

-- The tree of a left side: that of the only value, or else a node of the values that are trees.
pub data IsValueOf (lines : List Line) (number : ℕ) : List (Option TreeId) → Option TreeId → Type 0 where
  passed_on : (value : Option TreeId) → IsValueOf lines number (value ∷ []) value
  made : (values : List (Option TreeId)) (id : TreeId) → (length values ≡ 1 → ⊥)
      → slice_get lines id.0 ≡ Some (node number (filter_map (λ value. value) values)) → IsValueOf lines number values (Some id)
