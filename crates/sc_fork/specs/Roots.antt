-- The trees and the faults of what has ended, and the root that stands for the trees.
use Rattle.std.specs.Prelude.{◌≡◌, ℕ, ◌<◌, ◌≤◌, ◌==◌, true, false, List, [], ◌∷◌, ◌++◌, length, map, slice_get, Option, Some, None, All}
use Rattle.std.specs.List.{position}
use Rattle.sc_base.specs.declared.fault.Fault.{Fault}
use Rattle.sc_base.specs.declared.id.Cond.{Cond}
use Rattle.sc_base.specs.declared.id.TreeId.{TreeId}
use Rattle.sc_fork.specs.declared.piece.Answer.{Answer}
use Rattle.sc_fork.specs.declared.piece.Answer.TheVariants.{Root, Refused}
use Rattle.sc_fork.specs.declared.piece.Ended.{Ended}
use Rattle.sc_guarded.specs.Items.{items_at}
use Rattle.sc_model.specs.Growth.{IsOneToOne}
use Rattle.sc_model.specs.Sets.{Sets, IsConfig, IsCond, IsNever}
use Rattle.sc_tree.specs.Lines.{Line, choice}

abbrev pub faults_by : Cond → Answer → List Fault
faults_by cond (Root id) = []
faults_by cond (Refused cause place) = record { cond = cond; cause = cause; place = place } ∷ []

-- why the parts without a tree have none
abbrev pub faults_of : List Ended → List Fault
faults_of [] = []
faults_of (e ∷ es) = faults_by e.cond e.answer ++ faults_of es

abbrev pub trees_by : Cond → Answer → List (Cond × TreeId)
trees_by cond (Root id) = (cond, id) ∷ []
trees_by cond (Refused cause place) = []

-- the trees of the parts that have one
abbrev pub trees_of : List Ended → List (Cond × TreeId)
trees_of [] = []
trees_of (e ∷ es) = trees_by e.cond e.answer ++ trees_of es

-- the root with this tree
abbrev pub root_at : List (Cond × TreeId) → ℕ → Option ℕ
root_at roots tree = position (λ root. root.1.0 == tree) roots

-- some configuration has it
abbrev pub IsSatisfiable : Sets → Cond × TreeId → Type 0
IsSatisfiable sets root = IsNever sets root.0.0 → ⊥

abbrev pub trees_in : List (Cond × TreeId) → List TreeId
trees_in roots = map (λ (root : Cond × TreeId). root.1) roots

-- the configurations of one more condition have the tree
pub record AddsRoot (old new : Sets) (cond : Cond) (tree : TreeId) (before after : List (Cond × TreeId)) : Type 0 where
  pub own : All (λ (root : Cond × TreeId). IsCond new root.0.0) after
  pub satisfiable : All (IsSatisfiable old) before → (IsNever old cond.0 → ⊥) → All (IsSatisfiable new) after
  pub within : (count : ℕ) → All (λ (root : Cond × TreeId). root.1.0 < count) before → tree.0 < count → All (λ (root : Cond × TreeId). root.1.0 < count) after
  pub once : IsOneToOne (trees_in before) → IsOneToOne (trees_in after)
  pub here : (c : List ℕ) → IsConfig old.arities c → old.has cond.0 c ≡ true → items_at old before c ≡ [] → items_at new after c ≡ tree ∷ []
  pub others : (c : List ℕ) → IsConfig old.arities c → old.has cond.0 c ≡ false → items_at new after c ≡ items_at old before c

-- The roots are the trees of the parts, each tree once. At a configuration of one part they are the
-- tree of this part.
pub record AreRoots (old new : Sets) (parts roots : List (Cond × TreeId)) : Type 0 where
  pub own : All (λ (root : Cond × TreeId). IsCond new root.0.0) roots
  pub satisfiable : All (IsSatisfiable old) parts → All (IsSatisfiable new) roots
  pub within : (count : ℕ) → All (λ (part : Cond × TreeId). part.1.0 < count) parts → All (λ (root : Cond × TreeId). root.1.0 < count) roots
  pub once : IsOneToOne (trees_in roots)
  pub same : (c : List ℕ) → IsConfig old.arities c → length (items_at old parts c) ≤ 1 → items_at new roots c ≡ items_at old parts c

-- the one tree, or a choice of the trees
pub data IsRoot (lines : List Line) : List (Cond × TreeId) → Option TreeId → Type 0 where
  no_root : IsRoot lines [] None
  only_root : (root : Cond × TreeId) → IsRoot lines (root ∷ []) (Some root.1)
  chosen_root : (roots : List (Cond × TreeId)) (id : TreeId) → 1 < length roots → id.0 < length lines → slice_get lines id.0 ≡ Some (choice roots) → IsRoot lines roots (Some id)

-- nothing is added, or a choice of these
pub data AddsChoice (roots : List (Cond × TreeId)) (old new : List Line) : Type 0 where
  no_choice : new ≡ old → AddsChoice roots old new
  one_choice : 1 < length roots → new ≡ old ++ choice roots ∷ [] → AddsChoice roots old new
