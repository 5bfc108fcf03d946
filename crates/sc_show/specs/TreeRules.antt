-- What a printer adds to its text for trees, and the lines of the trees that it prints.
use Rattle.std.specs.Prelude.{◌≡◌, ℕ, ◌+◌, List, [], ◌∷◌, ◌++◌, length, map, All, Some, slice_get}
use Rattle.std.specs.List.{Contains}
use Rattle.sc_base.specs.declared.id.Cond.{Cond}
use Rattle.sc_base.specs.declared.id.FileId.{FileId}
use Rattle.sc_base.specs.declared.id.Name.{Name}
use Rattle.sc_base.specs.declared.id.TreeId.{TreeId}
use Rattle.sc_base.specs.declared.place.Place.{Place}
use Rattle.sc_base.specs.Seen.{text_at}
use Rattle.sc_model.specs.Growth.{Extends}
use Rattle.sc_model.specs.Sets.{Sets, IsCond}
use Rattle.sc_model.specs.Space.{Space}
use Rattle.sc_text.specs.Text.{TextLine, leaf_line, node_line, choice_line}
use Rattle.sc_tree.specs.Lines.{Line, leaf, node, choice, children_of}
use Rattle.sc_show.specs.declared.printer.Printer.{Printer}
use Rattle.sc_show.specs.Prints.{printed_place}
use Rattle.sc_show.specs.Rules.{LaidLines}
use Rattle.sc_show.specs.TreeShows.{AreNumbersOf, FinishesIn, IsShowableLeaf}

-- the numbers of the conditions and of the trees of branches
pub data AreBranchNumbers (conditions : List Cond) (ids : List TreeId) : List (Cond × TreeId) → List (ℕ × ℕ) → Type 0 where
  no_numbers : AreBranchNumbers conditions ids [] []
  more_numbers : (branch : Cond × TreeId) (condition number : ℕ) (branches : List (Cond × TreeId)) (numbers : List (ℕ × ℕ)) → slice_get conditions condition ≡ Some branch.0
      → slice_get ids number ≡ Some branch.1 → AreBranchNumbers conditions ids branches numbers
      → AreBranchNumbers conditions ids (branch ∷ branches) ((condition, number) ∷ numbers)

-- the line of a text that shows a line of the store under this number
pub data IsLineOf (names : List (List ℕ)) (conditions : List Cond) (files : List FileId) (ids : List TreeId) (number : ℕ) : Line → TextLine → Type 0 where
  of_leaf : (place : Place) (spelling : Name) (file : ℕ) → slice_get files file ≡ Some place.file
      → IsLineOf names conditions files ids number (leaf place spelling) (leaf_line number (printed_place file place) (text_at names spelling.0))
  of_node : (production : ℕ) (children : List TreeId) (numbers : List ℕ) → AreNumbersOf ids children numbers
      → IsLineOf names conditions files ids number (node production children) (node_line number production numbers)
  of_choice : (branches : List (Cond × TreeId)) (numbers : List (ℕ × ℕ)) → AreBranchNumbers conditions ids branches numbers
      → IsLineOf names conditions files ids number (choice branches) (choice_line number numbers)

-- the lines of trees, whose numbers count on from this one
pub data AreTreeLines (names : List (List ℕ)) (conditions : List Cond) (files : List FileId) (ids : List TreeId) : ℕ → List (TreeId × Line) → List TextLine → Type 0 where
  no_lines : (next : ℕ) → AreTreeLines names conditions files ids next [] []
  more_lines : (next : ℕ) (tree : TreeId × Line) (line : TextLine) (trees : List (TreeId × Line)) (lines : List TextLine) → IsLineOf names conditions files ids next tree.1 line
      → AreTreeLines names conditions files ids (next + 1) trees lines → AreTreeLines names conditions files ids next (tree ∷ trees) (line ∷ lines)

-- the trees were printed; their lines say the same as the store and the numbers grow
pub record LaidOutTree (space : Space) (old new : Sets) (names files : List (List ℕ)) (p q : Printer) (trees : List (TreeId × Line)) : Type 0 where
  pub shown : List TextLine
  pub laid : LaidLines space old new files p q shown
  pub are : (conditions : List Cond) (file_ids : List FileId) (ids : List TreeId) → Extends q.conditions.keys conditions → Extends q.files.keys file_ids → Extends q.trees.keys ids
      → AreTreeLines names conditions file_ids ids (length p.trees.keys) trees shown
  pub keys : q.trees.keys ≡ p.trees.keys ++ map (λ (tree : TreeId × Line). tree.0) trees

-- a line can be printed: what it names is held, and the trees below it are printed
pub record IsReady (s : Sets) (names files : List (List ℕ)) (ids : List TreeId) (line : Line) : Type 0 where
  pub held : (place : Place) (spelling : Name) → line ≡ leaf place spelling → IsShowableLeaf names files place spelling
  pub below : All (Contains ids) (children_of line)
  pub own : (branches : List (Cond × TreeId)) → line ≡ choice branches → All (λ (branch : Cond × TreeId). IsCond s branch.0.0) branches

-- trees of the store were printed with all below them
pub record PrintedTree (space : Space) (old new : Sets) (names files : List (List ℕ)) (store : List Line) (p q : Printer) (roots : List TreeId) : Type 0 where
  pub trees : List (TreeId × Line)
  pub laid : LaidOutTree space old new names files p q trees
  pub of_store : All (λ (tree : TreeId × Line). slice_get store tree.0.0 ≡ Some tree.1) trees
  pub finished : FinishesIn store p.trees.keys roots q.trees.keys
