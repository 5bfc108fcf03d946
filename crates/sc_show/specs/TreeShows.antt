-- What the text of a tree shows of a store of trees.
use Rattle.std.specs.Prelude.{◌≡◌, ℕ, ◌<◌, true, List, [], ◌∷◌, ◌++◌, length, map, Option, Some, None, slice_get}
use Rattle.std.specs.List.{concat, Contains}
use Rattle.std.specs.Option.{option_to_list}
use Rattle.c11_parsing.specs.Trees as plain
use Rattle.c11_parsing.specs.Trees.{Tree, Forest, no_trees, trees}
use Rattle.sc_base.specs.declared.fault.Fault as base
use Rattle.sc_base.specs.declared.id.Cond.{Cond}
use Rattle.sc_base.specs.declared.id.Name.{Name}
use Rattle.sc_base.specs.declared.id.TreeId.{TreeId}
use Rattle.sc_base.specs.declared.place.Place.{Place}
use Rattle.sc_base.specs.Seen.{text_at, seen_place}
use Rattle.sc_guarded.specs.Items.{faults_at, seen_fault}
use Rattle.sc_model.specs.Bytes.{has_no_newline}
use Rattle.sc_model.specs.Growth.{IsOneToOne}
use Rattle.sc_model.specs.Sets.{Sets, IsConfig}
use Rattle.sc_model.specs.Space.{Space}
use Rattle.sc_model.specs.Token.{shown}
use Rattle.sc_text.specs.Answer.{Condition, project, Part, leaf_part, node_part, choice_part, ShownTree, shown_leaf, shown_node, ShownForest, no_shown, more_shown, TreeAt, tree_parts, Answer}
use Rattle.sc_text.specs.Layout.{IsTextOf}
use Rattle.sc_tree.specs.Lines.{Line, leaf, node, choice, children_of}
use Rattle.sc_tree.specs.Reads.{Reads}
use Rattle.sc_show.specs.Pieces.{split_lines_after}

-- ---- what can be shown

-- the place and the spelling are held, and of one line
pub record IsShowableLeaf (names files : List (List ℕ)) (place : Place) (spelling : Name) : Type 0 where
  pub file : place.file.0 < length files
  pub name : spelling.0 < length names
  pub plain : has_no_newline (text_at names spelling.0) ≡ true

-- each leaf of the store can be shown
pub record AreShowableLeaves (names files : List (List ℕ)) (store : List Line) : Type 0 where
  pub each : (i : ℕ) (place : Place) (spelling : Name) → slice_get store i ≡ Some (leaf place spelling) → IsShowableLeaf names files place spelling

-- ---- what is shown

-- what a text shows of a tree
abbrev mutual
  pub shown_tree : Tree → ShownTree
  shown_tree (plain.leaf token) = shown_leaf (shown token)
  shown_tree (plain.node production children) = shown_node production (shown_forest children)

  pub shown_forest : Forest → ShownForest
  shown_forest no_trees = no_shown
  shown_forest (trees tree forest) = more_shown (shown_tree tree) (shown_forest forest)

-- A walk to trees of the store that goes children first and from left to right, and comes to each
-- tree once. The last list has all to which it came, those before it first.
pub data FinishesIn (store : List Line) : List TreeId → List TreeId → List TreeId → Type 0 where
  nowhere_in : (done : List TreeId) → FinishesIn store done [] done
  was_there_in : (done now : List TreeId) (id : TreeId) (others : List TreeId) → Contains done id → FinishesIn store done others now → FinishesIn store done (id ∷ others) now
  comes_in : (done before now : List TreeId) (id : TreeId) (others : List TreeId) (line : Line) → (Contains done id → ⊥) → slice_get store id.0 ≡ Some line
      → FinishesIn store done (children_of line) before → FinishesIn store (before ++ id ∷ []) others now → FinishesIn store done (id ∷ others) now

-- the numbers of ids, which are their places in this list
pub data AreNumbersOf (ids : List TreeId) : List TreeId → List ℕ → Type 0 where
  no_numbers : AreNumbersOf ids [] []
  more_numbers : (id : TreeId) (number : ℕ) (others : List TreeId) (numbers : List ℕ) → slice_get ids number ≡ Some id → AreNumbersOf ids others numbers
      → AreNumbersOf ids (id ∷ others) (number ∷ numbers)

-- the branches with their numbers, under the same conditions
pub data AreBranchesOf (s : Sets) (ids : List TreeId) : List (Cond × TreeId) → List (Condition × ℕ) → Type 0 where
  no_branches : AreBranchesOf s ids [] []
  more_branches : (branch : Cond × TreeId) (test : Condition) (number : ℕ) (branches : List (Cond × TreeId)) (tests : List (Condition × ℕ))
      → ((c : List ℕ) → IsConfig s.arities c → test c ≡ s.has branch.0.0 c) → slice_get ids number ≡ Some branch.1 → AreBranchesOf s ids branches tests
      → AreBranchesOf s ids (branch ∷ branches) ((test, number) ∷ tests)

-- the part that shows a line of the store
pub data IsPartOf (s : Sets) (names files : List (List ℕ)) (ids : List TreeId) : Line → Part → Type 0 where
  leaf_shown : (place : Place) (spelling : Name) → IsPartOf s names files ids (leaf place spelling) (leaf_part (record { place = seen_place files place; spelling = text_at names spelling.0 }))
  node_shown : (production : ℕ) (children : List TreeId) (numbers : List ℕ) → AreNumbersOf ids children numbers
      → IsPartOf s names files ids (node production children) (node_part production numbers)
  choice_shown : (branches : List (Cond × TreeId)) (tests : List (Condition × ℕ)) → AreBranchesOf s ids branches tests
      → IsPartOf s names files ids (choice branches) (choice_part tests)

-- the parts show these trees of the store, in order
pub data ArePartsOf (s : Sets) (names files : List (List ℕ)) (store : List Line) (ids : List TreeId) : List TreeId → List Part → Type 0 where
  no_parts : ArePartsOf s names files store ids [] []
  more_parts : (id : TreeId) (line : Line) (part : Part) (others : List TreeId) (parts : List Part) → slice_get store id.0 ≡ Some line → IsPartOf s names files ids line part
      → ArePartsOf s names files store ids others parts → ArePartsOf s names files store ids (id ∷ others) (part ∷ parts)

-- the branches are those of a choice of the store, under the same conditions
pub record IsChoiceOf (s : Sets) (store : List Line) (ids : List TreeId) (tests : List (Condition × ℕ)) : Type 0 where
  pub id : TreeId
  pub branches : List (Cond × TreeId)
  pub in_store : slice_get store id.0 ≡ Some (choice branches)
  pub are : AreBranchesOf s ids branches tests
  pub as_many : length tests ≡ length branches

-- the number of the whole tree, if there is one
pub data IsRootOf (ids : List TreeId) : Option TreeId → Option ℕ → Type 0 where
  no_root : IsRootOf ids None None
  root_of : (id : TreeId) (number : ℕ) → slice_get ids number ≡ Some id → IsRootOf ids (Some id) (Some number)

-- The text is that of an answer with the tree of the store and, at each configuration, its fault.
-- Its parts are the trees below the root, each once, in the order in which a walk finishes them. At
-- a configuration its tree is the one for which the root stands.
pub record ShowsTree (space : Space) (s : Sets) (names files : List (List ℕ)) (store : List Line) (root : Option TreeId) (faults : List base.Fault) (text : List ℕ) : Type 0 where
  pub pieces : List (List ℕ)
  pub answer : Answer tree_parts
  pub whole : text ≡ concat pieces
  pub cut : split_lines_after text ≡ pieces
  pub text_of : IsTextOf space pieces answer
  pub ids : List TreeId
  pub once : IsOneToOne ids
  pub finished : FinishesIn store [] (option_to_list root) ids
  pub parts : ArePartsOf s names files store ids ids answer.body.parts
  pub root_is : IsRootOf ids root answer.body.root
  pub trees : (c : List ℕ) → IsConfig s.arities c → (id : TreeId) (number : ℕ) (tree : Tree) → root ≡ Some id → answer.body.root ≡ Some number
      → Reads (record { sets = s; names = names; files = files; lines = store }) c id.0 tree → TreeAt answer.body.parts c number (shown_tree tree)
  pub faults_are : (c : List ℕ) → IsConfig s.arities c → project answer.faults c ≡ map (seen_fault files) (faults_at s faults c)
