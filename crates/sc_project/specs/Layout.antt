-- The tree of one configuration, laid out line by line.
use Rattle.std.specs.Prelude.{◌≡◌, ℕ, ◌+◌, List, [], ◌∷◌, ◌++◌, Some, length, slice_get, All}
use Rattle.c11_parsing.specs.Trees.{Tree}
use Rattle.sc_base.specs.declared.id.Cond.{Cond}
use Rattle.sc_base.specs.declared.id.Name.{Name}
use Rattle.sc_base.specs.declared.id.TreeId.{TreeId}
use Rattle.sc_base.specs.declared.place.Place.{Place}
use Rattle.sc_guarded.specs.Items.{items_at}
use Rattle.sc_model.specs.Sets.{Sets, IsCond}
use Rattle.sc_tree.specs.Lines.{Line, leaf, node, choice}
use Rattle.sc_tree.specs.Reads.{Reads}

-- With some texts of names and of files the id stands for a tree at the configuration: each choice
-- that is met has exactly one branch there.
pub record HasTree (sets : Sets) (lines : List Line) (c : List ℕ) (id : ℕ) : Type 0 where
  pub names : List (List ℕ)
  pub files : List (List ℕ)
  pub tree : Tree
  pub reads : Reads (record { sets = sets; names = names; files = files; lines = lines }) c id tree

-- The tree that an id stands for at a configuration, laid out from the number `start` on: its
-- lines, children first and from left to right, each once for each place where it occurs, and the
-- number of its root.
mutual
  pub data LaysOut (sets : Sets) (lines : List Line) (c : List ℕ) : ℕ → ℕ → List Line → ℕ → Type 0 where
    leaf_laid : (id start : ℕ) (place : Place) (spelling : Name) → slice_get lines id ≡ Some (leaf place spelling)
        → LaysOut sets lines c id start (leaf place spelling ∷ []) start
    node_laid : (id start production : ℕ) (children roots : List TreeId) (below : List Line) → slice_get lines id ≡ Some (node production children)
        → AllLaid sets lines c children start below roots
        → LaysOut sets lines c id start (below ++ node production roots ∷ []) (start + length below)
    choice_laid : (id start root : ℕ) (branches : List (Cond × TreeId)) (child : TreeId) (laid : List Line) → slice_get lines id ≡ Some (choice branches)
        → All (λ (branch : Cond × TreeId). IsCond sets branch.0.0) branches → items_at sets branches c ≡ child ∷ []
        → LaysOut sets lines c child.0 start laid root → LaysOut sets lines c id start laid root

  -- the trees of some ids one after the other, with the numbers of their roots
  pub data AllLaid (sets : Sets) (lines : List Line) (c : List ℕ) : List TreeId → ℕ → List Line → List TreeId → Type 0 where
    none_laid : (start : ℕ) → AllLaid sets lines c [] start [] []
    more_laid : (child root : TreeId) (children roots : List TreeId) (start : ℕ) (laid rest : List Line) → LaysOut sets lines c child.0 start laid root.0
        → AllLaid sets lines c children (start + length laid) rest roots → AllLaid sets lines c (child ∷ children) start (laid ++ rest) (root ∷ roots)
