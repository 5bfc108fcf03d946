-- The tree of one configuration that an id stands for.
use Rattle.std.specs.Prelude.{◌≡◌, ℕ, List, [], ◌∷◌, map, Some, slice_get, All}
use Rattle.c11_parsing.specs.Trees as plain
use Rattle.c11_parsing.specs.Trees.{Tree, Forest, no_trees, trees}
use Rattle.sc_base.specs.declared.id.Cond.{Cond}
use Rattle.sc_base.specs.declared.id.Name.{Name}
use Rattle.sc_base.specs.declared.id.TreeId.{TreeId}
use Rattle.sc_base.specs.declared.place.Place.{Place}
use Rattle.sc_base.specs.Seen.{position_of}
use Rattle.sc_guarded.specs.Items.{items_at}
use Rattle.sc_model.specs.Growth.{Extends}
use Rattle.sc_model.specs.Sets.{Sets, IsCond, Keeps}
use Rattle.sc_model.specs.Token.{Token}
use Rattle.sc_tree.specs.Lines.{Line, leaf, node, choice}

-- what tells the meaning of ids: the conditions, the texts of names and of files, and the trees
pub record Tables : Type 0 where
  pub sets : Sets
  pub names : List (List ℕ)
  pub files : List (List ℕ)
  pub lines : List Line

-- each id means what it meant
pub record Grows (old new : Tables) : Type 0 where
  pub sets : Keeps old.sets new.sets
  pub names : Extends old.names new.names
  pub files : Extends old.files new.files
  pub lines : Extends old.lines new.lines

-- the token stands at the place and is spelled so; a leaf knows no more of it
pub record IsTokenAt (w : Tables) (place : Place) (name : Name) (token : Token) : Type 0 where
  pub spelling : slice_get w.names name.0 ≡ Some token.spelling
  pub file : slice_get w.files place.file.0 ≡ Some token.place.file
  pub position : token.place.position ≡ position_of place

-- Each choice is replaced by the one branch whose condition has the configuration.
mutual
  pub data Reads (w : Tables) (c : List ℕ) : ℕ → Tree → Type 0 where
    leaf_reads : (id : ℕ) (place : Place) (spelling : Name) (token : Token) → slice_get w.lines id ≡ Some (leaf place spelling)
        → IsTokenAt w place spelling token → Reads w c id (plain.leaf token)
    node_reads : (id production : ℕ) (children : List TreeId) (forest : Forest) → slice_get w.lines id ≡ Some (node production children)
        → AllRead w c children forest → Reads w c id (plain.node production forest)
    choice_reads : (id : ℕ) (branches : List (Cond × TreeId)) (child : TreeId) (tree : Tree) → slice_get w.lines id ≡ Some (choice branches)
        → All (λ (branch : Cond × TreeId). IsCond w.sets branch.0.0) branches → items_at w.sets branches c ≡ child ∷ []
        → Reads w c child.0 tree → Reads w c id tree

  pub data AllRead (w : Tables) (c : List ℕ) : List TreeId → Forest → Type 0 where
    none_read : AllRead w c [] no_trees
    more_read : (child : TreeId) (children : List TreeId) (tree : Tree) (forest : Forest) → Reads w c child.0 tree → AllRead w c children forest
        → AllRead w c (child ∷ children) (trees tree forest)

-- the names are those of the texts, in order
pub record Spells (names : List (List ℕ)) (found : List Name) (texts : List (List ℕ)) : Type 0 where
  pub same : map (λ (name : Name). slice_get names name.0) found ≡ map (λ (text : List ℕ). Some text) texts
