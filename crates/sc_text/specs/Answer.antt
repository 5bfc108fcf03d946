-- What a text shows: tokens or a tree under conditions, and faults.
use Rattle.std.specs.Prelude.{◌≡◌, ℕ, ◌<◌, Bool, true, false, List, [], ◌∷◌, length, All, AllPairs, Option, Some, None, Result, Ok, Err, slice_get, if◌then◌else◌}
use Rattle.sc_model.specs.Fault.{Fault}
use Rattle.sc_model.specs.Sets.{IsConfig}
use Rattle.sc_model.specs.Space.{Space, arities_of}
use Rattle.sc_model.specs.Token.{Shown}

-- A set of configurations, seen through the test whether it has one.
abbrev pub Condition : Type 0
Condition = List ℕ → Bool

-- the items whose condition has the configuration, in order
abbrev pub project : {T : Type 0} → List (Condition × T) → List ℕ → List T
project [] config = []
project (pair ∷ pairs) config = if pair.0 config then pair.1 ∷ project pairs config else project pairs config

-- ---- trees

-- A part of a tree with choices. Its children go by their numbers.
pub data Part : Type 0 where
  leaf_part : Shown → Part
  -- a production, by its number, and the children from left to right
  node_part : ℕ → List ℕ → Part
  -- the branches, each with its condition
  choice_part : List (Condition × ℕ) → Part

-- the parts in the order of their numbers, and the number of the whole tree
pub record TreeBody : Type 0 where
  pub parts : List Part
  pub root : Option ℕ

-- A tree without choices, as far as a text shows it.
mutual
  pub data ShownTree : Type 0 where
    shown_leaf : Shown → ShownTree
    shown_node : ℕ → ShownForest → ShownTree

  pub data ShownForest : Type 0 where
    no_shown : ShownForest
    more_shown : ShownTree → ShownForest → ShownForest

-- The tree of a part at a configuration: each choice is replaced by the one branch whose condition
-- has it.
mutual
  pub data TreeAt (parts : List Part) (config : List ℕ) : ℕ → ShownTree → Type 0 where
    leaf_at : (id : ℕ) (shown : Shown) → slice_get parts id ≡ Some (leaf_part shown) → TreeAt parts config id (shown_leaf shown)
    node_at : (id production : ℕ) (children : List ℕ) (forest : ShownForest) → slice_get parts id ≡ Some (node_part production children)
        → TreesAt parts config children forest → TreeAt parts config id (shown_node production forest)
    choice_at : (id child : ℕ) (branches : List (Condition × ℕ)) (tree : ShownTree) → slice_get parts id ≡ Some (choice_part branches)
        → project branches config ≡ child ∷ [] → TreeAt parts config child tree → TreeAt parts config id tree

  pub data TreesAt (parts : List Part) (config : List ℕ) : List ℕ → ShownForest → Type 0 where
    none_at : TreesAt parts config [] no_shown
    more_at : (child : ℕ) (children : List ℕ) (tree : ShownTree) (forest : ShownForest) → TreeAt parts config child tree
        → TreesAt parts config children forest → TreesAt parts config (child ∷ children) (more_shown tree forest)

-- ---- answers

-- What a text shows before its faults.
pub data BodyKind : Type 0 where
  -- tokens, each with its condition
  token_list : BodyKind
  -- the parts of a tree
  tree_parts : BodyKind

abbrev pub Body : BodyKind → Type 0
Body token_list = List (Condition × Shown)
Body tree_parts = TreeBody

-- what a text shows: its body, and each fault with its condition
pub record Answer (kind : BodyKind) : Type 0 where
  pub body : Body kind
  pub faults : List (Condition × Fault)

-- what a body is at one configuration
abbrev pub BodyAt : BodyKind → Type 0
BodyAt token_list = List Shown
BodyAt tree_parts = ShownTree

abbrev pub IsBodyAt : (kind : BodyKind) → Body kind → List ℕ → BodyAt kind → Type 0
IsBodyAt token_list items config tokens = project items config ≡ tokens
IsBodyAt tree_parts body config whole = (root : ℕ) × ((body.root ≡ Some root) × TreeAt body.parts config root whole)

-- What the answer is at one configuration: its body there, where it has no fault, or the one fault
-- that it has.
pub data At {kind : BodyKind} (answer : Answer kind) (config : List ℕ) : Result (BodyAt kind) Fault → Type 0 where
  accepted : (body : BodyAt kind) → project answer.faults config ≡ [] → IsBodyAt kind answer.body config body → At answer config (Ok body)
  refused : (fault : Fault) → project answer.faults config ≡ fault ∷ [] → At answer config (Err fault)

-- ---- choices and the root

-- There are at least two branches, their conditions disjoint and satisfiable.
pub record PartsConfigs (space : Space) (branches : List (Condition × ℕ)) : Type 0 where
  pub several : 1 < length branches
  pub apart : AllPairs (λ a b. (c : List ℕ) → IsConfig (arities_of space) c → a.0 c ≡ true → b.0 c ≡ true → ⊥) branches
  pub possible : All (λ (branch : Condition × ℕ). ((c : List ℕ) → IsConfig (arities_of space) c → branch.0 c ≡ false) → ⊥) branches

-- each choice has such branches
pub record HasSoundChoices (space : Space) (parts : List Part) : Type 0 where
  pub each : (id : ℕ) (branches : List (Condition × ℕ)) → slice_get parts id ≡ Some (choice_part branches) → PartsConfigs space branches

-- there is a root exactly where some of these configurations has no fault
pub record IsRooted (is_listed : List ℕ → Type 0) (answer : Answer tree_parts) : Type 0 where
  pub some : (root : ℕ) → answer.body.root ≡ Some root → (config : List ℕ) × (is_listed config × (project answer.faults config ≡ []))
  pub none : answer.body.root ≡ None → (config : List ℕ) → is_listed config → project answer.faults config ≡ [] → ⊥
