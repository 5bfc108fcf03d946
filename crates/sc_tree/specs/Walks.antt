-- Walks down trees, in all configurations at once.
use Rattle.std.specs.Prelude.{◌≡◌, ℕ, ◌==◌, ◌++◌, ◌&&◌, ◌||◌, Bool, true, false, List, [], ◌∷◌, Option, Some, None, slice_get, if◌then◌else◌}
use Rattle.c11_parsing.specs.C11.{declarator_child, earlier_child}
use Rattle.sc_base.specs.declared.id.Cond.{Cond}
use Rattle.sc_base.specs.declared.id.Name.{Name}
use Rattle.sc_base.specs.declared.id.TreeId.{TreeId}
use Rattle.sc_guarded.specs.Items.{items_at}
use Rattle.sc_model.specs.Sets.{Sets, IsCond}
use Rattle.sc_tree.specs.declared.production.Route.{Route}
use Rattle.sc_tree.specs.declared.production.Route.TheVariants.{Declarator, EarlierParameters, Choices}
use Rattle.sc_tree.specs.Lines.{Line, leaf, node, choice}

abbrev pub child_at : List TreeId → Option ℕ → Option TreeId
child_at children None = None
child_at children (Some n) = slice_get children n

abbrev pub listed : Option TreeId → List TreeId
listed None = []
listed (Some id) = id ∷ []

-- by which child of a production a walk goes on
abbrev pub child_by : Route → ℕ → Option ℕ
child_by Declarator = declarator_child
child_by EarlierParameters = earlier_child
child_by Choices = λ production. None

-- the child of the tree to which a walk goes on
abbrev pub child_of : (ℕ → Option ℕ) → Line → Option TreeId
child_of next (leaf place spelling) = None
child_of next (node production children) = child_at children (next production)
child_of next (choice branches) = None

abbrev pub is_choice : Line → Bool
is_choice (leaf place spelling) = false
is_choice (node production children) = false
is_choice (choice branches) = true

-- the trees that a walk passes at a configuration, where each choice stands for its one branch
pub data Follows (next : ℕ → Option ℕ) (sets : Sets) (lines : List Line) (c : List ℕ) : TreeId → List TreeId → Type 0 where
  ends : (id : TreeId) (line : Line) → slice_get lines id.0 ≡ Some line → is_choice line ≡ false → child_of next line ≡ None
      → Follows next sets lines c id (id ∷ [])
  goes_on : (id child : TreeId) (line : Line) (path : List TreeId) → slice_get lines id.0 ≡ Some line → child_of next line ≡ Some child
      → Follows next sets lines c child path → Follows next sets lines c id (id ∷ path)
  chooses : (id child : TreeId) (branches : List (Cond × TreeId)) (path : List TreeId) → slice_get lines id.0 ≡ Some (choice branches)
      → items_at sets branches c ≡ child ∷ [] → Follows next sets lines c child path → Follows next sets lines c id path

-- the walk from one tree, or from none
pub data Walked (next : ℕ → Option ℕ) (sets : Sets) (lines : List Line) (c : List ℕ) : List TreeId → List TreeId → Type 0 where
  nowhere : Walked next sets lines c [] []
  from_tree : (id : TreeId) (path : List TreeId) → Follows next sets lines c id path → Walked next sets lines c (id ∷ []) path

-- ---- trees to which walks have come

abbrev pub has_at : Sets → Option Cond → List ℕ → Bool
has_at sets None c = false
has_at sets (Some cond) c = sets.has cond.0 c

-- the conditions are the store's
pub record OwnsWaiting (sets : Sets) (waiting : ℕ → Option Cond) : Type 0 where
  pub each : (n : ℕ) (cond : Cond) → waiting n ≡ Some cond → IsCond sets cond.0

-- the number is among the ids
abbrev pub is_among : ℕ → List TreeId → Bool
is_among n [] = false
is_among n (id ∷ ids) = if n == id.0 then true else is_among n ids

-- the trees to which a configuration walks on
abbrev pub onward : (ℕ → Option ℕ) → Sets → Line → List ℕ → List TreeId
onward next sets (choice branches) c = items_at sets branches c
onward next sets (leaf place spelling) c = []
onward next sets (node production children) c = listed (child_at children (next production))

-- a choice is not passed: its branch is
abbrev pub passes : Line → TreeId → List TreeId
passes line id = if is_choice line then [] else id ∷ []

-- At a configuration of the condition the walk has passed the tree and waits at the next one.
pub record Visits (next : ℕ → Option ℕ) (old new : Sets) (line : Line) (cond : Cond) (id : TreeId) (before after : ℕ → Option Cond)
    (passed all : List (Cond × TreeId)) (c : List ℕ) : Type 0 where
  pub waits : (n : ℕ) → has_at new (after n) c ≡ (has_at old (before n) c || (old.has cond.0 c && is_among n (onward next old line c)))
  pub passing : items_at new all c ≡ items_at old passed c ++ (if old.has cond.0 c then passes line id else [])

-- ---- what is found on the way

abbrev pub name_in : Option Line → List Name
name_in None = []
name_in (Some (leaf place spelling)) = spelling ∷ []
name_in (Some (node production children)) = []
name_in (Some (choice branches)) = []

-- the names of the leaves
abbrev pub leaf_names : List Line → List TreeId → List Name
leaf_names lines [] = []
leaf_names lines (id ∷ ids) = name_in (slice_get lines id.0) ++ leaf_names lines ids

abbrev pub under : Cond → List Name → List (Cond × Name)
under cond [] = []
under cond (name ∷ names) = (cond, name) ∷ under cond names

-- the names of the leaves, each under the condition of its leaf
abbrev pub leaf_items : List Line → List (Cond × TreeId) → List (Cond × Name)
leaf_items lines [] = []
leaf_items lines (tree ∷ trees) = under tree.0 (name_in (slice_get lines tree.1.0)) ++ leaf_items lines trees
