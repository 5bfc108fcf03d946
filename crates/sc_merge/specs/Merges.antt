-- What becomes of two subparsers that are merged.
use Rattle.std.specs.Prelude.{◌≡◌, ℕ, ◌<◌, true, List, [], ◌∷◌, ◌++◌, Option, is_some, IfSome, All}
use Rattle.c11_parsing.specs.Bindings as plain
use Rattle.c11_parsing.specs.Trees.{Tree}
use Rattle.sc_base.specs.declared.id.Cond.{Cond}
use Rattle.sc_base.specs.declared.id.TreeId.{TreeId}
use Rattle.sc_merge.specs.declared.subparser.Subparser.{Subparser}
use Rattle.sc_merge.specs.Shows.{ValueReads, ShowsAt}
use Rattle.sc_model.specs.Sets.{Sets, IsCond, IsConfig}
use Rattle.sc_scope.specs.Kinds.{IsOnlyIn}
use Rattle.sc_scope.specs.Search.{OwnsLevels}
use Rattle.sc_scope.specs.Seen.{levels_in}
use Rattle.sc_stack.specs.Entries.{values_of}
use Rattle.sc_tree.specs.Lines.{Line, choice}
use Rattle.sc_tree.specs.Reads.{Tables}

-- the values are trees of a store with so many
pub record OwnsValues (count : ℕ) (values : List (Option TreeId)) : Type 0 where
  pub each : All (λ (value : Option TreeId). IfSome value (λ id. id.0 < count)) values

-- the subparser's conditions and trees are those of the stores
pub record OwnsSubparser (sets : Sets) (count : ℕ) (s : Subparser) : Type 0 where
  pub cond : IsCond sets s.cond.0
  pub values : OwnsValues count (values_of s.stack)
  pub levels : OwnsLevels sets (levels_in s.scopes)

-- tables with these conditions and trees
abbrev pub tables_with : Sets → List Line → (names files : List (List ℕ)) → Tables
tables_with sets lines names files = record { sets = sets; names = names; files = files; lines = lines }

-- a choice of two trees, each under its condition
pub record IsChoice (here there : Cond) (line : Line) : Type 0 where
  pub left : TreeId
  pub right : TreeId
  pub is : line ≡ choice ((here, left) ∷ ((there, right) ∷ []))

-- the store has more choices between the two conditions, and nothing else is new
pub record AddsChoices (here there : Cond) (old new : List Line) : Type 0 where
  pub added : List Line
  pub is : new ≡ old ++ added
  pub choices : All (IsChoice here there) added

-- Conditions that are apart: the one holds where only the first of two others does, the other where
-- only the second does.
pub record Parts (sets : Sets) (a b here there : Cond) : Type 0 where
  pub own_here : IsCond sets here.0
  pub own_there : IsCond sets there.0
  pub apart : (c : List ℕ) → IsConfig sets.arities c → sets.has here.0 c ≡ true → sets.has there.0 c ≡ true → ⊥
  pub first : (c : List ℕ) → IsOnlyIn sets a b c → sets.has here.0 c ≡ true
  pub second : (c : List ℕ) → IsOnlyIn sets b a c → sets.has there.0 c ≡ true

-- a choice of two trees, between conditions that part these
pub record IsParting (sets : Sets) (a b : Cond) (line : Line) : Type 0 where
  pub here : Cond
  pub there : Cond
  pub parts : Parts sets a b here there
  pub is : IsChoice here there line

-- the store has more such choices, and nothing else is new
pub record AddsPartings (sets : Sets) (a b : Cond) (old new : List Line) : Type 0 where
  pub added : List Line
  pub is : new ≡ old ++ added
  pub choices : All (IsParting sets a b) added

-- where only the first condition holds, the new value stands for what the old one did; it is a tree
-- where that one is
pub record KeepsValue (old new : List Line) (cond other : Cond) (value merged : Option TreeId) : Type 0 where
  pub some : is_some merged ≡ is_some value
  pub reads : (sets : Sets) (names files : List (List ℕ)) (c : List ℕ) (tree : Option Tree) → IsCond sets cond.0 → IsCond sets other.0 → IsOnlyIn sets cond other c
      → ValueReads (tables_with sets old names files) c value tree → ValueReads (tables_with sets new names files) c merged tree

-- each value of the one list does so for that of the other
pub data KeepValues (old new : List Line) (cond other : Cond) : List (Option TreeId) → List (Option TreeId) → Type 0 where
  none_kept : KeepValues old new cond other [] []
  more_kept : (value merged : Option TreeId) (values others : List (Option TreeId)) → KeepsValue old new cond other value merged
      → KeepValues old new cond other values others → KeepValues old new cond other (value ∷ values) (merged ∷ others)

-- where only the first condition holds, the new subparser shows what the old one did
pub record KeepsShown (old new : Sets) (before after : List Line) (cond other : Cond) (s merged : Subparser) : Type 0 where
  pub shows : (names files : List (List ℕ)) (c : List ℕ) (trees : List (Option Tree)) (levels : List plain.Level) → IsOnlyIn old cond other c
      → ShowsAt (tables_with old before names files) s c trees levels → ShowsAt (tables_with new after names files) merged c trees levels
