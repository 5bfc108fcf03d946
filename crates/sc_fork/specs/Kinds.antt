-- The part of a subparser for which a kind of a name is shifted.
use Rattle.std.specs.Prelude.{◌≡◌, ℕ, ◌+◌, ◌&&◌, Bool, List, [], ◌∷◌, ◌++◌, slice_get, is_some, Option, Some, None}
use Rattle.sc_base.specs.declared.id.Cond.{Cond}
use Rattle.sc_base.specs.declared.token.Token.{Token}
use Rattle.sc_fork.specs.declared.piece.Answer.TheVariants.{Refused}
use Rattle.sc_fork.specs.declared.piece.Piece.{Piece}
use Rattle.sc_fork.specs.declared.piece.Piece.TheVariants.{Going, Over}
use Rattle.sc_fork.specs.declared.source.Source.{Source}
use Rattle.sc_fork.specs.Seen.{state_after}
use Rattle.sc_lalr.specs.Tables.{action_of}
use Rattle.sc_merge.specs.declared.subparser.Phase.TheVariants.{Between}
use Rattle.sc_merge.specs.declared.subparser.Subparser.{Subparser}
use Rattle.sc_model.specs.declared.cause.Cause.TheVariants.{Syntax}
use Rattle.sc_model.specs.Sets.{Sets, IsNever}
use Rattle.sc_scope.specs.Search.{is_typedef_at}
use Rattle.sc_scope.specs.declared.numbers.Numbers.{Numbers}
use Rattle.sc_scope.specs.Numbered.{HasNumbers}
use Rattle.sc_scope.specs.Seen.{levels_in}
use Rattle.sc_stack.specs.Entries.{state_of}

-- the spelling of the element
abbrev pub name_of : Option (Cond × Token) → ℕ
name_of None = 0
name_of (Some item) = item.1.spelling.0

-- the element's name is that of a type at the configuration: the state accepts one, and the name is
-- a typedef
abbrev pub is_type_at : Sets → Source → Subparser → ℕ → List ℕ → Bool
is_type_at sets source s at c = is_some (action_of source.tables.now (state_of s.stack) 1) && is_typedef_at sets (levels_in s.scopes) (name_of (slice_get source.list.now at)) c

-- the subparser behind the shift of a kind, which has no tree
pub record IsBehind (s : Subparser) (at : ℕ) (cond : Cond) (state : ℕ) (next : Subparser) : Type 0 where
  pub cond_is : next.cond ≡ cond
  pub stack : next.stack ≡ record { state = state; value = None } ∷ s.stack
  pub levels : levels_in next.scopes ≡ levels_in s.scopes
  pub numbered : (numbers : Numbers) → HasNumbers numbers s.scopes → HasNumbers numbers next.scopes
  pub phase : next.phase ≡ Between (at + 1)

-- the part, where some configuration has the condition
pub data IsKind (sets : Sets) (source : Source) (s : Subparser) (at : ℕ) (cond : Cond) (kind : ℕ) : List Piece → Type 0 where
  no_part : IsNever sets cond.0 → IsKind sets source s at cond kind []
  refused_part : (item : Cond × Token) → (IsNever sets cond.0 → ⊥) → slice_get source.list.now at ≡ Some item → state_after source s kind ≡ None
      → IsKind sets source s at cond kind (Over (record { cond = cond; answer = Refused Syntax item.1.place }) ∷ [])
  shifted_part : (state : ℕ) (next : Subparser) → (IsNever sets cond.0 → ⊥) → state_after source s kind ≡ Some state → IsBehind s at cond state next
      → IsKind sets source s at cond kind (Going next ∷ [])

-- the part is put at the end of the pieces
pub record AddsKind (sets : Sets) (source : Source) (s : Subparser) (at : ℕ) (cond : Cond) (kind : ℕ) (before after : List Piece) : Type 0 where
  pub added : List Piece
  pub is : after ≡ before ++ added
  pub part : IsKind sets source s at cond kind added
