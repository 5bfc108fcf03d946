-- What a shift makes of a subparser.
use Rattle.std.specs.Prelude.{◌≡◌, ℕ, ◌+◌, ◌==◌, List, [], ◌∷◌, slice_get, reverse, Some, if◌then◌else◌}
use Rattle.std.specs.List.{filter_map}
use Rattle.sc_base.specs.declared.id.Cond.{Cond}
use Rattle.sc_base.specs.declared.id.TreeId.{TreeId}
use Rattle.sc_base.specs.declared.token.Token.{Token}
use Rattle.sc_fork.specs.declared.piece.Answer.TheVariants.{Root}
use Rattle.sc_fork.specs.declared.piece.Ended.{Ended}
use Rattle.sc_merge.specs.declared.subparser.Phase.{Phase}
use Rattle.sc_merge.specs.declared.subparser.Phase.TheVariants.{Between, Named}
use Rattle.sc_merge.specs.declared.subparser.Subparser.{Subparser}
use Rattle.sc_scope.specs.declared.numbers.Numbers.{Numbers}
use Rattle.sc_scope.specs.Numbered.{HasNumbers}
use Rattle.sc_scope.specs.Seen.{levels_in}
use Rattle.sc_stack.specs.Entries.{Entry, values_of}
use Rattle.sc_tree.specs.Lines.{Line, leaf, node}

-- after the shift of terminal x; a name still waits for its kind
abbrev pub phase_after : (at x : ℕ) → Phase
phase_after at x = if x == 0 then Named at else Between (at + 1)

-- the item's leaf is put on the stack
pub record IsShifted (lines : List Line) (item : Cond × Token) (at x state : ℕ) (parent s : Subparser) : Type 0 where
  pub id : TreeId
  pub tree : slice_get lines id.0 ≡ Some (leaf item.1.place item.1.spelling)
  pub cond : s.cond ≡ parent.cond
  pub stack : s.stack ≡ record { state = state; value = Some id } ∷ parent.stack
  pub levels : levels_in s.scopes ≡ levels_in parent.scopes
  pub numbered : (numbers : Numbers) → HasNumbers numbers parent.scopes → HasNumbers numbers s.scopes
  pub phase : s.phase ≡ phase_after at x

-- the production of a whole text: 2 is that of an empty one
abbrev pub whole_production : List Entry → ℕ
whole_production [] = 2
whole_production (entry ∷ entries) = 1

-- the tree of the whole text has all trees of the stack
pub record IsAccepted (lines : List Line) (parent : Subparser) (e : Ended) : Type 0 where
  pub id : TreeId
  pub is : e ≡ record { cond = parent.cond; answer = Root id }
  pub tree : slice_get lines id.0 ≡ Some (node (whole_production parent.stack) (filter_map (λ value. value) (reverse (values_of parent.stack))))
