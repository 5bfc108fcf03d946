-- What is seen of a core.
use Rattle.std.specs.Prelude.{ℕ, List, length, Option, Bool}
use Rattle.sc_fork.specs.declared.piece.Ended.{Ended}
use Rattle.sc_fork.specs.declared.source.Source.{Source}
use Rattle.sc_merge.specs.declared.subparser.Subparser.{Subparser}
use Rattle.sc_scope.specs.Seen.{levels_in}
use Rattle.sc_stack.specs.Entries.{states_of}

-- What is parsed, the subparser of each number that was given, or none where it is gone, and what
-- has ended.
pub record View : Type 0 where
  pub source : Source
  pub subparsers : List (Option Subparser)
  pub ended : List Ended
  pub is_given_up : Bool

-- the states of a subparser, that on top first
abbrev pub states_in : Subparser → List ℕ
states_in s = states_of s.stack

-- how many levels of scopes it has
abbrev pub depth_of : Subparser → ℕ
depth_of s = length (levels_in s.scopes)
