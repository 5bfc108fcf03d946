-- The tables so far.
use Rattle.std.specs.Prelude.{◌≡◌, ◌+◌, ℕ, List, length, slice_get, Option, Some, MatchOption}
use Rattle.std.specs.List.{Contains}
use Rattle.lr_tables.specs.Tables.{IsGoto, IsAction, IsConflict, Before, InOrder, NoGoto}
use Rattle.lr_tables.specs.declared.grammar.Grammar.{Grammar}
use Rattle.lr_tables.specs.declared.grammar.Action.{Action}
use Rattle.lr_tables.specs.declared.grammar.Conflict.{Conflict}

-- the actions of a state at the first terminals
pub record AreActions (g : Grammar) (states : List (List ℕ)) (s n : ℕ) (row : List (Option Action)) : Type 0 where
  pub long : length row ≡ n
  pub each : (t : ℕ) (action : Option Action) → slice_get row t ≡ Some action → IsAction g states s t action

-- the gotos of a state by the first nonterminals
pub record AreGotos (g : Grammar) (states : List (List ℕ)) (s n : ℕ) (row : List (Option ℕ)) : Type 0 where
  pub long : length row ≡ n
  pub each : (x : ℕ) (to : Option ℕ) → slice_get row x ≡ Some to → MatchOption to (NoGoto g states s (g.terminals + x)) (IsGoto g states s (g.terminals + x))

-- the conflicts before a pair of a state and a terminal
pub record AreConflicts (g : Grammar) (states : List (List ℕ)) (s t : ℕ) (conflicts : List Conflict) : Type 0 where
  pub sound : (c : Conflict) → Contains conflicts c → IsConflict g states c
  pub earlier : (c : Conflict) → Contains conflicts c → Before c.state c.terminal.0 s t
  pub complete : (c : Conflict) → IsConflict g states c → Before c.state c.terminal.0 s t → Contains conflicts c
  pub in_order : InOrder conflicts
