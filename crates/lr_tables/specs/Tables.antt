-- The tables of a grammar: LR(0) states, LALR(1) lookaheads, actions and conflicts.
--
-- Symbols go by their places in the order of the symbols, items by theirs among the entries of the
-- grammar. A state is given by its kernel, the items that its closure does not add, as a rising
-- list.
use Rattle.std.specs.Prelude.{◌≡◌, ◌↔◌, ◌⊎◌, ℕ, ◌+◌, ◌<◌, ◌≤◌, List, length, slice_get, Option, Some, None, MatchOption}
use Rattle.std.specs.List.{Contains}
use Rattle.std.specs.List.Sorted.{IsStrictlyIncreasing}
use Rattle.sc_model.specs.Growth.{IsOneToOne}
use Rattle.lr_tables.specs.Grammar.{after, begun, Ends, IsStart}
use Rattle.lr_tables.specs.declared.grammar.Grammar.{Grammar}
use Rattle.lr_tables.specs.declared.grammar.Action.{Action}
use Rattle.lr_tables.specs.declared.grammar.Action.TheVariants.{Shift, Reduce}
use Rattle.lr_tables.specs.declared.grammar.Conflict.{Conflict}

-- an item of the item set with this kernel: one of the kernel, or one that begins a production of a
-- symbol after a dot
pub data Closure (g : Grammar) (kernel : List ℕ) : ℕ → Type 0 where
  given : (i : ℕ) → Contains kernel i → Closure g kernel i
  opened : (i j x : ℕ) → Closure g kernel i → after g i ≡ Some x → begun g j ≡ Some x → Closure g kernel j

-- an item that follows in the goto of the item set: one of the set, with its dot moved over the
-- symbol
pub record Moved (g : Grammar) (kernel : List ℕ) (x m : ℕ) : Type 0 where
  pub from : ℕ
  pub within : Closure g kernel from
  pub over : after g from ≡ Some x
  pub to : m ≡ from + 1

-- state t is the goto of state s and the symbol
pub record IsGoto (g : Grammar) (states : List (List ℕ)) (s x t : ℕ) : Type 0 where
  pub source : List ℕ
  pub target : List ℕ
  pub source_at : slice_get states s ≡ Some source
  pub target_at : slice_get states t ≡ Some target
  pub some : 0 < length target
  pub moved : (m : ℕ) → Contains target m ↔ Moved g source x m

-- the symbol leads nowhere from the state
pub record NoGoto (g : Grammar) (states : List (List ℕ)) (s x : ℕ) : Type 0 where
  pub none : (t : ℕ) → IsGoto g states s x t → ⊥

-- the order of the pairs of a state and a symbol
abbrev pub Before : ℕ → ℕ → ℕ → ℕ → Type 0
Before s x t y = (s < t) ⊎ ((s ≡ t) × (x < y))

-- the least pair of an earlier state and a symbol of which state t is the goto
pub record IsLeastPair (g : Grammar) (states : List (List ℕ)) (t s x : ℕ) : Type 0 where
  pub leads : IsGoto g states s x t
  pub earlier : s < t
  pub least : (r y : ℕ) → IsGoto g states r y t → r < t → Before r y s x → ⊥

-- The LR(0) states: different item sets, the first that of productions 1 and 2 at their beginning,
-- closed under goto. Each later one has a least pair of an earlier state and a symbol of which it
-- is the goto, and these pairs rise.
pub record IsStates (g : Grammar) (states : List (List ℕ)) : Type 0 where
  pub first : List ℕ
  pub first_at : slice_get states 0 ≡ Some first
  pub starts : (i : ℕ) → Contains first i ↔ IsStart g i
  pub rising : (s : ℕ) (kernel : List ℕ) → slice_get states s ≡ Some kernel → IsStrictlyIncreasing kernel
  pub different : IsOneToOne states
  pub closed : (s x m : ℕ) (kernel : List ℕ) → slice_get states s ≡ Some kernel → Moved g kernel x m → (t : ℕ) × IsGoto g states s x t
  pub found : (t : ℕ) → 0 < t → t < length states → (s : ℕ) × ((x : ℕ) × IsLeastPair g states t s x)
  pub in_order : (t u s x r y : ℕ) → t < u → IsLeastPair g states t s x → IsLeastPair g states u r y → Before s x r y

-- a text derived from the symbol can begin with the terminal
pub data First (g : Grammar) (t : ℕ) : ℕ → Type 0 where
  itself : First g t t
  derived : (x i y : ℕ) → begun g i ≡ Some x → after g i ≡ Some y → First g t y → First g t x

-- The terminal t is a lookahead of the item in the state: a chain of propagations leads to it from
-- a spontaneous one.
pub data Lookahead (g : Grammar) (states : List (List ℕ)) (t : ℕ) : ℕ → ℕ → Type 0 where
  spontaneous : (s i j x y : ℕ) (kernel : List ℕ) → slice_get states s ≡ Some kernel → Closure g kernel i
      → after g i ≡ Some x → after g (i + 1) ≡ Some y → First g t y → begun g j ≡ Some x → Lookahead g states t s j
  opened : (s i j x : ℕ) → Lookahead g states t s i → after g i ≡ Some x → after g (i + 1) ≡ None → begun g j ≡ Some x
      → Lookahead g states t s j
  moved : (s i x r : ℕ) → Lookahead g states t s i → after g i ≡ Some x → IsGoto g states s x r
      → Lookahead g states t r (i + 1)

-- in the state the production can be reduced at the terminal
pub record CanReduce (g : Grammar) (states : List (List ℕ)) (s t p : ℕ) : Type 0 where
  pub item : ℕ
  pub ends : Ends g item p
  pub ahead : Lookahead g states t s item

-- What is done in state s at terminal t: a shift is preferred to a reduction, and a lower
-- production to a higher one.
pub data IsAction (g : Grammar) (states : List (List ℕ)) (s t : ℕ) : Option Action → Type 0 where
  shifts : (r : ℕ) → IsGoto g states s t r → IsAction g states s t (Some (Shift r))
  reduces : (p : ℕ) → ((r : ℕ) → IsGoto g states s t r → ⊥) → CanReduce g states s t p
      → ((q : ℕ) → CanReduce g states s t q → p ≤ q) → IsAction g states s t (Some (Reduce p))
  none : ((r : ℕ) → IsGoto g states s t r → ⊥) → ((p : ℕ) → CanReduce g states s t p → ⊥) → IsAction g states s t None

-- an action that is possible and is not the one that is kept
pub record IsConflict (g : Grammar) (states : List (List ℕ)) (c : Conflict) : Type 0 where
  pub state : c.state < length states
  pub terminal : c.terminal.0 < g.terminals
  pub kept : IsAction g states c.state c.terminal.0 (Some c.kept)
  pub possible : CanReduce g states c.state c.terminal.0 c.lost
  pub lost : c.kept ≡ Reduce c.lost → ⊥

-- the order of conflicts: by state, then terminal, then lost production
abbrev pub ConflictBefore : Conflict → Conflict → Type 0
ConflictBefore c d =
    Before c.state c.terminal.0 d.state d.terminal.0 ⊎ ((c.state ≡ d.state) × (c.terminal.0 ≡ d.terminal.0) × (c.lost < d.lost))

-- each item is before all later ones
pub record IsOrderedBy {A : Type 0} (precedes : A → A → Type 0) (xs : List A) : Type 0 where
  pub before : (i j : ℕ) (x y : A) → i < j → slice_get xs i ≡ Some x → slice_get xs j ≡ Some y → precedes x y

abbrev pub InOrder : List Conflict → Type 0
InOrder conflicts = IsOrderedBy ConflictBefore conflicts

-- tables as values: the states, the action in a state at a terminal, the goto of a state by a
-- nonterminal, the conflicts
pub record Tables : Type 0 where
  pub states : List (List ℕ)
  pub action : ℕ → ℕ → Option Action
  pub goto : ℕ → ℕ → Option ℕ
  pub conflicts : List Conflict

-- These are the LALR(1) tables of the grammar: with its states, numbered as they are found, each
-- action, goto and conflict of theirs and no other, the conflicts in order.
pub record AreTables (g : Grammar) (tables : Tables) : Type 0 where
  pub are_states : IsStates g tables.states
  pub action : (s t : ℕ) → t < g.terminals → IsAction g tables.states s t (tables.action s t)
  pub goto : (s n : ℕ) → n < g.nonterminals
      → MatchOption (tables.goto s n) (NoGoto g tables.states s (g.terminals + n)) (IsGoto g tables.states s (g.terminals + n))
  pub conflict : (c : Conflict) → Contains tables.conflicts c ↔ IsConflict g tables.states c
  pub in_order : InOrder tables.conflicts

-- the same tables, at all symbols of the grammar
pub record AreSame (g : Grammar) (a b : Tables) : Type 0 where
  pub states : a.states ≡ b.states
  pub actions : (s t : ℕ) → t < g.terminals → a.action s t ≡ b.action s t
  pub gotos : (s n : ℕ) → n < g.nonterminals → a.goto s n ≡ b.goto s n
  pub conflicts : a.conflicts ≡ b.conflicts
