-- The tables as the code keeps them.
use Rattle.std.specs.Prelude.{◌≡◌, ◌<◌, ◌+◌, All, length, ℕ, List, [], ◌∷◌, slice_get, slice_index, map, Option, Some, None, option_and_then, Vec}
use Rattle.std.specs.List.{Contains}
use Rattle.std.specs.List.Sorted.{IsStrictlyIncreasing}
use Rattle.std.specs.declared.alloc.Global.{Global}
use Rattle.lr_tables.specs.Grammar.{after, production_at}
use Rattle.lr_tables.specs.Tables as lr
use Rattle.lr_tables.specs.declared.grammar.Grammar.{Grammar}
use Rattle.lr_tables.specs.declared.grammar.Action.{Action}
use Rattle.lr_tables.specs.declared.grammar.Action.TheVariants.{Shift, Reduce}
use Rattle.lr_tables.specs.declared.grammar.Conflict.{Conflict}
use Rattle.sc_items.specs.States.{HasItem}
use Rattle.sc_lalr.specs.Marks.{HasMark}
use Rattle.sc_lalr.specs.declared.tables.Tables.{Tables}

-- the entry of a row, where there is one
abbrev pub entry : {A : Type 0} → List (Vec (Option A) Global) → ℕ → ℕ → Option A
entry {A} rows s x = option_and_then (λ (row : Vec (Option A) Global). option_and_then (λ (e : Option A). e) (slice_get row.items x)) (slice_get rows s)

abbrev pub action_of : Tables → ℕ → ℕ → Option Action
action_of tables s t = entry tables.actions.items s t

abbrev pub goto_of : Tables → ℕ → ℕ → Option ℕ
goto_of tables s n = entry tables.gotos.items s n

abbrev pub conflicts_of : Tables → List Conflict
conflicts_of tables = tables.conflicts.items

-- the tables as values, with these states
abbrev pub tables_of : List (List ℕ) → Tables → lr.Tables
tables_of states tables = record { states = states; action = action_of tables; goto = goto_of tables; conflicts = conflicts_of tables }

-- these are the LALR(1) tables of the grammar
pub record AreTables (g : Grammar) (tables : Tables) : Type 0 where
  pub states : List (List ℕ)
  pub exact : lr.AreTables g (tables_of states tables)

-- the item stands in the state, its dot at the end
pub record EndsIn (g : Grammar) (states : List (List ℕ)) (s i : ℕ) : Type 0 where
  pub has : HasItem g states s i
  pub at_end : after g i ≡ None

-- the node of one of the items has the mark, and the item ends this production
pub record IsMarkedEnd (g : Grammar) (words : List ℕ) (b : ℕ) (numbers : List ℕ) (base : ℕ) (items : List ℕ) (p : ℕ) : Type 0 where
  pub item : ℕ
  pub within : Contains items item
  pub has_mark : HasMark words b (slice_index numbers (base + item))
  pub production : production_at g item ≡ p

-- the action that is kept, of a shift and of reductions by rising productions
abbrev pub kept_of : Option ℕ → List ℕ → Option Action
kept_of (Some r) productions = Some (Shift r)
kept_of None [] = None
kept_of None (p ∷ ps) = Some (Reduce p)

-- the reductions that are lost
abbrev pub lost_of : Option ℕ → List ℕ → List ℕ
lost_of (Some r) productions = productions
lost_of None [] = []
lost_of None (p ∷ ps) = ps

abbrev pub conflict_at : ℕ → ℕ → Action → ℕ → Conflict
conflict_at s t kept p = record { state = s; terminal = record { 0 = t }; kept = kept; lost = p }

-- the conflicts of one state at one terminal
abbrev pub conflicts_at : ℕ → ℕ → Option ℕ → List ℕ → List Conflict
conflicts_at s t (Some r) productions = map (conflict_at s t (Shift r)) productions
conflicts_at s t None [] = []
conflicts_at s t None (p ∷ ps) = map (conflict_at s t (Reduce p)) ps

-- the dot of the item stands at the end
pub record IsAtEnd (g : Grammar) (i : ℕ) : Type 0 where
  pub none : after g i ≡ None

-- these items have their dots at the end, and these are their productions
pub record AreEnds (g : Grammar) (items produced : List ℕ) : Type 0 where
  pub rising : IsStrictlyIncreasing items
  pub within : All (λ item. item < length g.entries.now) items
  pub at_end : All (IsAtEnd g) items
  pub produced_are : produced ≡ map (production_at g) items
