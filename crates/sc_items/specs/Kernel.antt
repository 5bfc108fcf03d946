-- Item sets as lists of numbers.
use Rattle.std.specs.Prelude.{◌≡◌, ◌↔◌, ◌<◌, ◌+◌, ◌⊎◌, ℕ, List, [], ◌∷◌, ◌++◌, length, slice_get, Some, map, Vec}
use Rattle.std.specs.List.{Contains}
use Rattle.std.specs.List.Sorted.{IsStrictlyIncreasing}
use Rattle.std.specs.declared.alloc.Global.{Global}
use Rattle.lr_tables.specs.Grammar.{after, begun}
use Rattle.lr_tables.specs.declared.grammar.Grammar.{Grammar}
use Rattle.sc_items.specs.Reach.{Edge}

-- the numbers below n of which the fact holds, in rising order
pub record IsListOf (n : ℕ) (P : ℕ → Type 0) (xs : List ℕ) : Type 0 where
  pub rising : IsStrictlyIncreasing xs
  pub below : (i : ℕ) → Contains xs i → i < n
  pub sound : (i : ℕ) → Contains xs i → P i
  pub complete : (i : ℕ) → i < n → P i → Contains xs i

-- the item begins a production of the symbol
pub record Begins (g : Grammar) (x i : ℕ) : Type 0 where
  pub begins : begun g i ≡ Some x

-- the rows are, for each symbol, the items that begin its productions
pub record AreBeginnings (g : Grammar) (rows : List (Vec ℕ Global)) : Type 0 where
  pub long : length rows ≡ g.terminals + g.nonterminals
  pub each : (x : ℕ) (row : Vec ℕ Global) → slice_get rows x ≡ Some row → IsListOf (length g.entries.now) (Begins g x) row.items

-- item j begins a production of the symbol after the dot of item i
pub record Opens (g : Grammar) (i j : ℕ) : Type 0 where
  pub symbol : ℕ
  pub over : after g i ≡ Some symbol
  pub begins : begun g j ≡ Some symbol

-- the rows are, for each item, the items that it opens
pub record IsOpened (g : Grammar) (rows : List (Vec ℕ Global)) : Type 0 where
  pub long : length rows ≡ length g.entries.now
  pub sound : (i j : ℕ) → Edge rows i j → Opens g i j
  pub complete : (i j : ℕ) → Opens g i j → Edge rows i j

-- one of the items has its dot before the symbol, and m is this item with the dot after it
pub record MovedIn (g : Grammar) (items : List ℕ) (x m : ℕ) : Type 0 where
  pub from : ℕ
  pub within : Contains items from
  pub over : after g from ≡ Some x
  pub to : m ≡ from + 1

-- the kernel is the items with the dot moved over the symbol
pub record IsMoved (g : Grammar) (items : List ℕ) (x : ℕ) (kernel : List ℕ) : Type 0 where
  pub rising : IsStrictlyIncreasing kernel
  pub moved : (m : ℕ) → Contains kernel m ↔ MovedIn g items x m

-- the rows are, for each symbol, the items with the dot moved over it
pub record AreMoved (g : Grammar) (items : List ℕ) (rows : List (Vec ℕ Global)) : Type 0 where
  pub long : length rows ≡ g.terminals + g.nonterminals
  pub each : (x : ℕ) (row : Vec ℕ Global) → slice_get rows x ≡ Some row → IsMoved g items x row.items

-- so many rows have nothing in them
pub record AreEmpty (n : ℕ) (rows : List (Vec ℕ Global)) : Type 0 where
  pub long : length rows ≡ n
  pub each : (x : ℕ) (row : Vec ℕ Global) → slice_get rows x ≡ Some row → row.items ≡ []

-- the kernels as lists
abbrev pub lists : List (Vec ℕ Global) → List (List ℕ)
lists rows = map (λ (row : Vec ℕ Global). row.items) rows

-- the kernel has this number, which is a new one where the kernel is new
pub record IsNumbered (old new : List (List ℕ)) (kernel : List ℕ) (number : ℕ) : Type 0 where
  pub at : slice_get new number ≡ Some kernel
  pub grown : (new ≡ old) ⊎ ((new ≡ old ++ kernel ∷ []) × (number ≡ length old) × ((t : ℕ) → slice_get old t ≡ Some kernel → ⊥))
