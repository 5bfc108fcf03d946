-- Lookaheads as nodes of a graph. Item i of state s has the place s * n + i, where n is the number
-- of the items. The nodes are the places whose items stand in the states, numbered from the least.
use Rattle.std.specs.Prelude.{◌≡◌, ◌↔◌, ◌<◌, ◌≤◌, ◌+◌, ◌*◌, ◌/◌, ◌%◌, ℕ, List, [], ◌∷◌, length, slice_get, slice_index, map, Option, Some, None, Vec}
use Rattle.std.specs.List.{Contains}
use Rattle.std.specs.Option.{option_map_or}
use Rattle.std.specs.declared.alloc.Global.{Global}
use Rattle.lr_tables.specs.Grammar.{after, begun}
use Rattle.lr_tables.specs.Tables.{IsGoto, First, Lookahead}
use Rattle.lr_tables.specs.declared.grammar.Grammar.{Grammar}
use Rattle.sc_items.specs.Kernel.{IsListOf}
use Rattle.sc_items.specs.States.{HasItem}
use Rattle.sc_lalr.specs.Marks.{HasMark}
use Rattle.sc_lalr.specs.declared.nodes.Nodes.{Nodes}

pub record IsPlace (n p s i : ℕ) : Type 0 where
  pub within : i < n
  pub is : p ≡ s * n + i

-- the item with this place stands in its state
pub record HasPlace (g : Grammar) (states : List (List ℕ)) (p : ℕ) : Type 0 where
  pub s : ℕ
  pub i : ℕ
  pub at : IsPlace (length g.entries.now) p s i
  pub has : HasItem g states s i

-- the nodes are the places of the items that stand in the states, and each place has the number of
-- its node
pub record AreNodes (g : Grammar) (states : List (List ℕ)) (nodes : Nodes) : Type 0 where
  pub long : length nodes.numbers.items ≡ length states * length g.entries.now
  pub places : IsListOf (length states * length g.entries.now) (HasPlace g states) nodes.places.items
  pub numbers : (u p : ℕ) → slice_get nodes.places.items u ≡ Some p → slice_index nodes.numbers.items p ≡ u

-- for some states these are the nodes
pub record HavePlaces (g : Grammar) (nodes : Nodes) : Type 0 where
  pub states : List (List ℕ)
  pub are : AreNodes g states nodes

-- node u is item i of state s
pub record IsNode (n : ℕ) (nodes : Nodes) (u s i : ℕ) : Type 0 where
  pub within : i < n
  pub is : slice_get nodes.places.items u ≡ Some (s * n + i)

-- the lookaheads of item i in state s are passed on to item j in state r
pub data Passes (g : Grammar) (states : List (List ℕ)) (s i : ℕ) : ℕ → ℕ → Type 0 where
  along : (x r : ℕ) → HasItem g states s i → after g i ≡ Some x → IsGoto g states s x r → Passes g states s i r (i + 1)
  into : (x j : ℕ) → HasItem g states s i → after g i ≡ Some x → after g (i + 1) ≡ None → begun g j ≡ Some x → Passes g states s i s j

pub record PassesTo (g : Grammar) (states : List (List ℕ)) (nodes : Nodes) (u v : ℕ) : Type 0 where
  pub s : ℕ
  pub i : ℕ
  pub r : ℕ
  pub j : ℕ
  pub from : IsNode (length g.entries.now) nodes u s i
  pub to : IsNode (length g.entries.now) nodes v r j
  pub passes : Passes g states s i r j

-- the rows are, for each node, those to which its lookaheads are passed on
pub record IsPropagation (g : Grammar) (states : List (List ℕ)) (nodes : Nodes) (rows : List (Vec ℕ Global)) : Type 0 where
  pub long : length rows ≡ length nodes.places.items
  pub each : (u : ℕ) (row : Vec ℕ Global) → slice_get rows u ≡ Some row → (v : ℕ) → Contains row.items v ↔ PassesTo g states nodes u v

-- the item with the dot moved on, in the goto
abbrev pub along_part : List ℕ → ℕ → ℕ → Option ℕ → List ℕ
along_part numbers n item None = []
along_part numbers n item (Some state) = slice_index numbers (state * n + (item + 1)) ∷ []

-- these items of the state whose places begin at the base
abbrev pub numbers_at : List ℕ → ℕ → List ℕ → List ℕ
numbers_at numbers base items = map (λ item. slice_index numbers (base + item)) items

-- the items that are opened, where nothing stands behind the symbol after the dot
abbrev pub into_part : List ℕ → ℕ → Option ℕ → List ℕ → List ℕ
into_part numbers base None items = numbers_at numbers base items
into_part numbers base (Some next) items = []

-- there is a symbol behind the symbol after the dot of the item
pub record IsFollowed (g : Grammar) (i : ℕ) : Type 0 where
  pub x : ℕ
  pub y : ℕ
  pub over : after g i ≡ Some x
  pub next : after g (i + 1) ≡ Some y

-- the item with this place stands in its state, and is followed
pub record IsSource (g : Grammar) (states : List (List ℕ)) (p : ℕ) : Type 0 where
  pub s : ℕ
  pub i : ℕ
  pub at : IsPlace (length g.entries.now) p s i
  pub has : HasItem g states s i
  pub followed : IsFollowed g i

-- the sources are the places of the items that are followed
pub record AreSources (g : Grammar) (states : List (List ℕ)) (sources : List ℕ) : Type 0 where
  pub sound : (p : ℕ) → Contains sources p → IsSource g states p
  pub complete : (p : ℕ) → IsSource g states p → Contains sources p

-- the terminal is a spontaneous lookahead of node v, by the item with place p
pub record SeededBy (g : Grammar) (states : List (List ℕ)) (nodes : Nodes) (t p v : ℕ) : Type 0 where
  pub source : IsSource g states p
  pub j : ℕ
  pub to : IsNode (length g.entries.now) nodes v source.s j
  pub first : First g t source.followed.y
  pub begins : begun g j ≡ Some source.followed.x

pub record IsSpontaneous (g : Grammar) (states : List (List ℕ)) (nodes : Nodes) (t v : ℕ) : Type 0 where
  pub by : ℕ
  pub seeded : SeededBy g states nodes t by v

-- the words are, for each 64 terminals, the marks of the nodes of which they are lookaheads
pub record AreLookaheads (g : Grammar) (states : List (List ℕ)) (nodes : Nodes) (rows : List (Vec ℕ Global)) : Type 0 where
  pub long : length rows ≡ g.terminals / 64 + 1
  pub each : (k : ℕ) (row : Vec ℕ Global) → slice_get rows k ≡ Some row → length row.items ≡ length nodes.places.items
  pub exact : (k : ℕ) (row : Vec ℕ Global) → slice_get rows k ≡ Some row → (b u s i : ℕ) → b < 64 → k * 64 + b < g.terminals
      → IsNode (length g.entries.now) nodes u s i → HasMark row.items b u ↔ Lookahead g states (k * 64 + b) s i

-- the row of an item
abbrev pub row_at : List (Vec ℕ Global) → ℕ → List ℕ
row_at rows i = option_map_or (λ (row : Vec ℕ Global). row.items) (slice_get rows i) []

-- the symbol behind the symbol after the dot of the item with this place
abbrev pub behind_of : Grammar → ℕ → Option ℕ
behind_of g p = after g (p % length g.entries.now + 1)

-- the nodes of the items that the item with this place opens
abbrev pub opened_part : Grammar → List ℕ → List (Vec ℕ Global) → ℕ → List ℕ
opened_part g numbers opened p = numbers_at numbers (p / length g.entries.now * length g.entries.now) (row_at opened (p % length g.entries.now))

-- an item with a place among these opens the node, and the symbol behind has the mark
pub record Seeds (g : Grammar) (nodes : Nodes) (opened : List (Vec ℕ Global)) (first places : List ℕ) (b v : ℕ) : Type 0 where
  pub place : ℕ
  pub within : Contains places place
  pub next : ℕ
  pub next_is : behind_of g place ≡ Some next
  pub has : HasMark first b next
  pub opens : Contains (opened_part g nodes.numbers.items opened place) v

-- each item of the place's state has a number
pub record PlaceFits (n count p : ℕ) : Type 0 where
  pub positive : 0 < n
  pub fits : p / n * n + n ≤ count

-- the same, and what the item with the place opens are nodes
pub record SeedFits (g : Grammar) (nodes : Nodes) (opened : List (Vec ℕ Global)) (p : ℕ) : Type 0 where
  pub place : PlaceFits (length g.entries.now) (length nodes.numbers.items) p
  pub within : (v : ℕ) → Contains (opened_part g nodes.numbers.items opened p) v → v < length nodes.places.items
