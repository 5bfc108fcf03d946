-- Grammars: their symbols in order, their productions, their items, and the rules that a grammar
-- keeps.
use Rattle.std.specs.Prelude.{◌≡◌, ℕ, ◌+◌, ◌^◌, ◌<◌, nat_lt, Bool, true, false, List, [], ◌∷◌, ◌++◌, take, length, slice_get, count_by, Option, Some, None, option_and_then, IsTrue}
use Rattle.std.specs.List.{list_all}
use Rattle.lr_tables.specs.declared.grammar.Symbol.{Symbol}
use Rattle.lr_tables.specs.declared.grammar.Symbol.TheVariants.{Terminal, Nonterminal}
use Rattle.lr_tables.specs.declared.grammar.Mark.{Mark}
use Rattle.lr_tables.specs.declared.grammar.Entry.{Entry}
use Rattle.lr_tables.specs.declared.grammar.Entry.TheVariants.{Left, Right}
use Rattle.lr_tables.specs.declared.grammar.Grammar.{Grammar}

-- a production: its left side, its right side, and what its reduction does to the scopes
pub record Production : Type 0 where
  pub left : ℕ
  pub right : List Symbol
  pub mark : Option Mark

abbrev pub right_entries : List Symbol → List Entry
right_entries [] = []
right_entries (x ∷ xs) = Right x ∷ right_entries xs

-- productions written one after the other
abbrev pub entries_of : List Production → List Entry
entries_of [] = []
entries_of (p ∷ ps) = Left (record { 0 = p.left }) p.mark ∷ right_entries p.right ++ entries_of ps

-- the place of a symbol in the order of the symbols: first the terminals, then the nonterminals
abbrev pub symbol_number : ℕ → Symbol → ℕ
symbol_number terminals (Terminal t) = t.0
symbol_number terminals (Nonterminal n) = terminals + n.0

-- the symbol that an entry adds to a right side
abbrev pub right_in : ℕ → Entry → Option ℕ
right_in terminals (Left n mark) = None
right_in terminals (Right x) = Some (symbol_number terminals x)

-- the left side with which an entry begins a production
abbrev pub left_in : ℕ → Entry → Option ℕ
left_in terminals (Left n mark) = Some (terminals + n.0)
left_in terminals (Right x) = None

abbrev pub is_left : Entry → Bool
is_left (Left n mark) = true
is_left (Right x) = false

-- An item is a production with a dot in its right side. It goes by the place of the entry before
-- the dot, so that the item whose dot was moved over one symbol more is the next one. This is the
-- symbol after its dot, which an item with the dot at the end has not.
abbrev pub after : Grammar → ℕ → Option ℕ
after g i = option_and_then (right_in g.terminals) (slice_get g.entries.now (i + 1))

-- the left side of an item's production, where its dot stands at the beginning
abbrev pub begun : Grammar → ℕ → Option ℕ
begun g i = option_and_then (left_in g.terminals) (slice_get g.entries.now i)

-- the number, from 1, of an item's production
abbrev pub production_at : Grammar → ℕ → ℕ
production_at g i = count_by is_left (take (i + 1) g.entries.now)

-- the item has its dot at the end of this production
pub record Ends (g : Grammar) (i p : ℕ) : Type 0 where
  pub within : i < length g.entries.now
  pub at_end : after g i ≡ None
  pub production : production_at g i ≡ p

-- the item begins production 1 or 2
pub record IsStart (g : Grammar) (i : ℕ) : Type 0 where
  pub symbol : ℕ
  pub begins : begun g i ≡ Some symbol
  pub first_two : production_at g i < 3

-- the entry names a symbol of a grammar with so many terminals and nonterminals
abbrev pub is_known : ℕ → ℕ → Entry → Bool
is_known terminals nonterminals (Left n mark) = nat_lt n.0 nonterminals
is_known terminals nonterminals (Right (Terminal t)) = nat_lt t.0 terminals
is_known terminals nonterminals (Right (Nonterminal n)) = nat_lt n.0 nonterminals

-- no right side is empty: each left side has a symbol after it
abbrev pub all_filled : List Entry → Bool
all_filled [] = true
all_filled (Left n mark ∷ []) = false
all_filled (Left n mark ∷ (Left m other ∷ rest)) = false
all_filled (Left n mark ∷ (Right x ∷ rest)) = all_filled rest
all_filled (Right x ∷ rest) = all_filled rest

-- what a grammar keeps so that tables can be built of it
pub record IsGrammar (g : Grammar) : Type 0 where
  pub small : g.terminals + g.nonterminals < 2 ^ 32
  pub known : IsTrue (list_all (is_known g.terminals g.nonterminals) g.entries.now)
  pub filled : IsTrue (all_filled g.entries.now)
