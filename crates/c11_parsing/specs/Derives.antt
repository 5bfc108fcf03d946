-- What the symbols of a grammar derive, and the parsers that go by a grammar.
use Rattle.std.specs.Prelude.{◌≡◌, ℕ, ◌+◌, ◌<◌, true, List, [], ◌∷◌, ◌++◌, length, slice_get, Option, Some, None}
use Rattle.lr_tables.specs.Grammar.{Production, after, entries_of, symbol_number, Ends, IsGrammar}
use Rattle.lr_tables.specs.Paths.{StartsApart}
use Rattle.lr_tables.specs.Tables.{AreTables, Tables}
use Rattle.lr_tables.specs.declared.grammar.Grammar.{Grammar}
use Rattle.lr_tables.specs.declared.grammar.Symbol.{Symbol}
use Rattle.sc_model.specs.Token.{Token}
use Rattle.c11_parsing.specs.Parser.{Parser, is_silent}
use Rattle.c11_parsing.specs.Trees.{Tree, leaf, node, Forest, no_trees, with_tree, leaves}

-- The symbol derives the tokens, by this tree. A production with one symbol on its right side,
-- production 2 aside, passes its tree on; any other has a node, with the trees of its right side.
mutual
  pub data Derives (m : Parser) : ℕ → Option Tree → List Token → Type 0 where
    token : (x : ℕ) (t : Token) → m.terminal_of t ≡ Some x → Derives m x (Some (leaf t)) (t ∷ [])
    silent : (x : ℕ) → is_silent m x ≡ true → Derives m x None []
    passed : (n : ℕ) (p : Production) (x : Symbol) (tree : Option Tree) (ts : List Token) → slice_get m.productions n ≡ Some p
        → (n ≡ 1 → ⊥) → p.right ≡ x ∷ [] → Derives m (symbol_number m.terminals x) tree ts → Derives m (m.terminals + p.left) tree ts
    made : (n : ℕ) (p : Production) (children : Forest) (ts : List Token) → slice_get m.productions n ≡ Some p
        → (length p.right ≡ 1 → n ≡ 1) → DerivesAll m p.right children ts → Derives m (m.terminals + p.left) (Some (node (n + 1) children)) ts

  pub data DerivesAll (m : Parser) : List Symbol → Forest → List Token → Type 0 where
    nothing : DerivesAll m [] no_trees []
    both : (x : Symbol) (xs : List Symbol) (tree : Option Tree) (forest : Forest) (ts us : List Token)
        → Derives m (symbol_number m.terminals x) tree ts → DerivesAll m xs forest us
        → DerivesAll m (x ∷ xs) (with_tree tree forest) (ts ++ us)

-- The tree is a derivation of a whole text, which is the left side of production 1, from the
-- tokens, and these are its leaves in order.
pub record DerivesText (m : Parser) (tree : Tree) (ts : List Token) : Type 0 where
  pub first : Production
  pub is_first : slice_get m.productions 0 ≡ Some first
  pub derives : Derives m (m.terminals + first.left) (Some tree) ts
  pub leaves : leaves tree ≡ ts

-- ---- parsers of a grammar

-- The first two productions are those of a whole text, which has one left side: some text and the
-- end, or the end alone. The end stands nowhere else.
pub record HasWholeTexts (g : Grammar) (m : Parser) : Type 0 where
  pub some_text : Production
  pub no_text : Production
  pub first : slice_get m.productions 0 ≡ Some some_text
  pub second : slice_get m.productions 1 ≡ Some no_text
  pub left : no_text.left ≡ some_text.left
  pub text : Symbol
  pub end : Symbol
  pub is_end : symbol_number m.terminals end ≡ m.end
  pub some_right : some_text.right ≡ text ∷ end ∷ []
  pub no_right : no_text.right ≡ end ∷ []
  pub last : (i : ℕ) → after g i ≡ Some m.end → (p : ℕ) × Ends g (i + 1) p × (p < 3)

-- a terminal of the grammar, and not the end
pub record IsInText (m : Parser) (x : ℕ) : Type 0 where
  pub within : x < m.terminals
  pub not_end : x ≡ m.end → ⊥

-- the parser does what the LALR(1) tables of this grammar say
pub record IsParserOf (g : Grammar) (m : Parser) : Type 0 where
  pub grammar : IsGrammar g
  pub entries : g.entries.now ≡ entries_of m.productions
  pub terminals : g.terminals ≡ m.terminals
  pub tables : Tables
  pub are_tables : AreTables g tables
  pub action : m.tables.action ≡ tables.action
  pub goto : m.tables.goto ≡ tables.goto
  pub starts_apart : StartsApart g
  pub whole : HasWholeTexts g m
  pub end : m.end < m.terminals
  pub tokens : (t : Token) (x : ℕ) → m.terminal_of t ≡ Some x → IsInText m x
  pub typedef_kind : IsInText m m.typedef_kind
  pub variable_kind : IsInText m m.variable_kind
