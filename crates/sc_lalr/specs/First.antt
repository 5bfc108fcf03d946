-- Which symbol's productions begin with which.
use Rattle.std.specs.Prelude.{◌≡◌, ◌+◌, ℕ, List, length, Some, Vec}
use Rattle.std.specs.declared.alloc.Global.{Global}
use Rattle.lr_tables.specs.Grammar.{after, begun}
use Rattle.lr_tables.specs.declared.grammar.Grammar.{Grammar}
use Rattle.sc_items.specs.Reach.{Edge}

-- a production of x begins with y
pub record Leads (g : Grammar) (x y : ℕ) : Type 0 where
  pub item : ℕ
  pub begins : begun g item ≡ Some x
  pub first : after g item ≡ Some y

-- the rows are, for each symbol, those whose productions begin with it
pub record IsLeading (g : Grammar) (rows : List (Vec ℕ Global)) : Type 0 where
  pub long : length rows ≡ g.terminals + g.nonterminals
  pub sound : (y x : ℕ) → Edge rows y x → Leads g x y
  pub complete : (y x : ℕ) → Leads g x y → Edge rows y x
