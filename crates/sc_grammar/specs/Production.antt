-- A production as the code gives it.
use Rattle.std.specs.Prelude.{◌≡◌, ◌+◌, ℕ, List, [], ◌∷◌, length, slice_get, Some, Option}
use Rattle.lr_tables.specs.declared.grammar.Mark.{Mark}
use Rattle.lr_tables.specs.declared.grammar.Nonterminal.{Nonterminal}
use Rattle.lr_tables.specs.Grammar.{Production as Rule}
use Rattle.lr_tables.specs.declared.grammar.Symbol.{Symbol}
use Rattle.lr_tables.specs.declared.grammar.Entry.{Entry}
use Rattle.lr_tables.specs.declared.grammar.Entry.TheVariants.{Left, Right}
use Rattle.sc_grammar.specs.declared.rule.Production.{Production}

-- the symbols of a right side
abbrev pub symbols_of : List Entry → List Symbol
symbols_of [] = []
symbols_of (Left n mark ∷ rest) = symbols_of rest
symbols_of (Right x ∷ rest) = x ∷ symbols_of rest

-- the production that it stands for
abbrev pub production_of : Production → Rule
production_of p = record { left = p.left.0; right = symbols_of p.right.now; mark = p.mark }

-- a production begins at this place
pub record IsLeftAt (entries : List Entry) (i : ℕ) : Type 0 where
  pub left : Nonterminal
  pub mark : Option Mark
  pub at : slice_get entries i ≡ Some (Left left mark)

-- where each of the productions begins, and where the last one ends
abbrev pub places_from : ℕ → List Rule → List ℕ
places_from n [] = n ∷ []
places_from n (p ∷ ps) = n ∷ places_from (n + (length p.right + 1)) ps
