-- The replacement list that tokens are.
use Rattle.std.specs.Prelude.{List, [], ◌∷◌, map, false}
use Rattle.sc_base.specs.declared.token.Token.{Token}
use Rattle.sc_macro.specs.declared.definition.Item.{Item}

abbrev pub item_of : Token → Item
item_of t = record { kind = t.kind; name = t.name; spelling = t.spelling; space = t.space }

-- the first item has no white space before it
abbrev pub without_first_space : List Item → List Item
without_first_space [] = []
without_first_space (i ∷ is) = record i { space = false } ∷ is

abbrev pub items_of : List Token → List Item
items_of tokens = without_first_space (map item_of tokens)
