-- Texts that are options: replacement lists of macros without arguments (C11 6.10.3).
use Rattle.std.specs.Prelude.{◌≡◌, ℕ, ◌-◌, ◌++◌, List, [], length, take, drop, map, codes, Option, Some, None, Result, if◌then◌else◌}
use Rattle.std.specs.List.{list_any}
use Rattle.std.specs.Option.{option_and_then}
use Rattle.std.specs.Result.{result_ok}
use Rattle.sc_model.specs.Token.{Item, Lexeme, Position, in_file}
use Rattle.c11_tokens.specs.Lex.{Lexed, is_newline}
use Rattle.c11_macros.specs.Defines.{Defined, reads}
use Rattle.c11_macros.specs.Macros.{Replacement, items, file_name, line_number}
use Rattle.sc_model.specs.declared.standard.Standard.TheVariants.{C11}

-- the line that defines the name as the text
abbrev pub define_line : List ℕ → List ℕ → List ℕ
define_line name text = codes "#define " ++ name ++ codes " " ++ text ++ codes "\n"

abbrev pub list_of : Replacement → Option (List Item)
list_of (items list) = Some list
list_of file_name = None
list_of line_number = None

-- What these tokens define, of which the first two are `#` and the word define. Standards differ in
-- parameters alone, and none stand here.
abbrev pub list_defined : List Lexeme → Option (List Item)
list_defined ts = option_and_then (λ (d : Defined). list_of d.definition.replacement) (result_ok (reads C11 (map (in_file []) (drop 2 ts))))

-- the same of tokens with the newline that ends their line, where no other newline is among them
abbrev pub line_defines : List Lexeme → Option (List Item)
line_defines ts =
    let line = take (length ts - 1) ts in
    if list_any (λ (t : Lexeme). is_newline t.kind) line then None else list_defined line

-- the replacement list that each name and text give, where the text is an option of the name
abbrev pub Texts : Type 0
Texts = List ℕ → List ℕ → Option (List Item)

-- They are what the lines define. A comment without an end defines nothing.
pub record AreTexts (texts : Texts) : Type 0 where
  pub each : (name text : List ℕ) (r : Result (List Lexeme) Position) → Lexed (define_line name text) r → texts name text ≡ option_and_then line_defines (result_ok r)
