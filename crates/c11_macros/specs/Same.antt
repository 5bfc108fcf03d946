-- A test that two definitions are the same (C11 6.10.3p1, p2).
use Rattle.std.specs.Prelude.{ℕ, ◌==◌, ◌&&◌, not, Bool, true, false, List, [], ◌∷◌, Option, Some, None}
use Rattle.c11_macros.specs.Macros.{Form, object_like, function_like, Replacement, items, file_name, line_number, Definition, Rest}
use Rattle.sc_model.specs.Token.{Item}
use Rattle.sc_model.specs.declared.kind.Kind.{Kind}
use Rattle.sc_model.specs.declared.kind.Kind.TheVariants.{Identifier, Number, Character, Text, Header, Punctuator, Other, Newline}
use Rattle.sc_model.specs.Bytes.{same_bytes}

abbrev pub kind_number : Kind → ℕ
kind_number Identifier = 0
kind_number Number = 1
kind_number Character = 2
kind_number Text = 3
kind_number Header = 4
kind_number Punctuator = 5
kind_number Other = 6
kind_number Newline = 7

abbrev pub same_test : Bool → Bool → Bool
same_test true b = b
same_test false b = not b

abbrev pub same_lists : {A : Type 0} → (A → A → Bool) → List A → List A → Bool
same_lists same [] [] = true
same_lists same [] (y ∷ ys) = false
same_lists same (x ∷ xs) [] = false
same_lists same (x ∷ xs) (y ∷ ys) = same x y && same_lists same xs ys

abbrev pub same_item : Item → Item → Bool
same_item a b = (kind_number a.kind == kind_number b.kind) && (same_bytes a.spelling b.spelling && same_test a.space b.space)

abbrev pub same_rest : Option Rest → Option Rest → Bool
same_rest None None = true
same_rest None (Some s) = false
same_rest (Some r) None = false
same_rest (Some r) (Some s) = same_bytes r.name s.name && same_test r.deletes_comma s.deletes_comma

abbrev pub same_form : Form → Form → Bool
same_form object_like object_like = true
same_form object_like (function_like parameters rest) = false
same_form (function_like parameters rest) object_like = false
same_form (function_like parameters rest) (function_like others other) = same_lists same_bytes parameters others && same_rest rest other

abbrev pub same_replacement : Replacement → Replacement → Bool
same_replacement (items a) (items b) = same_lists same_item a b
same_replacement (items a) file_name = false
same_replacement (items a) line_number = false
same_replacement file_name (items b) = false
same_replacement file_name file_name = true
same_replacement file_name line_number = false
same_replacement line_number (items b) = false
same_replacement line_number file_name = false
same_replacement line_number line_number = true

abbrev pub same_definition : Definition → Definition → Bool
same_definition a b = same_form a.form b.form && same_replacement a.replacement b.replacement
