-- Macros: what they are defined to be, and those with which a configuration starts (C11 6.10.3,
-- 6.10.8).
use Rattle.std.specs.Prelude.{◌≡◌, All, Bool, true, false, ℕ, ◌==◌, ◌||◌, List, [], ◌∷◌, ◌++◌, map, codes, decimal, Option, Some, None, slice_get, is_some, if◌then◌else◌}
use Rattle.std.specs.Option.{option_and_then, option_or}
use Rattle.sc_model.specs.declared.kind.Kind.{Kind}
use Rattle.sc_model.specs.declared.kind.Kind.TheVariants as kind
use Rattle.sc_model.specs.Bytes.{has_no_newline, same_bytes}
use Rattle.sc_model.specs.Space.{VariableOption, undefined, number, text, Variable, Space}
use Rattle.sc_model.specs.Token.{Item, Place}

-- The parameter of the arguments that are left (6.10.3p12): its name, and whether a comma before ##
-- and it is deleted where it is empty (gcc's manual, Variadic Macros).
pub record Rest : Type 0 where
  pub name : List ℕ
  pub deletes_comma : Bool

-- a macro with arguments or without them (6.10.3p9, p10)
pub data Form : Type 0 where
  object_like : Form
  -- variadic where there is a rest
  function_like : (parameters : List (List ℕ)) → (rest : Option Rest) → Form

-- a replacement list: that of the definition, or one that the place of the macro's name tells
-- (6.10.8.1)
pub data Replacement : Type 0 where
  items : (list : List Item) → Replacement
  file_name : Replacement
  line_number : Replacement

-- the list stands on one line, wherever the macro's name stands
abbrev pub IsOneLineList : Replacement → Type 0
IsOneLineList (items list) = All (λ (i : Item). has_no_newline i.spelling ≡ true) list
IsOneLineList file_name = Unit {0}
IsOneLineList line_number = Unit {0}

pub record Definition : Type 0 where
  pub form : Form
  pub replacement : Replacement

-- the macros that are defined, by their names
abbrev pub Macros : Type 0
Macros = List ℕ → Option Definition

-- a list of one item
abbrev pub one_item : Kind → List ℕ → List Item
one_item k spelling = record { kind = k; spelling = spelling; space = false } ∷ []

abbrev pub number_item : List ℕ → List Item
number_item spelling = one_item kind.Number spelling

-- " and \ stand in a string literal behind a \
abbrev pub escaped : List ℕ → List ℕ
escaped [] = []
escaped (b ∷ bs) = if b == 34 || b == 92 then 92 ∷ b ∷ escaped bs else b ∷ escaped bs

abbrev pub string_item : List ℕ → List Item
string_item bytes = one_item kind.Text (34 ∷ escaped bytes ++ 34 ∷ [])

-- the replacement list of a macro whose name stands at the place
abbrev pub list_at : Replacement → Place → List Item
list_at (items list) place = list
list_at file_name place = string_item place.file
list_at line_number place = number_item (decimal place.position.line)

abbrev pub object : Replacement → Definition
object replacement = record { form = object_like; replacement = replacement }

-- the macros of C11 6.10.8.1, for this date and this time
abbrev pub predefined_macros : (date time : List ℕ) → List (List ℕ × Definition)
predefined_macros date time =
    (codes "__FILE__", object file_name)
    ∷ (codes "__LINE__", object line_number)
    ∷ (codes "__DATE__", object (items (string_item date)))
    ∷ (codes "__TIME__", object (items (string_item time)))
    ∷ (codes "__STDC__", object (items (number_item (codes "1"))))
    ∷ (codes "__STDC_VERSION__", object (items (number_item (codes "201112L"))))
    ∷ (codes "__STDC_HOSTED__", object (items (number_item (codes "1"))))
    ∷ []

abbrev pub predefined_names : List (List ℕ)
predefined_names = map (λ (m : List ℕ × Definition). m.0) (predefined_macros [] [])

abbrev pub definition_named : List (List ℕ × Definition) → List ℕ → Option Definition
definition_named [] name = None
definition_named (m ∷ ms) name = if same_bytes name m.0 then Some m.1 else definition_named ms name

abbrev pub definition_of : VariableOption → Option Definition
definition_of undefined = None
definition_of (number n) = Some (object (items (number_item (decimal n))))
definition_of (text bytes list) = Some (object (items list))

-- the option of this index defines its name
abbrev pub is_defining : List VariableOption → ℕ → Bool
is_defining options k = is_some (option_and_then definition_of (slice_get options k))

-- what the options of a configuration define a name to be
abbrev pub variable_definition : List Variable → List ℕ → List ℕ → Option Definition
variable_definition [] config name = None
variable_definition (v ∷ vs) [] name = None
variable_definition (v ∷ vs) (k ∷ ks) name =
    if same_bytes v.name name then option_and_then definition_of (slice_get v.options k) else variable_definition vs ks name

-- the macros with which a configuration starts
abbrev pub initial_macros : Space → List ℕ → Macros
initial_macros space config name =
    option_or (definition_named (predefined_macros space.date space.time) name) (variable_definition space.variables config name)
