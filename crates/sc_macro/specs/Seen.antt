-- Definitions of macros as the table of texts lets them be seen.
use Rattle.std.specs.Prelude.{◌≡◌, ℕ, ◌<◌, List, map, codes, length, All, Option, Some, None}
use Rattle.std.specs.Option.{IfSome, option_map}
use Rattle.c11_macros.specs.Macros as model
use Rattle.sc_base.specs.declared.id.Name.{Name}
use Rattle.sc_base.specs.Seen.{text_at}
use Rattle.sc_model.specs.Token as model_token
use Rattle.sc_model.specs.Token.{name_of}
use Rattle.sc_macro.specs.declared.definition.Definition.{Definition}
use Rattle.sc_macro.specs.declared.definition.Item.{Item}
use Rattle.sc_macro.specs.declared.definition.Replacement.{Replacement}
use Rattle.sc_macro.specs.declared.definition.Replacement.TheVariants.{Items, FileName, LineNumber}
use Rattle.sc_macro.specs.declared.form.Form.{Form}
use Rattle.sc_macro.specs.declared.form.Form.TheVariants.{Object, Function}
use Rattle.sc_macro.specs.declared.form.Rest.{Rest}

abbrev pub text_of : List (List ℕ) → Name → List ℕ
text_of names name = text_at names name.0

abbrev pub texts_of : List (List ℕ) → List Name → List (List ℕ)
texts_of names ids = map (text_of names) ids

abbrev pub seen_item : List (List ℕ) → Item → model_token.Item
seen_item names i = record { kind = i.kind; spelling = text_of names i.spelling; space = i.space }

abbrev pub rest_name : List (List ℕ) → Option Name → List ℕ
rest_name names None = codes "__VA_ARGS__"
rest_name names (Some name) = text_of names name

abbrev pub seen_rest : List (List ℕ) → Rest → model.Rest
seen_rest names r = record { name = rest_name names r.name; deletes_comma = r.deletes_comma }

abbrev pub seen_form : List (List ℕ) → Form → model.Form
seen_form names Object = model.object_like
seen_form names (Function parameters rest) = model.function_like (texts_of names parameters.keys) (option_map (seen_rest names) rest)

abbrev pub seen_replacement : List (List ℕ) → Replacement → model.Replacement
seen_replacement names (Items list) = model.items (map (seen_item names) list.items)
seen_replacement names FileName = model.file_name
seen_replacement names LineNumber = model.line_number

abbrev pub seen_definition : List (List ℕ) → Definition → model.Definition
seen_definition names d = record { form = seen_form names d.form; replacement = seen_replacement names d.replacement }

-- the table holds these texts
abbrev pub AreHeld : List (List ℕ) → List Name → Type 0
AreHeld names ids = All (λ name. name.0 < length names) ids

pub record IsHeldItem (names : List (List ℕ)) (i : Item) : Type 0 where
  pub spelling : i.spelling.0 < length names
  pub name : i.name.0 < length names
  pub stands_for : text_of names i.name ≡ name_of (text_of names i.spelling)

-- a name that may stand before ...
abbrev pub IsRestName : List (List ℕ) → Name → Type 0
IsRestName names name = (name.0 < length names) × (text_of names name ≡ codes "__VA_ARGS__" → ⊥)

abbrev pub IsHeldRest : List (List ℕ) → Rest → Type 0
IsHeldRest names r = IfSome r.name (IsRestName names)

abbrev pub IsHeldForm : List (List ℕ) → Form → Type 0
IsHeldForm names Object = Unit {0}
IsHeldForm names (Function parameters rest) = AreHeld names parameters.keys × IfSome rest (IsHeldRest names)

abbrev pub IsHeldReplacement : List (List ℕ) → Replacement → Type 0
IsHeldReplacement names (Items list) = All (IsHeldItem names) list.items
IsHeldReplacement names FileName = Unit {0}
IsHeldReplacement names LineNumber = Unit {0}

pub record IsHeldDefinition (names : List (List ℕ)) (d : Definition) : Type 0 where
  pub name : d.name.0 < length names
  pub form : IsHeldForm names d.form
  pub replacement : IsHeldReplacement names d.replacement
