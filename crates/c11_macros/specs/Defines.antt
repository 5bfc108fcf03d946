-- What a #define line defines (C11 6.10.3), and when two definitions are the same.
use Rattle.std.specs.Prelude.{ℕ, ◌&&◌, ◌||◌, not, Bool, true, false, List, [], ◌∷◌, ◌++◌, map, codes, Option, Some, None, is_some, Result, Ok, Err, if◌then◌else◌}
use Rattle.std.specs.List.{list_all, list_any}
use Rattle.c11_tokens.specs.Lex.{is_identifier_kind}
use Rattle.c11_macros.specs.Macros.{Form, object_like, function_like, items, Definition, Rest, predefined_names}
use Rattle.sc_model.specs.Token.{Item}
use Rattle.c11_macros.specs.Substitution.{is_hash, is_named, is_paste, begins_with_parameter}
use Rattle.sc_model.specs.declared.cause.Cause.{Cause}
use Rattle.sc_model.specs.declared.cause.Cause.TheVariants.{BadDefine, ProtectedName}
use Rattle.sc_model.specs.Bytes.{same_bytes}
use Rattle.sc_model.specs.Token.{Token}
use Rattle.sc_model.specs.declared.standard.Standard.{Standard}
use Rattle.sc_model.specs.declared.standard.Standard.TheVariants.{C11, C23, Gnu11}

-- names that no directive defines or takes back (6.10.8p2)
abbrev pub protected_names : List (List ℕ)
protected_names = codes "defined" ∷ codes "__VA_ARGS__" ∷ predefined_names

abbrev pub is_protected : List ℕ → Bool
is_protected name = list_any (same_bytes name) protected_names

abbrev pub is_spelled : List ℕ → Token → Bool
is_spelled text t = same_bytes t.spelling text

-- ---- the rest of the arguments

-- a name may stand before ... (gcc's manual, Variadic Macros)
abbrev pub names_rest : Standard → Bool
names_rest C11 = false
names_rest C23 = false
names_rest Gnu11 = true

-- a comma before ## and a rest that is empty is deleted (gcc's manual, Variadic Macros)
abbrev pub deletes_comma : Standard → Bool
deletes_comma C11 = false
deletes_comma C23 = false
deletes_comma Gnu11 = true

abbrev pub rest_named : Standard → List ℕ → Option Rest
rest_named standard name = Some (record { name = name; deletes_comma = deletes_comma standard })

-- ---- parameters

-- a form, and the tokens of the replacement list
pub record Head : Type 0 where
  pub form : Form
  pub rest : List Token

-- a name that may be the next parameter
abbrev pub is_parameter : List (List ℕ) → Token → Bool
is_parameter before t = is_identifier_kind t.kind && not (is_spelled (codes "__VA_ARGS__") t) && not (list_any (same_bytes t.spelling) before)

-- the end of the list of parameters
abbrev pub closed : Form → List Token → Option Head
closed form [] = None
closed form (t ∷ ts) = if is_spelled (codes ")") t then Some (record { form = form; rest = ts }) else None

-- Behind the opening parenthesis or a comma, after these parameters: one more and then a comma or
-- the end, or ... and the end, or a name for the rest, ... and the end.
abbrev pub parameters_after : Standard → List (List ℕ) → List Token → Option Head
parameters_after standard before (t ∷ (u ∷ ts)) =
    if is_parameter before t && is_spelled (codes ",") u then parameters_after standard (before ++ t.spelling ∷ []) ts
    else (if is_parameter before t && is_spelled (codes ")") u then Some (record { form = function_like (before ++ t.spelling ∷ []) None; rest = ts })
    else (if is_spelled (codes "...") t && is_spelled (codes ")") u then Some (record { form = function_like before (rest_named standard (codes "__VA_ARGS__")); rest = ts })
    else (if names_rest standard && (is_parameter before t && is_spelled (codes "...") u) then closed (function_like before (rest_named standard t.spelling)) ts
    else None)))
parameters_after standard before _ = None

-- behind the opening parenthesis
abbrev pub parameters : Standard → List Token → Option Head
parameters standard [] = None
parameters standard (t ∷ ts) = if is_spelled (codes ")") t then Some (record { form = function_like [] None; rest = ts }) else parameters_after standard [] (t ∷ ts)

-- behind the name: a macro is function-like where ( follows with no white space before it
abbrev pub head_of : Standard → List Token → Option Head
head_of standard [] = Some (record { form = object_like; rest = [] })
head_of standard (t ∷ ts) = if is_spelled (codes "(") t && not t.space then parameters standard ts else Some (record { form = object_like; rest = t ∷ ts })

abbrev pub item_of : Token → Item
item_of t = record { kind = t.kind; spelling = t.spelling; space = t.space }

-- White space before and after the list is none of it (6.10.3p7).
abbrev pub list_from : List Token → List Item
list_from [] = []
list_from (t ∷ ts) = record (item_of t) { space = false } ∷ map item_of ts

-- ## stands at neither end (6.10.3.3p1)
abbrev pub begins_with_paste : List Item → Bool
begins_with_paste [] = false
begins_with_paste (i ∷ is) = is_paste i

abbrev pub ends_with_paste : List Item → Bool
ends_with_paste [] = false
ends_with_paste (i ∷ []) = is_paste i
ends_with_paste (i ∷ (j ∷ is)) = ends_with_paste (j ∷ is)

abbrev pub is_function_like : Form → Bool
is_function_like object_like = false
is_function_like (function_like parameters rest) = true

abbrev pub rest_of : Form → Option Rest
rest_of object_like = None
rest_of (function_like parameters rest) = rest

-- a parameter follows each # of a function-like macro (6.10.3.2p1)
abbrev pub hashes_fit : Form → List Item → Bool
hashes_fit form [] = true
hashes_fit form (i ∷ is) = (not (is_hash i) || begins_with_parameter form is) && hashes_fit form is

-- __VA_ARGS__ stands in the list of a macro alone whose rest has this name (6.10.3p5)
abbrev pub fits : Form → List Item → Bool
fits form list =
    not (begins_with_paste list) && not (ends_with_paste list)
    && (not (is_function_like form) || hashes_fit form list)
    && (is_named (codes "__VA_ARGS__") (rest_of form) || not (list_any (λ i. same_bytes i.spelling (codes "__VA_ARGS__")) list))

pub record Defined : Type 0 where
  pub name : List ℕ
  pub definition : Definition

abbrev pub define : Token → Form → List Item → Result Defined Cause
define name form list =
    if not (fits form list) then Err BadDefine
    else (if is_protected name.spelling then Err ProtectedName
    else Ok (record { name = name.spelling; definition = record { form = form; replacement = items list } }))

abbrev pub define_by : Token → Option Head → Result Defined Cause
define_by name None = Err BadDefine
define_by name (Some head) = define name head.form (list_from head.rest)

-- What the tokens behind the word define say. Two definitions are the same where they are equal: of
-- one form, with the same parameters, spellings and white space (6.10.3p1, p2).
abbrev pub reads : Standard → List Token → Result Defined Cause
reads standard [] = Err BadDefine
reads standard (name ∷ rest) = if is_identifier_kind name.kind then define_by name (head_of standard rest) else Err BadDefine
