-- The replacement list of a macro stands on one line where the tokens that define it do.
use Rattle.std.proofs.Common.{◌≡◌, ℕ, ◌&&◌, not, Bool, true, false, List, [], ◌∷◌, ◌++◌, All, IfOk, map, codes, Option, Some, None, Result, Ok, Err, subst, if◌then◌else◌}
use Rattle.std.proofs.lemmas.List.Elements.{All-from_recursion, recursion_from_All}
use Rattle.std.specs.List.{AllByRecursion as Every}
use Rattle.std.specs.Option.{IfSome}
use Rattle.c11_macros.specs.Defines.{Defined, Head, closed, define, define_by, fits, head_of, is_parameter, is_protected, is_spelled, item_of, list_from, names_rest, parameters, parameters_after, reads, rest_named}
use Rattle.c11_macros.specs.Macros.{Definition, Form, IsOneLineList, function_like, items, object_like}
use Rattle.c11_tokens.specs.Lex.{is_identifier_kind}
use Rattle.sc_model.specs.declared.cause.Cause.{Cause}
use Rattle.sc_model.specs.declared.cause.Cause.TheVariants.{BadDefine, ProtectedName}
use Rattle.sc_model.specs.Bytes.{has_no_newline}
use Rattle.sc_model.specs.Token.{Item, Token}
use Rattle.sc_model.specs.declared.standard.Standard.{Standard}

pub both : {A : Type 0} (C : A → Type 0) (b : Bool) (x y : A) → C x → C y → C (if b then x else y)
both C true x y h k = h
both C false x y h k = k

pub every-map : {A B : Type 0} (C : A → Type 0) (D : B → Type 0) (g : A → B) → ((x : A) → C x → D (g x)) → (xs : List A) → Every C xs → Every D (map g xs)
every-map C D g h [] k = tt
every-map C D g h (x ∷ xs) k = (h x k.0, every-map C D g h xs k.1)

-- a token that is spelled on one line
abbrev pub PlainToken : Token → Type 0
PlainToken t = has_no_newline t.spelling ≡ true

abbrev pub PlainItem : Item → Type 0
PlainItem i = has_no_newline i.spelling ≡ true

abbrev pub PlainDefinition : Definition → Type 0
PlainDefinition d = IsOneLineList d.replacement

abbrev PlainTokens : List Token → Type 0
PlainTokens = Every PlainToken

abbrev PlainHead : Option Head → Type 0
PlainHead o = IfSome o (λ head. PlainTokens head.rest)

closed-plain : (form : Form) (ts : List Token) → PlainTokens ts → PlainHead (closed form ts)
closed-plain form [] h = tt
closed-plain form (t ∷ ts) h = both PlainHead (is_spelled (codes ")") t) (Some (record { form = form; rest = ts })) None h.1 tt

module _ (standard : Standard) where
  parameters_after-plain : (before : List (List ℕ)) (ts : List Token) → PlainTokens ts → PlainHead (parameters_after standard before ts)
  parameters_after-plain before [] h = tt
  parameters_after-plain before (t ∷ []) h = tt
  parameters_after-plain before (t ∷ (u ∷ ts)) h =
      let one : Option Head = Some (record { form = function_like (before ++ t.spelling ∷ []) None; rest = ts }) in
      let dots : Option Head = Some (record { form = function_like before (rest_named standard (codes "__VA_ARGS__")); rest = ts }) in
      let named : Option Head = closed (function_like before (rest_named standard t.spelling)) ts in
      let is_named = names_rest standard && (is_parameter before t && is_spelled (codes "...") u) in
      let last : Option Head = if is_spelled (codes "...") t && is_spelled (codes ")") u then dots else (if is_named then named else None) in
      both PlainHead (is_parameter before t && is_spelled (codes ",") u) (parameters_after standard (before ++ t.spelling ∷ []) ts) (if is_parameter before t && is_spelled (codes ")") u then one else last)
      (parameters_after-plain (before ++ t.spelling ∷ []) ts h.1.1)
      (both PlainHead (is_parameter before t && is_spelled (codes ")") u) one last h.1.1
      (both PlainHead (is_spelled (codes "...") t && is_spelled (codes ")") u) dots (if is_named then named else None) h.1.1
      (both PlainHead is_named named None (closed-plain (function_like before (rest_named standard t.spelling)) ts h.1.1) tt)))

  parameters-plain : (ts : List Token) → PlainTokens ts → PlainHead (parameters standard ts)
  parameters-plain [] h = tt
  parameters-plain (t ∷ ts) h =
      both PlainHead (is_spelled (codes ")") t) (Some (record { form = function_like [] None; rest = ts })) (parameters_after standard [] (t ∷ ts)) h.1 (parameters_after-plain [] (t ∷ ts) h)

  head-plain : (ts : List Token) → PlainTokens ts → PlainHead (head_of standard ts)
  head-plain [] h = tt
  head-plain (t ∷ ts) h =
      both PlainHead (is_spelled (codes "(") t && not t.space) (parameters standard ts) (Some (record { form = object_like; rest = t ∷ ts })) (parameters-plain ts h.1) h

list_from-plain : (ts : List Token) → PlainTokens ts → Every PlainItem (list_from ts)
list_from-plain [] h = tt
list_from-plain (t ∷ ts) h = (h.0, every-map PlainToken PlainItem item_of (λ u k. k) ts h.1)

abbrev PlainDefined : Result Defined Cause → Type 0
PlainDefined r = IfOk r (λ d. PlainDefinition d.definition)

define-plain : (name : Token) (form : Form) (list : List Item) → Every PlainItem list → PlainDefined (define name form list)
define-plain name form list h =
    let made : Result Defined Cause = Ok (record { name = name.spelling; definition = record { form = form; replacement = items list } }) in
    both PlainDefined (not (fits form list)) (Err BadDefine) (if is_protected name.spelling then Err ProtectedName else made) tt
    (both PlainDefined (is_protected name.spelling) (Err ProtectedName) made tt (All-from_recursion PlainItem list h))

define_by-plain : (name : Token) (o : Option Head) → PlainHead o → PlainDefined (define_by name o)
define_by-plain name None h = tt
define_by-plain name (Some head) h = define-plain name head.form (list_from head.rest) (list_from-plain head.rest h)

reads-plain : (standard : Standard) (ts : List Token) → PlainTokens ts → PlainDefined (reads standard ts)
reads-plain standard [] h = tt
reads-plain standard (name ∷ rest) h =
    both PlainDefined (is_identifier_kind name.kind) (define_by name (head_of standard rest)) (Err BadDefine) (define_by-plain name (head_of standard rest) (head-plain standard rest h.1)) tt

-- the list of a macro that is defined on one line
pub reads-one_line : (standard : Standard) (line : List Token) (d : Defined) → All PlainToken line → reads standard line ≡ Ok d → IsOneLineList d.definition.replacement
reads-one_line standard line d h is = subst PlainDefined is (reads-plain standard line (recursion_from_All PlainToken line h))
