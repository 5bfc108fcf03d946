-- Two tokens of a list of parameters, and what they say of the whole list.
use Rattle.std.proofs.Common.{◌≡◌, ℕ, suc, ◌+◌, ◌-◌, ◌<◌, ◌==◌, ◌&&◌, not, Bool, true, false, List, [], ◌∷◌, ◌++◌, length, map, drop, get_or, codes, Option, Some, None, refl, sym, ap, ◌∙◌, subst, arith, if◌then◌else◌}
use Rattle.std.specs.List.{list_any}
use Rattle.std.proofs.Math.Seq.{drop-cons}
use Rattle.std.proofs.lemmas.Bool.{and_parts, not-true, true≢false}
use Rattle.std.proofs.lemmas.List.{map-append}
use Rattle.indexmap.specs.IndexSet.{insert_key}
use Rattle.c11_macros.specs.Defines as model
use Rattle.c11_macros.specs.Macros as model_form
use Rattle.c11_macros.specs.Macros.{function_like}
use Rattle.std.proofs.lemmas.List.Elements.{All-push}
use Rattle.sc_base.specs.declared.id.Name.{Name}
use Rattle.sc_base.specs.declared.token.Token as declared
use Rattle.sc_base.specs.Seen.{seen}
use Rattle.sc_model.specs.declared.kind.Kind.TheVariants.{Identifier}
use Rattle.sc_model.specs.Growth.{IsOneToOne}
use Rattle.c11_tokens.specs.Lex.{is_identifier_kind}
use Rattle.sc_model.specs.Bytes.{same_bytes}
use Rattle.sc_model.specs.declared.standard.Standard.{Standard}
use Rattle.sc_model.specs.Token.{Token}
use Rattle.sc_macro.specs.declared.head.Head.{Head}
use Rattle.sc_macro.specs.declared.head.Turn.{Turn}
use Rattle.sc_macro.specs.declared.head.Turn.TheVariants.{More, Last, Dots, Named, Wrong}
use Rattle.sc_macro.specs.Head.{turn_of}
use Rattle.sc_macro.specs.Seen.{text_of, texts_of, AreHeld, seen_form}
use Rattle.sc_macro.proofs.Parameters.{any_is}

abbrev pub by_turn : {A : Type 0} → A → A → A → A → A → Turn → A
by_turn x y z v w More = x
by_turn x y z v w Last = y
by_turn x y z v w Dots = z
by_turn x y z v w Named = v
by_turn x y z v w Wrong = w

pick : {A : Type 0} (a b c d : Bool) (x y z v w : A)
    → (if a then x else (if b then y else (if c then z else (if d then v else w))))
    ≡ by_turn x y z v w (if a then More else (if b then Last else (if c then Dots else (if d then Named else Wrong))))
pick true b c d x y z v w = refl
pick false true c d x y z v w = refl
pick false false true d x y z v w = refl
pick false false false true x y z v w = refl
pick false false false false x y z v w = refl

drop_two : {T : Type 0} (xs : List T) (at : ℕ) (d e : T) → at + 1 < length xs → drop at xs ≡ get_or xs at d ∷ (get_or xs (at + 1) e ∷ drop (at + 2) xs)
drop_two xs at d e h =
    let one : suc at ≡ at + 1 = omega arith in
    let two : suc (at + 1) ≡ at + 2 = omega arith in
    drop-cons xs at d (omega arith)
    ∙ ap (λ ys. get_or xs at d ∷ ys) (ap (λ k. drop k xs) one ∙ (drop-cons xs (at + 1) e h ∙ ap (λ k. get_or xs (at + 1) e ∷ drop k xs) two))

-- what the tokens say from the next two on
pub turned : (standard : Standard) (names before : List (List ℕ)) (line : List declared.Token) (at : ℕ) (d e : declared.Token) → at + 1 < length line
    → model.parameters_after standard before (map (seen names []) (drop at line))
    ≡ by_turn (model.parameters_after standard (before ++ text_of names (get_or line at d).spelling ∷ []) (map (seen names []) (drop (at + 2) line)))
    (Some (record { form = function_like (before ++ text_of names (get_or line at d).spelling ∷ []) None; rest = map (seen names []) (drop (at + 2) line) }))
    (Some (record { form = function_like before (model.rest_named standard (codes "__VA_ARGS__")); rest = map (seen names []) (drop (at + 2) line) }))
    (model.closed (function_like before (model.rest_named standard (text_of names (get_or line at d).spelling))) (map (seen names []) (drop (at + 2) line))) None
    (turn_of standard before (seen names [] (get_or line at d)) (seen names [] (get_or line (at + 1) e)))
turned standard names before line at d e h =
    ap (λ ts. model.parameters_after standard before (map (seen names []) ts)) (drop_two line at d e h)
    ∙ pick (model.is_parameter before (seen names [] (get_or line at d)) && model.is_spelled (codes ",") (seen names [] (get_or line (at + 1) e)))
    (model.is_parameter before (seen names [] (get_or line at d)) && model.is_spelled (codes ")") (seen names [] (get_or line (at + 1) e)))
    (model.is_spelled (codes "...") (seen names [] (get_or line at d)) && model.is_spelled (codes ")") (seen names [] (get_or line (at + 1) e)))
    (model.names_rest standard && (model.is_parameter before (seen names [] (get_or line at d)) && model.is_spelled (codes "...") (seen names [] (get_or line (at + 1) e)))) _ _ _ _ _

-- what a parameter stands before
abbrev pub is_parameter_turn : Turn → Bool
is_parameter_turn More = true
is_parameter_turn Last = true
is_parameter_turn Dots = false
is_parameter_turn Named = true
is_parameter_turn Wrong = false

is_word : (p q r s n d : Bool) (turn : Turn) → is_parameter_turn turn ≡ true
    → (if p && q then More else (if p && r then Last else (if s then Dots else (if n && (p && d) then Named else Wrong)))) ≡ turn → p ≡ true
is_word true q r s n d turn is h = refl
is_word false q r true n d turn is h = absurd (true≢false (sym is ∙ ap is_parameter_turn (sym h)))
is_word false q r false true d turn is h = absurd (true≢false (sym is ∙ ap is_parameter_turn (sym h)))
is_word false q r false false d turn is h = absurd (true≢false (sym is ∙ ap is_parameter_turn (sym h)))

pub parameter_there : (standard : Standard) (before : List (List ℕ)) (t u : Token) (turn : Turn) → is_parameter_turn turn ≡ true → turn_of standard before t u ≡ turn
    → model.is_parameter before t ≡ true
parameter_there standard before t u turn is h =
    is_word (model.is_parameter before t) (model.is_spelled (codes ",") u) (model.is_spelled (codes ")") u) (model.is_spelled (codes "...") t && model.is_spelled (codes ")") u)
    (model.names_rest standard) (model.is_spelled (codes "...") u) turn is h

-- a parameter has another name than the rest that has none
pub own_name : (names before : List (List ℕ)) (t : declared.Token) → model.is_parameter before (seen names [] t) ≡ true → text_of names t.spelling ≡ codes "__VA_ARGS__" → ⊥
own_name names before t is same =
    let apart = (and_parts (is_identifier_kind t.kind) (not (model.is_spelled (codes "__VA_ARGS__") (seen names [] t))) (and_parts _ _ is).0).1 in
    true≢false (sym (ap (λ s. same_bytes s (codes "__VA_ARGS__")) same) ∙ not-true _ apart)

-- an element that is not there
abbrev pub no_token : declared.Token
no_token = record { kind = Identifier; name = record { 0 = 0 }; spelling = record { 0 = 0 }; space = false; place = record { file = record { 0 = 0 }; line = 0; column = 0 } }

-- a parameter is added behind those before it
pub added : (names : List (List ℕ)) → IsOneToOne names → (keys new : List Name) → AreHeld names keys → (word : Name) → word.0 < length names
    → not (list_any (same_bytes (text_of names word)) (texts_of names keys)) ≡ true → new ≡ insert_key (λ a b. a.0 == b.0) keys word → new ≡ keys ++ word ∷ []
added names one keys new held word own fresh inserted =
    let absent : list_any (λ (k : Name). word.0 == k.0) keys ≡ false = sym (any_is names one word own (λ k. word.0 == k.0) (λ k. refl) keys held) ∙ not-true _ fresh in
    inserted ∙ ap (λ b. if b then keys else keys ++ word ∷ []) absent

pub texts-push : (names : List (List ℕ)) (keys new : List Name) (word : Name) → new ≡ keys ++ word ∷ [] → texts_of names new ≡ texts_of names keys ++ text_of names word ∷ []
texts-push names keys new word is = ap (texts_of names) is ∙ map-append (text_of names) keys (word ∷ [])

pub AreHeld-push : (names : List (List ℕ)) (keys new : List Name) (word : Name) → new ≡ keys ++ word ∷ [] → AreHeld names keys → word.0 < length names → AreHeld names new
AreHeld-push names keys new word is held own = subst (AreHeld names) (sym is) (All-push (λ name. name.0 < length names) keys word held own)

-- the form is told, and the tokens behind it
pub told : (names : List (List ℕ)) (line : List declared.Token) (head : Head) (form : model_form.Form) (at : ℕ) → seen_form names head.form ≡ form → head.length ≡ at + 1
    → ◌≡◌ {A = Option model.Head} (Some (record { form = form; rest = map (seen names []) (drop at line) }))
    (Some (record { form = seen_form names head.form; rest = map (seen names []) (drop (head.length - 1) line) }))
told names line head form at is long =
    let k : at ≡ head.length - 1 = omega arith in
    ap (λ f. Some (record { form = f; rest = map (seen names []) (drop at line) })) (sym is)
    ∙ ap (λ n. Some (record { form = seen_form names head.form; rest = map (seen names []) (drop n line) })) k
