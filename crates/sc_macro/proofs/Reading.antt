-- What a line says doesn't depend on the names of files.
use Rattle.std.proofs.Common.{◌≡◌, ℕ, zero, suc, ◌-◌, ◌<◌, ◌&&◌, not, take, get_or, subst, Bool, true, false, List, [], ◌∷◌, ◌++◌, length, map, drop, codes, Option, Some, None, Result, Ok, Err, refl, sym, ap, ◌∙◌, arith, if◌then◌else◌}
use Rattle.std.specs.Prelude.{All}
use Rattle.std.proofs.Math.Seq.{drop-cons}
use Rattle.std.proofs.lemmas.List.{take_rest}
use Rattle.std.proofs.lemmas.List.Elements.{All-drop}
use Rattle.std.proofs.lemmas.Simd.{map-map}
use Rattle.c11_macros.specs.Defines as model
use Rattle.c11_macros.specs.Macros as macros
use Rattle.sc_base.specs.declared.token.Token as declared
use Rattle.sc_base.specs.Seen.{IsHeld, seen}
use Rattle.c11_tokens.specs.Lex.{is_identifier_kind}
use Rattle.sc_model.specs.Token as model_token
use Rattle.sc_model.specs.declared.cause.Cause.{Cause}
use Rattle.sc_model.specs.declared.standard.Standard.{Standard}
use Rattle.sc_model.specs.declared.cause.Cause.TheVariants.{BadDefine, ProtectedName}
use Rattle.sc_macro.specs.Items.{items_of, item_of}
use Rattle.sc_macro.specs.declared.definition.Item.{Item}
use Rattle.sc_macro.specs.declared.head.Head.{Head}
use Rattle.sc_macro.specs.Head.{IsHead}
use Rattle.sc_macro.specs.Seen.{IsHeldItem, seen_form, seen_item, text_of}
use Rattle.sc_macro.proofs.Turns.{no_token}

-- the items that tokens are, as they are seen
pub items-seen : (names files : List (List ℕ)) (ts : List declared.Token) → map (seen_item names) (items_of ts) ≡ model.list_from (map (seen names files) ts)
items-seen names files [] = refl
items-seen names files (t ∷ ts) =
    ap (λ (is : List model_token.Item). record (model.item_of (seen names files t)) { space = false } ∷ is) (map-map (seen_item names) item_of ts ∙ sym (map-map model.item_of (seen names files) ts))

-- a form and the tokens behind it, with whatever names of files
pub data SameHead (names f g : List (List ℕ)) : Option model.Head → Option model.Head → Type 0 where
  no_head : SameHead names f g None None
  one_head : (form : macros.Form) (ts : List declared.Token)
      → SameHead names f g (Some (record { form = form; rest = map (seen names f) ts })) (Some (record { form = form; rest = map (seen names g) ts }))

module _ (standard : Standard) (names f g : List (List ℕ)) where
  choose : (a : Bool) (x y z w : Option model.Head) → SameHead names f g x y → SameHead names f g z w → SameHead names f g (if a then x else z) (if a then y else w)
  choose true x y z w h k = h
  choose false x y z w h k = k

  end : (form : macros.Form) (ts : List declared.Token) → SameHead names f g (model.closed form (map (seen names f) ts)) (model.closed form (map (seen names g) ts))
  end form [] = no_head
  end form (t ∷ ts) = choose (model.is_spelled (codes ")") (seen names f t)) _ _ _ _ (one_head form ts) no_head

  after : (before : List (List ℕ)) (ts : List declared.Token)
      → SameHead names f g (model.parameters_after standard before (map (seen names f) ts)) (model.parameters_after standard before (map (seen names g) ts))
  after before [] = no_head
  after before (t ∷ []) = no_head
  after before (t ∷ (u ∷ ts)) =
      choose (model.is_parameter before (seen names f t) && model.is_spelled (codes ",") (seen names f u)) _ _ _ _ (after (before ++ (seen names f t).spelling ∷ []) ts)
      (choose (model.is_parameter before (seen names f t) && model.is_spelled (codes ")") (seen names f u)) _ _ _ _ (one_head (macros.function_like (before ++ (seen names f t).spelling ∷ []) None) ts)
      (choose (model.is_spelled (codes "...") (seen names f t) && model.is_spelled (codes ")") (seen names f u)) _ _ _ _ (one_head (macros.function_like before (model.rest_named standard (codes "__VA_ARGS__"))) ts)
      (choose (model.names_rest standard && (model.is_parameter before (seen names f t) && model.is_spelled (codes "...") (seen names f u))) _ _ _ _
      (end (macros.function_like before (model.rest_named standard (seen names f t).spelling)) ts) no_head)))

  behind : (ts : List declared.Token) → SameHead names f g (model.parameters standard (map (seen names f) ts)) (model.parameters standard (map (seen names g) ts))
  behind [] = no_head
  behind (t ∷ ts) = choose (model.is_spelled (codes ")") (seen names f t)) _ _ _ _ (one_head (macros.function_like [] None) ts) (after [] (t ∷ ts))

  pub same_head : (ts : List declared.Token) → SameHead names f g (model.head_of standard (map (seen names f) ts)) (model.head_of standard (map (seen names g) ts))
  same_head [] = one_head macros.object_like []
  same_head (t ∷ ts) = choose (model.is_spelled (codes "(") (seen names f t) && not t.space) _ _ _ _ (behind ts) (one_head macros.object_like (t ∷ ts))

  defines : (name : declared.Token) (x y : Option model.Head) → SameHead names f g x y → model.define_by (seen names f name) x ≡ model.define_by (seen names g name) y
  defines name None None no_head = refl
  defines name x y (one_head form ts) =
      ap (λ (list : List model_token.Item). model.define (seen names f name) form list) (sym (items-seen names f ts) ∙ items-seen names g ts)

  -- the tokens of a line behind the word define
  pub reads-files : (ts : List declared.Token) → model.reads standard (map (seen names f) ts) ≡ model.reads standard (map (seen names g) ts)
  reads-files [] = refl
  reads-files (t ∷ ts) = ap (λ r. if is_identifier_kind t.kind then r else Err BadDefine) (defines t _ _ (same_head ts))

-- tokens that the table holds are items that it holds
held_map : (names : List (List ℕ)) (ts : List declared.Token) → All (IsHeld names) ts → All (IsHeldItem names) (map item_of ts)
held_map names [] own k d h = absurd (omega arith)
held_map names (t ∷ ts) own zero d h = record { spelling = (own 0 t (omega arith)).spelling; name = (own 0 t (omega arith)).name; stands_for = (own 0 t (omega arith)).stands_for }
held_map names (t ∷ ts) own (suc k) d h = held_map names ts (λ i e less. own (suc i) e (omega arith)) k d (omega arith)

held_items : (names : List (List ℕ)) (ts : List declared.Token) → All (IsHeld names) ts → All (IsHeldItem names) (items_of ts)
held_items names [] own k d h = absurd (omega arith)
held_items names (t ∷ ts) own zero d h = record { spelling = (own 0 t (omega arith)).spelling; name = (own 0 t (omega arith)).name; stands_for = (own 0 t (omega arith)).stands_for }
held_items names (t ∷ ts) own (suc k) d h = held_map names (t ∷ ts) own (suc k) d h

abbrev pub outcome : Bool → Bool → model.Defined → Result model.Defined Cause
outcome fit protected d = if not fit then Err BadDefine else (if protected then Err ProtectedName else Ok d)

-- the line from its name on
module _ (standard : Standard) (names : List (List ℕ)) (line rest : List declared.Token) (some : 2 < length line) (is_name : is_identifier_kind (get_or line 2 no_token).kind ≡ true) (behind_name : rest ≡ drop 3 line) where
  reads_by : (files : List (List ℕ)) → model.reads standard (map (seen names files) (drop 2 line)) ≡ model.define_by (seen names [] (get_or line 2 no_token)) (model.head_of standard (map (seen names []) rest))
  reads_by files =
      reads-files standard names files [] (drop 2 line)
      ∙ (ap (λ ts. model.reads standard (map (seen names []) ts)) (drop-cons line 2 no_token some)
      ∙ (ap (λ b. if b then model.define_by (seen names [] (get_or line 2 no_token)) (model.head_of standard (map (seen names []) (drop 3 line))) else Err BadDefine) is_name
      ∙ ap (λ ts. model.define_by (seen names [] (get_or line 2 no_token)) (model.head_of standard (map (seen names []) ts))) (sym behind_name)))

  pub no_form : model.head_of standard (map (seen names []) rest) ≡ None → (files : List (List ℕ)) → model.reads standard (map (seen names files) (drop 2 line)) ≡ Err BadDefine
  no_form none files = reads_by files ∙ ap (model.define_by (seen names [] (get_or line 2 no_token))) none

  module _ (head : Head) (told : IsHead names rest 0 head (model.head_of standard (map (seen names []) rest))) (list : List Item) (are : list ≡ items_of (take (length rest - head.length) (drop head.length rest))) where
    list_is : list ≡ items_of (drop head.length rest)
    list_is = are ∙ ap items_of (take_rest rest head.length)

    pub held_list : All (IsHeld names) line → All (IsHeldItem names) list
    held_list own =
        subst (All (IsHeldItem names)) (sym list_is) (held_items names (drop head.length rest) (All-drop (IsHeld names) head.length rest (subst (All (IsHeld names)) (sym behind_name) (All-drop (IsHeld names) 3 line own))))

    defines_by : (files : List (List ℕ)) → model.reads standard (map (seen names files) (drop 2 line))
        ≡ model.define (seen names [] (get_or line 2 no_token)) (seen_form names head.form) (map (seen_item names) list)
    defines_by files =
        let whole : head.length - 0 ≡ head.length = omega arith in
        reads_by files
        ∙ (ap (model.define_by (seen names [] (get_or line 2 no_token))) told.is
        ∙ (ap (λ n. model.define (seen names [] (get_or line 2 no_token)) (seen_form names head.form) (model.list_from (map (seen names []) (drop n rest)))) whole
        ∙ ap (λ (is : List model_token.Item). model.define (seen names [] (get_or line 2 no_token)) (seen_form names head.form) is)
        (sym (items-seen names [] (drop head.length rest)) ∙ ap (map (seen_item names)) (sym list_is))))

    -- it is refused, or defines the name
    pub outcome_is : (fit protected : Bool) → fit ≡ model.fits (seen_form names head.form) (map (seen_item names) list) → protected ≡ model.is_protected (text_of names (get_or line 2 no_token).spelling)
        → (files : List (List ℕ)) → model.reads standard (map (seen names files) (drop 2 line))
        ≡ outcome fit protected (record { name = text_of names (get_or line 2 no_token).spelling; definition = record { form = seen_form names head.form; replacement = macros.items (map (seen_item names) list) } })
    outcome_is fit protected fits guards files =
        defines_by files
        ∙ ap (λ (b : Bool). outcome b (model.is_protected (text_of names (get_or line 2 no_token).spelling)) (record { name = text_of names (get_or line 2 no_token).spelling; definition = record { form = seen_form names head.form; replacement = macros.items (map (seen_item names) list) } })) (sym fits)
        ∙ ap (λ (b : Bool). outcome fit b (record { name = text_of names (get_or line 2 no_token).spelling; definition = record { form = seen_form names head.form; replacement = macros.items (map (seen_item names) list) } })) (sym guards)
