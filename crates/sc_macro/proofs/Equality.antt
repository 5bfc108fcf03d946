-- Ids of one table are equal where what is seen of them is.
use Rattle.std.proofs.Common.{◌≡◌, ℕ, suc, Bool, ◌<◌, List, [], ◌∷◌, map, length, Option, Some, None, codes, inl, inr, is_some, not, true, false, refl, sym, ap, ◌∙◌, arith}
use Rattle.std.specs.Prelude.{All}
use Rattle.std.specs.Option.{IfSome, option_map}
use Rattle.std.proofs.lemmas.Option.{same_Some}
use Rattle.c11_macros.specs.Macros as model
use Rattle.sc_base.specs.declared.id.Name.{Name}
use Rattle.sc_macro.specs.declared.definition.Item.{Item}
use Rattle.sc_macro.specs.declared.form.Rest.{Rest}
use Rattle.sc_macro.specs.Seen.{AreHeld, IsHeldItem, IsHeldRest, IsRestName, rest_name, seen_item, seen_rest, text_of, texts_of}
use Rattle.sc_macro.proofs.Parameters.{AreHeld-tail}
use Rattle.sc_macro.proofs.Texts.{same_id}
use Rattle.sc_model.specs.Token as model_token
use Rattle.sc_model.specs.declared.kind.Kind.{Kind}
use Rattle.sc_model.specs.Growth.{IsOneToOne}
use Rattle.sc_model.specs.Bytes.{same_bytes}
use Rattle.sc_model.proofs.ByteLemmas.{same_bytes-true}
use Rattle.std.proofs.lemmas.Bool.{cases_Bool, true≢false}
use Rattle.sc_model.specs.Token.{name_of}

made : {k l : Kind} {n m s t : Name} {x y : Bool} → k ≡ l → n ≡ m → s ≡ t → x ≡ y
    → ◌≡◌ {A = Item} (record { kind = k; name = n; spelling = s; space = x }) (record { kind = l; name = m; spelling = t; space = y })
made {k} {l} {n} {m} {s} {t} {x} {y} kind name spelling space = cc

rest_made : {n m : Option Name} {x y : Bool} → n ≡ m → x ≡ y → ◌≡◌ {A = Rest} (record { name = n; deletes_comma = x }) (record { name = m; deletes_comma = y })
rest_made {n} {m} {x} {y} name deletes = cc

-- the rest without a name alone is __VA_ARGS__
pub unnamed : (names : List (List ℕ)) (name : Option Name) (none : Bool) → is_some name ≡ not none → IfSome name (IsRestName names) → none ≡ same_bytes (rest_name names name) (codes "__VA_ARGS__")
unnamed names None true is held = refl
unnamed names None false is held = absurd (true≢false (sym is))
unnamed names (Some name) true is held = absurd (true≢false is)
unnamed names (Some name) false is held = elim (cases_Bool (same_bytes (text_of names name) (codes "__VA_ARGS__"))) [
  | inl same ↦ absurd (held.1 (same_bytes-true _ _ same))
  | inr apart ↦ sym apart
]

module _ (names : List (List ℕ)) (one : IsOneToOne names) where
  same_name : (a b : Name) → a.0 < length names → b.0 < length names → text_of names a ≡ text_of names b → a ≡ b
  same_name a b in_a in_b same = ap (λ n. record { 0 = n }) (same_id names a.0 b.0 one in_a in_b same)

  pub same_names : (xs ys : List Name) → AreHeld names xs → AreHeld names ys → texts_of names xs ≡ texts_of names ys → xs ≡ ys
  same_names [] [] in_x in_y same = refl
  same_names [] (y ∷ ys) in_x in_y same = absurd (cc)
  same_names (x ∷ xs) [] in_x in_y same = absurd (cc)
  same_names (x ∷ xs) (y ∷ ys) in_x in_y same =
      let first : x ≡ y = same_name x y (in_x 0 x (omega arith)) (in_y 0 y (omega arith)) (cc) in
      let others : xs ≡ ys = same_names xs ys (AreHeld-tail names x xs in_x) (AreHeld-tail names y ys in_y) (cc) in
      cc

  rest_names : (a b : Option Name) → IfSome a (IsRestName names) → IfSome b (IsRestName names) → rest_name names a ≡ rest_name names b → a ≡ b
  rest_names None None in_a in_b same = refl
  rest_names None (Some b) in_a in_b same = absurd (in_b.1 (sym same))
  rest_names (Some a) None in_a in_b same = absurd (in_a.1 same)
  rest_names (Some a) (Some b) in_a in_b same = ap Some (same_name a b in_a.0 in_b.0 same)

  pub same_rests : (a b : Option Rest) → IfSome a (IsHeldRest names) → IfSome b (IsHeldRest names) → option_map (seen_rest names) a ≡ option_map (seen_rest names) b → a ≡ b
  same_rests None None in_a in_b same = refl
  same_rests None (Some s) in_a in_b same = absurd (cc)
  same_rests (Some r) None in_a in_b same = absurd (cc)
  same_rests (Some r) (Some s) in_a in_b same =
      let seen : seen_rest names r ≡ seen_rest names s = same_Some _ _ same in
      ap Some (rest_made (rest_names r.name s.name in_a in_b (ap (λ (t : model.Rest). t.name) seen)) (ap (λ (t : model.Rest). t.deletes_comma) seen))

  same_item : (a b : Item) → IsHeldItem names a → IsHeldItem names b → seen_item names a ≡ seen_item names b → a ≡ b
  same_item a b in_a in_b same =
      let text : text_of names a.spelling ≡ text_of names b.spelling = ap (λ (i : model_token.Item). i.spelling) same in
      made (ap (λ (i : model_token.Item). i.kind) same) (same_name a.name b.name in_a.name in_b.name (in_a.stands_for ∙ (ap name_of text ∙ sym in_b.stands_for)))
      (same_name a.spelling b.spelling in_a.spelling in_b.spelling text) (ap (λ (i : model_token.Item). i.space) same)

  pub same_items : (xs ys : List Item) → All (IsHeldItem names) xs → All (IsHeldItem names) ys → map (seen_item names) xs ≡ map (seen_item names) ys → xs ≡ ys
  same_items [] [] in_x in_y same = refl
  same_items [] (y ∷ ys) in_x in_y same = absurd (cc)
  same_items (x ∷ xs) [] in_x in_y same = absurd (cc)
  same_items (x ∷ xs) (y ∷ ys) in_x in_y same =
      let first : x ≡ y = same_item x y (in_x 0 x (omega arith)) (in_y 0 y (omega arith)) (cc) in
      let others : xs ≡ ys = same_items xs ys (λ k d h. in_x (suc k) d (omega arith)) (λ k d h. in_y (suc k) d (omega arith)) (cc) in
      cc
