-- Hide sets as texts: what sets have in common by their ids they have in common by their texts.
use Rattle.std.proofs.Common.{◌≡◌, ℕ, zero, suc, ◌<◌, ◌==◌, ◌&&◌, ◌||◌, Bool, true, false, List, [], ◌∷◌, length, get_or, inl, inr, refl, sym, ap, subst, ◌∙◌, arith}
use Rattle.std.specs.List.{list_any}
use Rattle.std.proofs.lemmas.Bool.{cases_Bool, and_parts, or_cases, eqb-true, true≢false}
use Rattle.std.proofs.lemmas.Bool.Decides.{nat_tests}
use Rattle.c11_macros.specs.Hidden.{HideSet, meet, union}
use Rattle.sc_base.specs.declared.id.Name.{Name}
use Rattle.sc_base.specs.Seen.{text_at}
use Rattle.sc_macro.specs.Seen.{AreHeld, text_of}
use Rattle.sc_macro.proofs.Texts.{same_id}
use Rattle.sc_model.specs.Bytes.{same_bytes}
use Rattle.sc_model.specs.Growth.{IsOneToOne}
use Rattle.sc_model.proofs.ByteLemmas.{same_bytes-refl, same_bytes-true}
use Rattle.sc_subst.specs.Rising.{has_name}
use Rattle.sc_subst.specs.Seen.{texts_in}

pub same_sets : (one two : HideSet) → ((text : List ℕ) → one text ≡ two text) → one ≡ two
same_sets one two h = λ i. λ text. h text i

itself : (n : ℕ) → (n == n) ≡ true
itself n = grind (arith, nat_tests)

or_true : (a b : Bool) → b ≡ true → (a || b) ≡ true
or_true true b h = refl
or_true false b h = h

both : (a b : Bool) → (a ≡ true → b ≡ true) → (b ≡ true → a ≡ true) → a ≡ b
both true b h k = sym (h refl)
both false true h k = k refl
both false false h k = refl

pub held_tail : (names : List (List ℕ)) (x : Name) (xs : List Name) → AreHeld names (x ∷ xs) → AreHeld names xs
held_tail names x xs own = λ i d h. own (suc i) d (omega arith)

-- a text of a set is that of a name
record Found (names : List (List ℕ)) (set : List Name) (text : List ℕ) : Type 0 where
  name : Name
  own : name.0 < length names
  is : text_of names name ≡ text
  has : has_name set name ≡ true

found : (names : List (List ℕ)) (set : List Name) (text : List ℕ) → AreHeld names set → texts_in names set text ≡ true → Found names set text
found names [] text held h = absurd (true≢false (sym h))
found names (x ∷ xs) text held h = elim (cases_Bool (same_bytes (text_of names x) text)) [
  | inl here ↦ record { name = x; own = held 0 x (omega arith); is = same_bytes-true _ _ here; has = rw (itself x.0) }
  | inr other ↦ (
      let later = found names xs text (held_tail names x xs held) (rw other at h) in
      record { name = later.name; own = later.own; is = later.is; has = or_true (x.0 == later.name.0) _ later.has })
]

has_text : (names : List (List ℕ)) (set : List Name) (name : Name) → has_name set name ≡ true → texts_in names set (text_of names name) ≡ true
has_text names [] name h = absurd (true≢false (sym h))
has_text names (x ∷ xs) name h = elim (cases_Bool (x.0 == name.0)) [
  | inl here ↦ (let same : text_of names x ≡ text_of names name = ap (text_at names) (eqb-true x.0 name.0 here) in
      rw (same, same_bytes-refl (text_of names name)))
  | inr other ↦ or_true _ _ (has_text names xs name (rw other at h))
]

held_has : (names : List (List ℕ)) (set : List Name) (name : Name) → AreHeld names set → has_name set name ≡ true → name.0 < length names
held_has names [] name held h = absurd (true≢false (sym h))
held_has names (x ∷ xs) name held h = elim (cases_Bool (x.0 == name.0)) [
  | inl here ↦ subst (λ n. n < length names) (eqb-true x.0 name.0 here) (held 0 x (omega arith))
  | inr other ↦ held_has names xs name (held_tail names x xs held) (rw other at h)
]

has_at : (set : List Name) (k : ℕ) (d : Name) → k < length set → has_name set (get_or set k d) ≡ true
has_at [] k d h = absurd (omega arith)
has_at (x ∷ xs) zero d h = rw (itself x.0)
has_at (x ∷ xs) (suc k) d h = or_true _ _ (has_at xs k d (omega arith))

-- ---- what two sets have in common

module _ (names : List (List ℕ)) (one two made : List Name) (held_one : AreHeld names one) (held_two : AreHeld names two) where
  module _ (exact : (name : Name) → has_name made name ≡ (has_name one name && has_name two name)) where
    pub held_common : AreHeld names made
    held_common = λ k d h. held_has names one (get_or made k d) held_one (and_parts _ _ (sym (exact (get_or made k d)) ∙ has_at made k d h)).0

    pub seen_common : IsOneToOne names → texts_in names made ≡ meet (texts_in names one) (texts_in names two)
    seen_common apart = same_sets _ _ (λ text. both _ _ (there text) (back text))
      where
        there : (text : List ℕ) → texts_in names made text ≡ true → (texts_in names one text && texts_in names two text) ≡ true
        there text h =
            let at = found names made text held_common h in
            let parts = and_parts _ _ (sym (exact at.name) ∙ at.has) in
            let first : texts_in names one text ≡ true = subst (λ t. texts_in names one t ≡ true) at.is (has_text names one at.name parts.0) in
            let second : texts_in names two text ≡ true = subst (λ t. texts_in names two t ≡ true) at.is (has_text names two at.name parts.1) in
            rw (first, second)

        back : (text : List ℕ) → (texts_in names one text && texts_in names two text) ≡ true → texts_in names made text ≡ true
        back text h =
            let parts = and_parts (texts_in names one text) (texts_in names two text) h in
            let first = found names one text held_one parts.0 in
            let second = found names two text held_two parts.1 in
            let same : second.name.0 ≡ first.name.0 = same_id names second.name.0 first.name.0 apart second.own first.own (second.is ∙ sym first.is) in
            let in_two : has_name two first.name ≡ true = subst (λ n. list_any (λ (o : Name). o.0 == n) two ≡ true) same second.has in
            let in_made : has_name made first.name ≡ true = exact first.name ∙ rw (first.has, in_two) in
            subst (λ t. texts_in names made t ≡ true) first.is (has_text names made first.name in_made)

  module _ (exact : (test : Name → Bool) → list_any test made ≡ (list_any test one || list_any test two)) where
    pub held_union : AreHeld names made
    held_union = λ k d h. elim (or_cases _ _ (sym (exact (λ other. other.0 == (get_or made k d).0)) ∙ has_at made k d h)) [
      | inl first ↦ held_has names one (get_or made k d) held_one first
      | inr second ↦ held_has names two (get_or made k d) held_two second
    ]

    pub seen_union : texts_in names made ≡ union (texts_in names one) (texts_in names two)
    seen_union = same_sets _ _ (λ text. exact (λ name. same_bytes (text_of names name) text))
