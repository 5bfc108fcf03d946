-- A comma before an empty rest: what is kept of a list, and that no argument is wanted otherwise.
use Rattle.std.proofs.Common.{◌≡◌, ℕ, ◌&&◌, ◌||◌, not, Bool, true, false, List, [], ◌∷◌, codes, cond, Option, Some, None, if◌then◌else◌, inl, inr, refl, sym, ap, subst, ◌∙◌}
use Rattle.std.proofs.lemmas.Bool.{cases_Bool, true≢false}
use Rattle.std.proofs.lemmas.Option.{same_Some}
use Rattle.c11_macros.specs.Macros.{Form}
use Rattle.c11_macros.specs.Substitution.{Before, Joint, Part, after_hash, after_paste, apart, argument, begins_with_parameter, behind_comma, behind_paste, comma, comma_of, deleting_rest, first_part, is_after_paste, is_deleted, is_empty, is_hash, is_paste, is_paste_next, is_rest_next, joint_of, kept, literal, neither, operand_part, parameter, parameter_of, parts, parts_of, paste, token, wanted_places, with_commas}
use Rattle.sc_model.specs.Bytes.{same_bytes}
use Rattle.sc_model.specs.Token.{Item}

-- ---- where no rest deletes commas

abbrev is_behind_comma : Joint → Bool
is_behind_comma apart = false
is_behind_comma behind_paste = false
is_behind_comma behind_comma = true

no_comma_before : (p : Part) → is_behind_comma (joint_of p) ≡ false
no_comma_before (token item) = elim (cases_Bool (is_paste item)) [ inl is ↦ rw is refl | inr other ↦ rw other refl ]
no_comma_before (literal n space) = refl
no_comma_before (parameter n space) = refl
no_comma_before paste = refl
no_comma_before (comma item n) = refl

unchanged : (before : Joint) (ps : List Part) → is_behind_comma before ≡ false → with_commas None before ps ≡ ps
unchanged before [] h = refl
unchanged apart (p ∷ ps) h = ap (λ qs. p ∷ qs) (unchanged (joint_of p) ps (no_comma_before p))
unchanged behind_paste (p ∷ ps) h = ap (λ qs. p ∷ qs) (unchanged (joint_of p) ps (no_comma_before p))
unchanged behind_comma (p ∷ ps) h = absurd (true≢false h)

pub no_rest : (form : Form) (items : List Item) → deleting_rest form ≡ None → parts_of form items ≡ parts form neither items
no_rest form items none = ap (λ rest. with_commas rest apart (parts form neither items)) none ∙ unchanged apart (parts form neither items) refl

-- ---- the parts of a list before its commas are told

abbrev IsPlain : Part → Type 0
IsPlain (token item) = Unit {0}
IsPlain (literal n space) = Unit {0}
IsPlain (parameter n space) = Unit {0}
IsPlain paste = Unit {0}
IsPlain (comma item n) = ⊥

abbrev ArePlain : List Part → Type 0
ArePlain [] = Unit {0}
ArePlain (p ∷ ps) = IsPlain p × ArePlain ps

operand-plain : (before : Before) (item : Item) (found : Option ℕ) → IsPlain (operand_part before item found)
operand-plain before item None = tt
operand-plain neither item (Some n) = tt
operand-plain after_paste item (Some n) = tt
operand-plain (after_hash space) item (Some n) = tt

parts-plain : (form : Form) (before : Before) (items : List Item) → ArePlain (parts form before items)
parts-plain form before [] = tt
parts-plain form before (item ∷ items) =
    by (is_paste item && not (is_after_paste before)) (is_hash item && begins_with_parameter form items) (parts-plain form after_paste items) (parts-plain form (after_hash item.space) items)
    (operand-plain before item (parameter_of form item.spelling), parts-plain form neither items)
  where
    by : (pastes stringizes : Bool) → ArePlain (parts form after_paste items) → ArePlain (parts form (after_hash item.space) items)
        → ArePlain (operand_part before item (parameter_of form item.spelling) ∷ parts form neither items)
        → ArePlain (if pastes then paste ∷ parts form after_paste items
        else (if stringizes then parts form (after_hash item.space) items else operand_part before item (parameter_of form item.spelling) ∷ parts form neither items))
    by true b one two three = (tt, one)
    by false true one two three = two
    by false false one two three = three

-- ---- what is kept

module _ {A : Type 0} (raw : List (List A)) where
  pub kept-stays : (p : Part) (ps : List Part) → is_deleted raw p ≡ false → kept raw (p ∷ ps) ≡ p ∷ kept raw ps
  kept-stays p ps h = ap (λ b. cond (not b) (p ∷ kept raw ps) (kept raw ps)) h

  pub kept-goes : (p : Part) (ps : List Part) → is_deleted raw p ≡ true → kept raw (p ∷ ps) ≡ kept raw ps
  kept-goes p ps h = ap (λ b. cond (not b) (p ∷ kept raw ps) (kept raw ps)) h

  -- both want the same arguments, and a ## stands at the front of both or of none
  abbrev Same : Bool → List Part → List Part → Type 0
  Same behind ps qs = (wanted_places behind ps ≡ wanted_places behind qs) × (is_paste_next ps ≡ is_paste_next qs)

  -- a ## stands right before the parts only where the joint tells it
  abbrev Follows : Joint → Bool → Type 0
  Follows apart behind = behind ≡ false
  Follows behind_paste behind = Unit {0}
  Follows behind_comma behind = behind ≡ false

  follows-no_paste : (before : Joint) → Follows before false
  follows-no_paste apart = refl
  follows-no_paste behind_paste = tt
  follows-no_paste behind_comma = refl

  -- one more part that is no comma
  one_more : (behind : Bool) (p : Part) (ps : List Part) → IsPlain p → ((b : Bool) → Follows (joint_of p) b → Same b (kept raw ps) ps) → Same behind (kept raw (p ∷ ps)) (p ∷ ps)
  one_more behind (token item) ps plain rest = ((rest false (follows-no_paste (joint_of (token item)))).0, refl)
  one_more behind (literal n space) ps plain rest = ((rest false refl).0, refl)
  one_more behind (parameter n space) ps plain rest =
      let same = rest false refl in (
        ap (λ next. if behind || next then wanted_places false (kept raw ps) else n ∷ wanted_places false (kept raw ps)) same.1
            ∙ ap (λ ns. if behind || is_paste_next ps then ns else n ∷ ns) same.0,
        refl,
      )
  one_more behind paste ps plain rest = ((rest true tt).0, refl)
  one_more behind (comma item n) ps plain rest = absurd plain

  -- no ## stands behind the comma
  rest_first : (n : ℕ) (ps : List Part) → is_rest_next n ps ≡ true → is_paste_next (with_commas (Some n) behind_comma ps) ≡ false
  rest_first n (paste ∷ (parameter m space ∷ ps)) h = refl
  rest_first n [] h = absurd (true≢false (sym h))
  rest_first n (paste ∷ []) h = absurd (true≢false (sym h))
  rest_first n (paste ∷ (token item ∷ ps)) h = absurd (true≢false (sym h))
  rest_first n (paste ∷ (literal m space ∷ ps)) h = absurd (true≢false (sym h))
  rest_first n (paste ∷ (paste ∷ ps)) h = absurd (true≢false (sym h))
  rest_first n (paste ∷ (comma item m ∷ ps)) h = absurd (true≢false (sym h))
  rest_first n (token item ∷ ps) h = absurd (true≢false (sym h))
  rest_first n (literal m space ∷ ps) h = absurd (true≢false (sym h))
  rest_first n (parameter m space ∷ ps) h = absurd (true≢false (sym h))
  rest_first n (comma item m ∷ ps) h = absurd (true≢false (sym h))

  comma_more : (item : Item) (n : ℕ) (ps : List Part) → is_paste_next ps ≡ false → Same false (kept raw ps) ps → Same false (kept raw (comma item n ∷ ps)) (comma item n ∷ ps)
  comma_more item n ps next same = by (is_empty (argument raw n))
    where
      by : (empty : Bool) → Same false (cond (not empty) (comma item n ∷ kept raw ps) (kept raw ps)) (comma item n ∷ ps)
      by true = (same.0, same.1 ∙ next)
      by false = (same.0, refl)

  told_comma : (rest : Option ℕ) (p : Part) (ps : List Part) (c : Part) → comma_of rest apart p ps ≡ Some c → (let qs = with_commas rest behind_comma ps in Same false (kept raw qs) qs → Same false (kept raw (c ∷ qs)) (c ∷ qs))
  told_comma None p ps c is same = absurd (cc)
  told_comma (Some n) (token item) ps c is same = by (same_bytes item.spelling (codes ",")) (is_rest_next n ps) refl is
    where
      by : (a b : Bool) → is_rest_next n ps ≡ b → (if a && b then Some (comma item n) else None) ≡ Some c
          → Same false (kept raw (c ∷ with_commas (Some n) behind_comma ps)) (c ∷ with_commas (Some n) behind_comma ps)
      by true true next is =
          subst (λ d. Same false (kept raw (d ∷ with_commas (Some n) behind_comma ps)) (d ∷ with_commas (Some n) behind_comma ps)) (same_Some _ _ is)
          (comma_more item n (with_commas (Some n) behind_comma ps) (rest_first n ps next) same)
      by true false next is = absurd (cc)
      by false b next is = absurd (cc)
  told_comma (Some n) (literal m space) ps c is same = absurd (cc)
  told_comma (Some n) (parameter m space) ps c is same = absurd (cc)
  told_comma (Some n) paste ps c is same = absurd (cc)
  told_comma (Some n) (comma item m) ps c is same = absurd (cc)

  either : (behind : Bool) (told : Option Part) (p : Part) (others rest : List Part) → Same behind (kept raw (p ∷ others)) (p ∷ others)
      → ((c : Part) → told ≡ Some c → Same behind (kept raw (c ∷ rest)) (c ∷ rest)) → Same behind (kept raw (first_part told p others rest)) (first_part told p others rest)
  either behind None p others rest one two = one
  either behind (Some c) p others rest one two = two c refl

  behind_operator : (rest : Option ℕ) (p : Part) (ps : List Part) → comma_of rest behind_paste p ps ≡ None
  behind_operator None p ps = refl
  behind_operator (Some n) p ps = refl

  kept-same : (rest : Option ℕ) (before : Joint) (behind : Bool) (ps : List Part) → ArePlain ps → Follows before behind → Same behind (kept raw (with_commas rest before ps)) (with_commas rest before ps)
  kept-same rest before behind [] plain follows = (refl, refl)
  kept-same rest behind_comma behind (p ∷ ps) plain follows = kept-same rest apart behind ps plain.1 follows
  kept-same rest behind_paste behind (p ∷ ps) plain follows =
      either behind (comma_of rest behind_paste p ps) p (with_commas rest (joint_of p) ps) (with_commas rest behind_comma ps)
      (one_more behind p (with_commas rest (joint_of p) ps) plain.0 (λ b f. kept-same rest (joint_of p) b ps plain.1 f))
      (λ c is. let never = sym (behind_operator rest p ps) ∙ is in absurd (cc))
  kept-same rest apart behind (p ∷ ps) plain follows =
      either behind (comma_of rest apart p ps) p (with_commas rest (joint_of p) ps) (with_commas rest behind_comma ps)
      (one_more behind p (with_commas rest (joint_of p) ps) plain.0 (λ b f. kept-same rest (joint_of p) b ps plain.1 f))
      (λ c is. subst (λ b. Same b (kept raw (c ∷ with_commas rest behind_comma ps)) (c ∷ with_commas rest behind_comma ps)) (sym follows)
      (told_comma rest p ps c is (kept-same rest behind_comma false ps plain.1 refl)))

  -- whether a comma is deleted makes no argument wanted
  pub kept-wanted : (form : Form) (items : List Item) → wanted_places false (kept raw (parts_of form items)) ≡ wanted_places false (parts_of form items)
  kept-wanted form items = (kept-same (deleting_rest form) apart false (parts form neither items) (parts-plain form neither items) refl).0
