-- A parameter that is looked up by its name is the one that its text tells.
use Rattle.std.proofs.Common.{◌≡◌, ℕ, suc, ◌+◌, ◌<◌, ◌==◌, ◌||◌, nat_lt, Bool, true, false, List, [], ◌∷◌, length, Option, Some, None, position, refl, sym, ap, ◌∙◌, add-zero, zero-add, inl, inr, arith, if◌then◌else◌}
use Rattle.std.specs.List.{list_any, position_or_len}
use Rattle.std.proofs.lemmas.Bool.{cases_Bool}
use Rattle.std.proofs.lemmas.Bool.Decides.{nat_tests}
use Rattle.c11_macros.specs.Macros.{Rest}
use Rattle.c11_macros.specs.Substitution.{is_named, parameter_from}
use Rattle.sc_base.specs.declared.id.Name.{Name}
use Rattle.sc_macro.specs.Seen.{text_of, texts_of, AreHeld}
use Rattle.sc_macro.proofs.Texts.{same_text}
use Rattle.sc_model.specs.Bytes.{same_bytes}
use Rattle.sc_model.specs.Growth.{IsOneToOne}

abbrev found : Bool → ℕ → ℕ → ℕ → Option ℕ
found last n at len = if nat_lt at len then Some (n + at) else (if last then Some (n + len) else None)

found-here : (last : Bool) (n len : ℕ) → Some n ≡ found last n 0 (suc len)
found-here last n len = grind (arith, nat_tests)

found-later : (last : Bool) (n at len : ℕ) → found last (n + 1) at len ≡ found last n (1 + at) (suc len)
found-later last n at len = grind (arith, nat_tests)

swap_eq : (a b : ℕ) → (a == b) ≡ (b == a)
swap_eq a b = grind (arith, nat_tests)

pub AreHeld-tail : (names : List (List ℕ)) (k : Name) (ks : List Name) → AreHeld names (k ∷ ks) → AreHeld names ks
AreHeld-tail names k ks own = λ i d h. own (suc i) d (omega arith)

module _ (names : List (List ℕ)) (one : IsOneToOne names) (name : Name) (own : name.0 < length names) (test : Name → Bool) (tests : (k : Name) → test k ≡ (name.0 == k.0)) where
  same_name : (k : Name) → k.0 < length names → same_bytes (text_of names k) (text_of names name) ≡ test k
  same_name k held = same_text names k.0 name.0 one held own ∙ (swap_eq k.0 name.0 ∙ sym (tests k))

  -- a name is among these where its text is
  pub any_is : (ks : List Name) → AreHeld names ks → list_any (same_bytes (text_of names name)) (texts_of names ks) ≡ list_any test ks
  any_is [] held = refl
  any_is (k ∷ ks) held =
      rw (same_text names name.0 k.0 one own (held 0 k (omega arith)), any_is ks (AreHeld-tail names k ks held)) (ap (λ b. b || list_any test ks) (sym (tests k)))

  module _ (rest : Option Rest) where
    abbrev last : Bool
    last = is_named (text_of names name) rest

    parameter_is : (n : ℕ) (ks : List Name) → AreHeld names ks → parameter_from n (texts_of names ks) rest (text_of names name) ≡ found last n (position_or_len test ks) (length ks)
    parameter_is n [] held = ap (λ m. if last then Some m else None) (sym (add-zero n))
    parameter_is n (k ∷ ks) held =
        rw (same_name k (held 0 k (omega arith))) (elim (cases_Bool (test k)) [
          | inl same ↦ rw same (found-here last n (length ks))
          | inr other ↦ rw other (parameter_is (n + 1) ks (AreHeld-tail names k ks held) ∙ found-later last n (position_or_len test ks) (length ks))
        ])

    pub parameter_some : (ks : List Name) (i : ℕ) → AreHeld names ks → position test ks ≡ Some i → parameter_from 0 (texts_of names ks) rest (text_of names name) ≡ Some i
    parameter_some ks i held at = parameter_is 0 ks held ∙ by (nat_lt (position_or_len test ks) (length ks)) (position_or_len test ks) at
      where
        by : (b : Bool) (p : ℕ) → (if b then Some p else None) ≡ Some i → (if b then Some (0 + p) else (if last then Some (0 + length ks) else None)) ≡ Some i
        by true p h = ap Some (zero-add p) ∙ h
        by false p h = absurd (cc)

    pub parameter_none : (ks : List Name) → AreHeld names ks → position test ks ≡ None → parameter_from 0 (texts_of names ks) rest (text_of names name) ≡ (if last then Some (length ks) else None)
    parameter_none ks held at = parameter_is 0 ks held ∙ by (nat_lt (position_or_len test ks) (length ks)) (position_or_len test ks) at
      where
        by : (b : Bool) (p : ℕ) → (if b then Some p else None) ≡ None → (if b then Some (0 + p) else (if last then Some (0 + length ks) else None)) ≡ (if last then Some (length ks) else None)
        by true p h = absurd (cc)
        by false p h = ap (λ m. if last then Some m else None) (zero-add (length ks))
