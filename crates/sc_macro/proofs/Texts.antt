-- Names of one table are equal exactly where their texts are.
use Rattle.std.proofs.Common.{◌≡◌, ℕ, zero, suc, ◌<◌, ◌==◌, true, List, [], ◌∷◌, length, slice_get, Some, refl, sym, ap, ◌∙◌, inl, inr, arith}
use Rattle.std.proofs.lemmas.Bool.{cases_Bool, eqb-true, true≢false}
use Rattle.std.proofs.lemmas.Bool.Decides.{nat_tests}
use Rattle.sc_base.specs.Seen.{text_at}
use Rattle.sc_model.specs.Bytes.{same_bytes}
use Rattle.sc_model.specs.Growth.{IsOneToOne}
use Rattle.sc_model.proofs.ByteLemmas.{same_bytes-refl, same_bytes-true}

pub held_at : (names : List (List ℕ)) (a : ℕ) → a < length names → slice_get names a ≡ Some (text_at names a)
held_at [] a h = absurd (omega arith)
held_at (x ∷ xs) zero h = refl
held_at (x ∷ xs) (suc a) h = held_at xs a (omega arith)

pub same_id : (names : List (List ℕ)) (a b : ℕ) → IsOneToOne names → a < length names → b < length names → text_at names a ≡ text_at names b → a ≡ b
same_id names a b one in_a in_b same = one.same a b (text_at names a) (held_at names a in_a) (held_at names b in_b ∙ ap Some (sym same))

tells_same : (a b : ℕ) → a ≡ b → (a == b) ≡ true
tells_same a b h = grind (arith, nat_tests)

pub same_text : (names : List (List ℕ)) (a b : ℕ) → IsOneToOne names → a < length names → b < length names → same_bytes (text_at names a) (text_at names b) ≡ (a == b)
same_text names a b one in_a in_b =
    elim (cases_Bool (a == b)) [
      | inl same ↦ ap (λ k. same_bytes (text_at names a) (text_at names k)) (sym (eqb-true a b same)) ∙ (same_bytes-refl (text_at names a) ∙ sym same)
      | inr other ↦ elim (cases_Bool (same_bytes (text_at names a) (text_at names b))) [
        | inl same ↦ absurd (true≢false (sym (tells_same a b (same_id names a b one in_a in_b (same_bytes-true _ _ same))) ∙ other))
        | inr apart ↦ apart ∙ sym other
      ]
    ]
