-- Bytes that are one piece whole: the longest front that passes the test is all of them.
use Rattle.std.proofs.Common.{◌≡◌, ℕ, ◌<◌, ◌==◌, Bool, true, false, List, length, take, sym, ap, ◌∙◌, subst, inl, inr, arith}
use Rattle.std.proofs.lemmas.Bool.{cases_lt}
use Rattle.std.proofs.lemmas.Bool.Decides.{nat_tests}
use Rattle.std.proofs.Math.Seq.{take-length}
use Rattle.sc_lex.specs.Scan.{IsLongestFront}

tells_less : (a b : ℕ) → a < b → (a == b) ≡ false
tells_less a b h = grind (arith, nat_tests)

tells_same : (a b : ℕ) → a ≡ b → (a == b) ≡ true
tells_same a b h = grind (arith, nat_tests)

pub whole_front : (test : List ℕ → Bool) (bytes : List ℕ) (n : ℕ) → 0 < length bytes → IsLongestFront test bytes n → (n == length bytes) ≡ test bytes
whole_front test bytes n some longest =
    elim (cases_lt n (length bytes)) [
      | inl less ↦ tells_less n (length bytes) less ∙ sym (subst (λ bs. test bs ≡ false) (take-length bytes) (longest.longest (length bytes) less (omega arith)))
      | inr all ↦ (let same : n ≡ length bytes = omega (arith, longest.within) in
          tells_same n (length bytes) same ∙ sym (subst (λ bs. test bs ≡ true) (ap (λ k. take k bytes) same ∙ take-length bytes) (longest.fit (omega arith))))
    ]
