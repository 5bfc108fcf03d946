use Rattle.std.proofs.Common.{◌≡◌, ◌↔◌, ◌<◌, ◌*◌, ◌^◌, ◌%◌, ℕ, inl, inr, sym, ap, ◌∙◌, arith}
use Rattle.std.specs.Int.{bit_at}
use Rattle.std.proofs.lemmas.Bool.{cases_eq}
use Rattle.std.proofs.lemmas.Nat.{pow_below}
use Rattle.std.proofs.lemmas.Nat.Bits.{bit_at-pow_same, bit_at-pow_other}
use Rattle.sc_lalr.proofs.first.own_mark.Goals as goal

own_bit : (k b : ℕ) → k < 64 → (bit_at (1 * 2 ^ k % 2 ^ 64) b ≡ 1) ↔ (k ≡ b)
own_bit k b h = (
  λ m. elim (cases_eq b k) [ inl e ↦ sym e | inr ne ↦ absurd (omega (arith, m, at, bit_at-pow_other k b ne)) ],
  λ e. at ∙ ap (λ z. bit_at (2 ^ k) z) (sym e) ∙ bit_at-pow_same k,
)
  where
    at : bit_at (1 * 2 ^ k % 2 ^ 64) b ≡ bit_at (2 ^ k) b
    at = let e : 1 * 2 ^ k % 2 ^ 64 ≡ 2 ^ k = omega (arith, pow_below k 64 h) in ap (λ z. bit_at z b) e

pub returns-then-bit-lt64 : goal.returns-then-bit-lt64
returns-then-bit-lt64 c = λ b b_in.
    let own = own_bit _ b c.if-bit-lt64.true in
    (λ m. omega (arith, own.0 m), λ e. own.1 (omega (arith, e)))
