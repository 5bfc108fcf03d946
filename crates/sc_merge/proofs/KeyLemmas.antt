-- Keys are equal as what they are taken from.
use Rattle.std.proofs.Common.{◌≡◌, ◌↔◌, ℕ, ◌==◌, ◌&&◌, true, List, [], ◌∷◌, refl, ap, sym, subst, ◌∙◌}
use Rattle.std.proofs.lemmas.Bool.{eq-eqb}
use Rattle.std.specs.Cmp.Lexicographic.{pointwise, same_text}
use Rattle.sc_merge.specs.declared.keys.Key.{Key}
use Rattle.sc_merge.specs.declared.subparser.Phase.{Phase}
use Rattle.sc_merge.specs.declared.subparser.Phase.TheVariants.{Between, At, Named}
use Rattle.sc_merge.specs.declared.subparser.Subparser.{Subparser}
use Rattle.sc_merge.specs.Keys.{AreAlike, before_phase, IsKeyOf, numbers_of}
use Rattle.sc_stack.specs.Entries.{states_of}

pub same-numbers : (ns : List ℕ) → pointwise ◌==◌ ns ns ≡ true
same-numbers [] = refl
same-numbers (n ∷ ns) = ap (λ b. b && pointwise ◌==◌ ns ns) (eq-eqb n n refl) ∙ same-numbers ns

phase-before : (p q : Phase) (ms ns : List ℕ) → before_phase p ms ≡ before_phase q ns → (p ≡ q) × (ms ≡ ns)
phase-before (Between i) (Between j) ms ns e = (ap Between (cc (e)), cc (e))
phase-before (At i) (At j) ms ns e = (ap At (cc (e)), cc (e))
phase-before (Named i) (Named j) ms ns e = (ap Named (cc (e)), cc (e))
phase-before (Between i) (At j) ms ns e = absurd (cc (e))
phase-before (Between i) (Named j) ms ns e = absurd (cc (e))
phase-before (At i) (Between j) ms ns e = absurd (cc (e))
phase-before (At i) (Named j) ms ns e = absurd (cc (e))
phase-before (Named i) (Between j) ms ns e = absurd (cc (e))
phase-before (Named i) (At j) ms ns e = absurd (cc (e))

alike-numbers : (k l : Key) (s t : Subparser) → IsKeyOf k s → IsKeyOf l t → numbers_of k ≡ numbers_of l → AreAlike s t
alike-numbers k l s t is_k is_l same =
    let parts = phase-before k.phase l.phase (k.levels ∷ states_of k.stack.now) (l.levels ∷ states_of l.stack.now) same in
    let levels : l.levels ≡ k.levels = cc (parts.1) in
    let states : states_of l.stack.now ≡ states_of k.stack.now = cc (parts.1) in
    record {
      phase = sym is_l.phase ∙ sym parts.0 ∙ is_k.phase;
      states = sym is_l.states ∙ states ∙ is_k.states;
      levels = sym is_l.levels ∙ levels ∙ is_k.levels;
    }

numbers-alike : (k l : Key) (s t : Subparser) → IsKeyOf k s → IsKeyOf l t → AreAlike s t → numbers_of k ≡ numbers_of l
numbers-alike k l s t is_k is_l alike =
    ap (λ (p : Phase). before_phase p (k.levels ∷ states_of k.stack.now)) (is_k.phase ∙ sym alike.phase ∙ sym is_l.phase)
    ∙ ap (λ n. before_phase l.phase (n ∷ states_of k.stack.now)) (is_k.levels ∙ sym alike.levels ∙ sym is_l.levels)
    ∙ ap (λ ss. before_phase l.phase (l.levels ∷ ss)) (is_k.states ∙ sym alike.states ∙ sym is_l.states)

pub keys-alike : (k l : Key) (s t : Subparser) → IsKeyOf k s → IsKeyOf l t → (pointwise ◌==◌ (numbers_of k) (numbers_of l) ≡ true) ↔ AreAlike s t
keys-alike k l s t is_k is_l = (
  (λ e. alike-numbers k l s t is_k is_l (same_text (numbers_of k) (numbers_of l) (sym e))),
  (λ alike. subst (λ ns. pointwise ◌==◌ (numbers_of k) ns ≡ true) (numbers-alike k l s t is_k is_l alike) (same-numbers (numbers_of k))),
)
