-- A number more in the chains.
use Rattle.std.proofs.Common.{◌≡◌, ℕ, ◌+◌, ◌-◌, ◌<◌, ◌≤◌, ◌≢◌, List, [], ◌∷◌, ◌++◌, length, set, ◌⊎◌, inl, inr, refl, sym, ◌∙◌, ap, subst, arith}
use Rattle.std.specs.Prelude.{slice_index}
use Rattle.std.proofs.lemmas.Bool.{cases_eq, cases_lt}
use Rattle.std.proofs.lemmas.Nat.{and_le_r}
use Rattle.std.proofs.lemmas.List.{length_push, get_or_append_left, get_or_push, get_or-set_same, get_or-set_other, length-set}
use Rattle.sc_diagram.specs.Chains.{AreLinked, IsLink, Links, slot_in}

-- what is linked below a bound stays so when a number follows
IsLink-push : {slots : ℕ} (hashes : List ℕ) (hash : ℕ) {bound slot link : ℕ} → bound ≤ length hashes → IsLink slots hashes bound slot link → IsLink slots (hashes ++ hash ∷ []) bound slot link
IsLink-push {slots} hashes hash {bound} {slot} {link} within is = record {
  within = is.within;
  own = λ some. ap (slot_in slots) (get_or_append_left hashes (hash ∷ []) _ (link - 1) (omega (arith, some, is.within, within))) ∙ is.own some;
  rest = λ n from below at. is.rest n from below (sym (ap (slot_in slots) (get_or_append_left hashes (hash ∷ []) _ n (omega (arith, below, within)))) ∙ at);
}

-- the hashes, links and slots when a number follows
abbrev pub with_one : Links → ℕ → Links
with_one l hash = record {
  hashes = l.hashes ++ hash ∷ [];
  older = l.older ++ slice_index l.newest (slot_in (length l.newest) hash) ∷ [];
  newest = set l.newest (slot_in (length l.newest) hash) (length l.hashes + 1);
}

slot_within : (slots hash : ℕ) → 0 < slots → slot_in slots hash < slots
slot_within slots hash some = omega (arith, some, and_le_r hash (slots - 1))

pub AreLinked-push : (l : Links) (hash : ℕ) → 0 < length l.newest → AreLinked l → AreLinked (with_one l hash)
AreLinked-push l hash some are = record {
  long = omega (arith, length_push l.older (slice_index l.newest (slot_in (length l.newest) hash)), length_push l.hashes hash, are.long);
  some = λ _. omega (arith, some, same);
  slots = λ s inner. subst (λ n. IsLink n (with_one l hash).hashes (length (with_one l hash).hashes) s (slice_index (with_one l hash).newest s)) (sym same) (slots s (omega (arith, inner, same)) (cases_eq s (slot_in (length l.newest) hash)));
  numbers = λ n inner. subst (λ k. IsLink k (with_one l hash).hashes n (slot_in k (slice_index (with_one l hash).hashes n)) (slice_index (with_one l hash).older n)) (sym same) (numbers n (cases_lt n (length l.hashes)) (omega (arith, inner, length_push l.hashes hash)));
}
  where
    same : length (with_one l hash).newest ≡ length l.newest
    same = length-set l.newest (slot_in (length l.newest) hash) (length l.hashes + 1)

    last : slice_index (with_one l hash).hashes (length l.hashes) ≡ hash
    last = get_or_push l.hashes hash _ (length l.hashes) refl

    before : (n : ℕ) → n < length l.hashes → slice_index (with_one l hash).hashes n ≡ slice_index l.hashes n
    before n inner = get_or_append_left l.hashes (hash ∷ []) _ n inner

    slots : (s : ℕ) → s < length l.newest → (s ≡ (slot_in (length l.newest) hash)) ⊎ (s ≢ (slot_in (length l.newest) hash)) → IsLink (length l.newest) (with_one l hash).hashes (length (with_one l hash).hashes) s (slice_index (with_one l hash).newest s)
    slots s inner (inl is) = subst (λ link. IsLink (length l.newest) (with_one l hash).hashes (length (with_one l hash).hashes) s link) (sym (ap (slice_index (with_one l hash).newest) is ∙ get_or-set_same l.newest (slot_in (length l.newest) hash) (length l.hashes + 1) _ (slot_within _ hash some))) (record {
      within = omega (arith, length_push l.hashes hash);
      own = λ _. ap (slot_in (length l.newest)) (ap (slice_index (with_one l hash).hashes) number ∙ last) ∙ sym is;
      rest = λ n from below at. omega (arith, from, below, length_push l.hashes hash);
    })
      where
        number : length l.hashes + 1 - 1 ≡ length l.hashes
        number = omega arith
    slots s inner (inr other) =
        let was = IsLink-push l.hashes hash (omega arith) (are.slots s inner) in
        subst (λ link. IsLink (length l.newest) (with_one l hash).hashes (length (with_one l hash).hashes) s link) (sym (get_or-set_other l.newest (slot_in (length l.newest) hash) s (length l.hashes + 1) _ other)) (record {
          within = omega (arith, was.within, length_push l.hashes hash);
          own = was.own;
          rest = λ n from below at. rest n from (cases_lt n (length l.hashes)) (omega (arith, below, length_push l.hashes hash)) at was;
        })
      where
        rest : (n : ℕ) → slice_index l.newest s ≤ n → (n < length l.hashes) ⊎ (length l.hashes ≤ n) → n ≤ length l.hashes → slot_in (length l.newest) (slice_index (with_one l hash).hashes n) ≡ s → IsLink (length l.newest) (with_one l hash).hashes (length l.hashes) s (slice_index l.newest s) → ⊥
        rest n from (inl below) most at was = was.rest n from below at
        rest n from (inr past) most at was =
            let is : n ≡ length l.hashes = omega (arith, past, most) in
            other (sym at ∙ ap (slot_in (length l.newest)) (ap (slice_index (with_one l hash).hashes) is ∙ last))

    numbers : (n : ℕ) → (n < length l.hashes) ⊎ (length l.hashes ≤ n) → n ≤ length l.hashes → IsLink (length l.newest) (with_one l hash).hashes n (slot_in (length l.newest) (slice_index (with_one l hash).hashes n)) (slice_index (with_one l hash).older n)
    numbers n (inl below) most =
        let was = IsLink-push l.hashes hash (omega (arith, below)) (are.numbers n below) in
        rw (before n below, get_or_append_left l.older (slice_index l.newest (slot_in (length l.newest) hash) ∷ []) _ n (omega (arith, below, are.long))) was
    numbers n (inr past) most =
        let is : n ≡ length l.hashes = omega (arith, past, most) in
        rw (is, last, get_or_push l.older (slice_index l.newest (slot_in (length l.newest) hash)) 0 (length l.hashes) are.long) (IsLink-push l.hashes hash (omega arith) (are.slots (slot_in (length l.newest) hash) (slot_within _ hash some)))
