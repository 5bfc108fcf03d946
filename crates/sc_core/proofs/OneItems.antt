-- What configurations have in one item of a list they have in one of a list that is like it.
use Rattle.std.proofs.Common.{◌≡◌, ℕ, zero, suc, ◌+◌, ◌-◌, ◌≤◌, Bool, true, false, List, [], ◌∷◌, All, length, map, Some, slice_get, refl, sym, ap, ◌∙◌, subst, arith, if◌then◌else◌}
use Rattle.sc_base.specs.declared.id.Cond.{Cond}
use Rattle.sc_core.specs.OneItem.{HaveOneItem, indexes_from}
use Rattle.sc_core.specs.Ordinary.{HasManyConfigs}
use Rattle.sc_expand.specs.Having.{behind_at}
use Rattle.sc_expand.specs.Stops.{HasConfigs}
use Rattle.sc_expand.specs.Thin.{IsNth}
use Rattle.sc_model.specs.Sets.{IsConfig, Sets}
use Rattle.sc_model.specs.Space.{Space, arities_of}
use Rattle.sc_text.specs.Answer.{Condition}
use Rattle.sc_text.specs.Layout.{AreAlike, both, left_out, left_out_there, no_item}

-- ---- elements of a list of a store, as items

module _ {T A : Type 0} (s : Sets) (see : T → A) (c : List ℕ) where
  seen-items : (list : List (Cond × T)) (k : ℕ) → map (λ n. (k + length list) - suc n) (behind_at s list c) ≡ indexes_from k (map (λ (item : Cond × T). (s.has item.0.0, see item.1)) list) c
  seen-items [] k = refl
  seen-items (item ∷ items) k = by (s.has item.0.0 c) ((λ j. map (λ n. nearer n j) (behind_at s items c)) ∙ seen-items items (k + 1))
    where
      rest : List ℕ
      rest = indexes_from (k + 1) (map (λ (item : Cond × T). (s.has item.0.0, see item.1)) items) c

      nearer : (n : ℕ) → (k + suc (length items)) - suc n ≡ ((k + 1) + length items) - suc n
      nearer n = omega arith

      by : (b : Bool) → map (λ n. (k + suc (length items)) - suc n) (behind_at s items c) ≡ indexes_from (k + 1) (map (λ (item : Cond × T). (s.has item.0.0, see item.1)) items) c
          → map (λ n. (k + suc (length items)) - suc n) (if b then length items ∷ behind_at s items c else behind_at s items c)
          ≡ (if b then k ∷ indexes_from (k + 1) (map (λ (item : Cond × T). (s.has item.0.0, see item.1)) items) c else indexes_from (k + 1) (map (λ (item : Cond × T). (s.has item.0.0, see item.1)) items) c)
      by true same = (let first : (k + suc (length items)) - suc (length items) ≡ k = omega arith in λ j. first j ∷ same j)
      by false same = same

  pub nth-item : (list : List (Cond × T)) (n i : ℕ) → IsNth s list c n i → slice_get (indexes_from 0 (map (λ (item : Cond × T). (s.has item.0.0, see item.1)) list) c) n ≡ Some i
  nth-item list n i is = ap (λ l. slice_get l n) (sym (seen-items list 0) ∙ (λ j. map (λ m. from-first m j) (behind_at s list c))) ∙ is
    where
      from-first : (m : ℕ) → (0 + length list) - suc m ≡ length list - suc m
      from-first m = omega arith

-- ---- lists that are alike

later-only : {A : Type 0} (k : ℕ) (items : List (Condition × A)) (c : List ℕ) (n i : ℕ) → slice_get (indexes_from k items c) n ≡ Some i → k ≤ i
later-only k [] c n i is = absurd (cc)
later-only k (item ∷ items) c n i is = by (item.0 c) n is (later-only (k + 1) items c)
  where
    by : (b : Bool) (n : ℕ) → slice_get (if b then k ∷ indexes_from (k + 1) items c else indexes_from (k + 1) items c) n ≡ Some i
        → ((n i : ℕ) → slice_get (indexes_from (k + 1) items c) n ≡ Some i → k + 1 ≤ i) → k ≤ i
    by true zero is later = (let same : k ≡ i = cc in omega (arith, same))
    by true (suc n) is later = (let up = later n i is in omega (arith, up))
    by false n is later = (let up = later n i is in omega (arith, up))

-- both have one index of two lists
abbrev Meet : (xs ys : List ℕ) (n m : ℕ) → Type 0
Meet xs ys n m = (i : ℕ) × (slice_get xs n ≡ Some i) × (slice_get ys m ≡ Some i)

-- an item is put before both
joined : (k l : ℕ) (xs ys us vs : List ℕ) → ((n i : ℕ) → slice_get xs n ≡ Some i → k + 1 ≤ i) → ((n i : ℕ) → slice_get ys n ≡ Some i → k + 1 ≤ i) → ((n m : ℕ) → Meet xs ys n m → Meet us vs n m) → (b e : Bool) (n m : ℕ)
    → Meet (if b then k ∷ xs else xs) (if e then k ∷ ys else ys) n m → Meet (if b then l ∷ us else us) (if e then l ∷ vs else vs) n m
joined k l xs ys us vs up up_too rest true true zero zero meet = (l, refl, refl)
joined k l xs ys us vs up up_too rest true true zero (suc m) (i, p, q) = (let same : k ≡ i = cc in let above = up_too m i q in absurd (omega (arith, same, above)))
joined k l xs ys us vs up up_too rest true true (suc n) zero (i, p, q) = (let same : k ≡ i = cc in let above = up n i p in absurd (omega (arith, same, above)))
joined k l xs ys us vs up up_too rest true true (suc n) (suc m) meet = rest n m meet
joined k l xs ys us vs up up_too rest true false zero m (i, p, q) = (let same : k ≡ i = cc in let above = up_too m i q in absurd (omega (arith, same, above)))
joined k l xs ys us vs up up_too rest true false (suc n) m meet = rest n m meet
joined k l xs ys us vs up up_too rest false true n zero (i, p, q) = (let same : k ≡ i = cc in let above = up n i p in absurd (omega (arith, same, above)))
joined k l xs ys us vs up up_too rest false true n (suc m) meet = rest n m meet
joined k l xs ys us vs up up_too rest false false n m meet = rest n m meet

module _ {A : Type 0} {space : Space} (c d : List ℕ) (listed : IsConfig (arities_of space) c) (listed_d : IsConfig (arities_of space) d) where
  alike-meet : {xs ys : List (Condition × A)} → AreAlike space xs ys → (k l n m : ℕ) → Meet (indexes_from k xs c) (indexes_from k xs d) n m → Meet (indexes_from l ys c) (indexes_from l ys d) n m
  alike-meet no_item k l n m meet = let none = meet.1 in absurd (cc)
  alike-meet (left_out f item xs ys empty rest) k l n m meet =
      alike-meet rest (k + 1) l n m
      (subst (λ (p : Bool × Bool). Meet (if p.0 then k ∷ indexes_from (k + 1) xs c else indexes_from (k + 1) xs c) (if p.1 then k ∷ indexes_from (k + 1) xs d else indexes_from (k + 1) xs d) n m)
      (λ i. (empty.none c listed i, empty.none d listed_d i)) meet)
  alike-meet (left_out_there f item xs ys empty rest) k l n m meet =
      subst (λ (p : Bool × Bool). Meet (if p.0 then l ∷ indexes_from (l + 1) ys c else indexes_from (l + 1) ys c) (if p.1 then l ∷ indexes_from (l + 1) ys d else indexes_from (l + 1) ys d) n m)
      (λ i. (sym (empty.none c listed) i, sym (empty.none d listed_d) i)) (alike-meet rest k (l + 1) n m meet)
  alike-meet (both f g item xs ys same rest) k l n m meet =
      subst (λ (p : Bool × Bool). Meet (if p.0 then l ∷ indexes_from (l + 1) ys c else indexes_from (l + 1) ys c) (if p.1 then l ∷ indexes_from (l + 1) ys d else indexes_from (l + 1) ys d) n m)
      (λ i. (same.at c listed i, same.at d listed_d i))
      (joined k l (indexes_from (k + 1) xs c) (indexes_from (k + 1) xs d) (indexes_from (l + 1) ys c) (indexes_from (l + 1) ys d) (later-only (k + 1) xs c) (later-only (k + 1) xs d)
      (λ n m meet. alike-meet rest (k + 1) (l + 1) n m meet) (f c) (f d) n m meet)

  pub alike-one : {xs ys : List (Condition × A)} → AreAlike space xs ys → (n m : ℕ) → HaveOneItem xs c d n m → HaveOneItem ys c d n m
  alike-one alike n m one = alike-meet alike 0 0 n m one

-- more configurations than the limit
pub more-configs : {space : Space} {arities : List ℕ} → arities ≡ arities_of space → HasConfigs arities (space.branches + 1) → HasManyConfigs space
more-configs same many =
    let long = many.many in
    record { configs = many.configs; many = omega (arith, long); formed = subst (λ ns. All (IsConfig ns) many.configs) same many.listed; apart = many.apart }
