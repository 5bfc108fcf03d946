-- Configurations that do not expand an item alike have different footprints of it.
use Rattle.std.proofs.Common.{◌≡◌, ℕ, zero, suc, ◌+◌, ◌-◌, ◌≤◌, Bool, true, false, List, [], ◌∷◌, drop, length, take, refl, sym, ap, ◌∙◌, arith, if◌then◌else◌}
use Rattle.sc_expand.proofs.Behind.{Fall, behind-falls, length-behind}
use Rattle.sc_expand.proofs.Facts.{All-cons, All-nil, length-map, length-take-le}
use Rattle.sc_expand.proofs.FootprintLemmas.{pairs-both, same-use}
use Rattle.sc_expand.proofs.RunFootprints.{Prints, passes-arrives, run-prints}
use Rattle.sc_expand.proofs.Terms.{AreAlike, BranchesFull, ComesAt, Cond, HasFootprints, HasSpansApart, HiddenToken as Hidden, IsAlike, IsSameUse, IsSpan, IsWithin, Macros, OutOfMemory, Provenance, ReadFault, Sets, Stop, StopsApart, StopsAtName, UsesAt, behind, behind_at, case_of, footprint, items_at, stays}

-- so many first items that both have the same of, and each has so many of them
record SameFirst {T : Type 0} (s : Sets) (c d : List ℕ) (list : List (Cond × T)) (k : ℕ) : Type 0 where
  size : ℕ
  alike : AreAlike s c d (take size list)
  one : length (items_at s (take size list) c) ≡ k
  other : length (items_at s (take size list) d) ≡ k

no-first : (n k : ℕ) (ms ns : List ℕ) → Fall n ns → n ∷ ms ≡ take (suc k) ns → ⊥
no-first n k ms [] falls same = absurd (cc)
no-first n k ms (m ∷ ns) falls same = let first : n ≡ m = cc in omega (arith, falls.0)

module _ {T : Type 0} (s : Sets) (c d : List ℕ) where
  -- where the first numbers are the same
  same-first : (list : List (Cond × T)) (k : ℕ) → take k (behind_at s list c) ≡ take k (behind_at s list d) → k ≤ length (behind_at s list c) → k ≤ length (behind_at s list d) → SameFirst s c d list k
  same-first list zero same long long_d = record { size = 0; alike = All-nil (λ (x : Cond × T). IsAlike s c d x.0); one = refl; other = refl }
  same-first [] (suc k) same long long_d = absurd (omega arith)
  same-first (item ∷ items) (suc k) same long long_d = by (s.has item.0.0 c) (s.has item.0.0 d) refl refl same long long_d (same-first items k) (same-first items (suc k))
    where
      of : Bool → List ℕ → List ℕ
      of had ms = if had then length items ∷ ms else ms

      xs : List ℕ
      xs = behind_at s items c

      ys : List ℕ
      ys = behind_at s items d

      Goes : ℕ → Type 0
      Goes j = take j xs ≡ take j ys → j ≤ length xs → j ≤ length ys → SameFirst s c d items j

      more : (b : Bool) (j : ℕ) → s.has item.0.0 c ≡ b → s.has item.0.0 d ≡ b → SameFirst s c d items j → SameFirst s c d (item ∷ items) (if b then suc j else j)
      more b j is is_d it = record {
        size = suc it.size;
        alike = All-cons (λ (x : Cond × T). IsAlike s c d x.0) item (take it.size items) (is ∙ sym is_d) it.alike;
        one = had c is ∙ count b _ it.one;
        other = had d is_d ∙ count b _ it.other;
      }
        where
          had : (e : List ℕ) → s.has item.0.0 e ≡ b → length (items_at s (item ∷ take it.size items) e) ≡ length (if b then item.1 ∷ items_at s (take it.size items) e else items_at s (take it.size items) e)
          had e has = ap (λ (t : Bool). length (if t then item.1 ∷ items_at s (take it.size items) e else items_at s (take it.size items) e)) has

          count : (t : Bool) (rest : List T) → length rest ≡ j → length (if t then item.1 ∷ rest else rest) ≡ (if t then suc j else j)
          count true rest is = ap suc is
          count false rest is = is

      by : (p q : Bool) → s.has item.0.0 c ≡ p → s.has item.0.0 d ≡ q → take (suc k) (of p xs) ≡ take (suc k) (of q ys) → suc k ≤ length (of p xs) → suc k ≤ length (of q ys) → Goes k → Goes (suc k) → SameFirst s c d (item ∷ items) (suc k)
      by true true is is_d same long long_d one all = let rest : take k xs ≡ take k ys = cc in more true k is is_d (one rest (omega (arith, long)) (omega (arith, long_d)))
      by true false is is_d same long long_d one all = absurd (no-first (length items) k (take k xs) ys (behind-falls s d items) same)
      by false true is is_d same long long_d one all = absurd (no-first (length items) k (take k ys) xs (behind-falls s c items) (sym same))
      by false false is is_d same long long_d one all = more false (suc k) is is_d (all same long long_d)

module _ {T P : Type 0} (see : T → Hidden P) (provenance : Provenance P) (macros : List ℕ → Macros) (names : List (List ℕ)) (within : (c : List ℕ) → IsWithin names (macros c)) (s : Sets) (list : List (Cond × T)) (at : ℕ) where
  abbrev Comes : List ℕ → Type 0
  Comes c = ComesAt see provenance macros s list at c

  record Printed (c : List ℕ) (x : Comes c) : Type 0 where
    uses : UsesAt see provenance (macros c) s list at c
    prints : Prints provenance (macros c) (footprint uses.expands) (behind see provenance macros s list at c) x.end x.uses

  abbrev printed : (c : List ℕ) (x : Comes c) → Printed c x
  printed c x =
      let p = run-prints provenance (macros c) names (within c) x.runs in record {
        uses = record { item = x.item; is = x.is; has = x.has; answer = p.answer; expands = p.expands; arrives = passes-arrives provenance (macros c) names (within c) x.passes };
        prints = p.prints;
      }

  -- with the same footprint they have the same items up to the last that it takes
  same-span : (c d : List ℕ) → Comes c → Comes d → IsSameUse see provenance macros s list at c d → (size : ℕ) × IsSpan see provenance macros s list at size c d
  same-span c d x y same =
      let p = printed c x in
      let q = printed d y in
      let both = same-use see provenance p.uses q.uses same in
      let items = drop (at + 1) list in
      let ms = behind_at s items c in
      let ns = behind_at s items d in
      let k = length ms - (footprint p.uses.expands).left in
      let j = length ns - (footprint q.uses.expands).left in
      let few : k ≤ length ms = omega arith in
      let few_d : j ≤ length ns = omega arith in
      let as_many : k ≡ j = omega (arith, ap length both.0, length-take-le k ms few, length-take-le j ns few_d) in
      let equal : take k ms ≡ take k ns = both.0 ∙ ap (λ n. take n ns) (sym as_many) in
      let it = same-first s c d items k equal few (omega (arith, as_many, few_d)) in
      let took = λ (e : List ℕ). length-behind s e items ∙ sym (length-map (items_at s items e) see) in
      let one : length (items_at s (take it.size items) c) ≡ k = it.one in
      let other : length (items_at s (take it.size items) d) ≡ k = it.other in (
        it.size,
        record {
          one = x;
          other = y;
          alike = it.alike;
          one_within = omega (arith, p.prints.left, took c, one);
          other_within = omega (arith, q.prints.left, took d, other, as_many);
          agree = p.prints.covers.agree (macros c) (macros d) both.1;
        },
      )

module _ {T P : Type 0} (see : T → Hidden P) (provenance : Provenance P) (macros : List ℕ → Macros) (names : List (List ℕ)) (within : (c : List ℕ) → IsWithin names (macros c)) (s : Sets) (cond : ℕ) (list : List (Cond × T)) where
  apart-footprints : (count : ℕ) → HasSpansApart see provenance macros s cond list count → HasFootprints see provenance macros s cond list count
  apart-footprints count has = record {
    at = has.at;
    configs = has.configs;
    many = has.many;
    listed = has.listed;
    has = has.has;
    come = λ k d less. let x = has.come k d less in record { uses = (printed see provenance macros names within s list has.at _ x.0).uses; replaces = x.1 };
    apart = pairs-both (λ c d. (size : ℕ) → IsSpan see provenance macros s list has.at size c d → ⊥) (λ c d. IsSameUse see provenance macros s list has.at c d → ⊥)
        (λ c. (x : ComesAt see provenance macros s list has.at c) × (case_of (macros c) (see x.item.1) (behind see provenance macros s list has.at c) ≡ stays → ⊥))
        (λ c d x y apart also. let span = same-span see provenance macros names within s list has.at c d x.0 y.0 also in apart span.0 span.1) has.configs has.come has.apart;
  }

  pub apart-stops : (limit : ℕ) (stop : Stop) → StopsApart see provenance macros s cond list limit stop → StopsAtName see provenance macros s cond list limit stop
  apart-stops limit (BranchesFull count) stops = (stops.0, apart-footprints (limit + 1) stops.1)
  apart-stops limit ReadFault stops = stops
  apart-stops limit OutOfMemory stops = tt
