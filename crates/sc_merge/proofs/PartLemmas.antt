-- Conditions that part two others, and the choices between them.
use Rattle.std.proofs.Common.{◌≡◌, ℕ, ◌⊎◌, ◌||◌, not, Bool, true, false, List, [], inl, inr, refl, sym, ap, ◌∙◌}
use Rattle.std.proofs.lemmas.Bool.{true≢false}
use Rattle.std.proofs.lemmas.List.{append-nil}
use Rattle.std.proofs.lemmas.List.Elements.{All-nil}
use Rattle.sc_base.specs.declared.id.Cond.{Cond}
use Rattle.sc_merge.specs.Merges.{AddsChoices, AddsPartings, IsParting, Parts}
use Rattle.sc_model.specs.Sets.{Sets, Denotes, IsCond, IsConfig, Keeps}
use Rattle.sc_model.proofs.SetLemmas.{IsConfig-kept}
use Rattle.sc_scope.specs.Kinds.{IsOnlyIn}
use Rattle.sc_tree.specs.Lines.{Line}

outside-of : (x : Bool) → (x ≡ true → ⊥) → x ≡ false
outside-of true no_more = absurd (no_more refl)
outside-of false no_more = refl

module _ {s : Sets} {a b here there : Cond} (parts : Parts s a b here there) (c : List ℕ) where
  pub only-first : IsOnlyIn s a b c → IsOnlyIn s here there c
  only-first only =
      let inside = parts.first c only in
      record { listed = only.listed; inside = inside; outside = outside-of (s.has there.0 c) (λ also. parts.apart c only.listed inside also) }

  pub only-second : IsOnlyIn s b a c → IsOnlyIn s there here c
  only-second only =
      let inside = parts.second c only in
      record { listed = only.listed; inside = inside; outside = outside-of (s.has here.0 c) (λ also. parts.apart c only.listed also inside) }

-- they part them still as the conditions grow
pub parts-Keeps : {s t : Sets} {a b here there : Cond} → Keeps s t → IsCond s a.0 → IsCond s b.0 → Parts s a b here there → Parts t a b here there
parts-Keeps {s} {t} {a} {b} {here} {there} keeps own_a own_b parts = record {
  own_here = keeps.own here.0 parts.own_here;
  own_there = keeps.own there.0 parts.own_there;
  apart = λ c listed has also.
      let was = IsConfig-kept keeps listed in
      parts.apart c was (sym (keeps.at here.0 c parts.own_here was) ∙ has) (sym (keeps.at there.0 c parts.own_there was) ∙ also);
  first = λ c only. keeps.at here.0 c parts.own_here (IsConfig-kept keeps only.listed) ∙ parts.first c (was own_a own_b c only);
  second = λ c only. keeps.at there.0 c parts.own_there (IsConfig-kept keeps only.listed) ∙ parts.second c (was own_b own_a c only);
}
  where
    was : {x y : Cond} → IsCond s x.0 → IsCond s y.0 → (c : List ℕ) → IsOnlyIn t x y c → IsOnlyIn s x y c
    was {x} {y} own_x own_y c only =
        let listed = IsConfig-kept keeps only.listed in
        record { listed = listed; inside = sym (keeps.at x.0 c own_x listed) ∙ only.inside; outside = sym (keeps.at y.0 c own_y listed) ∙ only.outside }

-- there says what the second condition says where one of the two holds, and here the opposite
pub parts-made : {q r s t : Sets} {a b either here there : Cond} → Keeps q r → Keeps r s → Keeps s t → IsCond q a.0 → IsCond q b.0
    → Denotes r either.0 (λ c. q.has a.0 c || q.has b.0 c)
    → IsCond s there.0 → ((c : List ℕ) → IsConfig r.arities c → r.has either.0 c ≡ true → s.has there.0 c ≡ r.has b.0 c)
    → Denotes t here.0 (λ c. not (s.has there.0 c)) → Parts t a b here there
parts-made {q} {r} {s} {t} {a} {b} {either} {here} {there} to_r to_s to_t own_a own_b one own_there says others = record {
  own_here = others.own;
  own_there = to_t.own there.0 own_there;
  apart = λ c listed has also.
      let at_s = IsConfig-kept to_t listed in
      opposite (s.has there.0 c) (sym (others.at c listed) ∙ has) (sym (to_t.at there.0 c own_there at_s) ∙ also);
  first = λ c only. others.at c only.listed ∙ ap not (told c only.listed (either-one _ _ (inl (in_a c only.listed only.inside))) ∙ in_b c only.listed only.outside);
  second = λ c only.
      to_t.at there.0 c own_there (IsConfig-kept to_t only.listed) ∙ told c only.listed (either-one _ _ (inr (in_b c only.listed only.inside))) ∙ in_b c only.listed only.inside;
}
  where
    opposite : (x : Bool) → not x ≡ true → x ≡ true → ⊥
    opposite true is also = true≢false (sym is)
    opposite false is also = true≢false (sym also)

    either-one : (x y : Bool) → (x ≡ true) ⊎ (y ≡ true) → (x || y) ≡ true
    either-one true y is = refl
    either-one false y (inl is) = absurd (true≢false (sym is))
    either-one false y (inr is) = is

    at_q : (c : List ℕ) → IsConfig t.arities c → IsConfig q.arities c
    at_q c listed = IsConfig-kept to_r (IsConfig-kept to_s (IsConfig-kept to_t listed))

    was : (x : Cond) {v : Bool} → IsCond q x.0 → (c : List ℕ) → IsConfig t.arities c → t.has x.0 c ≡ v → q.has x.0 c ≡ v
    was x own c listed is =
        let at_r = IsConfig-kept to_s (IsConfig-kept to_t listed) in
        sym (to_t.at x.0 c (to_s.own x.0 (to_r.own x.0 own)) (IsConfig-kept to_t listed) ∙ to_s.at x.0 c (to_r.own x.0 own) at_r ∙ to_r.at x.0 c own (at_q c listed)) ∙ is

    in_a : {v : Bool} (c : List ℕ) → IsConfig t.arities c → t.has a.0 c ≡ v → q.has a.0 c ≡ v
    in_a = was a own_a

    in_b : {v : Bool} (c : List ℕ) → IsConfig t.arities c → t.has b.0 c ≡ v → q.has b.0 c ≡ v
    in_b = was b own_b

    told : (c : List ℕ) → IsConfig t.arities c → (q.has a.0 c || q.has b.0 c) ≡ true → s.has there.0 c ≡ q.has b.0 c
    told c listed holds =
        let at_r = IsConfig-kept to_s (IsConfig-kept to_t listed) in
        says c at_r (one.at c at_r ∙ holds) ∙ to_r.at b.0 c own_b (at_q c listed)

-- ---- choices

pub partings-none : (s : Sets) (a b : Cond) (lines : List Line) → AddsPartings s a b lines lines
partings-none s a b lines = record { added = []; is = sym (append-nil lines); choices = All-nil (IsParting s a b) }

pub partings : {s : Sets} {a b here there : Cond} {old new : List Line} → Parts s a b here there → AddsChoices here there old new → AddsPartings s a b old new
partings {here = here} {there = there} parts adds = record {
  added = adds.added;
  is = adds.is;
  choices = λ k d below. record { here = here; there = there; parts = parts; is = adds.choices k d below };
}
