-- Branches that a store keeps, and one branch more.
use Rattle.std.proofs.Common.{◌≡◌, ℕ, ◌&&◌, not, Bool, true, false, List, [], ◌∷◌, ◌++◌, All, map, refl, ap, sym, subst, ◌∙◌, append_assoc, if◌then◌else◌}
use Rattle.std.proofs.lemmas.List.{map-append}
use Rattle.std.proofs.lemmas.List.Elements.{All-nil, All-head, All-tail, All-push}
use Rattle.sc_base.specs.declared.id.Cond.{Cond}
use Rattle.sc_hoist.specs.declared.branch.Branch.{Branch}
use Rattle.sc_hoist.specs.declared.branch.Ends.TheVariants.{NoCall}
use Rattle.sc_hoist.specs.Branches.{lists_at}
use Rattle.sc_hoist.specs.Leaves.{AreLeaves, Agree, placed}
use Rattle.sc_model.proofs.SetLemmas.{IsConfig-Keeps}
use Rattle.sc_model.specs.Sets.{Sets, IsConfig, IsCond, Keeps, IsNever}

pub lists_at-append : (s : Sets) (xs ys : List Branch) (c : List ℕ) → lists_at s (xs ++ ys) c ≡ lists_at s xs c ++ lists_at s ys c
lists_at-append s [] ys c = refl
lists_at-append s (x ∷ xs) ys c = by (s.has x.cond.0 c) (lists_at-append s xs ys c)
  where
    by : (b : Bool) → lists_at s (xs ++ ys) c ≡ lists_at s xs c ++ lists_at s ys c
        → (if b then x.places.items ∷ lists_at s (xs ++ ys) c else lists_at s (xs ++ ys) c) ≡ (if b then x.places.items ∷ lists_at s xs c else lists_at s xs c) ++ lists_at s ys c
    by true e = ap (λ zs. x.places.items ∷ zs) e
    by false e = e

-- branches whose conditions the store keeps have the configurations that they had
pub lists_at-Keeps : {old new : Sets} (branches : List Branch) (c : List ℕ) → Keeps old new → All (λ (branch : Branch). IsCond old branch.cond.0) branches → IsConfig old.arities c
    → lists_at new branches c ≡ lists_at old branches c
lists_at-Keeps [] c keeps own listed = refl
lists_at-Keeps {old} {new} (x ∷ xs) c keeps own listed =
    let P : Branch → Type 0 = λ branch. IsCond old branch.cond.0 in
    ap (λ b. if b then x.places.items ∷ lists_at new xs c else lists_at new xs c) (keeps.at x.cond.0 c (All-head P x xs own) listed)
    ∙ ap (λ r. if old.has x.cond.0 c then x.places.items ∷ r else r) (lists_at-Keeps xs c keeps (All-tail P x xs own) listed)

-- one branch more, in a store that has grown
pub lists_at-push : {old new : Sets} (branches : List Branch) (branch : Branch) (test : Bool) (places : List ℕ) (c : List ℕ) → Keeps old new → AreLeaves old branches → IsConfig old.arities c
    → new.has branch.cond.0 c ≡ test → branch.places.items ≡ places → lists_at new (branches ++ branch ∷ []) c ≡ lists_at old branches c ++ (if test then places ∷ [] else [])
lists_at-push {old} {new} branches branch test places c keeps leaves listed has is =
    lists_at-append new branches (branch ∷ []) c
    ∙ (ap (λ ls. ls ++ lists_at new (branch ∷ []) c) (lists_at-Keeps branches c keeps leaves.own listed)
    ∙ (ap (λ b. lists_at old branches c ++ (if b then branch.places.items ∷ [] else [])) has ∙ ap (λ ps. lists_at old branches c ++ (if test then ps ∷ [] else [])) is))

pub AreLeaves-nil : (s : Sets) → AreLeaves s []
AreLeaves-nil s = record {
  own = All-nil (λ (branch : Branch). IsCond s branch.cond.0);
  some = All-nil (λ (branch : Branch). IsNever s branch.cond.0 → ⊥);
  ends = All-nil (λ (branch : Branch). branch.ends ≡ NoCall);
}

pub AreLeaves-Keeps : {old new : Sets} {branches : List Branch} → Keeps old new → AreLeaves old branches → AreLeaves new branches
AreLeaves-Keeps keeps were = record {
  own = λ k d h. keeps.own _ (were.own k d h);
  some = λ k d h never. were.some k d h (record { none = λ c listed. sym (keeps.at _ c (were.own k d h) listed) ∙ never.none c (IsConfig-Keeps keeps listed) });
  ends = were.ends;
}

pub AreLeaves-push : {s : Sets} (branches : List Branch) (branch : Branch) → AreLeaves s branches → IsCond s branch.cond.0 → (IsNever s branch.cond.0 → ⊥) → branch.ends ≡ NoCall → AreLeaves s (branches ++ branch ∷ [])
AreLeaves-push {s} branches branch were own some ends = record {
  own = All-push (λ (branch : Branch). IsCond s branch.cond.0) branches branch were.own own;
  some = All-push (λ (branch : Branch). IsNever s branch.cond.0 → ⊥) branches branch were.some some;
  ends = All-push (λ (branch : Branch). branch.ends ≡ NoCall) branches branch were.ends ends;
}

-- one branch more, of such a condition
pub AreLeaves-more : {s : Sets} (branches : List Branch) (branch : Branch) (cond : Cond) → AreLeaves s branches → IsCond s cond.0 → (IsNever s cond.0 → ⊥) → branch.cond ≡ cond → branch.ends ≡ NoCall → AreLeaves s (branches ++ branch ∷ [])
AreLeaves-more {s} branches branch cond were own some is ends =
    AreLeaves-push branches branch were (subst (λ (k : Cond). IsCond s k.0) (sym is) own) (subst (λ (k : Cond). IsNever s k.0 → ⊥) (sym is) some) ends

pub AreLeaves-head : {s : Sets} (branch : Branch) (branches : List Branch) → AreLeaves s (branch ∷ branches) → AreLeaves s (branch ∷ [])
AreLeaves-head {s} branch branches were = AreLeaves-push [] branch (AreLeaves-nil s)
    (All-head (λ (branch : Branch). IsCond s branch.cond.0) branch branches were.own)
    (All-head (λ (branch : Branch). IsNever s branch.cond.0 → ⊥) branch branches were.some)
    (All-head (λ (branch : Branch). branch.ends ≡ NoCall) branch branches were.ends)

pub AreLeaves-tail : {s : Sets} (branch : Branch) (branches : List Branch) → AreLeaves s (branch ∷ branches) → AreLeaves s branches
AreLeaves-tail {s} branch branches were = record {
  own = All-tail (λ (branch : Branch). IsCond s branch.cond.0) branch branches were.own;
  some = All-tail (λ (branch : Branch). IsNever s branch.cond.0 → ⊥) branch branches were.some;
  ends = All-tail (λ (branch : Branch). branch.ends ≡ NoCall) branch branches were.ends;
}

pub Agree-nil : (s : Sets) (c d : List ℕ) → Agree s [] c d
Agree-nil s c d = record { each = All-nil (λ (branch : Branch). s.has branch.cond.0 c ≡ s.has branch.cond.0 d) }

pub Agree-push : {s : Sets} {c d : List ℕ} (branches : List Branch) (branch : Branch) → Agree s branches c d → s.has branch.cond.0 c ≡ s.has branch.cond.0 d → Agree s (branches ++ branch ∷ []) c d
Agree-push {s} {c} {d} branches branch were same = record { each = All-push (λ (branch : Branch). s.has branch.cond.0 c ≡ s.has branch.cond.0 d) branches branch were.each same }

pub Agree-Keeps : {old new : Sets} {branches : List Branch} {c d : List ℕ} → Keeps old new → AreLeaves old branches → IsConfig old.arities c → IsConfig old.arities d → Agree old branches c d → Agree new branches c d
Agree-Keeps {old} {new} {branches} {c} {d} keeps leaves c_listed d_listed were = record {
  each = λ k x h. keeps.at _ c (leaves.own k x h) c_listed ∙ (were.each k x h ∙ sym (keeps.at _ d (leaves.own k x h) d_listed));
}

pub Agree-more : {old new : Sets} (branches : List Branch) (branch : Branch) (cond : Cond) (f : List ℕ → Bool) (c d : List ℕ) → Keeps old new → AreLeaves old branches → IsConfig old.arities c → IsConfig old.arities d → Agree old branches c d
    → branch.cond ≡ cond → new.has cond.0 c ≡ f c → new.has cond.0 d ≡ f d → f c ≡ f d → Agree new (branches ++ branch ∷ []) c d
Agree-more {old} {new} branches branch cond f c d keeps leaves c_listed d_listed were is at_c at_d same =
    Agree-push branches branch (Agree-Keeps keeps leaves c_listed d_listed were) (ap (λ (k : Cond). new.has k.0 c) is ∙ (at_c ∙ (same ∙ (sym at_d ∙ ap (λ (k : Cond). new.has k.0 d) (sym is)))))

pub Agree-head : {s : Sets} {c d : List ℕ} (branch : Branch) (branches : List Branch) → Agree s (branch ∷ branches) c d → s.has branch.cond.0 c ≡ s.has branch.cond.0 d
Agree-head {s} {c} {d} branch branches were = All-head (λ (branch : Branch). s.has branch.cond.0 c ≡ s.has branch.cond.0 d) branch branches were.each

pub Agree-tail : {s : Sets} {c d : List ℕ} (branch : Branch) (branches : List Branch) → Agree s (branch ∷ branches) c d → Agree s branches c d
Agree-tail {s} {c} {d} branch branches were = record { each = All-tail (λ (branch : Branch). s.has branch.cond.0 c ≡ s.has branch.cond.0 d) branch branches were.each }

-- the two parts of a branch, and the whole
pub halves : (whole item : Bool) (places : List ℕ) (place : ℕ) → (if whole && not item then places ∷ [] else []) ++ (if whole && item then (places ++ place ∷ []) ∷ [] else [])
    ≡ map (placed item place) (if whole then places ∷ [] else [])
halves true true places place = refl
halves true false places place = refl
halves false item places place = refl

-- where no configuration has the item, a branch is its own part
pub undivided : (whole item : Bool) (places : List ℕ) (place : ℕ) → (whole && item) ≡ false → (if whole then places ∷ [] else []) ≡ map (placed item place) (if whole then places ∷ [] else [])
undivided true true places place none = absurd (cc)
undivided true false places place none = refl
undivided false item places place none = refl

-- both parts put behind what was found
pub both_halves : (found more all : List (List ℕ)) (whole item : Bool) (places : List ℕ) (place : ℕ) → more ≡ found ++ (if whole && not item then places ∷ [] else [])
    → all ≡ more ++ (if whole && item then (places ++ place ∷ []) ∷ [] else []) → all ≡ found ++ map (placed item place) (if whole then places ∷ [] else [])
both_halves found more all whole item places place first second =
    let having : List (List ℕ) = if whole && item then (places ++ place ∷ []) ∷ [] else [] in
    let lacking : List (List ℕ) = if whole && not item then places ∷ [] else [] in
    second ∙ (ap (λ ls. ls ++ having) first ∙ (append_assoc found lacking having ∙ ap (λ ls. found ++ ls) (halves whole item places place)))

-- the first branch of those that are left, divided
pub divided_more : (s mid : Sets) (item : ℕ) (place : ℕ) (branch : Branch) (left rest : List Branch) (found more answer : List (List ℕ)) (c : List ℕ) → Keeps s mid → AreLeaves s left → IsCond s item → IsConfig s.arities c
    → left ≡ branch ∷ rest → found ++ map (placed (s.has item c) place) (lists_at s left c) ≡ answer → more ≡ found ++ map (placed (mid.has item c) place) (lists_at mid (branch ∷ []) c)
    → more ++ map (placed (s.has item c) place) (lists_at s rest c) ≡ answer
divided_more s mid item place branch left rest found more answer c keeps leaves own listed is was made =
    let one = AreLeaves-head branch rest (subst (AreLeaves s) is leaves) in
    let f : List ℕ → List ℕ = placed (s.has item c) place in
    let here : List (List ℕ) = lists_at s (branch ∷ []) c in
    let last : List (List ℕ) = lists_at s rest c in
    let first : more ≡ found ++ map f here =
    made ∙ (ap (λ (b : Bool). found ++ map (placed b place) (lists_at mid (branch ∷ []) c)) (keeps.at item c own listed) ∙ ap (λ (ls : List (List ℕ)). found ++ map f ls) (lists_at-Keeps (branch ∷ []) c keeps one.own listed)) in
    let all : lists_at s left c ≡ here ++ last = ap (λ (bs : List Branch). lists_at s bs c) is ∙ lists_at-append s (branch ∷ []) rest c in
    ap (λ (ls : List (List ℕ)). ls ++ map f last) first ∙ (append_assoc found (map f here) (map f last)
    ∙ (ap (λ (ls : List (List ℕ)). found ++ ls) (sym (map-append f here last)) ∙ (ap (λ (ls : List (List ℕ)). found ++ map f ls) (sym all) ∙ was)))

pub agree_more : {s mid : Sets} {c d : List ℕ} (branch : Branch) (left rest : List Branch) → Keeps s mid → AreLeaves s left → IsConfig s.arities c → IsConfig s.arities d → left ≡ branch ∷ rest → Agree s left c d
    → Agree mid (branch ∷ []) c d × Agree s rest c d
agree_more {s} {mid} {c} {d} branch left rest keeps leaves c_listed d_listed is agree =
    let one = AreLeaves-head branch rest (subst (AreLeaves s) is leaves) in
    let now : Agree s (branch ∷ rest) c d = subst (λ (bs : List Branch). Agree s bs c d) is agree in
    (Agree-Keeps keeps one c_listed d_listed (Agree-push [] branch (Agree-nil s c d) (Agree-head branch rest now)), Agree-tail branch rest now)
