-- The alternatives of a list are those of its branches.
use Rattle.std.proofs.Common.{◌≡◌, ℕ, zero, suc, ◌+◌, ◌<◌, Bool, true, false, List, [], ◌∷◌, ◌++◌, take, All, map, length, get_or, refl, sym, ap, subst, ◌∙◌, arith, if◌then◌else◌}
use Rattle.sc_expand.proofs.AlikeLemmas.{all-back}
use Rattle.sc_expand.proofs.GatherPlaces.{somewhere}
use Rattle.sc_hoist.proofs.PartLemmas.{one_list}
use Rattle.sc_hoist.specs.Branches.{AreBranches, lists_at}
use Rattle.sc_prep.proofs.Facts.{All-map, IsConfig-kept, length-map, map-append, map-one, tokens_at-All, tokens_at-places}
use Rattle.sc_prep.proofs.ListsAt.{map-next}
use Rattle.sc_prep.proofs.Terms.{Branch, Cond, IsCond, IsConfig, IsNever, Keeps, Sets, Token, items_at, places_at, places_from, tokens_at}
use Rattle.sc_prep.specs.Alternatives.{EachToken, OwnsEach, alternative_tokens, branch_tokens, tokens_in}
use Rattle.sc_prep.specs.declared.alternatives.Alternative.{Alternative}

-- ---- places

places_below : (s : Sets) (n : ℕ) (conds : List Cond) (c : List ℕ) (k d : ℕ) → k < length (places_from s n conds c) → get_or (places_from s n conds c) k d < n + length conds
places_below s n [] c k d h = absurd (omega (arith, h))
places_below s n (x ∷ xs) c k d h = by (s.has x.0 c) k h (λ k h. places_below s (n + 1) xs c k d h)
  where
    by : (b : Bool) (k : ℕ) → k < length (if b then n ∷ places_from s (n + 1) xs c else places_from s (n + 1) xs c)
        → ((k : ℕ) → k < length (places_from s (n + 1) xs c) → get_or (places_from s (n + 1) xs c) k d < n + 1 + length xs)
        → get_or (if b then n ∷ places_from s (n + 1) xs c else places_from s (n + 1) xs c) k d < n + suc (length xs)
    by true zero h rest = omega arith
    by true (suc k) h rest = omega (arith, rest k (omega (arith, h)))
    by false k h rest = omega (arith, rest k h)

all-below : (s : Sets) (list : List (Cond × Token)) (c : List ℕ) → All (λ p. p < length list) (places_at s list c)
all-below s list c = λ k d h.
    let long = length-map list (λ (item : Cond × Token). item.0) in
    omega (arith, long, places_below s 0 (map (λ (item : Cond × Token). item.0) list) c k d h)

-- a list of tokens, as sc_hoist sees it
abbrev bare : List (Cond × Token) → List (Cond × Token)
bare list = map (λ (item : Cond × Token). (item.0, item.1)) list

pub bare-same : (list : List (Cond × Token)) → bare list ≡ list
bare-same [] = refl
bare-same (x ∷ xs) = ap (λ l. x ∷ l) (bare-same xs)

-- ---- the branches of a list

-- one branch more
pub one-pushed : (list : List (Cond × Token)) (bs : List Branch) (i : ℕ) (b : Branch) (was next : List Alternative) (a : Alternative) → i < length bs → b ≡ get_or bs i b
    → map alternative_tokens was ≡ map (branch_tokens list) (take i bs) → next ≡ was ++ a ∷ [] → a.cond ≡ b.cond → a.tokens.items ≡ tokens_at list b.places.items
    → map alternative_tokens next ≡ map (branch_tokens list) (take (i + 1) bs)
one-pushed list bs i b was next a within is before pushed cond_is tokens_are =
    let same : alternative_tokens a ≡ branch_tokens list b = λ k. (cond_is k, tokens_are k) in
    ap (map alternative_tokens) pushed
    ∙ (map-append alternative_tokens was (a ∷ [])
    ∙ (ap (λ l. l ++ alternative_tokens a ∷ []) before
    ∙ (ap (λ t. map (branch_tokens list) (take i bs) ++ t ∷ []) same ∙ sym (map-next (branch_tokens list) bs i b within is))))

branch-lists : (s : Sets) (list : List (Cond × Token)) (bs : List Branch) (c : List ℕ) → items_at s (map (branch_tokens list) bs) c ≡ map (tokens_at list) (lists_at s bs c)
branch-lists s list [] c = refl
branch-lists s list (b ∷ bs) c = by (s.has b.cond.0 c) (branch-lists s list bs c)
  where
    by : (h : Bool) → items_at s (map (branch_tokens list) bs) c ≡ map (tokens_at list) (lists_at s bs c)
        → (if h then tokens_at list b.places.items ∷ items_at s (map (branch_tokens list) bs) c else items_at s (map (branch_tokens list) bs) c)
        ≡ map (tokens_at list) (if h then b.places.items ∷ lists_at s bs c else lists_at s bs c)
    by true e = ap (λ l. tokens_at list b.places.items ∷ l) e
    by false e = e

module _ {old mid : Sets} (list : List (Cond × Token)) (cond : ℕ) (bs : List Branch) (keeps : Keeps old mid) (are : AreBranches mid bs)
    (lists : (c : List ℕ) → IsConfig old.arities c → lists_at mid bs c ≡ (if old.has cond c then places_at old (bare list) c ∷ [] else [])) where
  own_lists : (c : List ℕ) → IsConfig old.arities c → lists_at mid bs c ≡ (if old.has cond c then places_at old list c ∷ [] else [])
  own_lists c listed = lists c listed ∙ ap (λ l. if old.has cond c then places_at old l c ∷ [] else []) (bare-same list)

  pub branches-below : All (λ (b : Branch). All (λ p. p < length list) b.places.items) bs
  branches-below = λ k b h j d within.
      let branch = get_or bs k b in
      somewhere mid branch.cond.0 (are.some k b h) (get_or branch.places.items j d) (length list) (λ c listed has.
      let one = one_list mid bs c (old.has cond c) (places_at old list c) (own_lists c (IsConfig-kept keeps listed)) k b h has in
      let P : List ℕ → Type 0 = λ ps. All (λ p. p < length list) ps in
      subst P (sym one.1) (all-below old list c) j d within)

  module _ (found : List Alternative) (same : map alternative_tokens found ≡ map (branch_tokens list) bs) where
    pub alternatives-at : (c : List ℕ) → IsConfig old.arities c → tokens_in mid found c ≡ (if old.has cond c then items_at old list c ∷ [] else [])
    alternatives-at c listed =
        ap (λ l. items_at mid l c) same
        ∙ (branch-lists mid list bs c
        ∙ (ap (map (tokens_at list)) (own_lists c listed)
        ∙ (map-one (tokens_at list) (old.has cond c) (places_at old list c) ∙ ap (λ ts. if old.has cond c then ts ∷ [] else []) (tokens_at-places old list c))))

    pub alternatives-own : OwnsEach mid found
    alternatives-own =
        let P : Cond × List Token → Type 0 = λ item. IsCond mid item.0.0 in
        all-back P alternative_tokens found (subst (All P) (sym same) (All-map P (branch_tokens list) bs are.own))

    pub alternatives-some : All (λ (a : Alternative). IsNever mid a.cond.0 → ⊥) found
    alternatives-some =
        let P : Cond × List Token → Type 0 = λ item. IsNever mid item.0.0 → ⊥ in
        all-back P alternative_tokens found (subst (All P) (sym same) (All-map P (branch_tokens list) bs are.some))

    pub alternatives-each : (P : Token → Type 0) → All (λ (item : Cond × Token). P item.1) list → EachToken P found
    alternatives-each P all =
        let Q : Cond × List Token → Type 0 = λ item. All P item.1 in
        all-back Q alternative_tokens found
        (subst (All Q) (sym same) (All-map Q (branch_tokens list) bs (λ k d h. tokens_at-All P list (get_or bs k d).places.items all)))
