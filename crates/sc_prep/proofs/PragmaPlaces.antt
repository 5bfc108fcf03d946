-- Where the items stand that are none of a `_Pragma` operator.
use Rattle.std.proofs.Common.{◌≡◌, inl, inr, ◌⊎◌, ℕ, ◌+◌, ◌<◌, ◌≤◌, ◌&&◌, true, false, List, [], ◌∷◌, ◌++◌, All, length, map, nat_lt, slice_get, take, Some, refl, sym, ap, subst, ◌∙◌, arith, if◌then◌else◌}
use Rattle.std.proofs.lemmas.Bool.{cases_lt}
use Rattle.std.proofs.lemmas.Bool.Decides.{nat_tests}
use Rattle.std.proofs.lemmas.List.{take-append-le, take_at}
use Rattle.std.proofs.lemmas.Option.{same_Some, slice_get_within}
use Rattle.sc_base.specs.declared.token.Token as base_token
use Rattle.sc_expand.specs.Thin.{IsNth}
use Rattle.sc_model.proofs.ListLemmas.{slice_get-front, slice_get-seam}
use Rattle.sc_model.specs.Token.{Token}
use Rattle.sc_prep.proofs.Facts.{IsConfig-Keeps, Keeps-trans, items_at-Keeps, items_at-append, length-append, length-map, map-append}
use Rattle.sc_prep.proofs.NthItems.{nth-behind, nth-front, nth-kept, nth-of-front, nth-stands, nth-within, some-stands, stands-get, stands-many, stands-nth}
use Rattle.sc_prep.proofs.Terms.{Cond, Denotes, IsCond, IsConfig, Keeps, Sets, items_at, seen}
use Rattle.sc_prep.specs.declared.pragmas.Pragmas.{Pragmas}
use Rattle.sc_prep.specs.Pragmas.{Awaited, AwaitsAt, PutsEach, awaits, first_tokens, is_outside, outside, tokens_within}

-- of no items
pub each-none : (names : List (List ℕ)) {s : Sets} {p : Pragmas} (by : ℕ) → PutsEach names s p [] by s []
each-none names by = record { place = λ i. i; at = λ files c a listed at has n i item nth get out. absurd (cc) }

-- of one item, of which one element was put out at most
module _ (names : List (List ℕ)) (old new : Sets) (p : Pragmas) (cond : Cond) (t : base_token.Token) (kept : List (Cond × base_token.Token)) (few : length kept ≤ 1) where
  abbrev one : List (Cond × base_token.Token)
  one = (cond, t) ∷ []

  abbrev Puts : Type 0
  Puts = (files : List (List ℕ)) (c : List ℕ) (a : Awaited) → IsConfig old.arities c → AwaitsAt old files p c a → map (seen names files) (items_at new kept c) ≡ outside a (tokens_within names files old one cond.0 c)

  first-nth : (c : List ℕ) → length (items_at new kept c) ≡ 1 → IsNth new kept c 0 0
  first-nth c is =
      let it = some-stands new c kept 0 (omega (arith, is)) in
      let within = slice_get_within kept it.0 it.1.item (stands-get new c it.1) in
      let first : it.0 ≡ 0 = omega (arith, within, few) in
      subst (λ j. IsNth new kept c 0 j) first (stands-nth new c it.1)

  pub each-one : Puts → PutsEach names old p one cond.0 new kept
  each-one puts = record {
    place = λ i. 0;
    at = λ files c a listed at has n i item nth get out. by files c a has n i item nth get out (puts files c a listed at);
  }
    where
      by : (files : List (List ℕ)) (c : List ℕ) (a : Awaited) → old.has cond.0 c ≡ true → (n i : ℕ) (item : Cond × base_token.Token) → IsNth old one c n i → slice_get one i ≡ Some item
          → is_outside (awaits a (first_tokens names files old one c n)) (seen names files item.1) ≡ true → map (seen names files) (items_at new kept c) ≡ outside a (tokens_within names files old one cond.0 c)
          → IsNth new kept c (length (outside a (first_tokens names files old one c n))) 0
      by files c a has n i item nth get out is =
          let index : i ≡ 0 = (let within = slice_get_within one i item get in omega (arith, within)) in
          let same : (cond, t) ≡ item = same_Some (cond, t) item (ap (slice_get one) (sym index) ∙ get) in
          let many : n ≡ 0 = sym (stands-many old c (nth-stands old c one n i nth)) ∙ ap (λ k. length (items_at old (take k one) c)) index in
          let free : is_outside a (seen names files t) ≡ true = (λ j. is_outside (awaits a (first_tokens names files old one c (sym many j))) (seen names files (same j).1)) ∙ out in
          let tokens : tokens_within names files old one cond.0 c ≡ seen names files t ∷ [] = (λ j. if has j then map (seen names files) (if has j then t ∷ [] else []) else []) in
          let put = is ∙ (ap (outside a) tokens ∙ ap (λ b. if b then seen names files t ∷ [] else []) free) in
          let count = sym (length-map (items_at new kept c) (seen names files)) ∙ ap length put in
          subst (λ k. IsNth new kept c (length (outside a (first_tokens names files old one c k))) 0) (sym many) (first-nth c count)

-- of one more
module _ (names : List (List ℕ)) {first s1 s2 s3 : Sets} {p p1 : Pragmas} {front kept more : List (Cond × base_token.Token)} (by : ℕ) (cond part : Cond) (t : base_token.Token) (before : Keeps first s1) (keeps : Keeps s1 s2) (later : Keeps s2 s3)
    (part_is : Denotes s2 part.0 (λ c. first.has cond.0 c && first.has by c)) (own : All (λ (item : Cond × base_token.Token). IsCond s1 item.0.0) kept)
    (puts : (files : List (List ℕ)) (c : List ℕ) (a : Awaited) → IsConfig first.arities c → AwaitsAt first files p c a → map (seen names files) (items_at s1 kept c) ≡ outside a (tokens_within names files first front by c))
    (mid : (files : List (List ℕ)) (c : List ℕ) (a : Awaited) → IsConfig first.arities c → AwaitsAt first files p c a → AwaitsAt s2 files p1 c (awaits a (tokens_within names files first front by c)))
    (was : PutsEach names first p front by s1 kept) (next : PutsEach names s2 p1 ((part, t) ∷ []) part.0 s3 more) where
  abbrev longer : List (Cond × base_token.Token)
  longer = front ++ (cond, t) ∷ []

  abbrev place : ℕ → ℕ
  place i = if nat_lt i (length front) then was.place i else length kept + next.place 0

  module _ (files : List (List ℕ)) (c : List ℕ) (a : Awaited) (listed : IsConfig first.arities c) (at : AwaitsAt first files p c a) (has : first.has by c ≡ true) (n i : ℕ) (item : Cond × base_token.Token) (nth : IsNth first longer c n i)
      (get : slice_get longer i ≡ Some item) (out : is_outside (awaits a (first_tokens names files first longer c n)) (seen names files item.1) ≡ true) where
    abbrev Now : ℕ → Type 0
    Now = IsNth s3 (kept ++ more) c (length (outside a (first_tokens names files first longer c n)))

    abbrev ahead : List Token
    ahead = map (seen names files) (items_at first front c)

    all-tokens : map (seen names files) (items_at first longer c) ≡ ahead ++ map (seen names files) (items_at first ((cond, t) ∷ []) c)
    all-tokens = ap (map (seen names files)) (items_at-append first front ((cond, t) ∷ []) c) ∙ map-append (seen names files) (items_at first front c) (items_at first ((cond, t) ∷ []) c)

    in-front : i < length front → Now (was.place i)
    in-front less =
        let nth_front = nth-of-front first c front ((cond, t) ∷ []) n i less nth in
        let short = nth-within first c front n i nth_front in
        let same : first_tokens names files first longer c n ≡ first_tokens names files first front c n =
        ap (take n) all-tokens ∙ take-append-le n ahead (map (seen names files) (items_at first ((cond, t) ∷ []) c)) (let long = length-map (items_at first front c) (seen names files) in omega (arith, short, long)) in
        let put = was.at files c a listed at has n i item nth_front (sym (slice_get-front front ((cond, t) ∷ []) i less) ∙ get) (ap (λ ts. is_outside (awaits a ts) (seen names files item.1)) (sym same) ∙ out) in
        let kept_nth = nth-kept kept (Keeps-trans keeps later) own (IsConfig-Keeps before listed) (length (outside a (first_tokens names files first front c n))) (was.place i) put in
        subst (λ ts. IsNth s3 (kept ++ more) c (length (outside a ts)) (was.place i)) (sym same) (nth-front s3 c kept more (length (outside a (first_tokens names files first front c n))) (was.place i) kept_nth)

    at-end : length front ≤ i → Now (length kept + next.place 0)
    at-end le =
        let within = slice_get_within longer i item get in
        let index : i ≡ length front = omega (arith, le, within, length-append front ((cond, t) ∷ [])) in
        let stands = nth-stands first c longer n i nth in
        let seam : slice_get longer i ≡ Some (cond, t) = ap (slice_get longer) index ∙ slice_get-seam front (cond, t) [] in
        let same : (cond, t) ≡ item = same_Some (cond, t) item (sym seam ∙ get) in
        let held : (cond, t) ≡ stands.item = same_Some (cond, t) stands.item (sym seam ∙ stands-get first c stands) in
        let had : first.has cond.0 c ≡ true = ap (λ (x : Cond × base_token.Token). first.has x.0.0 c) held ∙ stands.has in
        let many : length (items_at first front c) ≡ n = ap (λ l. length (items_at first l c)) (sym (ap (λ k. take k longer) index ∙ take_at front ((cond, t) ∷ []) (length front) refl)) ∙ stands-many first c stands in
        let tokens : first_tokens names files first longer c n ≡ ahead = ap (take n) all-tokens ∙ take_at ahead (map (seen names files) (items_at first ((cond, t) ∷ []) c)) n (length-map (items_at first front c) (seen names files) ∙ many) in
        let whole : tokens_within names files first front by c ≡ ahead = (λ j. if has j then ahead else []) in
        let listed2 = IsConfig-Keeps (Keeps-trans before keeps) listed in
        let part_has : s2.has part.0 c ≡ true = part_is.at c listed2 ∙ (λ j. had j && has j) in
        let one = stands-nth s2 c (record { item = (part, t); has = part_has; front = []; back = []; is = refl; index = refl; many = refl }) in
        let put = next.at files c (awaits a (tokens_within names files first front by c)) listed2 (mid files c a listed at) part_has 0 0 (part, t) one refl
        ((λ j. is_outside (awaits a ((whole ∙ sym tokens) j)) (seen names files (same j).1)) ∙ out) in
        let long : length (items_at s3 kept c) + 0 ≡ length (outside a (first_tokens names files first longer c n)) =
        (let count = ap length (items_at-Keeps kept c (Keeps-trans keeps later) own (IsConfig-Keeps before listed))
        ∙ (sym (length-map (items_at s1 kept c) (seen names files)) ∙ (ap length (puts files c a listed at) ∙ ap (λ ts. length (outside a ts)) (whole ∙ sym tokens))) in omega (arith, count)) in
        subst (λ k. IsNth s3 (kept ++ more) c k (length kept + next.place 0)) long (nth-behind s3 c kept more 0 (next.place 0) put)

    by-place : (i < length front) ⊎ (length front ≤ i) → Now (place i)
    by-place (inl less) = let test : nat_lt i (length front) ≡ true = grind (arith, nat_tests) in subst Now (sym (ap (λ b. if b then was.place i else length kept + next.place 0) test)) (in-front less)
    by-place (inr le) = let test : nat_lt i (length front) ≡ false = grind (arith, nat_tests) in subst Now (sym (ap (λ b. if b then was.place i else length kept + next.place 0) test)) (at-end le)

  pub each-next : PutsEach names first p longer by s3 (kept ++ more)
  each-next = record { place = place; at = λ files c a listed at has n i item nth get out. by-place files c a listed at has n i item nth get out (cases_lt i (length front)) }
