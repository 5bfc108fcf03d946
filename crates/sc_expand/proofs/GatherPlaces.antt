-- The tokens of a call at the places of a branch.
use Rattle.std.proofs.Common.{◌≡◌, ℕ, zero, suc, ◌+◌, ◌-◌, ◌<◌, ◌≤◌, Bool, true, false, List, [], ◌∷◌, ◌++◌, All, map, take, drop, length, get_or, refl, sym, ap, subst, ◌∙◌, arith, ◌⊎◌, inl, inr, Some, slice_get, if◌then◌else◌}
use Rattle.sc_expand.proofs.BeginningLemmas.{behind_place, call_tokens, map_of_take, same_conds}
use Rattle.sc_expand.proofs.Facts.{All-cons, All-head, All-nil, All-tail, All-take, cases_lt, get_or-take, get_or_default, get_or_from_slice_get, length-append, length-drop, length-map, map-map, slice_get_within, drop-map}
use Rattle.sc_expand.proofs.GatherCases.{Closed, closed-call, spellings}
use Rattle.sc_expand.proofs.Terms.{Branch, Cond, Expansion, Hidden, HiddenToken, IsBranch, IsCall, IsCalled, IsConfig, IsNever, Place, Sets, Stores, Token, call_end, call_length, has_first, items_at, places_from, seen_at, seen_hidden, spelled_at, stores, text_at, token_at, tokens_in}

-- numbers that compare so at each configuration of a condition that has one compare so
pub somewhere : (s : Sets) (cond : ℕ) → (IsNever s cond → ⊥) → (a b : ℕ) → ((c : List ℕ) → IsConfig s.arities c → s.has cond c ≡ true → a < b) → a < b
somewhere s cond some a b each = by (cases_lt a b)
  where
    never : b ≤ a → (h : Bool) → (h ≡ true → a < b) → h ≡ false
    never le true less = absurd (omega (arith, less refl, le))
    never le false less = refl

    by : (a < b) ⊎ (b ≤ a) → a < b
    by (inl less) = less
    by (inr le) = absurd (some (record { none = λ c listed. never le (s.has cond c) (each c listed) }))

-- ---- the ends of lists

take-call : {A : Type 0} (b : List A) (x : A) (a : List A) → take (suc (length b)) (b ++ x ∷ a) ≡ b ++ x ∷ []
take-call [] x a = refl
take-call (y ∷ b) x a = ap (λ l. y ∷ l) (take-call b x a)

drop-call : {A : Type 0} (b : List A) (x : A) (a : List A) → drop (suc (length b)) (b ++ x ∷ a) ≡ a
drop-call [] x a = refl
drop-call (y ∷ b) x a = drop-call b x a

record Ends {A B : Type 0} (f : A → B) (zs : List A) (b : List B) (x : B) (d : A) : Type 0 where
  before : map f (take (length b) zs) ≡ b
  last : f (get_or zs (length b) d) ≡ x
  long : length zs ≡ suc (length b)

ends-with : {A B : Type 0} (f : A → B) (zs : List A) (b : List B) (x : B) (d : A) → map f zs ≡ b ++ x ∷ [] → Ends f zs b x d
ends-with f [] [] x d e = absurd (cc)
ends-with f [] (y ∷ b) x d e = absurd (cc)
ends-with f (z ∷ []) [] x d e = record { before = refl; last = cc; long = refl }
ends-with f (z ∷ w ∷ zs) [] x d e = absurd (cc)
ends-with f (z ∷ zs) (y ∷ b) x d e =
    let rest : map f zs ≡ b ++ x ∷ [] = cc in
    let first : f z ≡ y = cc in
    let it = ends-with f zs b x d rest in
    record { before = λ i. first i ∷ it.before i; last = it.last; long = ap suc it.long }

-- what stands between the second element and the last, and the last
pub record Middle {A B : Type 0} (f : A → B) (xs : List A) (b : List B) (x : B) (d : A) : Type 0 where
  pub between : map f (take (length xs - 1 - 2) (drop 2 xs)) ≡ b
  pub last : f (get_or xs (length xs - 1) d) ≡ x

pub middle : {A B : Type 0} (f : A → B) (xs : List A) (h o : B) (b : List B) (x : B) (d : A) → map f xs ≡ h ∷ o ∷ (b ++ x ∷ []) → Middle f xs b x d
middle f [] h o b x d e = absurd (cc)
middle f (y ∷ []) h o b x d e = absurd (cc)
middle f (y ∷ z ∷ zs) h o b x d e =
    let rest : map f zs ≡ b ++ x ∷ [] = cc in
    let it = ends-with f zs b x d rest in
    let n : suc (suc (length zs)) - 1 - 2 ≡ length b = omega (arith, it.long) in
    let m : suc (suc (length zs)) - 1 ≡ suc (suc (length b)) = omega (arith, it.long) in
    record {
      between = ap (λ k. map f (take k zs)) n ∙ it.before;
      last = ap (λ k. f (get_or (y ∷ z ∷ zs) k d)) m ∙ it.last;
    }

-- ---- places

places_below : (s : Sets) (n : ℕ) (conds : List Cond) (c : List ℕ) (k d : ℕ) → k < length (places_from s n conds c) → get_or (places_from s n conds c) k d < n + length conds
places_below s n [] c k d h = absurd (omega (arith, h))
places_below s n (x ∷ xs) c k d h = by (s.has x.0 c) k h (λ k h. places_below s (n + 1) xs c k d h)
  where
    by : (b : Bool) (k : ℕ) → k < length (if b then n ∷ places_from s (n + 1) xs c else places_from s (n + 1) xs c)
        → ((k : ℕ) → k < length (places_from s (n + 1) xs c) → get_or (places_from s (n + 1) xs c) k d < n + 1 + length xs)
        → get_or (if b then n ∷ places_from s (n + 1) xs c else places_from s (n + 1) xs c) k d < n + suc (length xs)
    by true zero h rest = omega arith
    by true (suc k) h rest = omega (arith, rest k (omega (arith, h)))
    by false k h rest = omega (arith, rest k h)

module _ (names : List (List ℕ)) (s : Sets) (c : List ℕ) where
  module _ (hides : _) where
    spelled-in : (xs : List (Cond × Hidden)) → map (λ (t : Token). text_at names t.spelling.0) (items_at s (tokens_in xs) c) ≡ spellings (map (seen_hidden names hides) (items_at s xs c))
    spelled-in [] = refl
    spelled-in (x ∷ xs) = by (s.has x.0.0 c) (spelled-in xs)
      where
        by : (b : Bool) → map (λ (t : Token). text_at names t.spelling.0) (items_at s (tokens_in xs) c) ≡ spellings (map (seen_hidden names hides) (items_at s xs c))
            → map (λ (t : Token). text_at names t.spelling.0) (if b then x.1.token ∷ items_at s (tokens_in xs) c else items_at s (tokens_in xs) c)
            ≡ spellings (map (seen_hidden names hides) (if b then x.1 ∷ items_at s xs c else items_at s xs c))
        by true rest = ap (λ l. text_at names x.1.token.spelling.0 ∷ l) rest
        by false rest = rest

    -- what sc_hoist reads behind the name is what the configuration has there
    pub spelled-behind : (list : List (Cond × Hidden)) → spelled_at s names (drop 1 (tokens_in list)) c ≡ spellings (seen_at (stores s names hides) (drop 1 list) c)
    spelled-behind [] = refl
    spelled-behind (x ∷ xs) = spelled-in xs

-- the call at the places: what stands between its parentheses, the closing one, and what follows
pub record Placed (st : Stores) (list : List (Cond × Hidden)) (places c : List ℕ) : Type 0 where
  pub between : List (HiddenToken Place)
  pub close : HiddenToken Place
  pub after : List (HiddenToken Place)
  pub call : IsCall (seen_at st (drop 1 list) c) between close after
  pub tokens : (other : Cond × Hidden) → map (λ p. seen_hidden st.names st.hides (token_at list other p)) places
      ≡ seen_hidden st.names st.hides (token_at list other 0) ∷ call.opener ∷ (between ++ close ∷ [])
  pub long : length places ≡ suc (suc (suc (length between)))
  pub behind : seen_at st (drop (get_or places (length places - 1) 0 + 1) list) c ≡ after

some-first : (s : Sets) (list : List (Cond × Hidden)) (c : List ℕ) → has_first s list c ≡ true → 0 < length list
some-first s [] c is = absurd (cc)
some-first s (x ∷ xs) c is = omega arith

module _ (st : Stores) (e : Expansion) (places c : List ℕ) (called : IsCalled st e places c) where
  abbrev work : List (Cond × Hidden)
  work = e.top.work

  abbrev see : Hidden → HiddenToken Place
  see = seen_hidden st.names st.hides

  abbrev behind : List (HiddenToken Place)
  behind = seen_at st (drop 1 work) c

  abbrev count : ℕ
  count = call_length (spelled_at st.sets st.names (drop 1 (tokens_in work)) c)

  the_call : Closed behind
  the_call = closed-call behind (ap call_end (sym (spelled-behind st.names st.sets c st.hides work)) ∙ called.closed)

  count-is : count ≡ suc (suc (length the_call.between))
  count-is = ap call_length (spelled-behind st.names st.sets c st.hides work) ∙ the_call.long

  tokens-are : (other : Cond × Hidden) → map (λ p. see (token_at work other p)) places ≡ see (token_at work other 0) ∷ the_call.call.opener ∷ (the_call.between ++ the_call.close ∷ [])
  tokens-are other =
      let first = see (token_at work other 0) in
      let items = items_at st.sets (drop 1 work) c in
      sym (map-map see (token_at work other) places)
      ∙ (ap (λ ps. map see (map (token_at work other) ps)) called.stand_at
      ∙ (ap (map see) (call_tokens st.sets st.names work other c)
      ∙ (ap (λ ts. first ∷ ts) (map_of_take see count items)
      ∙ ((λ i. first ∷ take (count-is i) (the_call.call.is i))
      ∙ ap (λ ts. first ∷ the_call.call.opener ∷ ts) (take-call the_call.between the_call.close the_call.after)))))

  places-long : (other : Cond × Hidden) → length places ≡ suc (suc (suc (length the_call.between)))
  places-long other =
      sym (length-map places (λ p. see (token_at work other p))) ∙ (ap length (tokens-are other) ∙ ap (λ n. suc (suc n)) (length-append the_call.between (the_call.close ∷ []) ∙ omega arith))

  abbrev conds : List Cond
  conds = map (λ (x : Cond × Hidden). x.0) (drop 1 work)

  places-are : places ≡ 0 ∷ take count (places_from st.sets 1 conds c)
  places-are = called.stand_at ∙ ap (λ cs. 0 ∷ take count (places_from st.sets 1 cs c)) (same_conds work)

  pub all-below : All (λ p. p < length work) places
  all-below =
      let P : ℕ → Type 0 = λ p. p < length work in
      let some = some-first st.sets work c called.stands in
      let from = places_from st.sets 1 conds c in
      let shorter : length conds ≡ length work - 1 = length-map (drop 1 work) (λ (x : Cond × Hidden). x.0) ∙ length-drop 1 work in
      let each : All P from = λ k d h. omega (arith, places_below st.sets 1 conds c k d h, shorter, some) in
      subst (All P) (sym places-are) (All-cons P 0 (take count from) some (All-take P count from each))

  last-place : length places ≡ suc (suc (suc (length the_call.between))) → get_or places (length places - 1) 0 ≡ get_or (places_from st.sets 1 conds c) (suc (length the_call.between)) 0
  last-place long =
      let m = length the_call.between in
      let from = places_from st.sets 1 conds c in
      let last : length places - 1 ≡ suc (suc m) = omega (arith, long) in
      let low : suc m < count = omega (arith, count-is) in
      (λ i. get_or (places-are i) (last i) 0) ∙ get_or-take count from (suc m) 0 low

  pub placed : (other : Cond × Hidden) → Placed st work places c
  placed other =
      let m = length the_call.between in
      let long = places-long other in
      let items = items_at st.sets (drop 1 work) c in
      let many : length items ≡ suc (m + suc (length the_call.after)) = sym (length-map items see) ∙ (ap length the_call.call.is ∙ ap suc (length-append the_call.between (the_call.close ∷ the_call.after))) in
      let within : suc m < length items = omega (arith, many) in
      record {
        between = the_call.between;
        close = the_call.close;
        after = the_call.after;
        call = the_call.call;
        tokens = tokens-are;
        long = long;
        behind = ap (λ n. seen_at st (drop (n + 1) work) c) (last-place long)
            ∙ (ap (map see) (behind_place st.sets work c 1 (suc m) within)
            ∙ (sym (drop-map see (suc (suc m)) items)
            ∙ (ap (drop (suc (suc m))) the_call.call.is ∙ drop-call the_call.between the_call.close the_call.after)));
      }

module _ (st : Stores) (e : Expansion) (branch : Branch) (is : IsBranch st e branch) where
  pub places-below : All (λ p. p < length e.top.work) branch.places.items
  places-below = λ k d h. somewhere st.sets branch.cond.0 is.some (get_or branch.places.items k d) (length e.top.work) (λ c listed has. all-below st e branch.places.items c (is.each c listed has) k d h)

  first-of : (s : Sets) (list : List (Cond × Hidden)) (c : List ℕ) → has_first s list c ≡ true → Cond × Hidden
  first-of s [] c is = absurd (cc)
  first-of s (x ∷ xs) c is = x

  pub branch-placed : (c : List ℕ) → IsConfig st.sets.arities c → st.sets.has branch.cond.0 c ≡ true → Placed st e.top.work branch.places.items c
  branch-placed c listed has = let called = is.each c listed has in placed st e branch.places.items c called (first-of st.sets e.top.work c called.stands)

  pub places-three : 2 < length branch.places.items
  places-three = somewhere st.sets branch.cond.0 is.some 2 (length branch.places.items) (λ c listed has. omega (arith, (branch-placed c listed has).long))

-- ---- the call that is taken out

-- it is taken by the index of its last place, and of what stands between the second place and that
pub call-taken : (st : Stores) (list : List (Cond × Hidden)) (after : List (HiddenToken Place)) (places c : List ℕ) (between : List Hidden) (item : Cond × Hidden) (end count : ℕ)
    → Placed st list places c → count ≡ length places → end ≡ get_or places (count - 1) end
    → ((other : Cond × Hidden) → between ≡ map (token_at list other) (take (count - 1 - 2) (drop 2 places))) → slice_get list end ≡ Some item
    → after ≡ seen_at st (drop (end + 1) list) c
    → IsCall (seen_at st (drop 1 list) c) (map (seen_hidden st.names st.hides) between) (seen_hidden st.names st.hides item.1) after
call-taken st list after places c between item end count is counted at tokens found follows =
    let see = seen_hidden st.names st.hides in
    let f : ℕ → HiddenToken Place = λ p. see (token_at list item p) in
    let n = length places in
    let low : n - 1 < length places = omega (arith, is.long) in
    let mid = middle f places (see (token_at list item 0)) is.call.opener is.between is.close end (is.tokens item) in
    let last : end ≡ get_or places (n - 1) end = at ∙ ap (λ k. get_or places (k - 1) end) counted in
    let one : map see between ≡ is.between = ap (map see) (tokens item ∙ ap (λ k. map (token_at list item) (take (k - 1 - 2) (drop 2 places))) counted)
    ∙ (map-map see (token_at list item) (take (n - 1 - 2) (drop 2 places)) ∙ mid.between) in
    let two : see item.1 ≡ is.close = ap (λ (x : Cond × Hidden). see x.1) (sym (get_or_from_slice_get list end item item found)) ∙ (ap f last ∙ mid.last) in
    let three : after ≡ is.after = follows ∙ (ap (λ k. seen_at st (drop (k + 1) list) c) (last ∙ get_or_default places (n - 1) end 0 low) ∙ is.behind) in
    let P : List (HiddenToken Place) → HiddenToken Place → List (HiddenToken Place) → Type 0 = λ b x a. IsCall (seen_at st (drop 1 list) c) b x a in
    subst (λ b. P b (see item.1) after) (sym one) (subst (λ x. P is.between x after) (sym two) (subst (λ a. P is.between is.close a) (sym three) is.call))

pub held-at : (P : Hidden → Type 0) (list : List (Cond × Hidden)) (k : ℕ) (x : Cond × Hidden) → All (λ (item : Cond × Hidden). P item.1) list → slice_get list k ≡ Some x → P x.1
held-at P list k x held is = let Q : Cond × Hidden → Type 0 = λ item. P item.1 in subst Q (get_or_from_slice_get list k x x is) (held k x (slice_get_within list k x is))

pub held-tokens : (P : Hidden → Type 0) (list : List (Cond × Hidden)) (other : Cond × Hidden) (ps : List ℕ) → All (λ (item : Cond × Hidden). P item.1) list → All (λ p. p < length list) ps → All P (map (token_at list other) ps)
held-tokens P list other [] held below = All-nil P
held-tokens P list other (p ∷ ps) held below =
    let B : ℕ → Type 0 = λ p. p < length list in
    All-cons P (token_at list other p) (map (token_at list other) ps) (held p other (All-head B p ps below)) (held-tokens P list other ps held (All-tail B p ps below))

-- tokens are what they were, whatever their conditions
pub held-same : (P : Hidden → Type 0) (xs ys : List (Cond × Hidden)) → map (λ (item : Cond × Hidden). item.1) ys ≡ map (λ (item : Cond × Hidden). item.1) xs → All (λ (item : Cond × Hidden). P item.1) xs → All (λ (item : Cond × Hidden). P item.1) ys
held-same P xs [] is held = All-nil (λ (item : Cond × Hidden). P item.1)
held-same P [] (y ∷ ys) is held = absurd (cc)
held-same P (x ∷ xs) (y ∷ ys) is held =
    let Q : Cond × Hidden → Type 0 = λ item. P item.1 in
    let first : x.1 ≡ y.1 = cc in
    let rest : map (λ (item : Cond × Hidden). item.1) ys ≡ map (λ (item : Cond × Hidden). item.1) xs = cc in
    All-cons Q y ys (subst P first (All-head Q x xs held)) (held-same P xs ys rest (All-tail Q x xs held))
