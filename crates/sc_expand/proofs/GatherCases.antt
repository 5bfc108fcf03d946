-- How a call goes on, as sc_hoist tells it, and what is to be done at its name.
use Rattle.std.proofs.Common.{◌≡◌, ℕ, zero, suc, ◌&&◌, Bool, true, false, List, [], ◌∷◌, ◌++◌, map, take, drop, length, codes, Option, Some, None, refl, sym, ap, subst, ◌∙◌, if◌then◌else◌, is_some, ◌+◌, ◌-◌, ◌<◌, ◌≤◌, All, get_or, arith}
use Rattle.c11_macros.specs.Call.{Call, arguments_for, call_of}
use Rattle.sc_expand.proofs.BeginningLemmas.{call_is}
use Rattle.sc_expand.proofs.Facts.{and-false, and-true, get_or-map, length-map}
use Rattle.sc_expand.proofs.TakingSteps.{case-alone, case-bare, case-open}
use Rattle.sc_expand.proofs.Terms.{ClosesAt, Definition, EndsBefore, HiddenToken, IsCall, Macros, Rest, alone, bare, call_end, call_length, case_of, closed, closing_at, fitted_case, function_like, is_function_like, is_function_named, is_last_name, is_looked_up, opened_end, opened_length, parted, same_bytes, slice_get, stays, still, unclosed, CallEnd, Cond, Denotes, Hidden, IsClosedCall, IsCond, IsKnownCall, IsParenthesized, Sets, Token, call_end_at, closing, closing_step, comma, group_end, group_step, has_text, indexes_from, is_end, items_at, opening, option_map, other, places_from, spelled_at, text_at, tokens_in}
use Rattle.sc_hoist.proofs.CallLemmas.{closes_at}

module _ {P : Type 0} where
  abbrev pub spellings : List (HiddenToken P) → List (List ℕ)
  spellings ts = map (λ (t : HiddenToken P). t.spelling) ts

  -- the call is closed by the token of this index
  record Found (commas : ℕ) (ts : List (HiddenToken P)) (index : ℕ) : Type 0 where
    call : Call P
    is : call_of commas 0 ts ≡ Some call
    at : slice_get ts index ≡ Some call.close
    rest : call.rest ≡ drop (suc index) ts

  found : (ts : List (HiddenToken P)) (index : ℕ) → closing_at 0 (spellings ts) ≡ Some index → (commas : ℕ) → Found commas ts index
  found ts index is commas = by (call_of commas 0 ts) refl (subst (λ o. ClosesAt ts o (call_of commas 0 ts)) is (closes_at commas 0 ts))
    where
      by : (r : Option (Call P)) → call_of commas 0 ts ≡ r → ClosesAt ts (Some index) r → Found commas ts index
      by None e h = absurd h
      by (Some call) e h = record { call = call; is = e; at = h.0; rest = h.1 }

  not-found : (ts : List (HiddenToken P)) (commas : ℕ) → closing_at 0 (spellings ts) ≡ None → call_of commas 0 ts ≡ None
  not-found ts commas is = by (call_of commas 0 ts) (subst (λ o. ClosesAt ts o (call_of commas 0 ts)) is (closes_at commas 0 ts))
    where
      by : (r : Option (Call P)) → ClosesAt ts None r → r ≡ None
      by None h = refl
      by (Some call) h = absurd h

  -- a list is what stands before one of its elements, the element, and what follows it
  parted_at : (ts : List (HiddenToken P)) (index : ℕ) (x : HiddenToken P) → slice_get ts index ≡ Some x → (ts ≡ take index ts ++ x ∷ drop (suc index) ts) × (length (take index ts) ≡ index)
  parted_at [] index x is = absurd (cc)
  parted_at (t ∷ ts) zero x is = let same : t ≡ x = cc in (ap (λ y. y ∷ ts) same, refl)
  parted_at (t ∷ ts) (suc index) x is = let rest = parted_at ts index x is in (ap (λ l. t ∷ l) rest.0, ap suc rest.1)

  -- ---- a call that is closed

  -- how the tokens behind a name that is called are told apart
  pub record Closed (ts : List (HiddenToken P)) : Type 0 where
    pub between : List (HiddenToken P)
    pub close : HiddenToken P
    pub after : List (HiddenToken P)
    pub call : IsCall ts between close after
    pub long : call_length (spellings ts) ≡ suc (suc (length between))

  closed-at : (t : HiddenToken P) (ts : List (HiddenToken P)) (index : ℕ) → closing_at 0 (spellings ts) ≡ Some index → same_bytes t.spelling (codes "(") ≡ true → Closed (t ∷ ts)
  closed-at t ts index is opens =
      let one = found ts index is 0 in
      let two = parted_at ts index one.call.close one.at in
      let between = take index ts in
      let after = drop (suc index) ts in
      let ends : (commas : ℕ) → EndsBefore commas (between ++ one.call.close ∷ after) after = λ commas. (
      let it = found ts index is commas in
      record { call = it.call; is = ap (call_of commas 0) (sym two.0) ∙ it.is; rest = it.rest }) in
      record {
        between = between;
        close = one.call.close;
        after = after;
        call = record { opener = t; is = ap (λ l. t ∷ l) two.0; opens = opens; ends = ends };
        long = (λ i. if opens i then suc (opened_length (length (spellings ts)) (is i)) else 0) ∙ ap (λ n. suc (suc n)) (sym two.1);
      }

  pub closed-call : (ts : List (HiddenToken P)) → call_end (spellings ts) ≡ closed → Closed ts
  closed-call [] is = absurd (let e : alone ≡ closed = is in cc)
  closed-call (t ∷ ts) is = by (same_bytes t.spelling (codes "(")) refl (closing_at 0 (spellings ts)) refl is
    where
      by : (b : Bool) → same_bytes t.spelling (codes "(") ≡ b → (o : Option ℕ) → closing_at 0 (spellings ts) ≡ o → (if b then opened_end o else bare) ≡ closed → Closed (t ∷ ts)
      by true opens (Some index) at e = closed-at t ts index at opens
      by true opens None at e = absurd (let e2 : still ≡ closed = e in cc)
      by false opens o at e = absurd (let e2 : bare ≡ closed = e in cc)

  module _ (macros : Macros) (t : HiddenToken P) (d : Definition) (looked : is_looked_up t ≡ true) (defined : macros t.spelling ≡ Some d) (parameters : List (List ℕ)) (variadic : Option Rest) (formed : d.form ≡ function_like parameters variadic) where
    -- its arguments fit, or don't
    pub case-closed : (ts between : List (HiddenToken P)) (close : HiddenToken P) (after : List (HiddenToken P)) → IsCall ts between close after
        → case_of macros t ts ≡ fitted_case d close after (arguments_for parameters (is_some variadic) (parted (length parameters) 0 between))
    case-closed ts between close after call =
        let ends = call.ends (length parameters) in
        ap (case_of macros t) call.is ∙ call_is macros t call.opener close between after d parameters variadic looked defined formed call.opens ends.call ends.is ends.rest

    pub case-still : (ts : List (HiddenToken P)) → call_end (spellings ts) ≡ still → case_of macros t ts ≡ unclosed
    case-still [] is = absurd (let e : alone ≡ still = is in cc)
    case-still (u ∷ us) is = by (same_bytes u.spelling (codes "(")) refl (closing_at 0 (spellings us)) refl is
      where
        by : (b : Bool) → same_bytes u.spelling (codes "(") ≡ b → (o : Option ℕ) → closing_at 0 (spellings us) ≡ o → (if b then opened_end o else bare) ≡ still → case_of macros t (u ∷ us) ≡ unclosed
        by true opens None at e = case-open macros t d looked defined parameters variadic formed u us opens (not-found us (length parameters) at)
        by true opens (Some index) at e = absurd (let e2 : closed ≡ still = e in cc)
        by false opens o at e = absurd (let e2 : bare ≡ still = e in cc)

    pub case-uncalled-alone : (ts : List (HiddenToken P)) → call_end (spellings ts) ≡ alone → case_of macros t ts ≡ stays
    case-uncalled-alone [] is = case-alone macros t d looked defined parameters variadic formed
    case-uncalled-alone (u ∷ us) is = by (same_bytes u.spelling (codes "(")) (closing_at 0 (spellings us)) is
      where
        by : (b : Bool) (o : Option ℕ) → (if b then opened_end o else bare) ≡ alone → case_of macros t (u ∷ us) ≡ stays
        by true None e = absurd (let e2 : still ≡ alone = e in cc)
        by true (Some index) e = absurd (let e2 : closed ≡ alone = e in cc)
        by false o e = absurd (let e2 : bare ≡ alone = e in cc)

    pub case-uncalled-bare : (ts : List (HiddenToken P)) → call_end (spellings ts) ≡ bare → case_of macros t ts ≡ stays
    case-uncalled-bare [] is = absurd (let e : alone ≡ bare = is in cc)
    case-uncalled-bare (u ∷ us) is = by (same_bytes u.spelling (codes "(")) refl (closing_at 0 (spellings us)) is
      where
        by : (b : Bool) → same_bytes u.spelling (codes "(") ≡ b → (o : Option ℕ) → (if b then opened_end o else bare) ≡ bare → case_of macros t (u ∷ us) ≡ stays
        by true opens None e = absurd (let e2 : still ≡ bare = e in cc)
        by true opens (Some index) e = absurd (let e2 : closed ≡ bare = e in cc)
        by false opens o e = case-bare macros t d looked defined parameters variadic formed u us opens

    -- it is a last name where no token follows
    pub last-alone : (ts : List (HiddenToken P)) → call_end (spellings ts) ≡ alone → is_last_name macros t ts ≡ true
    last-alone [] is = (λ i. looked i && is_function_named (defined i)) ∙ ap is_function_like formed
    last-alone (u ∷ us) is = by (same_bytes u.spelling (codes "(")) (closing_at 0 (spellings us)) is
      where
        by : (b : Bool) (o : Option ℕ) → (if b then opened_end o else bare) ≡ alone → false ≡ true
        by true None e = absurd (let e2 : still ≡ alone = e in cc)
        by true (Some index) e = absurd (let e2 : closed ≡ alone = e in cc)
        by false o e = absurd (let e2 : bare ≡ alone = e in cc)

    pub not-last : (ts : List (HiddenToken P)) → call_end (spellings ts) ≡ bare → is_last_name macros t ts ≡ false
    not-last [] is = absurd (let e : alone ≡ bare = is in cc)
    not-last (u ∷ us) is = refl

-- ---- the call of the first token of a list, all tokens of which stand under one condition

-- ---- indexes

-- one index more
pub indexes_from-more : (count : ℕ) → indexes_from 0 count ++ count ∷ [] ≡ indexes_from 0 (count + 1)
indexes_from-more count =
    let here : count ≡ 0 + count = omega arith in
    let more : suc count ≡ count + 1 = omega arith in
    ap (λ k. indexes_from 0 count ++ k ∷ []) here ∙ (by 0 count ∙ ap (indexes_from 0) more)
  where
    by : (first count : ℕ) → indexes_from first count ++ (first + count) ∷ [] ≡ indexes_from first (suc count)
    by first zero = let e : first + 0 ≡ first = omega arith in ap (λ k. k ∷ []) e
    by first (suc count) =
        let e : first + suc count ≡ (first + 1) + count = omega arith in
        ap (λ k. first ∷ (indexes_from (first + 1) count ++ k ∷ [])) e ∙ ap (λ ks. first ∷ ks) (by (first + 1) count)

indexes_from-take : (first count more : ℕ) → count ≤ more → take count (indexes_from first more) ≡ indexes_from first count
indexes_from-take first zero more few = refl
indexes_from-take first (suc count) zero few = absurd (omega arith)
indexes_from-take first (suc count) (suc more) few = ap (λ ks. first ∷ ks) (indexes_from-take (first + 1) count more (omega arith))

-- ---- tokens under one condition

abbrev under : Cond → List Hidden → List (Cond × Token)
under cond ts = tokens_in (map (λ t. (cond, t)) ts)

pub held-under : (names : List (List ℕ)) (list : List (Cond × Hidden)) (cond : Cond) (ts : List Hidden) → list ≡ map (λ t. (cond, t)) ts
    → All (λ (item : Cond × Token). item.1.spelling.0 < length names) (tokens_in list) → All (λ (h : Hidden). h.token.spelling.0 < length names) ts
held-under names list cond ts are held = by ts (subst (λ l. All Held (tokens_in l)) are held)
  where
    Held : Cond × Token → Type 0
    Held item = item.1.spelling.0 < length names

    by : (ts : List Hidden) → All Held (under cond ts) → All (λ (h : Hidden). h.token.spelling.0 < length names) ts
    by ts all k d within =
        let plain : Cond × Hidden → Cond × Token = λ item. (item.0, item.1.token) in
        let pair : Hidden → Cond × Hidden = λ t. (cond, t) in
        let long : length (under cond ts) ≡ length ts = length-map (map pair ts) plain ∙ length-map ts pair in
        let here : get_or (under cond ts) k (plain (pair d)) ≡ plain (pair (get_or ts k d)) = get_or-map plain (map pair ts) k (pair d) ∙ ap plain (get_or-map pair ts k d) in
        subst Held here (all k (plain (pair d)) (omega arith))

abbrev texts_of : List (List ℕ) → List Hidden → List (List ℕ)
texts_of names ts = map (λ t. text_at names t.token.spelling.0) ts

module _ (s : Sets) (cond : Cond) (c : List ℕ) (had : s.has cond.0 c ≡ true) where
  spelled_at-under : (names : List (List ℕ)) (ts : List Hidden) → spelled_at s names (under cond ts) c ≡ texts_of names ts
  spelled_at-under names [] = refl
  spelled_at-under names (t ∷ ts) =
      let text : Token → List ℕ = λ t. text_at names t.spelling.0 in
      let rest : List Token = items_at s (under cond ts) c in
      ap (λ (b : Bool). map text (if b then t.token ∷ rest else rest)) had ∙ ap (λ l. text t.token ∷ l) (spelled_at-under names ts)

  places_from-under : (first : ℕ) (ts : List Hidden) → places_from s first (map (λ (item : Cond × Token). item.0) (under cond ts)) c ≡ indexes_from first (length ts)
  places_from-under first [] = refl
  places_from-under first (t ∷ ts) =
      let rest : List ℕ = places_from s (first + 1) (map (λ (item : Cond × Token). item.0) (under cond ts)) c in
      ap (λ (b : Bool). if b then first ∷ rest else rest) had ∙ ap (λ ks. first ∷ ks) (places_from-under (first + 1) ts)

-- ---- the parenthesis that closes the call

closing_at-group_end : (names : List (List ℕ)) (depth : ℕ) (ts : List Hidden)
    → closing_at depth (texts_of names ts) ≡ group_end (has_text names (codes "(")) (has_text names (codes ")")) depth ts
closing_at-group_end names depth [] = refl
closing_at-group_end names depth (t ∷ ts) =
    by (same_bytes text (codes "(")) (same_bytes text (codes ")")) (same_bytes text (codes ",")) depth (λ d. closing_at-group_end names d ts)
  where
    text : List ℕ
    text = text_at names t.token.spelling.0

    go : ℕ → Option ℕ
    go d = closing_at d (texts_of names ts)

    end : ℕ → Option ℕ
    end d = group_end (has_text names (codes "(")) (has_text names (codes ")")) d ts

    by : (opens closes parts : Bool) (depth : ℕ) → ((d : ℕ) → go d ≡ end d)
        → closing_step (if opens then opening else (if closes then closing else (if parts then comma else other))) depth go ≡ group_step opens closes depth end
    by true closes parts depth same = ap (option_map suc) (same (suc depth))
    by false true parts zero same = refl
    by false true parts (suc depth) same = ap (option_map suc) (same depth)
    by false false true depth same = ap (option_map suc) (same depth)
    by false false false depth same = ap (option_map suc) (same depth)

-- ---- the call

module _ (names : List (List ℕ)) (opening_text : List ℕ) (texts : List (List ℕ)) (index : ℕ) (opens : same_bytes opening_text (codes "(") ≡ true) (closes : closing_at 0 texts ≡ Some index) where
  closed-here : call_end (opening_text ∷ texts) ≡ closed
  closed-here = ap (λ (b : Bool). if b then opened_end (closing_at 0 texts) else bare) opens ∙ ap opened_end closes

  length-here : call_length (opening_text ∷ texts) ≡ suc (suc index)
  length-here = ap (λ (b : Bool). if b then suc (opened_length (length texts) (closing_at 0 texts)) else 0) opens ∙ ap (λ (o : Option ℕ). suc (opened_length (length texts) o)) closes

-- a known call is closed, and its tokens are the first ones
pub IsClosedCall-known : {names : List (List ℕ)} {list : List (Cond × Hidden)} {cond : Cond} {close : ℕ} → IsKnownCall names list cond close
    → (s : Sets) (c : List ℕ) → s.has cond.0 c ≡ true → IsClosedCall s names (tokens_in list) 0 (indexes_from 0 (close + 1)) c
IsClosedCall-known {names} {list} {cond} {close} known s c had = subst (λ l. IsClosedCall s names (tokens_in l) 0 (indexes_from 0 (close + 1)) c) (sym known.are) (by known.tokens known.within known.is)
  where
    by : (ts : List Hidden) → close < length ts → IsParenthesized names ts 1 close → IsClosedCall s names (under cond ts) 0 (indexes_from 0 (close + 1)) c
    by [] within is = absurd (omega arith)
    by (t ∷ []) within is = let behind = is.behind in absurd (omega arith)
    by (t ∷ u ∷ ts) within is =
        let text : List ℕ = text_at names u.token.spelling.0 in
        let closes : closing_at 0 (texts_of names ts) ≡ Some (close - 2) = closing_at-group_end names 0 ts ∙ is.is in
        let opens : same_bytes text (codes "(") ≡ true = is.opening u refl in
        let spelled : spelled_at s names (under cond (u ∷ ts)) c ≡ text ∷ texts_of names ts = spelled_at-under s cond c had names (u ∷ ts) in
        let behind : 1 < close = is.behind in
        let count : ℕ = suc (suc (close - 2)) in
        let long : count ≤ length (u ∷ ts) = omega arith in
        let all : suc count ≡ close + 1 = omega arith in
        let places : List ℕ = places_from s (0 + 1) (map (λ (item : Cond × Token). item.0) (under cond (u ∷ ts))) c in
        record {
          ends = ap call_end spelled ∙ closed-here names text (texts_of names ts) (close - 2) opens closes;
          placed =
              ap (λ l. 0 ∷ take (call_length l) places) spelled
              ∙ (ap (λ n. 0 ∷ take n places) (length-here names text (texts_of names ts) (close - 2) opens closes)
              ∙ (ap (λ ks. 0 ∷ take count ks) (places_from-under s cond c had (0 + 1) (u ∷ ts))
              ∙ (ap (λ ks. 0 ∷ ks) (indexes_from-take (0 + 1) count (length (u ∷ ts)) long)
              ∙ ap (indexes_from 0) all)));
        }

pub and_known : (b x y : Bool) → (b ≡ true → x ≡ y) → (b && x) ≡ (b && y)
and_known true x y is = is refl
and_known false x y is = refl

module _ {names : List (List ℕ)} {list : List (Cond × Hidden)} {cond : Cond} {close : ℕ} (known : IsKnownCall names list cond close) (s : Sets) where
  known_end_at : (end : CallEnd) (c : List ℕ) → (s.has cond.0 c && is_end end closed) ≡ (s.has cond.0 c && is_end end (call_end_at s names (tokens_in list) 0 c))
  known_end_at end c = and_known (s.has cond.0 c) (is_end end closed) (is_end end (call_end_at s names (tokens_in list) 0 c))
      (λ had. ap (is_end end) (sym (IsClosedCall-known known s c had).ends))

  -- its condition is that of all the closed ones
  pub Denotes-closed : IsCond s cond.0 → Denotes s cond.0 (λ c. s.has cond.0 c && is_end closed (call_end_at s names (tokens_in list) 0 c))
  Denotes-closed own = record { own = own; at = λ c listed. sym (and-true (s.has cond.0 c)) ∙ known_end_at closed c }

  -- and there are no others
  pub Denotes-other : (end : CallEnd) {never : ℕ} → is_end end closed ≡ false → Denotes s never (λ _. false) → Denotes s never (λ c. s.has cond.0 c && is_end end (call_end_at s names (tokens_in list) 0 c))
  Denotes-other end differs none = record {
    own = none.own;
    at = λ c listed. none.at c listed ∙ (sym (and-false (s.has cond.0 c)) ∙ (ap (λ (b : Bool). s.has cond.0 c && b) (sym differs) ∙ known_end_at end c));
  }
