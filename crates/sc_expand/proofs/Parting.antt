-- The tokens between the parentheses of a call, parted, are its arguments (C11 6.10.3p11).
use Rattle.std.proofs.Common.{◌≡◌, ◌<◌, ℕ, zero, suc, ◌+◌, ◌-◌, List, [], ◌∷◌, ◌++◌, length, Option, Some, None, ap, sym, ◌∙◌, ◌≤◌, refl, arith, drop, slice_get, take, Bool, true, false, map, if◌then◌else◌, get_or, codes}
use Rattle.c11_macros.specs.Call.{Call, call_of, call_step, onto, apart, Role, opening, closing, comma, other, role_of, onto_argument}
use Rattle.sc_expand.proofs.Facts.{append-nil, append_assoc, drop-append-le, drop-take, drop_all, get_or_from_slice_get, length-append, length-take, map-append, slice_get_within, take_more, blank, drop-drop, drop_more, length-take-le, slice_get-get_or, take-append-add, take-append-drop}
use Rattle.sc_expand.proofs.Terms.{HiddenToken as Hidden, IsParting, Name, begun_with, depth_behind, parted, parting_step, seen_arguments, seen_hidden, seen_list, IsParenthesized, group_end, group_step, option_map, parted_with, same_bytes}
use Rattle.sc_expand.specs.declared.arguments.Parting.{Parting}
use Rattle.sc_subst.specs.declared.hidden.Hidden as declared

module _ {P : Type 0} where
  -- what a call is that begins with a token
  record Onto (t : Hidden P) (r : Option (Call P)) (call : Call P) : Type 0 where
    inner : Call P
    is : r ≡ Some inner
    made : record inner { arguments = onto_argument t inner.arguments } ≡ call

  onto-some : (t : Hidden P) (r : Option (Call P)) (call : Call P) → onto t r ≡ Some call → Onto t r call
  onto-some t None call e = absurd (cc)
  onto-some t (Some inner) call e = record { inner = inner; is = refl; made = cc }

  record Apart (r : Option (Call P)) (call : Call P) : Type 0 where
    inner : Call P
    is : r ≡ Some inner
    made : record inner { arguments = [] ∷ inner.arguments } ≡ call

  apart-some : (r : Option (Call P)) (call : Call P) → apart r ≡ Some call → Apart r call
  apart-some None call e = absurd (cc)
  apart-some (Some inner) call e = record { inner = inner; is = refl; made = cc }

  -- what follows a call is shorter than what its parenthesis stands before
  shorter_onto : (commas depth : ℕ) (t : Hidden P) (ts : List (Hidden P)) (go : ℕ → ℕ → Option (Call P)) → ((c d : ℕ) (call : Call P) → go c d ≡ Some call → length call.rest < length ts)
      → (call : Call P) → Onto t (go commas depth) call → length call.rest < length ts + 1
  shorter_onto commas depth t ts go less call inner =
      let rest : inner.inner.rest ≡ call.rest = ap (λ (c : Call P). c.rest) inner.made in
      omega (arith, less commas depth inner.inner inner.is, ap length rest)

  shorter_step : (role : Role) (commas depth : ℕ) (t : Hidden P) (ts : List (Hidden P)) (go : ℕ → ℕ → Option (Call P)) → ((c d : ℕ) (call : Call P) → go c d ≡ Some call → length call.rest < length ts)
      → (call : Call P) → call_step role commas depth t ts go ≡ Some call → length call.rest < length ts + 1
  shorter_step closing commas zero t ts go less call e =
      let rest : ts ≡ call.rest = cc in
      omega (arith, ap length rest)
  shorter_step closing commas (suc depth) t ts go less call e = shorter_onto commas depth t ts go less call (onto-some t (go commas depth) call e)
  shorter_step opening commas depth t ts go less call e = shorter_onto commas (suc depth) t ts go less call (onto-some t (go commas (suc depth)) call e)
  shorter_step comma (suc commas) zero t ts go less call e =
      let inner = apart-some (go commas zero) call e in
      let short = less commas zero inner.inner inner.is in
      let rest : inner.inner.rest ≡ call.rest = ap (λ (c : Call P). c.rest) inner.made in
      omega (arith, short, ap length rest)
  shorter_step comma zero zero t ts go less call e = shorter_onto zero zero t ts go less call (onto-some t (go zero zero) call e)
  shorter_step comma commas (suc depth) t ts go less call e = shorter_onto commas (suc depth) t ts go less call (onto-some t (go commas (suc depth)) call e)
  shorter_step other commas depth t ts go less call e = shorter_onto commas depth t ts go less call (onto-some t (go commas depth) call e)

  shorter : (ts : List (Hidden P)) (commas depth : ℕ) (call : Call P) → call_of commas depth ts ≡ Some call → length call.rest < length ts
  shorter [] commas depth call e = absurd (cc)
  shorter (t ∷ ts) commas depth call e =
      let step = shorter_step (role_of t.spelling) commas depth t ts (λ c d. call_of c d ts) (λ c d. shorter ts c d) call e in
      omega (arith, step)

  -- the call has these arguments and this closing parenthesis
  pub record IsCallOf (lists : List (List (Hidden P))) (end : Hidden P) (call : Call P) : Type 0 where
    pub arguments : call.arguments ≡ lists
    pub close : call.close ≡ end

  module _ (close : Hidden P) (rest : List (Hidden P)) where
    onto_parted : (t : Hidden P) (r : Option (Call P)) (lists : List (List (Hidden P))) → ((call : Call P) → r ≡ Some call → call.rest ≡ rest → IsCallOf lists close call)
        → (call : Call P) → Onto t r call → call.rest ≡ rest → IsCallOf (onto_argument t lists) close call
    onto_parted t r lists parts call inner ends =
        let rest_is : inner.inner.rest ≡ call.rest = ap (λ (c : Call P). c.rest) inner.made in
        let is = parts inner.inner inner.is (rest_is ∙ ends) in
        record {
          arguments = sym (ap (λ (c : Call P). c.arguments) inner.made) ∙ ap (onto_argument t) is.arguments;
          close = sym (ap (λ (c : Call P). c.close) inner.made) ∙ is.close;
        }

    apart_parted : (r : Option (Call P)) (lists : List (List (Hidden P))) → ((call : Call P) → r ≡ Some call → call.rest ≡ rest → IsCallOf lists close call)
        → (call : Call P) → Apart r call → call.rest ≡ rest → IsCallOf ([] ∷ lists) close call
    apart_parted r lists parts call inner ends =
        let rest_is : inner.inner.rest ≡ call.rest = ap (λ (c : Call P). c.rest) inner.made in
        let is = parts inner.inner inner.is (rest_is ∙ ends) in
        record {
          arguments = sym (ap (λ (c : Call P). c.arguments) inner.made) ∙ ap (λ ls. [] ∷ ls) is.arguments;
          close = sym (ap (λ (c : Call P). c.close) inner.made) ∙ is.close;
        }

    parted_step : (role : Role) (commas depth : ℕ) (t : Hidden P) (ts : List (Hidden P)) (go : ℕ → ℕ → Option (Call P)) (lists : ℕ → ℕ → List (List (Hidden P)))
        → ((c d : ℕ) (call : Call P) → go c d ≡ Some call → call.rest ≡ rest → IsCallOf (lists c d) close call)
        → (call : Call P) → call_step role commas depth t (ts ++ close ∷ rest) go ≡ Some call → call.rest ≡ rest → IsCallOf (parting_step role commas depth t lists) close call
    parted_step closing commas zero t ts go lists parts call e ends =
        let long : length (ts ++ close ∷ rest) ≡ length ts + (length rest + 1) = length-append ts (close ∷ rest) ∙ omega arith in
        let behind : ts ++ close ∷ rest ≡ call.rest = cc in
        let same : length (ts ++ close ∷ rest) ≡ length rest = ap length (behind ∙ ends) in
        absurd (omega (arith, long, same))
    parted_step closing commas (suc depth) t ts go lists parts call e ends = onto_parted t (go commas depth) (lists commas depth) (parts commas depth) call (onto-some t (go commas depth) call e) ends
    parted_step opening commas depth t ts go lists parts call e ends =
        onto_parted t (go commas (suc depth)) (lists commas (suc depth)) (parts commas (suc depth)) call (onto-some t (go commas (suc depth)) call e) ends
    parted_step comma (suc commas) zero t ts go lists parts call e ends = apart_parted (go commas zero) (lists commas zero) (parts commas zero) call (apart-some (go commas zero) call e) ends
    parted_step comma zero zero t ts go lists parts call e ends = onto_parted t (go zero zero) (lists zero zero) (parts zero zero) call (onto-some t (go zero zero) call e) ends
    parted_step comma commas (suc depth) t ts go lists parts call e ends =
        onto_parted t (go commas (suc depth)) (lists commas (suc depth)) (parts commas (suc depth)) call (onto-some t (go commas (suc depth)) call e) ends
    parted_step other commas depth t ts go lists parts call e ends = onto_parted t (go commas depth) (lists commas depth) (parts commas depth) call (onto-some t (go commas depth) call e) ends

    -- A call that ends with these tokens has them, parted, as its arguments.
    pub parted_call : (ts : List (Hidden P)) (commas depth : ℕ) (call : Call P) → call_of commas depth (ts ++ close ∷ rest) ≡ Some call → call.rest ≡ rest → IsCallOf (parted commas depth ts) close call
    parted_call [] commas depth call e ends = last_step (role_of close.spelling) commas depth call e ends
      where
        open_end : (t : Hidden P) (c d : ℕ) (call : Call P) → Onto t (call_of c d rest) call → call.rest ≡ rest → IsCallOf ([] ∷ []) close call
        open_end t c d call inner ends =
            let rest_is : inner.inner.rest ≡ rest = ap (λ (c : Call P). c.rest) inner.made ∙ ends in
            absurd (omega (arith, shorter rest c d inner.inner inner.is, ap length rest_is))

        last_step : (role : Role) (commas depth : ℕ) (call : Call P) → call_step role commas depth close rest (λ c d. call_of c d rest) ≡ Some call → call.rest ≡ rest → IsCallOf ([] ∷ []) close call
        last_step closing commas zero call e ends = record { arguments = cc; close = cc }
        last_step closing commas (suc depth) call e ends = open_end close commas depth call (onto-some close (call_of commas depth rest) call e) ends
        last_step opening commas depth call e ends = open_end close commas (suc depth) call (onto-some close (call_of commas (suc depth) rest) call e) ends
        last_step comma (suc commas) zero call e ends =
            let inner = apart-some (call_of commas zero rest) call e in
            let rest_is : inner.inner.rest ≡ rest = ap (λ (c : Call P). c.rest) inner.made ∙ ends in
            absurd (omega (arith, shorter rest commas zero inner.inner inner.is, ap length rest_is))
        last_step comma zero zero call e ends = open_end close zero zero call (onto-some close (call_of zero zero rest) call e) ends
        last_step comma commas (suc depth) call e ends = open_end close commas (suc depth) call (onto-some close (call_of commas (suc depth) rest) call e) ends
        last_step other commas depth call e ends = open_end close commas depth call (onto-some close (call_of commas depth rest) call e) ends
    parted_call (t ∷ ts) commas depth call e ends =
        parted_step (role_of t.spelling) commas depth t ts (λ c d. call_of c d (ts ++ close ∷ rest)) (λ c d. parted c d ts) (λ c d. parted_call ts c d) call e ends

  -- ---- parting, token by token

  begun-onto : (t : Hidden P) (ls : List (List (Hidden P))) → begun_with [] (onto_argument t ls) ≡ onto_argument t ls
  begun-onto t [] = refl
  begun-onto t (l ∷ ls) = refl

  begun-step : (role : Role) (c d : ℕ) (t : Hidden P) (go : ℕ → ℕ → List (List (Hidden P))) → begun_with [] (parting_step role c d t go) ≡ parting_step role c d t go
  begun-step opening c d t go = begun-onto t (go c (suc d))
  begun-step closing c zero t go = begun-onto t (go c zero)
  begun-step closing c (suc d) t go = begun-onto t (go c d)
  begun-step comma (suc c) zero t go = refl
  begun-step comma zero zero t go = begun-onto t (go zero zero)
  begun-step comma c (suc d) t go = begun-onto t (go c (suc d))
  begun-step other c d t go = begun-onto t (go c d)

  -- nothing before the lists changes none
  pub begun-parted : (c d : ℕ) (ts : List (Hidden P)) → begun_with [] (parted c d ts) ≡ parted c d ts
  begun-parted c d [] = refl
  begun-parted c d (t ∷ ts) = begun-step (role_of t.spelling) c d t (λ c d. parted c d ts)

  begun_with-onto : (front : List (Hidden P)) (t : Hidden P) (ls : List (List (Hidden P))) → begun_with front (onto_argument t ls) ≡ begun_with (front ++ t ∷ []) ls
  begun_with-onto front t [] = refl
  begun_with-onto front t (l ∷ ls) = ap (λ x. x ∷ ls) (sym (append_assoc front (t ∷ []) l))

  step_parts : (role : Role) (c d : ℕ) (t : Hidden P) (go : ℕ → ℕ → List (List (Hidden P))) → IsParting role c d → parting_step role c d t go ≡ [] ∷ go (c - 1) zero
  step_parts opening c d t go is = let e : opening ≡ comma = is.separates in absurd (cc)
  step_parts closing c d t go is = let e : closing ≡ comma = is.separates in absurd (cc)
  step_parts other c d t go is = let e : other ≡ comma = is.separates in absurd (cc)
  step_parts comma zero d t go is = absurd (omega (arith, is.some))
  step_parts comma (suc c) zero t go is = let one : c ≡ suc c - 1 = omega arith in ap (λ n. [] ∷ go n zero) one
  step_parts comma (suc c) (suc d) t go is = absurd (omega (arith, is.outside))

  step_onto : (role : Role) (c d : ℕ) (t : Hidden P) (go : ℕ → ℕ → List (List (Hidden P))) → (IsParting role c d → ⊥) → parting_step role c d t go ≡ onto_argument t (go c (depth_behind role d))
  step_onto opening c d t go apart_not = let one : suc d ≡ d + 1 = omega arith in ap (λ n. onto_argument t (go c n)) one
  step_onto closing c zero t go apart_not = let none : zero ≡ zero - 1 = refl in ap (λ n. onto_argument t (go c n)) none
  step_onto closing c (suc d) t go apart_not = let one : d ≡ suc d - 1 = omega arith in ap (λ n. onto_argument t (go c n)) one
  step_onto comma zero zero t go apart_not = refl
  step_onto comma (suc c) zero t go apart_not = absurd (apart_not (record { separates = refl; some = omega arith; outside = refl }))
  step_onto comma zero (suc d) t go apart_not = refl
  step_onto comma (suc c) (suc d) t go apart_not = refl
  step_onto other c d t go apart_not = refl

  -- a token parts the argument in front of it from what follows
  pub parted_apart : (all done : List (List (Hidden P))) (front : List (Hidden P)) (c d : ℕ) (t : Hidden P) (ts : List (Hidden P)) → IsParting (role_of t.spelling) c d
      → all ≡ done ++ begun_with front (parted c d (t ∷ ts)) → all ≡ (done ++ front ∷ []) ++ begun_with [] (parted (c - 1) zero ts)
  parted_apart all done front c d t ts is e =
      e ∙ (ap (λ ls. done ++ begun_with front ls) (step_parts (role_of t.spelling) c d t (λ c d. parted c d ts) is)
      ∙ (ap (λ l. done ++ l ∷ parted (c - 1) zero ts) (append-nil front)
      ∙ (sym (append_assoc done (front ∷ []) (parted (c - 1) zero ts)) ∙ ap (λ ls. (done ++ front ∷ []) ++ ls) (sym (begun-parted (c - 1) zero ts)))))

  -- or it is one more of that argument
  pub parted_onto : (all done : List (List (Hidden P))) (front : List (Hidden P)) (c d : ℕ) (t : Hidden P) (ts : List (Hidden P)) → (IsParting (role_of t.spelling) c d → ⊥)
      → all ≡ done ++ begun_with front (parted c d (t ∷ ts)) → all ≡ done ++ begun_with (front ++ t ∷ []) (parted c (depth_behind (role_of t.spelling) d) ts)
  parted_onto all done front c d t ts apart_not e =
      e ∙ (ap (λ ls. done ++ begun_with front ls) (step_onto (role_of t.spelling) c d t (λ c d. parted c d ts) apart_not)
      ∙ ap (λ ls. done ++ ls) (begun_with-onto front t (parted c (depth_behind (role_of t.spelling) d) ts)))

module _ {A : Type 0} where
  -- what stands from one index on, up to another
  pub between-drop_take : (from to : ℕ) (xs : List A) → from ≤ to → take (to - from) (drop from xs) ≡ drop from (take to xs)
  between-drop_take from to xs ordered =
      let whole : from + (to - from) ≡ to = omega (arith, ordered) in
      sym (drop-take from (to - from) xs) ∙ ap (λ n. drop from (take n xs)) whole

  -- one item more
  pub drop_take-more : (from index : ℕ) (xs : List A) (x : A) → from ≤ index → slice_get xs index ≡ Some x → drop from (take (index + 1) xs) ≡ drop from (take index xs) ++ x ∷ []
  drop_take-more from index xs x ordered at =
      let inside = slice_get_within xs index x at in
      let long : from ≤ length (take index xs) = omega (arith, ordered, inside, length-take index xs) in
      ap (drop from) (take_more xs index x inside ∙ ap (λ y. take index xs ++ y ∷ []) (get_or_from_slice_get xs index x x at)) ∙ drop-append-le from (take index xs) (x ∷ []) long

  -- nothing stands from an index on, up to that index
  pub drop_take-none : (index : ℕ) (xs : List A) → drop index (take index xs) ≡ []
  drop_take-none index xs = drop_all index (take index xs) (omega (arith, length-take index xs))

module _ (names : List (List ℕ)) (sets : List (List Name)) where
  -- one argument more
  pub seen_arguments-push : (made : List (List declared.Hidden)) (last : List declared.Hidden) → seen_arguments names sets (made ++ last ∷ []) ≡ seen_arguments names sets made ++ seen_list names sets last ∷ []
  seen_arguments-push made last = map-append (seen_list names sets) made (last ∷ [])

  -- one token more
  pub seen_list-push : (last : List declared.Hidden) (next : declared.Hidden) → seen_list names sets (last ++ next ∷ []) ≡ seen_list names sets last ++ seen_hidden names sets next ∷ []
  seen_list-push last next = map-append (seen_hidden names sets) last (next ∷ [])

-- ---- no comma parts arguments in a group of inner parentheses (C11 6.10.3p11)

module _ {A : Type 0} where
  -- items before the first of these lists, and others before those
  begun_with-append : (front next : List A) (ls : List (List A)) → begun_with front (begun_with next ls) ≡ begun_with (front ++ next) ls
  begun_with-append front next [] = refl
  begun_with-append front next (l ∷ ls) = ap (λ x. x ∷ ls) (sym (append_assoc front next l))

  -- so many items behind an index
  take_behind : (index count : ℕ) (xs : List A) → index ≤ length xs → take (index + count) xs ≡ take index xs ++ take count (drop index xs)
  take_behind index count xs inside =
      ap (take (index + count)) (sym (take-append-drop index xs))
      ∙ (ap (λ n. take (n + count) (take index xs ++ drop index xs)) (sym (length-take-le index xs inside))
      ∙ take-append-add (take index xs) (drop index xs) count)

  -- what stands from one index on, with so many items more
  drop_take-behind : (from index count : ℕ) (xs : List A) → from ≤ index → index ≤ length xs → drop from (take index xs) ++ take count (drop index xs) ≡ drop from (take (index + count) xs)
  drop_take-behind from index count xs ordered inside =
      let long : from ≤ length (take index xs) = omega (arith, ordered, length-take-le index xs inside) in
      sym (ap (drop from) (take_behind index count xs inside) ∙ drop-append-le from (take index xs) (take count (drop index xs)) long)

-- the end of a group that is found one item later
record Later (o : Option ℕ) (k : ℕ) : Type 0 where
  before : ℕ
  is : o ≡ Some before
  made : suc before ≡ k

later-some : (o : Option ℕ) (k : ℕ) → option_map suc o ≡ Some k → Later o k
later-some None k e = absurd (cc)
later-some (Some j) k e = record { before = j; is = refl; made = cc }

module _ {P : Type 0} where
  begun_with-one : (t : Hidden P) (ls : List (List (Hidden P))) → onto_argument t ls ≡ begun_with (t ∷ []) ls
  begun_with-one t [] = refl
  begun_with-one t (l ∷ ls) = refl

  onto-begun : (t : Hidden P) (front : List (Hidden P)) (ls : List (List (Hidden P))) → onto_argument t (begun_with front ls) ≡ begun_with (t ∷ front) ls
  onto-begun t front [] = refl
  onto-begun t front (l ∷ ls) = refl

module _ {A P : Type 0} (seen : A → Hidden P) where
  -- the tokens up to the end of a group stand in one argument, before what follows the group
  abbrev IsInOne : ℕ → List A → ℕ → ℕ → Type 0
  IsInOne commas xs depth k = parted commas (suc depth) (map seen xs) ≡ begun_with (map seen (take (suc k) xs)) (parted commas 0 (map seen (drop (suc k) xs)))

  one_more : (commas depth k : ℕ) (x : A) (xs : List A) (go : Option ℕ) → ((j : ℕ) → go ≡ Some j → IsInOne commas xs depth j) → Later go k
      → onto_argument (seen x) (parted commas (suc depth) (map seen xs)) ≡ begun_with (map seen (take (suc k) (x ∷ xs))) (parted commas 0 (map seen (drop (suc k) (x ∷ xs))))
  one_more commas depth k x xs go inner later =
      let j = later.before in
      ap (onto_argument (seen x)) (inner j later.is)
      ∙ (onto-begun (seen x) (map seen (take (suc j) xs)) (parted commas 0 (map seen (drop (suc j) xs)))
      ∙ ap (λ n. begun_with (map seen (take (suc n) (x ∷ xs))) (parted commas 0 (map seen (drop (suc n) (x ∷ xs))))) later.made)

  one_step : (opens closes separates : Bool) (commas depth k : ℕ) (x : A) (xs : List A) (go : ℕ → Option ℕ) → ((d j : ℕ) → go d ≡ Some j → IsInOne commas xs d j) → group_step opens closes depth go ≡ Some k
      → parting_step (if opens then opening else (if closes then closing else (if separates then comma else other))) commas (suc depth) (seen x) (λ c d. parted c d (map seen xs))
      ≡ begun_with (map seen (take (suc k) (x ∷ xs))) (parted commas 0 (map seen (drop (suc k) (x ∷ xs))))
  one_step true closes separates commas depth k x xs go inner e = one_more commas (suc depth) k x xs (go (suc depth)) (inner (suc depth)) (later-some (go (suc depth)) k e)
  one_step false true separates commas zero k x xs go inner e =
      let first : 0 ≡ k = cc in
      begun_with-one (seen x) (parted commas 0 (map seen xs)) ∙ ap (λ n. begun_with (map seen (take (suc n) (x ∷ xs))) (parted commas 0 (map seen (drop (suc n) (x ∷ xs))))) first
  one_step false true separates commas (suc depth) k x xs go inner e = one_more commas depth k x xs (go depth) (inner depth) (later-some (go depth) k e)
  one_step false false true commas depth k x xs go inner e = one_more commas depth k x xs (go depth) (inner depth) (later-some (go depth) k e)
  one_step false false false commas depth k x xs go inner e = one_more commas depth k x xs (go depth) (inner depth) (later-some (go depth) k e)

  abbrev opens : A → Bool
  opens x = same_bytes (seen x).spelling (codes "(")

  abbrev closes : A → Bool
  closes x = same_bytes (seen x).spelling (codes ")")

  in_one : (xs : List A) (commas depth k : ℕ) → group_end opens closes depth xs ≡ Some k → IsInOne commas xs depth k
  in_one [] commas depth k e = absurd (cc)
  in_one (x ∷ xs) commas depth k e =
      one_step (opens x) (closes x) (same_bytes (seen x).spelling (codes ",")) commas depth k x xs (λ d. group_end opens closes d xs) (λ d j. in_one xs commas d j) e

  -- the opening parenthesis too
  opening_onto : (opens closes separates : Bool) (commas : ℕ) (t : Hidden P) (go : ℕ → ℕ → List (List (Hidden P))) → opens ≡ true
      → parting_step (if opens then opening else (if closes then closing else (if separates then comma else other))) commas 0 t go ≡ onto_argument t (go commas 1)
  opening_onto true closes separates commas t go e = refl
  opening_onto false closes separates commas t go e = absurd (cc)

  pub group_in_one : (x : A) (xs : List A) (commas k : ℕ) → same_bytes (seen x).spelling (codes "(") ≡ true
      → group_end (λ x. same_bytes (seen x).spelling (codes "(")) (λ x. same_bytes (seen x).spelling (codes ")")) 0 xs ≡ Some k
      → parted commas 0 (map seen (x ∷ xs)) ≡ begun_with (map seen (x ∷ take (suc k) xs)) (parted commas 0 (map seen (drop (suc k) xs)))
  group_in_one x xs commas k begins e =
      opening_onto (opens x) (closes x) (same_bytes (seen x).spelling (codes ",")) commas (seen x) (λ c d. parted c d (map seen xs)) begins
      ∙ (ap (onto_argument (seen x)) (in_one xs commas 0 k e)
      ∙ onto-begun (seen x) (map seen (take (suc k) xs)) (parted commas 0 (map seen (drop (suc k) xs))))

module _ (names : List (List ℕ)) (sets : List (List Name)) where
  -- a group belongs to one argument
  pub group_parted : (between : List declared.Hidden) (index close : ℕ) (p : Parting) → p.begin ≤ index → index < length between → p.depth ≡ 0 → IsParenthesized names between index close
      → parted_with names sets between index p (seen_list names sets (drop index between)) ≡ parted_with names sets between (close + 1) p (seen_list names sets (drop (close + 1) between))
  group_parted between index close p ordered inside outside group =
      let seen = seen_hidden names sets in
      let x = get_or between index blank in
      let behind = drop (index + 1) between in
      let k = close - (index + 1) in
      let done = seen_arguments names sets p.arguments.items in
      let front = drop p.begin (take index between) in
      let rest = parted p.commas 0 (seen_list names sets (drop (close + 1) between)) in
      let next : drop index between ≡ x ∷ behind = drop_more between index blank inside in
      let all : index + suc (suc k) ≡ close + 1 = omega (arith, group.behind) in
      let others : index + 1 + suc k ≡ close + 1 = omega (arith, group.behind) in
      let left : drop (suc k) behind ≡ drop (close + 1) between = drop-drop (suc k) (index + 1) between ∙ ap (λ n. drop n between) others in
      let taken : front ++ x ∷ take (suc k) behind ≡ drop p.begin (take (close + 1) between) =
      ap (λ l. front ++ take (suc (suc k)) l) (sym next)
      ∙ (drop_take-behind p.begin index (suc (suc k)) between ordered (omega (arith, inside))
      ∙ ap (λ n. drop p.begin (take n between)) all) in
      let one : parted p.commas 0 (seen_list names sets (drop index between)) ≡ begun_with (seen_list names sets (x ∷ take (suc k) behind)) rest =
      ap (λ l. parted p.commas 0 (seen_list names sets l)) next
      ∙ (group_in_one seen x behind p.commas k (group.opening x (slice_get-get_or between index blank inside)) group.is
      ∙ ap (λ l. begun_with (seen_list names sets (x ∷ take (suc k) behind)) (parted p.commas 0 (seen_list names sets l))) left) in
      ap (λ n. done ++ begun_with (seen_list names sets front) (parted p.commas n (seen_list names sets (drop index between)))) outside
      ∙ (ap (λ ls. done ++ begun_with (seen_list names sets front) ls) one
      ∙ (ap (λ ls. done ++ ls) (begun_with-append (seen_list names sets front) (seen_list names sets (x ∷ take (suc k) behind)) rest)
      ∙ (ap (λ l. done ++ begun_with l rest) (sym (map-append seen front (x ∷ take (suc k) behind)) ∙ ap (seen_list names sets) taken)
      ∙ ap (λ n. done ++ begun_with (seen_list names sets (drop p.begin (take (close + 1) between))) (parted p.commas n (seen_list names sets (drop (close + 1) between)))) (sym outside))))
