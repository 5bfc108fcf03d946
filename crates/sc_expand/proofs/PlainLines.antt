-- What an expansion puts out stands on one line.
use Rattle.std.proofs.Common.{◌≡◌, is_ok, set, ℕ, zero, suc, ◌+◌, ◌==◌, ◌/◌, ◌%◌, ◌&&◌, ◌||◌, not, Bool, true, false, List, [], ◌∷◌, ◌++◌, All, IfOk, map, length, codes, decimal, Option, Some, None, Result, Ok, refl, sym, ap, subst, ◌∙◌, arith, if◌then◌else◌, is_some, nat_lt}
use Rattle.std.proofs.lemmas.List.Folds.{list_any-append}
use Rattle.std.specs.Fmt.{digit_glyph, digits, digits_onto}
use Rattle.c11_macros.specs.Call.{Call, Role, opening, closing, comma, other, apart, arguments_for, call_of, call_step, counts_for, filled_up, given, is_nothing, onto, onto_argument, role_of}
use Rattle.c11_macros.specs.Expansion as expansion
use Rattle.c11_macros.specs.Runs as runs
use Rattle.sc_expand.proofs.Facts.{All-from_recursion, both, ne_eqb, not-true, not_from_false, or_from, or_parts, recursion_from_All}
use Rattle.sc_expand.proofs.Substituting.{Lasts, argument-of, every-append, ok-map, ok-then, substituted-of}
use Rattle.sc_expand.proofs.Terms.{AllByRecursion as Every, AreOneLine, Case, Definition, Each, End, Expands, Failure, Form, HiddenToken as Hidden, HideSet, IfSome, IsInPlace, IsOneLine, IsOneLineList, Item, Leaves, Macros, Passes, Provenance, Replacement, Rescans, Runs, Settles, Uses, argument, asked, beyond, call_case, call_result, called, case_of, defined_case, escaped, fails, file_name, fitted_case, form_case, function_like, has_no_newline, is_looked_up, is_quoted_kind, items, line_number, list_at, list_of, list_slots, looked_up_case, meet, misfit, object_like, over, quoted_spelling, replaced, same_bytes, spellings, spellings_after, stays, substituted, unclosed, waits, wanted_of, with_first, with_name, within}
use Rattle.sc_model.specs.Token.{Place}

every-set : {A : Type 0} (C : A → Type 0) (xs : List A) (n : ℕ) (x : A) → Every C xs → C x → Every C (set xs n x)
every-set C [] n x h k = tt
every-set C (y ∷ ys) zero x h k = (k, h.1)
every-set C (y ∷ ys) (suc n) x h k = (h.0, every-set C ys n x h.1 k)

every-front : {A : Type 0} (C : A → Type 0) (xs ys : List A) → Every C (xs ++ ys) → Every C xs
every-front C [] ys h = tt
every-front C (x ∷ xs) ys h = (h.0, every-front C xs ys h.1)

-- ---- texts

append-plain : (xs ys : List ℕ) → has_no_newline xs ≡ true → has_no_newline ys ≡ true → has_no_newline (xs ++ ys) ≡ true
append-plain xs ys h k = ap not (list_any-append (λ b. b == 10) xs ys) ∙ not_from_false _ (or_from _ _ (not-true _ h) (not-true _ k))

cons-plain : (b : ℕ) (bs : List ℕ) → (b == 10) ≡ false → has_no_newline bs ≡ true → has_no_newline (b ∷ bs) ≡ true
cons-plain b bs differs h = not_from_false _ (or_from _ _ differs (not-true _ h))

pub escaped-plain : (bs : List ℕ) → has_no_newline bs ≡ true → has_no_newline (escaped bs) ≡ true
escaped-plain [] h = refl
escaped-plain (b ∷ bs) h =
    let p = or_parts _ _ (not-true _ h) in
    let rest = cons-plain b (escaped bs) p.0 (escaped-plain bs (not_from_false _ p.1)) in
    both (λ cs. has_no_newline cs ≡ true) (b == 34 || b == 92) (92 ∷ b ∷ escaped bs) (b ∷ escaped bs) (cons-plain 92 (b ∷ escaped bs) refl rest) rest

pub quoted-plain : (bs : List ℕ) → has_no_newline bs ≡ true → has_no_newline (34 ∷ bs ++ 34 ∷ []) ≡ true
quoted-plain bs h = append-plain (34 ∷ bs) (34 ∷ []) (cons-plain 34 bs refl h) refl

glyph-plain : (d : ℕ) → (digit_glyph false d == 10) ≡ false
glyph-plain d = both (λ n. (n == 10) ≡ false) (nat_lt d 10) (48 + d) (87 + d) (ne_eqb (48 + d) 10 (λ e. omega arith)) (ne_eqb (87 + d) 10 (λ e. omega arith))

digits-plain : (k n : ℕ) (bs : List ℕ) → has_no_newline bs ≡ true → has_no_newline (digits_onto k 10 false n bs) ≡ true
digits-plain zero n bs h = h
digits-plain (suc k) n bs h =
    let more = cons-plain (digit_glyph false (n % 10)) bs (glyph-plain (n % 10)) h in
    both (λ cs. has_no_newline cs ≡ true) (n / 10 == 0) (digit_glyph false (n % 10) ∷ bs) (digits_onto k 10 false (n / 10) (digit_glyph false (n % 10) ∷ bs)) more (digits-plain k (n / 10) (digit_glyph false (n % 10) ∷ bs) more)

pub decimal-plain : (n : ℕ) → has_no_newline (decimal n) ≡ true
unfolding digits
decimal-plain n = digits-plain 64 n [] refl

-- ---- replacement lists

abbrev PlainItem : Item → Type 0
PlainItem i = has_no_newline i.spelling ≡ true

abbrev PlainList : List Item → Type 0
PlainList = Every PlainItem

list-plain : (r : Replacement) (place : Place) → IsOneLineList r → has_no_newline place.file ≡ true → PlainList (list_at r place)
list-plain (items list) place h file = recursion_from_All PlainItem list h
list-plain file_name place h file = (quoted-plain (escaped place.file) (escaped-plain place.file file), tt)
list-plain line_number place h file = (decimal-plain place.position.line, tt)

module _ {P : Type 0} (provenance : Provenance P) where
  abbrev Plain : Hidden P → Type 0
  Plain t = IsOneLine provenance t

  abbrev Plains : List (Hidden P) → Type 0
  Plains = Every Plain

  abbrev PlainAnswer : Result (List (Hidden P)) (Failure P) → Type 0
  PlainAnswer r = IfOk r Plains

  quoted_spelling-plain : (t : Hidden P) → Plain t → has_no_newline (quoted_spelling t) ≡ true
  quoted_spelling-plain t h = both (λ bs. has_no_newline bs ≡ true) (is_quoted_kind t.kind) (escaped t.spelling) t.spelling (escaped-plain t.spelling h.spelling) h.spelling

  spellings_after-plain : (ts : List (Hidden P)) → Plains ts → has_no_newline (spellings_after ts) ≡ true
  spellings_after-plain [] h = refl
  spellings_after-plain (t ∷ ts) h =
      let first = quoted_spelling-plain t h.0 in
      append-plain (if t.space then 32 ∷ quoted_spelling t else quoted_spelling t) (spellings_after ts)
      (both (λ bs. has_no_newline bs ≡ true) t.space (32 ∷ quoted_spelling t) (quoted_spelling t) (cons-plain 32 (quoted_spelling t) refl first) first)
      (spellings_after-plain ts h.1)

  spellings-plain : (ts : List (Hidden P)) → Plains ts → has_no_newline (spellings ts) ≡ true
  spellings-plain [] h = refl
  spellings-plain (t ∷ ts) h = append-plain (quoted_spelling t) (spellings_after ts) (quoted_spelling-plain t h.0) (spellings_after-plain ts h.1)

  -- ---- calls

  record PlainCall (found : Call P) : Type 0 where
    arguments : Every Plains found.arguments
    close : Plain found.close
    rest : Plains found.rest

  onto_argument-plain : (t : Hidden P) (arguments : List (List (Hidden P))) → Plain t → Every Plains arguments → Every Plains (onto_argument t arguments)
  onto_argument-plain t [] h k = ((h, tt), tt)
  onto_argument-plain t (argument ∷ arguments) h k = ((h, k.0), k.1)

  onto-plain : (t : Hidden P) (o : Option (Call P)) → Plain t → IfSome o PlainCall → IfSome (onto t o) PlainCall
  onto-plain t None h k = tt
  onto-plain t (Some found) h k = record { arguments = onto_argument-plain t found.arguments h k.arguments; close = k.close; rest = k.rest }

  apart-plain : (o : Option (Call P)) → IfSome o PlainCall → IfSome (apart o) PlainCall
  apart-plain None k = tt
  apart-plain (Some found) k = record { arguments = (tt, k.arguments); close = k.close; rest = k.rest }

  call_step-plain : (role : Role) (commas depth : ℕ) (t : Hidden P) (ts : List (Hidden P)) (go : ℕ → ℕ → Option (Call P)) → Plain t → Plains ts → ((c d : ℕ) → IfSome (go c d) PlainCall)
      → IfSome (call_step role commas depth t ts go) PlainCall
  call_step-plain closing commas zero t ts go h k rec = record { arguments = (tt, tt); close = h; rest = k }
  call_step-plain closing commas (suc depth) t ts go h k rec = onto-plain t (go commas depth) h (rec commas depth)
  call_step-plain opening commas depth t ts go h k rec = onto-plain t (go commas (suc depth)) h (rec commas (suc depth))
  call_step-plain comma (suc commas) zero t ts go h k rec = apart-plain (go commas zero) (rec commas zero)
  call_step-plain comma zero zero t ts go h k rec = onto-plain t (go zero zero) h (rec zero zero)
  call_step-plain comma zero (suc depth) t ts go h k rec = onto-plain t (go zero (suc depth)) h (rec zero (suc depth))
  call_step-plain comma (suc commas) (suc depth) t ts go h k rec = onto-plain t (go (suc commas) (suc depth)) h (rec (suc commas) (suc depth))
  call_step-plain other commas depth t ts go h k rec = onto-plain t (go commas depth) h (rec commas depth)

  call_of-plain : (commas depth : ℕ) (ts : List (Hidden P)) → Plains ts → IfSome (call_of commas depth ts) PlainCall
  call_of-plain commas depth [] h = tt
  call_of-plain commas depth (t ∷ ts) h = call_step-plain (role_of t.spelling) commas depth t ts (λ c d. call_of c d ts) h.0 h.1 (λ c d. call_of-plain c d ts h.1)

  given-plain : (parameters : List (List ℕ)) (variadic : Bool) (arguments : List (List (Hidden P))) → Every Plains arguments → Every Plains (given parameters variadic arguments)
  given-plain [] false arguments h = both (Every Plains) (is_nothing arguments) [] arguments tt h
  given-plain [] true arguments h = h
  given-plain (p ∷ ps) false arguments h = h
  given-plain (p ∷ ps) true arguments h = h

  filled_up-plain : (parameters : List (List ℕ)) (variadic : Bool) (arguments : List (List (Hidden P))) → Every Plains arguments → Every Plains (filled_up parameters variadic arguments)
  filled_up-plain parameters variadic arguments h =
      both (Every Plains) (variadic && length arguments == length parameters) (arguments ++ [] ∷ []) arguments (every-append Plains arguments ([] ∷ []) h (tt, tt)) h

  arguments_for-plain : (parameters : List (List ℕ)) (variadic : Bool) (arguments : List (List (Hidden P))) → Every Plains arguments → IfSome (arguments_for parameters variadic arguments) (Every Plains)
  arguments_for-plain parameters variadic arguments h =
      let list = given parameters variadic arguments in
      both (λ (o : Option (List (List (Hidden P)))). IfSome o (Every Plains)) (counts_for parameters variadic (length list)) (Some (filled_up parameters variadic list)) None
      (filled_up-plain parameters variadic list (given-plain parameters variadic arguments h)) tt

  -- ---- what is to be done at a token

  record PlainCalled (d : Definition) (lists : List (List (Hidden P))) (last : Hidden P) (rest : List (Hidden P)) : Type 0 where
    list : IsOneLineList d.replacement
    arguments : Every Plains lists
    close : Plain last
    after : Plains rest

  abbrev PlainCase : Case P → Type 0
  PlainCase stays = Unit {0}
  PlainCase (replaced d) = IsOneLineList d.replacement
  PlainCase unclosed = Unit {0}
  PlainCase (misfit after) = Unit {0}
  PlainCase (called d arguments close after) = PlainCalled d arguments close after

  fitted-plain : (d : Definition) (close : Hidden P) (rest : List (Hidden P)) (o : Option (List (List (Hidden P)))) → IsOneLineList d.replacement → Plain close → Plains rest → IfSome o (Every Plains)
      → PlainCase (fitted_case d close rest o)
  fitted-plain d close rest None list own more h = tt
  fitted-plain d close rest (Some arguments) list own more h = record { list = list; arguments = h; close = own; after = more }

  call_case-plain : (d : Definition) (parameters : List (List ℕ)) (variadic : Bool) (o : Option (Call P)) → IsOneLineList d.replacement → IfSome o PlainCall → PlainCase (call_case d parameters variadic o)
  call_case-plain d parameters variadic None list h = tt
  call_case-plain d parameters variadic (Some found) list h =
      fitted-plain d found.close found.rest (arguments_for parameters variadic found.arguments) list h.close h.rest (arguments_for-plain parameters variadic found.arguments h.arguments)

  form_case-plain : (d : Definition) (form : Form) (rest : List (Hidden P)) → IsOneLineList d.replacement → Plains rest → PlainCase (form_case d form rest)
  form_case-plain d object_like rest list h = list
  form_case-plain d (function_like parameters variadic) [] list h = tt
  form_case-plain d (function_like parameters variadic) (t ∷ ts) list h =
      let here = call_of (length parameters) zero ts in
      both PlainCase (same_bytes t.spelling (codes "(")) (call_case d parameters (is_some variadic) here) stays (call_case-plain d parameters (is_some variadic) here list (call_of-plain (length parameters) zero ts h.1)) tt

  defined_case-plain : (o : Option Definition) (rest : List (Hidden P)) → ((d : Definition) → o ≡ Some d → IsOneLineList d.replacement) → Plains rest → PlainCase (defined_case o rest)
  defined_case-plain None rest lists h = tt
  defined_case-plain (Some d) rest lists h = form_case-plain d d.form rest (lists d refl) h

  module _ (macros : Macros) (lists : AreOneLine macros) where
    looked_up_case-plain : (looked : Bool) (name : List ℕ) (rest : List (Hidden P)) → Plains rest → PlainCase (looked_up_case macros looked name rest)
    looked_up_case-plain true name rest h = defined_case-plain (macros name) rest (lists.each name) h
    looked_up_case-plain false name rest h = tt

    case-plain : (t : Hidden P) (rest : List (Hidden P)) (k : Case P) → case_of macros t rest ≡ k → Plains rest → PlainCase k
    case-plain t rest k is h = subst PlainCase is (looked_up_case-plain (is_looked_up t) t.spelling rest h)

    with_first-plain : (t : Hidden P) (r : Result (List (Hidden P)) (Failure P)) → Plain t → PlainAnswer r → PlainAnswer (with_first t r)
    with_first-plain t r h k = ok-map Plains Plains (λ ts. t ∷ ts) (λ ts more. (h, more)) r k

    -- ---- replacements and expansions

    module _ (stands : IsInPlace provenance) where
      lasts-plain : (head : Hidden P) → Plain head → Lasts provenance Plain PlainItem head
      lasts-plain head own = record {
        of_item = λ item h. record { spelling = h; file = own.file };
        of_literal = λ space ts h. record { spelling = quoted-plain (spellings ts) (spellings-plain ts h); file = own.file };
        of_paste = λ kind l r h k. record { spelling = append-plain l.spelling r.spelling h.spelling k.spelling; file = h.file };
        of_space = λ space t h. record { spelling = h.spelling; file = h.file };
        of_hide = λ names t h. record { spelling = h.spelling; file = subst (λ (p : Place). has_no_newline p.file ≡ true) (sym (stands.place t.place)) h.file };
      }

      substituted-plain : (form : Form) (list : List Item) (head : Hidden P) (raw expanded : List (List (Hidden P))) (names : HideSet)
          → PlainList list → Plain head → Every Plains raw → Every Plains expanded → PlainAnswer (substituted provenance form list head raw expanded names)
      substituted-plain form list head raw expanded names plain own arguments good = substituted-of provenance Plain PlainItem head (lasts-plain head own) raw expanded arguments good form list names plain

      -- the arguments that are asked for, and the lists before they expand
      asks-plain : (arguments : List (List (Hidden P))) (ns : List ℕ) → Every Plains arguments → Every (λ (ask : ℕ × List (Hidden P)). Plains ask.1) (map (λ n. (n, argument arguments n)) ns)
      asks-plain arguments [] h = tt
      asks-plain arguments (n ∷ ns) h = (argument-of provenance Plain PlainItem arguments n h, asks-plain arguments ns h)

      asked-plain : (d : Definition) (t : Hidden P) (arguments : List (List (Hidden P))) → Every Plains arguments → Every (λ (ask : ℕ × List (Hidden P)). Plains ask.1) (asked provenance d t arguments)
      asked-plain d t arguments h =
          let list = list_of provenance d t in
          both (Every (λ (ask : ℕ × List (Hidden P)). Plains ask.1)) (is_ok (list_slots t arguments d.form list)) (map (λ n. (n, argument arguments n)) (wanted_of d.form list)) [] (asks-plain arguments (wanted_of d.form list) h) tt

      unexpanded-plain : (arguments : List (List (Hidden P))) → Every Plains (map (λ a. []) arguments)
      unexpanded-plain [] = tt
      unexpanded-plain (a ∷ others) = (tt, unexpanded-plain others)

      list_of-plain : (d : Definition) (t : Hidden P) → IsOneLineList d.replacement → Plain t → PlainList (list_of provenance d t)
      list_of-plain d t h own = list-plain d.replacement (provenance.place t.place) h own.file

      mutual
        expands-plain : {ts : List (Hidden P)} {r : Result (List (Hidden P)) (Failure P)} → Expands provenance macros ts r → Plains ts → PlainAnswer r
        expands-plain expansion.empty h = tt
        expands-plain (expansion.stay {t} {r = r} is d) h = with_first-plain t r h.0 (expands-plain d h.1)
        expands-plain (expansion.object {t} {rest} d is g) h =
            let list = list_of-plain d t (case-plain t rest (replaced d) is h.1) h.0 in
            rescans-plain g (substituted-plain d.form (list_of provenance d t) t [] [] (with_name t.hide t.spelling) list h.0 tt tt) h.1
        expands-plain (expansion.unterminated is) h = tt
        expands-plain (expansion.miscounted after is) h = tt
        expands-plain (expansion.call {t} {rest} d arguments close after results is each g) h =
            let k = case-plain t rest (called d arguments close after) is h.1 in
            let list = list_of-plain d t k.list h.0 in
            let names = with_name (meet t.hide close.hide) t.spelling in
            let good = each-plain each (asked-plain d t arguments k.arguments) (unexpanded-plain arguments) in
            rescans-plain g
            (ok-then (Every Plains) Plains (λ lists. substituted provenance d.form (list_of provenance d t) t arguments lists names)
            (λ lists all. substituted-plain d.form (list_of provenance d t) t arguments lists names list h.0 k.arguments all) results good) k.after

        each-plain : {asks : List (ℕ × List (Hidden P))} {lists : List (List (Hidden P))} {r : Result (List (List (Hidden P))) (Failure P)} → Each provenance macros asks lists r
            → Every (λ (ask : ℕ × List (Hidden P)). Plains ask.1) asks → Every Plains lists → IfOk r (Every Plains)
        each-plain expansion.none h k = k
        each-plain (expansion.next {ask} {lists = lists} list first others) h k = each-plain others h.1 (every-set Plains lists ask.0 list k (expands-plain first h.0))
        each-plain (expansion.stops failure first) h k = tt

        rescans-plain : {made : Result (List (Hidden P)) (Failure P)} {rest : List (Hidden P)} {r : Result (List (Hidden P)) (Failure P)} → Rescans provenance macros made rest r → PlainAnswer made → Plains rest → PlainAnswer r
        rescans-plain (expansion.on {body} {rest} d) h k = expands-plain d (every-append Plain body rest h k)
        rescans-plain (expansion.refused failure) h k = tt

      -- where the tokens and the macros' lists stand on one line each
      pub stays-on_one_line : (ts out : List (Hidden P)) → All (IsOneLine provenance) ts → Expands provenance macros ts (Ok out) → All (IsOneLine provenance) out
      stays-on_one_line ts out h d = All-from_recursion Plain out (expands-plain d (recursion_from_All Plain ts h))

      -- ---- what a list settles to

      abbrev PlainEnd : End P → Type 0
      PlainEnd (over after) = Plains after
      PlainEnd (waits name rest) = Plain name × Plains rest
      PlainEnd (fails failure) = Unit {0}

      leaves-plain : {source after front rest taken : List (Hidden P)} → Leaves source after front rest taken → Plains source → Plains after → Plains front × Plains rest
      leaves-plain {source} {front = front} (within is) h k = (every-front Plain front source (subst Plains is k), h)
      leaves-plain (beyond is some) h k = (tt, k)

      call-plain : {t : Hidden P} {body : List (Hidden P)} (d : Definition) (arguments : List (List (Hidden P))) (close : Hidden P) (after : List (Hidden P))
          (results : Result (List (List (Hidden P))) (Failure P)) → PlainCalled d arguments close after → Plain t → Each provenance macros (asked provenance d t arguments) (map (λ a. []) arguments) results
          → call_result provenance d t arguments close results ≡ Ok body → Plains body
      call-plain {t} d arguments close after results k own each made =
          let list = list_of-plain d t k.list own in
          let names = with_name (meet t.hide close.hide) t.spelling in
          let good = each-plain each (asked-plain d t arguments k.arguments) (unexpanded-plain arguments) in
          subst PlainAnswer made
          (ok-then (Every Plains) Plains (λ lists. substituted provenance d.form (list_of provenance d t) t arguments lists names)
          (λ lists all. substituted-plain d.form (list_of provenance d t) t arguments lists names list own k.arguments all) results good)

      runs-plain : {front source done : List (Hidden P)} {end : End P} {u : Uses P} → Runs provenance macros front source done end u → Plains front → Plains source → Plains done × PlainEnd end
      runs-plain runs.used_up h k = (tt, k)
      runs-plain (runs.stay is last g) h k = let more = runs-plain g h.1 k in ((h.0, more.0), more.1)
      runs-plain (runs.alone {front = front} {source} is) h k = (tt, (h.0, every-append Plain front source h.1 k))
      runs-plain (runs.open_call {front = front} {source} is) h k = (tt, (h.0, every-append Plain front source h.1 k))
      runs-plain (runs.object {t} {front} {source} d body is made g) h k =
          let list = list_of-plain d t (case-plain t (front ++ source) (replaced d) is (every-append Plain front source h.1 k)) h.0 in
          let new = subst PlainAnswer made (substituted-plain d.form (list_of provenance d t) t [] [] (with_name t.hide t.spelling) list h.0 tt tt) in
          runs-plain g (every-append Plain body front new h.1) k
      runs-plain (runs.call {t} {front} {source} d arguments close after left rest taken body results is leaves each made g) h k =
          let called = case-plain t (front ++ source) (called d arguments close after) is (every-append Plain front source h.1 k) in
          let behind = leaves-plain leaves k called.after in
          runs-plain g (every-append Plain body left (call-plain d arguments close after results called h.0 each made) behind.0) behind.1
      runs-plain (runs.bad_object d failure is made) h k = (tt, tt)
      runs-plain (runs.bad_count after left rest taken is leaves) h k = (tt, tt)
      runs-plain (runs.bad_call d arguments close after left rest taken results failure is leaves each made) h k = (tt, tt)

      passes-plain : {ts done left : List (Hidden P)} → Passes provenance macros ts done left → Plains ts → Plains done × Plains left
      passes-plain runs.begins h = (tt, h)
      passes-plain (runs.goes_on {out} {done} u first last) h =
          let before = passes-plain first h in
          let now = runs-plain last (before.1.0, tt) before.1.1 in
          (every-append Plain out done before.0 now.0, now.1)

      -- so do what they settle to and what is left
      pub settles-on_one_line : (ts done left : List (Hidden P)) → All (IsOneLine provenance) ts → Settles provenance macros ts done left
          → All (IsOneLine provenance) done × All (IsOneLine provenance) left
      settles-on_one_line ts done left h d =
          let found = by d (recursion_from_All Plain ts h) in
          (All-from_recursion Plain done found.0, All-from_recursion Plain left found.1)
        where
          by : {ts done left : List (Hidden P)} → Settles provenance macros ts done left → Plains ts → Plains done × Plains left
          by (runs.whole first) h = passes-plain first h
          by (runs.open_end {out} {done} u first last) h =
              let before = passes-plain first h in
              let now = runs-plain last (before.1.0, tt) before.1.1 in
              (every-append Plain out done before.0 now.0, now.1)
