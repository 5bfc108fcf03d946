-- Tokens at places, and what a line with them comes to.
use Rattle.std.proofs.Common.{◌≡◌, ℕ, suc, ◌+◌, ◌∷◌, ◌++◌, ◌||◌, not, Bool, true, false, List, [], All, map, slice_get, Option, Some, None, Result, Ok, Err, refl, ap, subst, ◌∙◌, arith, if◌then◌else◌}
use Rattle.std.proofs.lemmas.List.Elements.{All-cons, All-nil}
use Rattle.std.proofs.lemmas.Option.{get_or_from_slice_get, slice_get_within}
use Rattle.std.specs.List.{list_any}
use Rattle.c11_expressions.proofs.Evaluating.{evaluates_err, evaluates_ok}
use Rattle.c11_expressions.proofs.Reader.{reading_tokens, result_of_operand, run_tokens, wanting}
use Rattle.c11_expressions.specs.Arithmetic.{Typed, is_zero}
use Rattle.c11_expressions.specs.Evaluates.{Evaluates}
use Rattle.c11_expressions.specs.Lines as lines
use Rattle.c11_expressions.specs.Lines.{Comes, evaluated, is_defined, left_over}
use Rattle.c11_expressions.specs.Waiting.{Operand}
use Rattle.c11_macros.specs.Hidden.{Failure, Hidden}
use Rattle.c11_macros.specs.Results.{result_map}
use Rattle.c11_macros.specs.Text.{token_of, unhidden}
use Rattle.sc_base.specs.declared.id.Cond.{Cond}
use Rattle.sc_base.specs.declared.token.Token.{Token}
use Rattle.sc_guarded.specs.Items.{items_at}
use Rattle.sc_hoist.specs.Places.{places_from}
use Rattle.sc_if.specs.Decided.{IsAnswer, is_left_over, line_of, picked, tokens_at}
use Rattle.sc_if.specs.Readings.{answer_of, verdict_on}
use Rattle.sc_if.specs.Symbols.{symbol_at}
use Rattle.sc_model.specs.declared.cause.Cause.{Cause}
use Rattle.sc_model.specs.declared.cause.Cause.TheVariants.{BadIf, DefinedFromMacro}
use Rattle.sc_model.specs.Sets.{Sets}
use Rattle.sc_model.specs.Token.{Place}
use Rattle.sc_model.specs.declared.standard.Standard.{Standard}

-- ---- tokens at places

picked-append : (o : Option (Cond × Token)) (xs ys : List Token) → picked o (xs ++ ys) ≡ picked o xs ++ ys
picked-append None xs ys = refl
picked-append (Some item) xs ys = refl

pub tokens_at-push : (list : List (Cond × Token)) (places : List ℕ) (place : ℕ) (item : Cond × Token) → slice_get list place ≡ Some item
    → tokens_at list (places ++ place ∷ []) ≡ tokens_at list places ++ item.1 ∷ []
tokens_at-push list [] place item is = ap (λ o. picked o []) is
tokens_at-push list (p ∷ ps) place item is =
    ap (picked (slice_get list p)) (tokens_at-push list ps place item is) ∙ picked-append (slice_get list p) (tokens_at list ps) (item.1 ∷ [])

-- the tokens at the places of a configuration are those that it has
tokens_from : (s : Sets) (whole : List (Cond × Token)) (c : List ℕ) (xs : List (Cond × Token)) (n : ℕ) → ((k : ℕ) → slice_get whole (n + k) ≡ slice_get xs k)
    → tokens_at whole (places_from s n (map (λ (x : Cond × Token). x.0) xs) c) ≡ items_at s xs c
tokens_from s whole c [] n same = refl
tokens_from s whole c (x ∷ xs) n same =
    let here : n ≡ n + 0 = omega arith in
    by (s.has x.0.0 c) (ap (slice_get whole) here ∙ same 0) (tokens_from s whole c xs (n + 1) (λ k. let next : n + 1 + k ≡ n + (k + 1) = omega arith in ap (slice_get whole) next ∙ (same (k + 1) ∙ further k)))
  where
    further : (k : ℕ) → slice_get (x ∷ xs) (k + 1) ≡ slice_get xs k
    further k = let next : k + 1 ≡ suc k = omega arith in ap (slice_get (x ∷ xs)) next

    by : (b : Bool) → slice_get whole n ≡ Some x → tokens_at whole (places_from s (n + 1) (map (λ (x : Cond × Token). x.0) xs) c) ≡ items_at s xs c
        → tokens_at whole (if b then n ∷ places_from s (n + 1) (map (λ (x : Cond × Token). x.0) xs) c else places_from s (n + 1) (map (λ (x : Cond × Token). x.0) xs) c)
        ≡ (if b then x.1 ∷ items_at s xs c else items_at s xs c)
    by true is rest = ap (λ o. picked o (tokens_at whole (places_from s (n + 1) (map (λ (x : Cond × Token). x.0) xs) c))) is ∙ ap (λ ts. x.1 ∷ ts) rest
    by false is rest = rest

pub tokens_at-places : (s : Sets) (list : List (Cond × Token)) (c : List ℕ) → tokens_at list (places_from s 0 (map (λ (x : Cond × Token). x.0) list) c) ≡ items_at s list c
tokens_at-places s list c = tokens_from s list c list 0 (λ k. let same : 0 + k ≡ k = omega arith in ap (slice_get list) same)

pub tokens_at-All : (P : Token → Type 0) (list : List (Cond × Token)) (places : List ℕ) → All (λ (item : Cond × Token). P item.1) list → All P (tokens_at list places)
tokens_at-All P list [] all = All-nil P
tokens_at-All P list (p ∷ ps) all = by (slice_get list p) refl (tokens_at-All P list ps all)
  where
    by : (o : Option (Cond × Token)) → slice_get list p ≡ o → All P (tokens_at list ps) → All P (picked o (tokens_at list ps))
    by None is rest = rest
    by (Some item) is rest =
        let Q : Cond × Token → Type 0 = λ item. P item.1 in
        let here : Q item = subst Q (get_or_from_slice_get list p item item is) (all p item (slice_get_within list p item is)) in
        All-cons P item.1 (tokens_at list ps) here rest

-- ---- what a line comes to

module _ (standard : Standard) (names files : List (List ℕ)) where
  left_over-line : (ts : List Token) → list_any is_defined (line_of names files ts) ≡ list_any (is_left_over names) ts
  left_over-line [] = refl
  left_over-line (t ∷ ts) = ap (λ b. is_left_over names t || b) (left_over-line ts)

  symbols-line : (ts : List Token) → map (symbol_at standard names) ts ≡ map (lines.symbol_at standard) (line_of names files ts)
  symbols-line [] = refl
  symbols-line (t ∷ ts) = ap (λ l. symbol_at standard names t ∷ l) (symbols-line ts)

module _ (standard : Standard) (names : List (List ℕ)) (ts : List Token) where
  pub answer-left_over : list_any (is_left_over names) ts ≡ true → IsAnswer standard names ts (Err DefinedFromMacro)
  answer-left_over is = record { comes = λ files hash. left_over (line_of names files ts) (left_over-line standard names files ts ∙ is) }

  pub answer-value : (v : Typed) → list_any (is_left_over names) ts ≡ false → Evaluates (map (symbol_at standard names) ts) (Ok v) → IsAnswer standard names ts (Ok (not (is_zero v.number)))
  answer-value v is value = record {
    comes = λ files hash. evaluated (line_of names files ts) (Ok v) (left_over-line standard names files ts ∙ is) (subst (λ l. Evaluates l (Ok v)) (symbols-line standard names files ts) value);
  }

  pub answer-cause : (cause : Cause) → list_any (is_left_over names) ts ≡ false → Evaluates (map (symbol_at standard names) ts) (Err cause) → IsAnswer standard names ts (Err cause)
  answer-cause cause is value = record {
    comes = λ files hash. evaluated (line_of names files ts) (Err cause) (left_over-line standard names files ts ∙ is) (subst (λ l. Evaluates l (Err cause)) (symbols-line standard names files ts) value);
  }

-- and so what was read of it says
answer-verdict : (standard : Standard) (names : List (List ℕ)) (ts : List Token) (o : Option Operand) → list_any (is_left_over names) ts ≡ false → reading_tokens (map (symbol_at standard names) ts) ≡ o → IsAnswer standard names ts (verdict_on o)
answer-verdict standard names ts None is read = answer-cause standard names ts BadIf is (evaluates_err (map (symbol_at standard names) ts) read)
answer-verdict standard names ts (Some x) is read = by (result_of_operand x) (evaluates_ok (map (symbol_at standard names) ts) x read)
  where
    by : (r : Result Typed Cause) → Evaluates (map (symbol_at standard names) ts) r → IsAnswer standard names ts (result_map (λ v. not (is_zero v.number)) r)
    by (Ok v) value = answer-value standard names ts v is value
    by (Err cause) value = answer-cause standard names ts cause is value

pub answer-read : (standard : Standard) (names : List (List ℕ)) (ts : List Token) → list_any (is_left_over names) ts ≡ false → IsAnswer standard names ts (answer_of (run_tokens (wanting []) (map (symbol_at standard names) ts)))
answer-read standard names ts is = answer-verdict standard names ts (reading_tokens (map (symbol_at standard names) ts)) is refl

-- ---- only kinds and spellings tell

defined-tokens : (ts : List (Hidden Place)) → list_any is_defined ts ≡ list_any is_defined (map unhidden (map token_of ts))
defined-tokens [] = refl
defined-tokens (t ∷ ts) = ap (λ b. is_defined t || b) (defined-tokens ts)

module _ (standard : Standard) where
  -- tokens of the same symbols come to the same, if `defined` is left over in both or in neither
  pub comes-same : {P : Type 0} (hash : P) (ts us : List (Hidden P)) (r : Result Bool (Failure P)) → list_any is_defined us ≡ list_any is_defined ts
      → map (lines.symbol_at standard) ts ≡ map (lines.symbol_at standard) us → Comes standard hash (Ok ts) r → Comes standard hash (Ok us) r
  comes-same hash ts us _ both same (left_over _ is) = left_over us (both ∙ is)
  comes-same hash ts us _ both same (evaluated _ r is value) = evaluated us r (both ∙ is) (subst (λ l. Evaluates l r) same value)

  symbols-tokens : (ts : List (Hidden Place)) → map (lines.symbol_at standard) (map unhidden (map token_of ts)) ≡ map (lines.symbol_at standard) ts
  symbols-tokens [] = refl
  symbols-tokens (t ∷ ts) = ap (λ l. lines.symbol_at standard t ∷ l) (symbols-tokens ts)

  -- so what an expansion leaves comes to what its tokens come to
  pub comes-expanded : (hash : Place) (ts : List (Hidden Place)) (r : Result Bool (Failure Place)) → Comes standard hash (Ok (map unhidden (map token_of ts))) r → Comes standard hash (Ok ts) r
  comes-expanded hash ts r = comes-same hash (map unhidden (map token_of ts)) ts r (defined-tokens ts) (symbols-tokens ts)
