-- What the definition makes of a line, by its first piece.
use Rattle.std.proofs.Common.{◌≡◌, ℕ, ◌<◌, ◌&&◌, Bool, true, false, not, List, [], ◌∷◌, ◌++◌, ◌+◌, All, Result, Ok, Err, Option, Some, None, IfSome, IfNone, codes, map, length, refl, sym, ap, subst, ◌∙◌, append_assoc, append-nil, length-append, arith, if◌then◌else◌}
use Rattle.std.proofs.lemmas.List.{map-append}
use Rattle.std.proofs.lemmas.List.Elements.{All-tail}
use Rattle.c11_expressions.specs.Lines.{before, definedness, in_parentheses, is_defined, is_identifier, without_defined}
use Rattle.c11_macros.specs.Hidden.{Hidden}
use Rattle.c11_macros.specs.Macros.{Macros}
use Rattle.c11_macros.specs.Results.{result_map}
use Rattle.sc_base.specs.declared.place.Place.{Place}
use Rattle.sc_base.specs.declared.token.Token.{Token}
use Rattle.sc_if.specs.declared.piece.Piece.{Piece}
use Rattle.sc_if.specs.Replaced.{IsEnd, seen_piece, unhidden}
use Rattle.sc_model.specs.Bytes.{same_bytes}
use Rattle.sc_model.specs.declared.cause.Cause.{Cause}
use Rattle.sc_model.specs.declared.cause.Cause.TheVariants.{BadIf}

if-true : {A : Type 0} (b : Bool) (x y : A) → b ≡ true → (if b then x else y) ≡ x
if-true b x y e = ap (λ b. if b then x else y) e

if-false : {A : Type 0} (b : Bool) (x y : A) → b ≡ false → (if b then x else y) ≡ y
if-false b x y e = ap (λ b. if b then x else y) e

if-not_true : {A : Type 0} (b : Bool) (x y : A) → b ≡ true → (if not b then x else y) ≡ y
if-not_true b x y e = ap (λ b. if not b then x else y) e

if-not_false : {A : Type 0} (b : Bool) (x y : A) → b ≡ false → (if not b then x else y) ≡ x
if-not_false b x y e = ap (λ b. if not b then x else y) e

both-true : (a b : Bool) → a ≡ true → b ≡ true → (a && b) ≡ true
both-true a b x y = ap (λ a. a && b) x ∙ y

first-false : (a b : Bool) → a ≡ false → (a && b) ≡ false
first-false a b x = ap (λ a. a && b) x

second-false : (a b : Bool) → a ≡ true → b ≡ false → (a && b) ≡ false
second-false a b x y = ap (λ a. a && b) x ∙ y

module _ {P : Type 0} (macros : Macros) (t : Hidden P) where
  -- behind an opening parenthesis
  pub closed : (name u : Hidden P) (ts : List (Hidden P)) → is_identifier name ≡ true → same_bytes u.spelling (codes ")") ≡ true
      → in_parentheses macros t (name ∷ (u ∷ ts)) ≡ before (definedness macros t name) (without_defined macros ts)
  closed name u ts a b =
      if-true (is_identifier name && same_bytes u.spelling (codes ")")) (before (definedness macros t name) (without_defined macros ts)) (Err BadIf) (both-true (is_identifier name) (same_bytes u.spelling (codes ")")) a b)

  pub nameless : (name u : Hidden P) (ts : List (Hidden P)) → is_identifier name ≡ false → in_parentheses macros t (name ∷ (u ∷ ts)) ≡ Err BadIf
  nameless name u ts a =
      if-false (is_identifier name && same_bytes u.spelling (codes ")")) (before (definedness macros t name) (without_defined macros ts)) (Err BadIf) (first-false (is_identifier name) (same_bytes u.spelling (codes ")")) a)

  pub unclosed : (name u : Hidden P) (ts : List (Hidden P)) → is_identifier name ≡ true → same_bytes u.spelling (codes ")") ≡ false → in_parentheses macros t (name ∷ (u ∷ ts)) ≡ Err BadIf
  unclosed name u ts a b =
      if-false (is_identifier name && same_bytes u.spelling (codes ")")) (before (definedness macros t name) (without_defined macros ts)) (Err BadIf) (second-false (is_identifier name) (same_bytes u.spelling (codes ")")) a b)

  -- a token that is not `defined`
  pub stays : (ts : List (Hidden P)) → is_defined t ≡ false → without_defined macros (t ∷ ts) ≡ before t (without_defined macros ts)
  stays [] e = if-false (is_defined t) (Err BadIf) (Ok (t ∷ [])) e
  stays (u ∷ ts) e = ap (λ b. if not b then before t (without_defined macros (u ∷ ts))
      else (if is_identifier u then before (definedness macros t u) (without_defined macros ts)
      else (if same_bytes u.spelling (codes "(") then in_parentheses macros t ts
      else Err BadIf))) e

  module _ (is : is_defined t ≡ true) where
    pub at_end : without_defined macros (t ∷ []) ≡ Err BadIf
    at_end = if-true (is_defined t) (Err BadIf) (Ok (t ∷ [])) is

    opened : (u : Hidden P) (ts : List (Hidden P)) → without_defined macros (t ∷ (u ∷ ts)) ≡ (if is_identifier u then before (definedness macros t u) (without_defined macros ts)
        else (if same_bytes u.spelling (codes "(") then in_parentheses macros t ts else Err BadIf))
    opened u ts = ap (λ b. if not b then before t (without_defined macros (u ∷ ts))
        else (if is_identifier u then before (definedness macros t u) (without_defined macros ts)
        else (if same_bytes u.spelling (codes "(") then in_parentheses macros t ts
        else Err BadIf))) is

    pub named : (u : Hidden P) (ts : List (Hidden P)) → is_identifier u ≡ true → without_defined macros (t ∷ (u ∷ ts)) ≡ before (definedness macros t u) (without_defined macros ts)
    named u ts name = opened u ts ∙ ap (λ b. if b then before (definedness macros t u) (without_defined macros ts)
        else (if same_bytes u.spelling (codes "(") then in_parentheses macros t ts else Err BadIf)) name

    apart : (u : Hidden P) (ts : List (Hidden P)) → is_identifier u ≡ false → without_defined macros (t ∷ (u ∷ ts)) ≡ (if same_bytes u.spelling (codes "(") then in_parentheses macros t ts else Err BadIf)
    apart u ts name = opened u ts ∙ ap (λ b. if b then before (definedness macros t u) (without_defined macros ts)
        else (if same_bytes u.spelling (codes "(") then in_parentheses macros t ts else Err BadIf)) name

    pub parenthesized : (u : Hidden P) (ts : List (Hidden P)) → is_identifier u ≡ false → same_bytes u.spelling (codes "(") ≡ true → without_defined macros (t ∷ (u ∷ ts)) ≡ in_parentheses macros t ts
    parenthesized u ts name mark = apart u ts name ∙ ap (λ b. if b then in_parentheses macros t ts else Err BadIf) mark

    pub unnamed : (u : Hidden P) (ts : List (Hidden P)) → is_identifier u ≡ false → same_bytes u.spelling (codes "(") ≡ false → without_defined macros (t ∷ (u ∷ ts)) ≡ Err BadIf
    unnamed u ts name mark = apart u ts name ∙ ap (λ b. if b then in_parentheses macros t ts else Err BadIf) mark

-- ---- a list after these items

abbrev pub after : {A E : Type 0} → List A → Result (List A) E → Result (List A) E
after xs r = result_map (λ ys. xs ++ ys) r

after-push : {A E : Type 0} (xs : List A) (x : A) (r : Result (List A) E) → after xs (result_map (λ ys. x ∷ ys) r) ≡ after (xs ++ x ∷ []) r
after-push xs x (Ok ys) = ap (λ zs. Ok zs) (sym (append_assoc xs (x ∷ []) ys))
after-push xs x (Err e) = refl

-- ---- what is left of a list

pub IsEnd-refl : (ts : List Token) → IsEnd ts ts
IsEnd-refl ts = record { front = []; is = refl }

pub IsEnd-behind : (t : Token) (rest behind list : List Token) → list ≡ t ∷ behind → IsEnd rest behind → IsEnd rest list
IsEnd-behind t rest behind list is part = record { front = t ∷ part.front; is = is ∙ ap (λ ts. t ∷ ts) part.is }

pub All-end : (P : Token → Type 0) (rest list : List Token) → IsEnd rest list → All P list → All P rest
All-end P rest list part all = by part.front list part.is all
  where
    by : (front list : List Token) → list ≡ front ++ rest → All P list → All P rest
    by [] list is all = subst (All P) is all
    by (t ∷ front) list is all = by front (front ++ rest) refl (All-tail P t (front ++ rest) (subst (All P) is all))

-- ---- answers

pub if_some : {A : Type 0} (P Q : A → Type 0) (o : Option A) → ((a : A) → P a → Q a) → IfSome o P → IfSome o Q
if_some P Q None f h = tt
if_some P Q (Some a) f h = f a h

pub if_none : {A : Type 0} (P Q : Type 0) (o : Option A) → (P → Q) → IfNone o P → IfNone o Q
if_none P Q None f h = f h
if_none P Q (Some a) f h = h

-- ---- the loop

-- so many tokens fewer
pub shorter : (t : Token) (rest behind left : List Token) → rest ≡ t ∷ behind → IsEnd left behind → length left < length rest
shorter t rest behind left is part =
    let a : length rest ≡ length (t ∷ behind) = ap length is in
    let b : length behind ≡ length (part.front ++ left) = ap length part.is in
    let l : length (part.front ++ left) ≡ length part.front + length left = length-append part.front left in
    omega arith

pub IsEnd-step : (t : Token) (line rest behind left : List Token) → IsEnd rest line → rest ≡ t ∷ behind → IsEnd left behind → IsEnd left line
IsEnd-step t line rest behind left was is part = record {
  front = was.front ++ t ∷ part.front;
  is = was.is ∙ (ap (λ ts. was.front ++ ts) (is ∙ ap (λ ts. t ∷ ts) part.is) ∙ sym (append_assoc was.front (t ∷ part.front) left));
}

module _ (macros : Macros) (names : List (List ℕ)) where
  pub reading-step : (t : Token) (p : Piece) (pieces : List Piece) (line rest behind left : List Token)
      → without_defined macros (map (unhidden names) line) ≡ after (map (seen_piece macros names) pieces) (without_defined macros (map (unhidden names) rest))
      → rest ≡ t ∷ behind
      → without_defined macros (map (unhidden names) (t ∷ behind)) ≡ before (seen_piece macros names p) (without_defined macros (map (unhidden names) left))
      → without_defined macros (map (unhidden names) line) ≡ after (map (seen_piece macros names) (pieces ++ p ∷ [])) (without_defined macros (map (unhidden names) left))
  reading-step t p pieces line rest behind left was is read =
      was ∙ (ap (λ ts. after (map (seen_piece macros names) pieces) (without_defined macros (map (unhidden names) ts))) is
      ∙ (ap (after (map (seen_piece macros names) pieces)) read
      ∙ (after-push (map (seen_piece macros names) pieces) (seen_piece macros names p) (without_defined macros (map (unhidden names) left))
      ∙ ap (λ xs. after xs (without_defined macros (map (unhidden names) left))) (sym (map-append (seen_piece macros names) pieces (p ∷ []))))))

  -- a line that is refused from some piece on
  pub refused-line : (pieces : List Piece) (line rest : List Token)
      → without_defined macros (map (unhidden names) line) ≡ after (map (seen_piece macros names) pieces) (without_defined macros (map (unhidden names) rest))
      → without_defined macros (map (unhidden names) rest) ≡ Err BadIf → without_defined macros (map (unhidden names) line) ≡ Err BadIf
  refused-line pieces line rest was refused = was ∙ ap (after (map (seen_piece macros names) pieces)) refused

  -- and one that is read to its end
  pub read-line : (pieces : List Piece) (line rest : List Token)
      → without_defined macros (map (unhidden names) line) ≡ after (map (seen_piece macros names) pieces) (without_defined macros (map (unhidden names) rest))
      → length rest ≡ 0 → without_defined macros (map (unhidden names) line) ≡ Ok (map (seen_piece macros names) pieces)
  read-line pieces line [] was none = was ∙ ap (λ ts. Ok ts) (append-nil (map (seen_piece macros names) pieces))
  read-line pieces line (t ∷ rest) was none = absurd (omega arith)

  pub begun-line : (line : List Token) → without_defined macros (map (unhidden names) line) ≡ after [] (without_defined macros (map (unhidden names) line))
  begun-line line = by (without_defined macros (map (unhidden names) line))
    where
      by : (r : Result (List (Hidden Place)) Cause) → r ≡ after [] r
      by (Ok ts) = refl
      by (Err e) = refl
