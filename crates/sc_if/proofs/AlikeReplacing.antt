-- Configurations that have the same of a line have the same of its replaced tokens.
use Rattle.std.proofs.Common.{◌≡◌, ℕ, ◌&&◌, ◌++◌, ◌∷◌, [], Bool, true, false, List, All, Ok, Result, codes, eqb, get_or, is_some, map, refl, sym, ap, subst, ◌∙◌, if◌then◌else◌}
use Rattle.std.proofs.lemmas.List.Elements.{All-cons, All-nil, All-push}
use Rattle.c11_macros.specs.Hidden.{Hidden}
use Rattle.c11_macros.specs.Macros.{Macros}
use Rattle.sc_base.specs.declared.id.Cond.{Cond}
use Rattle.sc_base.specs.declared.place.Place.{Place}
use Rattle.sc_base.specs.declared.token.Token.{Token}
use Rattle.sc_base.specs.Seen.{text_at}
use Rattle.sc_hoist.specs.Alike.{AreAlike, IsAlike}
use Rattle.sc_if.specs.declared.piece.Piece.{Piece}
use Rattle.sc_if.specs.declared.piece.Piece.TheVariants as piece
use Rattle.sc_if.specs.Replaced.{seen_piece}
use Rattle.sc_model.specs.declared.cause.Cause.{Cause}
use Rattle.sc_model.specs.Sets.{IsCond, IsConfig, Keeps, Sets}

-- ---- the store grows

module _ {old new : Sets} (keeps : Keeps old new) {c d : List ℕ} (p : IsConfig old.arities c) (q : IsConfig old.arities d) where
  pub IsAlike-Keeps : (cond : Cond) → IsCond old cond.0 → IsAlike old c d cond → IsAlike new c d cond
  IsAlike-Keeps cond own alike = keeps.at cond.0 c own p ∙ (alike ∙ sym (keeps.at cond.0 d own q))

  pub AreAlike-Keeps : (list : List (Cond × Token)) → All (λ item. IsCond old item.0.0) list → AreAlike old c d list → AreAlike new c d list
  AreAlike-Keeps list own alike = λ k item within. IsAlike-Keeps (get_or list k item).0 (own k item within) (alike k item within)

-- ---- one token more

pub AreAlike-push : (s : Sets) (c d : List ℕ) (list more : List (Cond × Token)) (cond : Cond) (t : Token) → more ≡ list ++ (cond, t) ∷ [] → IsAlike s c d cond → AreAlike s c d list → AreAlike s c d more
AreAlike-push s c d list more cond t is here alike =
    let P : Cond × Token → Type 0 = λ item. IsAlike s c d item.0 in
    subst (All P) (sym is) (All-push P list (cond, t) alike here)

-- one test, and another that is asked only behind it
pub both-same : {l m x y : Bool} → l ≡ m → (l ≡ true → x ≡ y) → (l && x) ≡ (m && y)
both-same {l} {m} {x} {y} same here = by l here ∙ ap (λ b. b && y) same
  where
    by : (b : Bool) → (b ≡ true → x ≡ y) → (b && x) ≡ (b && y)
    by true here = here refl
    by false here = refl

-- ---- the pieces

-- the texts 1 and 0 tell whether a name is defined
pub definedness-same : (some other : Macros) (names : List (List ℕ)) (t name : Token) (p : Piece) → p ≡ piece.Defined t name → seen_piece some names p ≡ seen_piece other names p
    → is_some (some (text_at names name.spelling.0)) ≡ is_some (other (text_at names name.spelling.0))
definedness-same some other names t name p is same =
    let told = subst (λ p. seen_piece some names p ≡ seen_piece other names p) is same in
    by (is_some (some (text_at names name.spelling.0))) (is_some (other (text_at names name.spelling.0))) (ap (λ (h : Hidden Place). eqb (get_or h.spelling 0 0) 49) told)
  where
    by : (a b : Bool) → eqb (get_or (if a then codes "1" else codes "0") 0 0) 49 ≡ eqb (get_or (if b then codes "1" else codes "0") 0 0) 49 → a ≡ b
    by true true e = refl
    by true false e = e
    by false true e = e
    by false false e = refl

-- a piece sees the macros at a text alone
piece-same : (some other : Macros) (names : List (List ℕ)) → ((text : List ℕ) → some text ≡ other text) → (p : Piece) → seen_piece some names p ≡ seen_piece other names p
piece-same some other names same p = λ i. seen_piece (λ text. same text i) names p

-- the same pieces, told through other tables that say the same
pub pieces-told : (some other first second : Macros) (names : List (List ℕ)) → ((text : List ℕ) → some text ≡ first text) → ((text : List ℕ) → other text ≡ second text) → (ps : List Piece)
    → All (λ p. seen_piece first names p ≡ seen_piece second names p) ps → All (λ p. seen_piece some names p ≡ seen_piece other names p) ps
pieces-told some other first second names one two ps same = λ k d within.
    let p = get_or ps k d in
    piece-same some first names one p ∙ (same k d within ∙ sym (piece-same other second names two p))

-- ---- the answer

maps-same : {A B : Type 0} (f g : A → B) (xs : List A) → map f xs ≡ map g xs → All (λ x. f x ≡ g x) xs
maps-same f g [] same = All-nil (λ x. f x ≡ g x)
maps-same f g (x ∷ xs) same =
    let head : f x ≡ g x = cc in
    let rest : map f xs ≡ map g xs = cc in
    All-cons (λ x. f x ≡ g x) x xs head (maps-same f g xs rest)

-- results that are the same have the same tokens
pub pieces-same : (f g : Piece → Hidden Place) (xs : List Piece) (a b : Result (List (Hidden Place)) Cause) → a ≡ Ok (map f xs) → b ≡ Ok (map g xs) → a ≡ b → All (λ x. f x ≡ g x) xs
pieces-same f g xs a b one two same =
    let both : map f xs ≡ map g xs = cc in
    maps-same f g xs both
