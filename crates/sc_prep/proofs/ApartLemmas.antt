-- Tokens that stand apart, as lists of them are put together and taken apart.
use Rattle.std.proofs.Common.{◌≡◌, ℕ, suc, List, [], ◌∷◌, ◌++◌, drop, take, get_or, map, append_assoc, ap, sym, subst, arith, All, AllPairs, Option, inl, inr}
use Rattle.sc_expand.proofs.KeptLemmas.{All-before, All-behind}
use Rattle.sc_model.specs.Token as model
use Rattle.sc_prep.proofs.Facts.{All-append, All-map, AllPairs-cons, append-nil, get_or-map, length-map, take-append-drop}
use Rattle.sc_prep.proofs.Positions.{lexed-apart}
use Rattle.sc_prep.proofs.Terms.{AreDifferent, AreLinesOf, Cond, EndsRead, FileLines, GathersFrom, OpenRuns, Sets, StandApart, Standard, Token, Walk, in_file, position_of, seen, tokens_in, tokens_read}

module _ {A : Type 0} (R : A → A → Type 0) where
  pub pairs-head : (x : A) (xs : List A) → AllPairs R (x ∷ xs) → All (R x) xs
  pairs-head x xs pairs = λ k d below. pairs 0 (suc k) d (omega arith) (omega (arith, below))

  pub pairs-tail : (x : A) (xs : List A) → AllPairs R (x ∷ xs) → AllPairs R xs
  pairs-tail x xs pairs = λ i j d low below. pairs (suc i) (suc j) d (omega (arith, low)) (omega (arith, below))

  pub pairs-right : (xs ys : List A) → AllPairs R (xs ++ ys) → AllPairs R ys
  pairs-right [] ys pairs = pairs
  pairs-right (x ∷ xs) ys pairs = pairs-right xs ys (pairs-tail x (xs ++ ys) pairs)

  pub pairs-without : (xs ys zs : List A) → AllPairs R (xs ++ (ys ++ zs)) → AllPairs R (xs ++ zs)
  pairs-without [] ys zs pairs = pairs-right ys zs pairs
  pairs-without (x ∷ xs) ys zs pairs =
      let first = pairs-head x (xs ++ (ys ++ zs)) pairs in
      AllPairs-cons R x (xs ++ zs)
      (All-append (R x) xs zs (All-before (R x) xs (ys ++ zs) first) (All-behind (R x) ys zs (All-behind (R x) xs (ys ++ zs) first)))
      (pairs-without xs ys zs (pairs-tail x (xs ++ (ys ++ zs)) pairs))

  pub pairs-left : (xs ys : List A) → AllPairs R (xs ++ ys) → AllPairs R xs
  pairs-left xs ys pairs =
      subst (AllPairs R) (append-nil xs) (pairs-without xs ys [] (subst (λ zs. AllPairs R (xs ++ zs)) (sym (append-nil ys)) pairs))

  pub pairs-drop : (n : ℕ) (xs : List A) → AllPairs R xs → AllPairs R (drop n xs)
  pairs-drop n xs pairs = pairs-right (take n xs) (drop n xs) (subst (AllPairs R) (sym (take-append-drop n xs)) pairs)

  module _ {B : Type 0} (f : B → A) where
    pub pairs-map : (xs : List B) → AllPairs (λ x y. R (f x) (f y)) xs → AllPairs R (map f xs)
    pairs-map [] pairs = λ i j d low below. absurd (omega (arith, below))
    pairs-map (x ∷ xs) pairs =
        AllPairs-cons R (f x) (map f xs) (All-map (R (f x)) f xs (λ k d below. pairs 0 (suc k) d (omega arith) (omega (arith, below))))
        (pairs-map xs (λ i j d low below. pairs (suc i) (suc j) d (omega (arith, low)) (omega (arith, below))))

    pub pairs-unmap : (xs : List B) → AllPairs R (map f xs) → AllPairs (λ x y. R (f x) (f y)) xs
    pairs-unmap xs pairs = λ i j d low below.
        subst (λ x. R x (f (get_or xs j d))) (get_or-map f xs i d (f d) (omega (arith, low, below)))
        (subst (R (get_or (map f xs) i (f d))) (get_or-map f xs j d (f d) below) (pairs i j (f d) low (omega (arith, length-map xs f, below))))

-- ---- tokens at different positions

abbrev pub IsApart : Token → Token → Type 0
IsApart t u = position_of t.place ≡ position_of u.place → ⊥

pub apart-left : (xs ys : List Token) → StandApart (xs ++ ys) → StandApart xs
apart-left xs ys apart = pairs-left IsApart xs ys apart

pub apart-right : (xs ys : List Token) → StandApart (xs ++ ys) → StandApart ys
apart-right xs ys apart = pairs-right IsApart xs ys apart

pub apart-without : (xs ys zs : List Token) → StandApart (xs ++ (ys ++ zs)) → StandApart (xs ++ zs)
apart-without xs ys zs apart = pairs-without IsApart xs ys zs apart

pub apart-drop : (n : ℕ) (xs : List Token) → StandApart xs → StandApart (drop n xs)
apart-drop n xs apart = pairs-drop IsApart n xs apart

pub different : (names files : List (List ℕ)) (list : List (Cond × Token)) → StandApart (tokens_in list) → AreDifferent names files list
different names files list apart = λ i j d low below same.
    pairs-unmap IsApart (λ (item : Cond × Token). item.1) list apart i j d low below (ap (λ (t : model.Token). t.place.position) same)

-- ---- what is read

pub gathers-then : (l k : List Token) (a b c : Walk) → GathersFrom l a b → GathersFrom k b c → GathersFrom (l ++ k) a c
gathers-then l k a b c first second = λ rest apart.
    second rest (first (k ++ rest) (subst (λ ts. StandApart (tokens_read a.runs.read ++ ts)) (append_assoc l k rest) apart))

pub gathers-same : (line : List Token) (a b : Walk) → b.runs ≡ a.runs → GathersFrom line a b
gathers-same line a b same = λ rest apart.
    subst (λ (r : OpenRuns). StandApart (tokens_read r.read ++ rest)) (sym same) (apart-without (tokens_read a.runs.read) line rest apart)

-- a line that is read
pub gathers-line : (line : List Token) (a b : Walk) → tokens_read b.runs.read ≡ tokens_read a.runs.read ++ line → GathersFrom line a b
gathers-line line a b is = λ rest apart. subst (λ ts. StandApart (ts ++ rest)) (sym is) (subst StandApart (sym (append_assoc (tokens_read a.runs.read) line rest)) apart)

-- runs that end
pub ended-tokens : (P : List Token → Type 0) {old new : Sets} {read next : List (Cond × Option Token)} {acting live : ℕ} → EndsRead old read acting live new next → P [] → P (tokens_read read) → P (tokens_read next)
ended-tokens P ends none all = elim ends.tokens [ inl empty ↦ subst P (sym empty) none | inr same ↦ subst P (sym same) all ]

pub gathers-ended : {old new : Sets} {acting live : ℕ} (a b : Walk) → EndsRead old a.runs.read acting live new b.runs.read → GathersFrom [] a b
gathers-ended a b ends = λ rest apart. ended-tokens (λ ts. StandApart (ts ++ rest)) ends (apart-right (tokens_read a.runs.read) rest apart) apart

-- ---- the tokens of a file

pub lines-apart : {standard : Standard} {names files : List (List ℕ)} {name bytes : List ℕ} {found : FileLines} → AreLinesOf standard names files name bytes found → StandApart found.tokens.items
lines-apart {names} {files} {name} {bytes} {found} are =
    let R : model.Token → model.Token → Type 0 = λ t u. t.place.position ≡ u.place.position → ⊥ in
    pairs-unmap R (seen names files) found.tokens.items (subst (AllPairs R) (sym are.tokens) (pairs-map R (in_file name) are.lexemes (lexed-apart bytes are.lexemes are.lexed)))
