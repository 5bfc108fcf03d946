-- The tokens that replace a line are told from each other by their places and their spellings.
use Rattle.std.proofs.Common.{◌≡◌, ℕ, suc, ◌+◌, ◌<◌, ◌⊎◌, inl, inr, List, [], ◌∷◌, ◌++◌, All, codes, eqb, get_or, length, refl, sym, ap, subst, ◌∙◌, append-nil, append_assoc, arith}
use Rattle.std.proofs.lemmas.Bool.{true≢false}
use Rattle.std.proofs.lemmas.List.{get_or_default}
use Rattle.std.proofs.lemmas.List.Elements.{All-append, All-cons, All-head, All-nil, All-push, All-tail, All-weaker}
use Rattle.std.proofs.lemmas.List.Kept.{AllPairs-cons}
use Rattle.std.proofs.lemmas.List.Quantifiers.{all_pairs_push}
use Rattle.std.specs.Prelude.{AllPairs}
use Rattle.sc_base.specs.declared.id.Cond.{Cond}
use Rattle.sc_base.specs.declared.id.Name.{Name}
use Rattle.sc_base.specs.declared.token.Token.{Token}
use Rattle.sc_base.specs.Seen.{position_of, seen, text_at}
use Rattle.sc_if.proofs.Pieces.{All-end}
use Rattle.sc_if.specs.declared.piece.Piece.{Piece}
use Rattle.sc_if.specs.Replaced.{Adds, AreDigits, IsEnd, as_number, place_of}
use Rattle.sc_model.specs.Token.{Position}

-- ---- lists of which each two items are so

module _ {A : Type 0} (R : A → A → Type 0) where
  pairs-nil : AllPairs R []
  pairs-nil = λ i j d low within. absurd (omega (arith, within))

  pairs-one : (x : A) → AllPairs R (x ∷ [])
  pairs-one x = AllPairs-cons R x [] (All-nil (R x)) pairs-nil

  pairs-head : (x : A) (xs : List A) → AllPairs R (x ∷ xs) → All (R x) xs
  pairs-head x xs pairs = λ k d within. pairs 0 (suc k) d (omega arith) (omega (arith, within))

  pairs-tail : (x : A) (xs : List A) → AllPairs R (x ∷ xs) → AllPairs R xs
  pairs-tail x xs pairs = λ i j d low within. pairs (suc i) (suc j) d (omega (arith, low)) (omega (arith, within))

  pairs-append : (xs ys : List A) → AllPairs R xs → AllPairs R ys → All (λ x. All (R x) ys) xs → AllPairs R (xs ++ ys)
  pairs-append [] ys first second between = second
  pairs-append (x ∷ xs) ys first second between =
      AllPairs-cons R x (xs ++ ys) (All-append (R x) xs ys (pairs-head x xs first) (All-head (λ y. All (R y) ys) x xs between))
      (pairs-append xs ys (pairs-tail x xs first) second (All-tail (λ y. All (R y) ys) x xs between))

pub no-pairs : {A : Type 0} (R : A → A → Type 0) (xs : List A) → xs ≡ [] → AllPairs R xs
no-pairs R xs none = subst (AllPairs R) (sym none) (pairs-nil R)

pairs-end : (R : Token → Token → Type 0) (rest list : List Token) → IsEnd rest list → AllPairs R list → AllPairs R rest
pairs-end R rest list part pairs = by part.front list part.is pairs
  where
    by : (front list : List Token) → list ≡ front ++ rest → AllPairs R list → AllPairs R rest
    by [] list is pairs = subst (AllPairs R) is pairs
    by (t ∷ front) list is pairs = by front (front ++ rest) refl (pairs-tail R t (front ++ rest) (subst (AllPairs R) is pairs))

-- ---- the pieces of a line stand at different positions

abbrev pub StandsApart : Token → Token → Type 0
StandsApart t u = position_of t.place ≡ position_of u.place → ⊥

abbrev pub AreApart : Piece → Piece → Type 0
AreApart p q = position_of (place_of p) ≡ position_of (place_of q) → ⊥

-- none of these tokens stands where the piece stands
abbrev pub IsElsewhere : List Token → Piece → Type 0
IsElsewhere tokens p = All (λ t. position_of (place_of p) ≡ position_of t.place → ⊥) tokens

-- one piece more, whose token stands first in what is left of the line
pub apart-step : (line rest behind left : List Token) (t : Token) (p : Piece) (pieces : List Piece) → IsEnd rest line → rest ≡ t ∷ behind → IsEnd left behind → place_of p ≡ t.place
    → AllPairs StandsApart line → AllPairs AreApart pieces × All (IsElsewhere rest) pieces → AllPairs AreApart (pieces ++ p ∷ []) × All (IsElsewhere left) (pieces ++ p ∷ [])
apart-step line rest behind left t p pieces part is ends place apart was =
    let here : AllPairs StandsApart (t ∷ behind) = subst (AllPairs StandsApart) is (pairs-end StandsApart rest line part apart) in
    let before : All (IsElsewhere (t ∷ behind)) pieces = subst (λ ts. All (IsElsewhere ts) pieces) is was.1 in
    let Elsewhere : Piece → Token → Type 0 = λ q u. position_of (place_of q) ≡ position_of u.place → ⊥ in (
      all_pairs_push AreApart pieces p was.0 (λ k d within e. All-head (Elsewhere (get_or pieces k d)) t behind (before k d within) (e ∙ ap position_of place)),
      All-push (IsElsewhere left) pieces p (λ k d within. All-end (Elsewhere (get_or pieces k d)) left behind ends (All-tail (Elsewhere (get_or pieces k d)) t behind (before k d within)))
          (All-end (Elsewhere p) left behind ends (All-weaker (StandsApart t) (Elsewhere p) (λ u other e. other (sym (ap position_of place) ∙ e)) behind (pairs-head StandsApart t behind here))),
    )

-- ---- the number that replaces a piece

spelled : (names : List (List ℕ)) (one zero : Name) (t u v : Token) → AreDigits names one zero → u ≡ as_number t one → v ≡ as_number t zero → text_at names u.spelling.0 ≡ text_at names v.spelling.0 → ⊥
spelled names one zero t u v digits first second same =
    let e : codes "1" ≡ codes "0" = sym digits.one_is ∙ (ap (λ (t : Token). text_at names t.spelling.0) (sym first) ∙ (same ∙ (ap (λ (t : Token). text_at names t.spelling.0) second ∙ digits.zero_is))) in
    true≢false (ap (λ xs. eqb (get_or xs 0 0) 49) e)

pub number-adds : (names : List (List ℕ)) (one zero : Name) (t u v : Token) (with without : Cond) (list first second : List (Cond × Token)) → AreDigits names one zero → u ≡ as_number t one → v ≡ as_number t zero
    → (first ≡ list) ⊎ (first ≡ list ++ (with, u) ∷ []) → (second ≡ first) ⊎ (second ≡ first ++ (without, v) ∷ []) → Adds names t.place list second
number-adds names one zero t u v with without list first second digits is_one is_zero one_more other_more = by one_more other_more
  where
    At : Cond × Token → Type 0
    At item = item.1.place ≡ t.place

    Spelled : Cond × Token → Cond × Token → Type 0
    Spelled a b = text_at names a.1.spelling.0 ≡ text_at names b.1.spelling.0 → ⊥

    one_at : u.place ≡ t.place
    one_at = ap (λ (t : Token). t.place) is_one

    zero_at : v.place ≡ t.place
    zero_at = ap (λ (t : Token). t.place) is_zero

    by : (first ≡ list) ⊎ (first ≡ list ++ (with, u) ∷ []) → (second ≡ first) ⊎ (second ≡ first ++ (without, v) ∷ []) → Adds names t.place list second
    by (inl a) (inl b) = record { more = []; is = b ∙ (a ∙ sym (append-nil list)); here = All-nil At; different = pairs-nil Spelled }
    by (inl a) (inr b) = record { more = (without, v) ∷ []; is = b ∙ ap (λ l. l ++ (without, v) ∷ []) a; here = All-cons At (without, v) [] zero_at (All-nil At); different = pairs-one Spelled (without, v) }
    by (inr a) (inl b) = record { more = (with, u) ∷ []; is = b ∙ a; here = All-cons At (with, u) [] one_at (All-nil At); different = pairs-one Spelled (with, u) }
    by (inr a) (inr b) = record {
      more = (with, u) ∷ ((without, v) ∷ []);
      is = b ∙ (ap (λ l. l ++ (without, v) ∷ []) a ∙ append_assoc list ((with, u) ∷ []) ((without, v) ∷ []));
      here = All-cons At (with, u) ((without, v) ∷ []) one_at (All-cons At (without, v) [] zero_at (All-nil At));
      different = AllPairs-cons Spelled (with, u) ((without, v) ∷ []) (All-cons (Spelled (with, u)) (without, v) [] (spelled names one zero t u v digits is_one is_zero) (All-nil (Spelled (with, u)))) (pairs-one Spelled (without, v));
    }

-- ---- the loop over the pieces

-- Each item of a list stands where one of the first so many pieces stands.
pub record StandsIn (pieces : List Piece) (i : ℕ) (list : List (Cond × Token)) : Type 0 where
  pub none_at : (p : Position) → ((k : ℕ) (d : Piece) → k < i → position_of (place_of (get_or pieces k d)) ≡ p → ⊥) → All (λ item. position_of item.1.place ≡ p → ⊥) list

module _ (names : List (List ℕ)) (pieces : List Piece) (i : ℕ) (d : Piece) (within : i < length pieces) (list longer : List (Cond × Token)) (adds : Adds names (place_of (get_or pieces i d)) list longer)
    (was : StandsIn pieces i list) where
  pub stands-step : StandsIn pieces (i + 1) longer
  stands-step = record {
    none_at = λ p elsewhere.
        let P : Cond × Token → Type 0 = λ item. position_of item.1.place ≡ p → ⊥ in
        subst (All P) (sym adds.is) (All-append P list adds.more (was.none_at p (λ k d lower. elsewhere k d (omega (arith, lower))))
        (All-weaker (λ item. item.1.place ≡ place_of (get_or pieces i d)) P (λ item here e. elsewhere i d (omega arith) (sym (ap position_of here) ∙ e)) adds.more adds.here));
  }

  pub different-step : (files : List (List ℕ)) → AllPairs AreApart pieces → AllPairs (λ a b. seen names files a.1 ≡ seen names files b.1 → ⊥) list
      → AllPairs (λ a b. seen names files a.1 ≡ seen names files b.1 → ⊥) longer
  different-step files apart before =
      let Different : Cond × Token → Cond × Token → Type 0 = λ a b. seen names files a.1 ≡ seen names files b.1 → ⊥ in
      let others : All (λ item. position_of item.1.place ≡ position_of (place_of (get_or pieces i d)) → ⊥) list = was.none_at (position_of (place_of (get_or pieces i d)))
      (λ k other lower e. apart k i other lower within (e ∙ ap (λ p. position_of (place_of p)) (get_or_default pieces i d other within))) in
      subst (AllPairs Different) (sym adds.is) (pairs-append Different list adds.more before
      (λ j k other low below e. adds.different j k other low below (ap (λ t. t.spelling) e))
      (λ j other low k another below e. others j other low (ap (λ t. t.place.position) e ∙ ap position_of (adds.here k another below))))
