-- Configurations to which a line has different lists of tokens have different footprints at it.
use Rattle.std.proofs.Common.{◌≡◌, ℕ, ◌+◌, ◌≤◌, Bool, true, false, List, [], ◌∷◌, All, map, Result, refl, sym, ap, subst, ◌∙◌, if◌then◌else◌}
use Rattle.c11_macros.proofs.OneAnswer.{one}
use Rattle.sc_base.specs.declared.token.Token as base
use Rattle.sc_model.specs.Token.{Place, Token}
use Rattle.sc_prep.proofs.ApartLemmas.{pairs-head, pairs-tail}
use Rattle.sc_prep.proofs.Facts.{All-cons, All-head, All-nil, All-tail}
use Rattle.sc_prep.proofs.NameFootprints.{made-all, made-length, made-pairs, made_of, same-definitions}
use Rattle.sc_prep.proofs.Terms.{Agree, AreAlike, AreDifferent, Cond, DefineTextAlike, Expands, Failure, Fault, HasFootprints, HaveLists, Hidden, IsAlike, IsCond, IsConfig, Keeps, Macros, Sets, Spot, TextExpands, TextHas, Trace, Used, definitions_of, footprint_at, items_at, looked_up_in, place_alone, places_at, places_from, seen, token_itself, tokens_used, trace, unhidden}

-- ---- where no two items are seen as one, the tokens tell which items there are

module _ (s : Sets) (names files : List (List ℕ)) where
  abbrev see : base.Token → Token
  see t = seen names files t

  abbrev IsOther : Cond × base.Token → Cond × base.Token → Type 0
  IsOther a b = see a.1 ≡ see b.1 → ⊥

  -- an item that is seen as none of a list stands in it nowhere
  stands-nowhere : (c : List ℕ) (a : Cond × base.Token) (list : List (Cond × base.Token)) (more : List Token) → All (IsOther a) list → see a.1 ∷ more ≡ map see (items_at s list c) → ⊥
  stands-nowhere c a [] more others same = cc
  stands-nowhere c a (b ∷ list) more others same = by (stands-nowhere c a list more (All-tail (IsOther a) b list others)) (s.has b.0.0 c) same
    where
      by : (see a.1 ∷ more ≡ map see (items_at s list c) → ⊥) → (h : Bool) → see a.1 ∷ more ≡ map see (if h then b.1 ∷ items_at s list c else items_at s list c) → ⊥
      by later true same =
          let first : see a.1 ≡ see b.1 = cc in
          All-head (IsOther a) b list others first
      by later false same = later same

  pub alike-seen : (c d : List ℕ) (list : List (Cond × base.Token)) → AreDifferent names files list → map see (items_at s list c) ≡ map see (items_at s list d) → AreAlike s c d list
  alike-seen c d [] different same = All-nil (λ (item : Cond × base.Token). IsAlike s c d item.0)
  alike-seen c d (a ∷ list) different same = by (alike-seen c d list (pairs-tail IsOther a list different)) (s.has a.0.0 c) (s.has a.0.0 d) refl refl same
    where
      Alike : Cond × base.Token → Type 0
      Alike item = IsAlike s c d item.0

      others : All (IsOther a) list
      others = pairs-head IsOther a list different

      by : (map see (items_at s list c) ≡ map see (items_at s list d) → AreAlike s c d list) → (h k : Bool) → s.has a.0.0 c ≡ h → s.has a.0.0 d ≡ k
          → map see (if h then a.1 ∷ items_at s list c else items_at s list c) ≡ map see (if k then a.1 ∷ items_at s list d else items_at s list d) → All Alike (a ∷ list)
      by later true true here there same =
          let rest : map see (items_at s list c) ≡ map see (items_at s list d) = cc in
          All-cons Alike a list (here ∙ sym there) (later rest)
      by later true false here there same = absurd (stands-nowhere d a list (map see (items_at s list c)) others same)
      by later false true here there same = absurd (stands-nowhere c a list (map see (items_at s list d)) others (sym same))
      by later false false here there same = All-cons Alike a list (here ∙ sym there) (later same)

-- and so in which places they stand
places-alike : (s : Sets) (c d : List ℕ) (n : ℕ) (list : List (Cond × base.Token)) → AreAlike s c d list
    → places_from s n (map (λ (item : Cond × base.Token). item.0) list) c ≡ places_from s n (map (λ (item : Cond × base.Token). item.0) list) d
places-alike s c d n [] alike = refl
places-alike s c d n (a ∷ list) alike =
    let first : s.has a.0.0 c ≡ s.has a.0.0 d = All-head (λ (item : Cond × base.Token). IsAlike s c d item.0) a list alike in
    let more = places-alike s c d (n + 1) list (All-tail (λ (item : Cond × base.Token). IsAlike s c d item.0) a list alike) in
    λ i. if first i then n ∷ more i else more i

-- ---- a footprint tells its tokens and definitions

define-alike : (some other : Macros) (text : List Token) (answer : Result (List (Hidden Place)) (Failure Place)) (expands : Expands place_alone some (map unhidden text) answer)
    → Agree some other (trace expands).looked_up → DefineTextAlike some other text
define-alike some other text answer expands agree = record { agree = λ r d. subst (Agree some other) (ap (λ (x : Trace). x.looked_up) (one expands r d).trace) agree }

used-alike : {some other : Macros} {text more : List Token} {hash : Token} {f g : Used} → TextHas some text hash (token_itself hash, f) → TextHas other more hash (token_itself hash, g) → f ≡ g → (text ≡ more) × DefineTextAlike some other text
used-alike {some} {other} {text} {more} {hash} x y same =
    let e : footprint_at hash text (definitions_of some (trace x.expands).looked_up) ≡ footprint_at hash more (definitions_of other (trace y.expands).looked_up) =
    sym x.is ∙ (ap (λ (u : Used). (token_itself hash, u)) same ∙ y.is) in (
      ap (λ (f : Spot × Used). tokens_used f.1) e,
      define-alike some other text x.answer x.expands (same-definitions some other (trace x.expands).looked_up (trace y.expands).looked_up (ap (λ (f : Spot × Used). looked_up_in f.1) e)),
    )

-- ---- different lists, where one footprint tells one list

module _ {K V : Type 0} {arities : List ℕ} {test : List ℕ → Bool} {list : List ℕ → List ℕ} {P : List ℕ → K × V → Type 0} (at : K)
    (has : (c : List ℕ) → IsConfig arities c → test c ≡ true → (f : V) × P c (at, f))
    (tells : (c d : List ℕ) (f g : V) → IsConfig arities c → IsConfig arities d → P c (at, f) → P d (at, g) → f ≡ g → list c ≡ list d) where
  pub lists-have : (count : ℕ) → HaveLists arities test list count → HasFootprints (IsConfig arities) P count
  lists-have count lists =
      let Is : List ℕ → Type 0 = λ c. IsConfig arities c × (test c ≡ true) in
      let make : (c : List ℕ) → Is c → List ℕ × V = λ c is. (c, (has c is.0 is.1).0) in
      let all : All Is lists.configs = λ k d within. (lists.listed k d within, lists.among k d within) in
      record {
        at = at;
        footprints = made_of Is make lists.configs all;
        many = subst (λ n. count ≤ n) (sym (made-length Is make lists.configs all)) lists.many;
        listed = made-all Is make Is (λ p. IsConfig arities p.0) (λ c one is. is.0) lists.configs all all;
        each = made-all Is make Is (λ p. P p.0 (at, p.1)) (λ c one is. (has c one.0 one.1).1) lists.configs all all;
        apart = made-pairs Is make (λ c d. list c ≡ list d → ⊥) (λ p q. (p.0 ≡ q.0 → ⊥) × (p.1 ≡ q.1 → ⊥))
            (λ c d x y differ. (λ e. differ (ap list e), λ e. differ (tells c d _ _ x.0 y.0 (has c x.0 x.1).1 (has d y.0 y.1).1 e))) lists.configs all lists.apart;
      }

-- ---- the line

-- what the text of a line expands to is listed differently
pub lists-footprints : (s t : Sets) (names files : List (List ℕ)) (macros : List ℕ → Macros) (list made : List (Cond × base.Token)) (test : List ℕ → Bool) (hash : Token) (count : ℕ) → Keeps s t
    → All (λ (item : Cond × base.Token). IsCond s item.0.0) list → All (λ (item : Cond × base.Token). IsCond t item.0.0) made → AreDifferent names files list
    → ((c d : List ℕ) → IsConfig s.arities c → IsConfig s.arities d → test c ≡ true → test d ≡ true → AreAlike s c d list → DefineTextAlike (macros c) (macros d) (map (seen names files) (items_at s list c)) → AreAlike t c d made)
    → ((c : List ℕ) → IsConfig s.arities c → test c ≡ true → (answer : Result (List Token) Fault) × TextExpands (macros c) (map (seen names files) (items_at s list c)) answer)
    → HaveLists s.arities test (λ c. places_at t made c) count
    → HasFootprints (IsConfig s.arities) (λ c f. (test c ≡ true) × TextHas (macros c) (map (seen names files) (items_at s list c)) hash f) count
lists-footprints s t names files macros list made test hash count _ _ _ different alike answers lists =
    let text : List ℕ → List Token = λ c. map (seen names files) (items_at s list c) in
    lists-have (token_itself hash)
    (λ c listed among.
    let x = (answers c listed among).1 in
    ((footprint_at hash (text c) (definitions_of (macros c) (trace x.expands).looked_up)).1, (among, record { answer = x.answer; expands = x.expands; is = refl })))
    (λ c d f g one two x y same.
    let used = used-alike x.1 y.1 same in
    places-alike t c d 0 made (alike c d one two x.0 y.0 (alike-seen s names files c d list different used.0) used.1))
    count lists

-- a line that is not expanded
pub headers-footprints : (s : Sets) (names files : List (List ℕ)) (list : List (Cond × base.Token)) (test : List ℕ → Bool) (hash : Token) (count : ℕ) → AreDifferent names files list
    → HaveLists s.arities test (λ c. places_at s list c) count
    → HasFootprints (IsConfig s.arities) (λ c f. (test c ≡ true) × (f ≡ footprint_at hash (map (seen names files) (items_at s list c)) [])) count
headers-footprints s names files list test hash count different lists =
    lists-have (token_itself hash) (λ c listed among. ((footprint_at hash (map (seen names files) (items_at s list c)) []).1, (among, refl)))
    (λ c d f g one two x y same. places-alike s c d 0 list (alike-seen s names files c d list different (ap (λ (f : Spot × Used). tokens_used f.1) (sym x.1 ∙ (ap (λ (u : Used). (token_itself hash, u)) same ∙ y.1))))) count lists
