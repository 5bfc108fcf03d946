-- Footprints of the names of a list, told by its tokens.
use Rattle.std.proofs.Common.{◌≡◌, ℕ, zero, suc, ◌+◌, ◌-◌, ◌≤◌, Bool, true, false, List, [], ◌∷◌, All, AllPairs, Option, None, Some, Result, drop, length, map, slice_get, take, refl, sym, ap, subst, ◌∙◌, arith, if◌then◌else◌}
use Rattle.c11_directives.specs.Footprints as footprints
use Rattle.c11_macros.specs.Expansion.{Expands, case_of, stays}
use Rattle.sc_base.specs.declared.token.Token as base
use Rattle.sc_expand.proofs.Behind.{length-behind}
use Rattle.sc_expand.specs.Footprints.{IsSameUse, ReplacesAt, StopsAtName, UsesAt, taken_behind}
use Rattle.sc_expand.specs.Having.{behind_at}
use Rattle.sc_model.specs.Token.{Place, Token}
use Rattle.sc_prep.proofs.ApartLemmas.{pairs-drop, pairs-head, pairs-tail}
use Rattle.sc_prep.proofs.Texts.{items_at-All}
use Rattle.sc_prep.proofs.Facts.{All-cons, All-head, All-map, All-nil, All-tail, All-take, AllPairs-cons, length-map, map-map, one-use, take-nil}
use Rattle.sc_prep.proofs.Terms.{Agree, AreDifferent, Arrives, BranchesFull, Cond, Definition, Failure, Footprint, Hidden, IsConfig, Macros, NameHas, Other, OutOfMemory, ReadFault, Sets, Spot, Stop, StopsAtPlace, TextHas, Used, definitions_of, first_place, footprint, footprint_at, items_at, looked_up_in, place_alone, seen, token_itself, tokens_used, unhidden}

-- ---- tables that define all names alike give the same footprints

pub name-as : {one other : Macros} {text : List Token} {f : Spot × Used} → ((name : List ℕ) → one name ≡ other name) → NameHas one text f → NameHas other text f
name-as {text = text} {f = f} same has = subst (λ macros. NameHas macros text f) (λ i. λ name. same name i) has

pub text-as : {one other : Macros} {text : List Token} {hash : Token} {f : Spot × Used} → ((name : List ℕ) → one name ≡ other name) → TextHas one text hash f → TextHas other text hash f
text-as {text = text} {hash = hash} {f = f} same has = subst (λ macros. TextHas macros text hash f) (λ i. λ name. same name i) has

-- ---- what is made of a list

module _ {A B : Type 0} (P : A → Type 0) (f : (x : A) → P x → B) where
  -- what is made of each element by what holds of it
  abbrev pub made_of : (xs : List A) → All P xs → List B
  made_of [] all = []
  made_of (x ∷ xs) all = f x (All-head P x xs all) ∷ made_of xs (All-tail P x xs all)

  pub made-length : (xs : List A) (all : All P xs) → length (made_of xs all) ≡ length xs
  made-length [] all = refl
  made-length (x ∷ xs) all = ap suc (made-length xs (All-tail P x xs all))

  pub made-all : (R : A → Type 0) (Q : B → Type 0) → ((x : A) (p : P x) → R x → Q (f x p)) → (xs : List A) (all : All P xs) → All R xs → All Q (made_of xs all)
  made-all R Q to [] all each = All-nil Q
  made-all R Q to (x ∷ xs) all each =
      let p = All-head P x xs all in
      let rest = All-tail P x xs all in
      All-cons Q (f x p) (made_of xs rest) (to x p (All-head R x xs each)) (made-all R Q to xs rest (All-tail R x xs each))

  pub made-pairs : (R : A → A → Type 0) (Q : B → B → Type 0) → ((x y : A) (p : P x) (q : P y) → R x y → Q (f x p) (f y q)) → (xs : List A) (all : All P xs) → AllPairs R xs → AllPairs Q (made_of xs all)
  made-pairs R Q to [] all related = λ i j d less within. absurd (omega (arith, within))
  made-pairs R Q to (x ∷ xs) all related =
      let p = All-head P x xs all in
      let rest = All-tail P x xs all in
      AllPairs-cons Q (f x p) (made_of xs rest) (made-all (R x) (Q (f x p)) (λ y q. to x y p q) xs rest (pairs-head R x xs related)) (made-pairs R Q to xs rest (pairs-tail R x xs related))

-- ---- what a footprint tells

-- equal definitions agree on the names that the one looked up
pub same-definitions : (one other : Macros) (xs ys : List (List ℕ)) → definitions_of one xs ≡ definitions_of other ys → Agree one other xs
same-definitions one other [] ys same = tt
same-definitions one other (x ∷ xs) [] same = absurd (cc)
same-definitions one other (x ∷ xs) (y ∷ ys) same =
    let first : ◌≡◌ {A = List ℕ × Option Definition} (x, one x) (y, other y) = cc in
    let rest : definitions_of one xs ≡ definitions_of other ys = cc in
    (ap (λ p. p.1) first ∙ ap other (sym (ap (λ p. p.0) first)), same-definitions one other xs ys rest)

module _ (s : Sets) (names files : List (List ℕ)) where
  -- the first of different items is none of those that a configuration has of the others
  not-later : (d : List ℕ) (item : Cond × base.Token) (items : List (Cond × base.Token)) → AreDifferent names files (item ∷ items) → (n : ℕ) (ts : List Token)
      → seen names files item.1 ∷ ts ≡ take n (map (seen names files) (items_at s items d)) → ⊥
  not-later d item items different n ts same =
      let P : base.Token → Type 0 = λ t. seen names files item.1 ≡ seen names files t → ⊥ in
      let Q : Token → Type 0 = λ t. seen names files item.1 ≡ t → ⊥ in
      let R : Cond × base.Token → Cond × base.Token → Type 0 = λ a b. seen names files a.1 ≡ seen names files b.1 → ⊥ in
      let has = items_at s items d in
      let others = All-take Q n (map (seen names files) has) (All-map Q (seen names files) has (items_at-All P s items d (pairs-head R item items different))) in
      All-head Q (seen names files item.1) ts (subst (All Q) (sym same) others) refl

  -- the same first tokens of different items stand at the same places
  same-taken : (c d : List ℕ) (list : List (Cond × base.Token)) → AreDifferent names files list → (m n : ℕ)
      → take m (map (seen names files) (items_at s list c)) ≡ take n (map (seen names files) (items_at s list d)) → take m (behind_at s list c) ≡ take n (behind_at s list d)
  same-taken c d [] different m n same = take-nil m ∙ sym (take-nil n)
  same-taken c d (item ∷ items) different m n same =
      let R : Cond × base.Token → Cond × base.Token → Type 0 = λ a b. seen names files a.1 ≡ seen names files b.1 → ⊥ in
      by (s.has item.0.0 c) (s.has item.0.0 d) m n (same-taken c d items (pairs-tail R item items different)) same
    where
      had : Bool → List ℕ → List Token
      had b e = map (seen names files) (if b then item.1 ∷ items_at s items e else items_at s items e)

      left : Bool → List ℕ → List ℕ
      left b e = if b then length items ∷ behind_at s items e else behind_at s items e

      by : (p q : Bool) (m n : ℕ)
          → ((m n : ℕ) → take m (map (seen names files) (items_at s items c)) ≡ take n (map (seen names files) (items_at s items d)) → take m (behind_at s items c) ≡ take n (behind_at s items d))
          → take m (had p c) ≡ take n (had q d) → take m (left p c) ≡ take n (left q d)
      by true true zero zero rest same = refl
      by true true zero (suc n) rest same = absurd (cc)
      by true true (suc m) zero rest same = absurd (cc)
      by true true (suc m) (suc n) rest same = ap (λ l. length items ∷ l) (rest m n (ap (drop 1) same))
      by true false zero n rest same = rest zero n same
      by true false (suc m) n rest same = absurd (not-later d item items different n _ same)
      by false true m zero rest same = rest m zero same
      by false true m (suc n) rest same = absurd (not-later c item items different m _ (sym same))
      by false false m n rest same = rest m n same

-- the token of an item, if there is one
abbrev token_of : (names files : List (List ℕ)) → Option (Cond × base.Token) → Token
token_of names files None = record { kind = Other; spelling = []; space = false; place = first_place [] }
token_of names files (Some item) = seen names files item.1

-- ---- the name at an index of a list

record HasPrint (macros : Macros) (t : Hidden Place) (rest : List (Hidden Place)) (print : Footprint) : Type 0 where
  answer : Result (List (Hidden Place)) (Failure Place)
  expands : Expands place_alone macros (t ∷ rest) answer
  is : footprint expands ≡ print

module _ (s : Sets) (names files : List (List ℕ)) (macros : List ℕ → Macros) (list : List (Cond × base.Token)) (at : ℕ) where
  abbrev looks : base.Token → Hidden Place
  looks t = unhidden (seen names files t)

  abbrev Uses : List ℕ → Type 0
  Uses c = UsesAt looks place_alone (macros c) s list at c

  abbrev Replaces : List ℕ → Type 0
  Replaces c = ReplacesAt looks place_alone (macros c) s list at c

  abbrev items_behind : List ℕ → List base.Token
  items_behind c = items_at s (drop (at + 1) list) c

  abbrev behind : List ℕ → List Token
  behind c = map (seen names files) (items_behind c)

  abbrev token : Token
  token = token_of names files (slice_get list at)

  abbrev print_by : List ℕ → (at name : Token) → Footprint → Spot × Used
  print_by c at name print = footprint_at at (name ∷ take (length (behind c) - print.left) (behind c)) (definitions_of (macros c) print.looked_up)

  abbrev used_at : (c : List ℕ) → Uses c → Used
  used_at c x = (print_by c token (seen names files x.item.1) (footprint x.expands)).1

  has-name : (c : List ℕ) (r : Replaces c) → NameHas (macros c) (map (seen names files) (items_at s list c)) (token_itself token, used_at c r.uses)
  has-name c r =
      let x = r.uses in
      let first = looks x.item.1 in
      let rest : map looks (items_behind c) ≡ map unhidden (behind c) = sym (map-map unhidden (seen names files) (items_behind c)) in
      let p = subst (λ (ts : List (Hidden Place)). HasPrint (macros c) first ts (footprint x.expands)) rest (record { answer = x.answer; expands = x.expands; is = refl }) in
      record {
        name = seen names files x.item.1;
        behind = behind c;
        answer = p.answer;
        expands = p.expands;
        arrives = subst (λ (ts : List (Hidden Place)). Arrives place_alone (macros c) ts (first ∷ map unhidden (behind c))) (sym (map-map unhidden (seen names files) (items_at s list c)))
            (subst (λ (ts : List (Hidden Place)). Arrives place_alone (macros c) (map looks (items_at s list c)) (first ∷ ts)) rest x.arrives);
        replaces = subst (λ (ts : List (Hidden Place)). case_of (macros c) first ts ≡ stays → ⊥) rest r.replaces;
        is = λ i. print_by c (token_of names files (x.is i)) (seen names files x.item.1) (sym p.is i);
      }

  -- so many items stand behind the name as tokens are seen there
  taken-as : (c : List ℕ) (print : Footprint) → taken_behind s list at print c ≡ take (length (behind c) - print.left) (behind_at s (drop (at + 1) list) c)
  taken-as c print =
      ap (λ n. take (n - print.left) (behind_at s (drop (at + 1) list) c)) (length-behind s c (drop (at + 1) list) ∙ sym (length-map (items_behind c) (seen names files)))

  module _ (different : AreDifferent names files list) where
    same-use : (c d : List ℕ) (x : Uses c) (y : Uses d) → used_at c x ≡ used_at d y → IsSameUse looks place_alone macros s list at c d
    same-use c d x y same =
        let R : Cond × base.Token → Cond × base.Token → Type 0 = λ a b. seen names files a.1 ≡ seen names files b.1 → ⊥ in
        let one = footprint x.expands in
        let other = footprint y.expands in
        record {
          one = x;
          other = y;
          taken =
              taken-as c one
              ∙ (same-taken s names files c d (drop (at + 1) list) (pairs-drop R (at + 1) list different) (length (behind c) - one.left) (length (behind d) - other.left) (ap (λ (u : Used). drop 1 (tokens_used u)) same)
              ∙ sym (taken-as d other));
          agree = same-definitions (macros c) (macros d) one.looked_up other.looked_up (ap looked_up_in same);
        }

    -- configurations with different footprints of the name have them told by tokens
    source-footprints : (cond count : ℕ) (configs : List (List ℕ)) → count ≤ length configs → All (IsConfig s.arities) configs → All (λ c. s.has cond c ≡ true) configs → All Replaces configs
        → AllPairs (λ c d. IsSameUse looks place_alone macros s list at c d → ⊥) configs
        → footprints.HasFootprints (IsConfig s.arities) (λ c f. (s.has cond c ≡ true) × NameHas (macros c) (map (seen names files) (items_at s list c)) f) count
    source-footprints cond count configs many listed has come apart =
        let make : (c : List ℕ) → Replaces c → List ℕ × Used = λ c x. (c, used_at c x.uses) in
        let Is : List ℕ × Used → Type 0 = λ p. IsConfig s.arities p.0 in
        let Has : List ℕ × Used → Type 0 = λ p. (s.has cond p.0 ≡ true) × NameHas (macros p.0) (map (seen names files) (items_at s list p.0)) (token_itself token, p.1) in
        let Apart : List ℕ × Used → List ℕ × Used → Type 0 = λ p q. (p.0 ≡ q.0 → ⊥) × (p.1 ≡ q.1 → ⊥) in
        record {
          at = token_itself token;
          footprints = made_of Replaces make configs come;
          many = subst (λ n. count ≤ n) (sym (made-length Replaces make configs come)) many;
          listed = made-all Replaces make (IsConfig s.arities) Is (λ c x is. is) configs come listed;
          each = made-all Replaces make (λ c. s.has cond c ≡ true) Has (λ c x is. (is, has-name c x)) configs come has;
          apart = made-pairs Replaces make (λ c d. IsSameUse looks place_alone macros s list at c d → ⊥) Apart
              (λ c d x y other. (λ same. other (one-use looks place_alone x.uses d same), λ same. other (same-use c d x.uses y.uses same))) configs come apart;
        }

pub name-footprints : (s : Sets) (names files : List (List ℕ)) (macros : List ℕ → Macros) (cond : ℕ) (list : List (Cond × base.Token)) (limit : ℕ) (stop : Stop) → AreDifferent names files list
    → StopsAtName (λ t. unhidden (seen names files t)) place_alone macros s cond list limit stop
    → StopsAtPlace s.arities (λ c f. (s.has cond c ≡ true) × NameHas (macros c) (map (seen names files) (items_at s list c)) f) limit stop
name-footprints s names files macros cond list limit (BranchesFull count) different stops =
    let h = stops.1 in
    source-footprints s names files macros list h.at different cond (limit + 1) h.configs h.many h.listed h.has h.come h.apart
name-footprints s names files macros cond list limit ReadFault different stops = tt
name-footprints s names files macros cond list limit OutOfMemory different stops = tt
