-- Readings by condition: what adding some, joining some and parting some leaves.
use Rattle.std.proofs.Common.{◌≡◌, ℕ, zero, suc, ◌<◌, ◌&&◌, ◌||◌, not, Bool, true, false, List, [], ◌∷◌, ◌++◌, All, length, map, set, get_or, Option, Some, None, Result, Ok, Err, OnOk, refl, sym, ap, ◌∙◌, arith, inl, inr, append-nil, if◌then◌else◌}
use Rattle.std.proofs.lemmas.Bool.{and_parts, cases_eq}
use Rattle.std.proofs.lemmas.List.{get_or-set_other, get_or-set_same, length-set, map-append}
use Rattle.std.proofs.lemmas.List.Elements.{All-append, All-cons, All-head, All-nil, All-push, All-set, All-tail}
use Rattle.std.proofs.lemmas.List.Quantifiers.{all_pairs_push}
use Rattle.std.specs.Option.{is_some}
use Rattle.c11_expressions.proofs.Reader.{State}
use Rattle.c11_expressions.specs.Grammar as grammar
use Rattle.sc_base.specs.declared.id.Cond.{Cond}
use Rattle.sc_guarded.proofs.ItemLemmas.{items_at-Keeps, items_at-append, map-one}
use Rattle.sc_guarded.specs.Items.{items_at}
use Rattle.sc_hoist.specs.Alike.{AreAlike, IsAlike}
use Rattle.sc_if.specs.declared.reading.Reading.{Reading}
use Rattle.sc_if.specs.declared.readings.Readings.{Readings}
use Rattle.sc_if.specs.Readings.{ArePartedBy, HaveRead, IsPut, IsWithin, all_of, moved, readings_at, seen_reading}
use Rattle.sc_model.proofs.SetLemmas.{IsConfig-Keeps, IsConfig-kept}
use Rattle.sc_model.specs.Sets.{Sets, IsCond, IsConfig, IsNever, Keeps}

abbrev pub Entry : Type 0
Entry = Cond × Option Reading

-- ---- lists

pub all-parts : {A : Type 0} (P : A → Type 0) (xs ys : List A) → All P (xs ++ ys) → All P xs × All P ys
all-parts P [] ys h = (All-nil P, h)
all-parts P (x ∷ xs) ys h =
    let rest = all-parts P xs ys (All-tail P x (xs ++ ys) h) in
    (All-cons P x xs (All-head P x (xs ++ ys) h) rest.0, rest.1)

pub same-default : {A : Type 0} (xs : List A) (i : ℕ) (x d : A) → i < length xs → get_or xs i x ≡ get_or xs i d
same-default [] i x d within = absurd (omega arith)
same-default (y ∷ ys) zero x d within = refl
same-default (y ∷ ys) (suc i) x d within = same-default ys i x d (omega arith)

pub none-both : {A : Type 0} (xs ys : List A) → xs ++ ys ≡ [] → (xs ≡ []) × (ys ≡ [])
none-both [] ys e = (refl, e)
none-both (x ∷ xs) ys e = absurd (cc)

-- ---- what is read at a configuration

module _ (s : Sets) (c : List ℕ) where
  pub readings_at-append : (xs ys : List Entry) → readings_at s (xs ++ ys) c ≡ readings_at s xs c ++ readings_at s ys c
  readings_at-append xs ys = ap (map seen_reading) (items_at-append s xs ys c) ∙ map-append seen_reading (items_at s xs c) (items_at s ys c)

  pub readings_at-cons : (x : Entry) (xs : List Entry) → readings_at s (x ∷ xs) c ≡ (if s.has x.0.0 c then seen_reading x.1 ∷ readings_at s xs c else readings_at s xs c)
  readings_at-cons x xs = by (s.has x.0.0 c)
    where
      by : (b : Bool) → map seen_reading (if b then x.1 ∷ items_at s xs c else items_at s xs c) ≡ (if b then seen_reading x.1 ∷ readings_at s xs c else readings_at s xs c)
      by true = refl
      by false = refl

module _ {old new : Sets} (keeps : Keeps old new) where
  pub readings_at-Keeps : (xs : List Entry) (c : List ℕ) → All (λ (x : Entry). IsCond old x.0.0) xs → IsConfig old.arities c → readings_at new xs c ≡ readings_at old xs c
  readings_at-Keeps xs c own listed = ap (map seen_reading) (items_at-Keeps xs c keeps own listed)

  pub own-Keeps : {T : Type 0} (xs : List (Cond × T)) → All (λ (x : Cond × T). IsCond old x.0.0) xs → All (λ (x : Cond × T). IsCond new x.0.0) xs
  own-Keeps xs own = λ k d h. keeps.own _ (own k d h)

  pub alike-Keeps : {T : Type 0} (xs : List (Cond × T)) (a b : List ℕ) → All (λ (x : Cond × T). IsCond old x.0.0) xs → IsConfig old.arities a → IsConfig old.arities b → AreAlike old a b xs → AreAlike new a b xs
  alike-Keeps xs a b own la lb were = λ k d h. keeps.at _ a (own k d h) la ∙ (were k d h ∙ sym (keeps.at _ b (own k d h) lb))

  pub IsWithin-Keeps : {cond item : ℕ} → IsCond old cond → IsWithin old cond item → IsWithin new cond item
  IsWithin-Keeps own within = record {
    own = keeps.own _ within.own;
    at = λ c listed has. let was = IsConfig-kept keeps listed in keeps.at _ c within.own was ∙ within.at c was (sym (keeps.at _ c own was) ∙ has);
  }

  pub HaveRead-Keeps : {item : ℕ} (xs : List Entry) → All (λ (x : Entry). IsCond old x.0.0) xs → HaveRead old item xs → HaveRead new item xs
  HaveRead-Keeps xs own were = record {
    some = λ k d h never. were.some k d h (record { none = λ c listed. sym (keeps.at _ c (own k d h) listed) ∙ never.none c (IsConfig-Keeps keeps listed) });
    within = λ k d h. IsWithin-Keeps (own k d h) (were.within k d h);
    going = were.going;
    apart = were.apart;
  }

-- ---- one reading more

put-last : (h : Bool) (R : List (Option State)) (x : Option State) → (h ≡ true → R ≡ []) → R ++ (if h then x ∷ [] else []) ≡ (if h then x ∷ [] else R)
put-last true R x none = ap (λ l. l ++ x ∷ []) (none refl)
put-last false R x none = append-nil R

pub put-pushed : (s : Sets) (xs : List Entry) (cond : Cond) (r : Option Reading) → All (λ (x : Entry). IsCond s x.0.0) xs → IsCond s cond.0 → IsPut s s cond.0 (seen_reading r) xs (xs ++ (cond, r) ∷ [])
put-pushed s xs cond r own cond_own = record {
  own = All-push (λ (x : Entry). IsCond s x.0.0) xs (cond, r) own cond_own;
  at = λ c listed none. readings_at-append s c xs ((cond, r) ∷ []) ∙ (ap (λ l. readings_at s xs c ++ l) (map-one seen_reading (s.has cond.0 c) r) ∙ put-last (s.has cond.0 c) (readings_at s xs c) (seen_reading r) none);
  alike = λ a b la lb same were. All-push (λ (x : Entry). IsAlike s a b x.0) xs (cond, r) were same;
}

pub HaveRead-pushed : (s : Sets) (item : ℕ) (xs : List Entry) (cond : Cond) (r : Option Reading) → IsWithin s cond.0 item → (IsNever s cond.0 → ⊥) → (seen_reading r ≡ None → ⊥)
    → All (λ (x : Entry). seen_reading x.1 ≡ seen_reading r → ⊥) xs → HaveRead s item xs → HaveRead s item (xs ++ (cond, r) ∷ [])
HaveRead-pushed s item xs cond r within some going other were = record {
  some = All-push (λ (x : Entry). IsNever s x.0.0 → ⊥) xs (cond, r) were.some some;
  within = All-push (λ (x : Entry). IsWithin s x.0.0 item) xs (cond, r) were.within within;
  going = All-push (λ (x : Entry). seen_reading x.1 ≡ None → ⊥) xs (cond, r) were.going going;
  apart = all_pairs_push (λ (a b : Entry). seen_reading a.1 ≡ seen_reading b.1 → ⊥) xs (cond, r) were.apart other;
}

-- ---- configurations joined to those at an index

join-here : (h m : Bool) (R : List (Option State)) (x : Option State) → (m ≡ true → (if h then x ∷ R else R) ≡ []) → (if h || m then x ∷ R else R) ≡ (if m then x ∷ [] else (if h then x ∷ R else R))
join-here true true R x none = absurd (let e = none refl in cc)
join-here false true R x none = ap (λ l. x ∷ l) (none refl)
join-here true false R x none = refl
join-here false false R x none = refl

join-later : (h m : Bool) (R S : List (Option State)) (x y : Option State) → (m ≡ true → (if h then y ∷ R else R) ≡ []) → ((m ≡ true → R ≡ []) → S ≡ (if m then x ∷ [] else R))
    → (if h then y ∷ S else S) ≡ (if m then x ∷ [] else (if h then y ∷ R else R))
join-later true true R S x y none rest = absurd (let e = none refl in cc)
join-later true false R S x y none rest = ap (λ l. y ∷ l) (rest (λ e. absurd (cc)))
join-later false m R S x y none rest = rest none

readings_at-joined : (s : Sets) (c : List ℕ) (xs : List Entry) (i : ℕ) (e x : Entry) (m : Bool) → i < length xs → e.1 ≡ (get_or xs i x).1 → s.has e.0.0 c ≡ (s.has (get_or xs i x).0.0 c || m)
    → (m ≡ true → readings_at s xs c ≡ []) → readings_at s (set xs i e) c ≡ (if m then seen_reading e.1 ∷ [] else readings_at s xs c)
readings_at-joined s c [] i e x m within same joined none = absurd (omega arith)
readings_at-joined s c (y ∷ ys) zero e x m within same joined none =
    let R = readings_at s ys c in
    let v = seen_reading e.1 in
    let first : readings_at s (y ∷ ys) c ≡ (if s.has y.0.0 c then v ∷ R else R) = readings_at-cons s c y ys ∙ ap (λ r. if s.has y.0.0 c then seen_reading r ∷ R else R) (sym same) in
    readings_at-cons s c e ys ∙ (ap (λ b. if b then v ∷ R else R) joined
    ∙ (join-here (s.has y.0.0 c) m R v (λ t. sym first ∙ none t) ∙ ap (λ l. if m then v ∷ [] else l) (sym first)))
readings_at-joined s c (y ∷ ys) (suc i) e x m within same joined none =
    let R = readings_at s ys c in
    let first = readings_at-cons s c y ys in
    readings_at-cons s c y (set ys i e) ∙ (join-later (s.has y.0.0 c) m R (readings_at s (set ys i e) c) (seen_reading e.1) (seen_reading y.1) (λ t. sym first ∙ none t)
    (λ empty. readings_at-joined s c ys i e x m (omega arith) same joined empty)
    ∙ ap (λ l. if m then seen_reading e.1 ∷ [] else l) (sym first))

-- the union of the conditions, at a configuration
abbrev IsEither : Sets → Sets → (a b e : ℕ) → Type 0
IsEither old new a b e = (c : List ℕ) → IsConfig old.arities c → new.has e c ≡ (old.has a c || old.has b c)

module _ {old new : Sets} (keeps : Keeps old new) (xs : List Entry) (i : ℕ) (e x : Entry) (cond : Cond) (within : i < length xs) (own : All (λ (x : Entry). IsCond old x.0.0) xs)
    (same : e.1 ≡ (get_or xs i x).1) (made : IsCond new e.0.0) (either : IsEither old new (get_or xs i x).0.0 cond.0 e.0.0) where
  pub put-joined : IsPut old new cond.0 (seen_reading (get_or xs i x).1) xs (set xs i e)
  put-joined = record {
    own = All-set (λ (x : Entry). IsCond new x.0.0) xs i e made (own-Keeps keeps xs own);
    at = λ c listed none.
        let was = readings_at-Keeps keeps xs c own listed in
        let here : new.has e.0.0 c ≡ (new.has (get_or xs i x).0.0 c || old.has cond.0 c) = either c listed ∙ ap (λ b. b || old.has cond.0 c) (sym (keeps.at _ c (own i x within) listed)) in
        readings_at-joined new c xs i e x (old.has cond.0 c) within same here (λ t. was ∙ none t)
        ∙ (λ j. if old.has cond.0 c then seen_reading (same j) ∷ [] else was j);
    alike = λ a b la lb equal were.
        All-set (λ (x : Entry). IsAlike new a b x.0) xs i e
        (either a la ∙ (ap (λ t. t || old.has cond.0 a) (were i x within) ∙ (ap (λ t. old.has (get_or xs i x).0.0 b || t) equal ∙ sym (either b lb))))
        (alike-Keeps keeps xs a b own la lb were);
  }

  seen-same : (j : ℕ) (d : Entry) → j < length xs → seen_reading (get_or (set xs i e) j d).1 ≡ seen_reading (get_or xs j d).1
  seen-same j d below = elim (cases_eq j i) [
    | inl equal ↦ rw equal (ap (λ (r : Entry). seen_reading r.1) (get_or-set_same xs i e d within) ∙ (ap seen_reading same ∙ ap (λ (r : Entry). seen_reading r.1) (same-default xs i x d within)))
    | inr other ↦ ap (λ (r : Entry). seen_reading r.1) (get_or-set_other xs i j e d other)
  ]

  pub HaveRead-joined : (item : ℕ) → IsWithin old cond.0 item → HaveRead old item xs → HaveRead new item (set xs i e)
  HaveRead-joined item in_item were =
      let now = HaveRead-Keeps keeps xs own were in
      let long = length-set xs i e in
      record {
        within = All-set (λ (x : Entry). IsWithin new x.0.0 item) xs i e
            (record {
              own = keeps.own _ in_item.own;
              at = λ c listed has.
                  let was = IsConfig-kept keeps listed in
                  keeps.at _ c in_item.own was ∙ either-true _ _ (sym (either c was) ∙ has) ((were.within i x within).at c was) (in_item.at c was);
            }) now.within;
        going = All-set (λ (x : Entry). seen_reading x.1 ≡ None → ⊥) xs i e (λ none. were.going i x within (sym (ap seen_reading same) ∙ none)) now.going;
        some = All-set (λ (x : Entry). IsNever new x.0.0 → ⊥) xs i e
            (λ never. were.some i x within (record { none = λ c listed. left-false _ _ (sym (either c listed) ∙ never.none c (IsConfig-Keeps keeps listed)) })) now.some;
        apart = λ j k d order below equal.
            let in_k : k < length xs = omega (arith, long, below) in
            were.apart j k d order in_k (sym (seen-same j d (omega (arith, in_k, order))) ∙ (equal ∙ seen-same k d in_k));
      }
    where
      left-false : (a b : Bool) → (a || b) ≡ false → a ≡ false
      left-false true b e = e
      left-false false b e = refl

      either-true : {P : Type 0} (a b : Bool) → (a || b) ≡ true → (a ≡ true → P) → (b ≡ true → P) → P
      either-true true b e left right = left refl
      either-true false b e left right = right e

-- ---- one of two lists

put-first : (h : Bool) (w m : List (Option State)) (x : Option State) → (h ≡ true → w ++ m ≡ []) → (if h then x ∷ [] else w) ++ m ≡ (if h then x ∷ [] else w ++ m)
put-first true w m x none = ap (λ l. x ∷ l) (none-both w m (none refl)).1
put-first false w m x none = refl

put-second : (h : Bool) (w m : List (Option State)) (x : Option State) → (h ≡ true → w ++ m ≡ []) → w ++ (if h then x ∷ [] else m) ≡ (if h then x ∷ [] else w ++ m)
put-second true w m x none = ap (λ l. l ++ x ∷ []) (none-both w m (none refl)).0
put-second false w m x none = refl

module _ {old new : Sets} {cond : ℕ} {r : Option State} (keeps : Keeps old new) (xs after others : List Entry) (own : All (λ (x : Entry). IsCond old x.0.0) others) (put : IsPut old new cond r xs after) where
  pub put-front : IsPut old new cond r (xs ++ others) (after ++ others)
  put-front = record {
    own = All-append (λ (x : Entry). IsCond new x.0.0) after others put.own (own-Keeps keeps others own);
    at = λ c listed none.
        let w = readings_at old xs c in
        let m = readings_at old others c in
        let split = readings_at-append old c xs others in
        let empty : old.has cond c ≡ true → w ++ m ≡ [] = λ t. sym split ∙ none t in
        readings_at-append new c after others
        ∙ ((λ j. put.at c listed (λ t. (none-both w m (empty t)).0) j ++ readings_at-Keeps keeps others c own listed j)
        ∙ (put-first (old.has cond c) w m r empty ∙ ap (λ l. if old.has cond c then r ∷ [] else l) (sym split)));
    alike = λ a b la lb same were.
        let both = all-parts (λ (x : Entry). IsAlike old a b x.0) xs others were in
        All-append (λ (x : Entry). IsAlike new a b x.0) after others (put.alike a b la lb same both.0) (alike-Keeps keeps others a b own la lb both.1);
  }

  pub put-back : IsPut old new cond r (others ++ xs) (others ++ after)
  put-back = record {
    own = All-append (λ (x : Entry). IsCond new x.0.0) others after (own-Keeps keeps others own) put.own;
    at = λ c listed none.
        let w = readings_at old others c in
        let m = readings_at old xs c in
        let split = readings_at-append old c others xs in
        let empty : old.has cond c ≡ true → w ++ m ≡ [] = λ t. sym split ∙ none t in
        readings_at-append new c others after
        ∙ ((λ j. readings_at-Keeps keeps others c own listed j ++ put.at c listed (λ t. (none-both w m (empty t)).1) j)
        ∙ (put-second (old.has cond c) w m r empty ∙ ap (λ l. if old.has cond c then r ∷ [] else l) (sym split)));
    alike = λ a b la lb same were.
        let both = all-parts (λ (x : Entry). IsAlike old a b x.0) others xs were in
        All-append (λ (x : Entry). IsAlike new a b x.0) others after (alike-Keeps keeps others a b own la lb both.0) (put.alike a b la lb same both.1);
  }

-- ---- configurations that are parted by an element

both : (symbol : Option grammar.Symbol) (reading : Option State) (t i l h : Bool) (L : List (Option State)) → l ≡ (t && not i) → h ≡ (t && i)
    → (if h then moved true symbol reading ∷ [] else (if l then reading ∷ [] else L)) ≡ (if t then moved i symbol reading ∷ [] else L)
both symbol reading true true l h L is_l is_h = rw (is_l, is_h) refl
both symbol reading true false l h L is_l is_h = rw (is_l, is_h) refl
both symbol reading false i l h L is_l is_h = rw (is_l, is_h) refl

pub and-not : (a b : Bool) → (a && not (a && b)) ≡ (a && not b)
and-not true b = refl
and-not false b = refl

no-lack : (t i l : Bool) → l ≡ (t && not i) → i ≡ true → l ≡ false
no-lack true true l e is = e
no-lack false i l e is = e
no-lack true false l e is = absurd (cc)

module _ {old new : Sets} {item cond : ℕ} {symbol : Option grammar.Symbol} {reading : Option State} {before after : Readings} where
  -- where all of them have it or none
  pub parted-one : {r : Option State} → ((c : List ℕ) → IsConfig old.arities c → old.has cond c ≡ true → r ≡ moved (old.has item c) symbol reading)
      → (HaveRead old item before.moved.items → HaveRead new item after.moved.items)
      → IsPut old new cond r (all_of before) (all_of after) → ArePartedBy old new item symbol cond reading before after
  parted-one {r} same read put = record {
    own = put.own;
    read = read;
    at = λ c listed none. put.at c listed none ∙ by c (old.has cond c) (readings_at old (all_of before) c) (same c listed);
    alike = λ a b la lb item cond were. put.alike a b la lb cond were;
  }
    where
      by : (c : List ℕ) (h : Bool) (L : List (Option State)) → (h ≡ true → r ≡ moved (old.has item c) symbol reading) → (if h then r ∷ [] else L) ≡ (if h then moved (old.has item c) symbol reading ∷ [] else L)
      by c true L is = ap (λ x. x ∷ []) (is refl)
      by c false L is = refl

  module _ {mid : Sets} {between : List Entry} {lacking having : ℕ} (keeps : Keeps old mid)
      (lack : (c : List ℕ) → IsConfig old.arities c → mid.has lacking c ≡ (old.has cond c && not (old.has item c)))
      (have : (c : List ℕ) → IsConfig old.arities c → mid.has having c ≡ (old.has cond c && old.has item c))
      (own : All (λ (x : Entry). IsCond old x.0.0) (all_of before)) (first : IsPut mid mid lacking reading (all_of before) between) (second : IsPut mid new having (moved true symbol reading) between (all_of after)) where
    pub parted-two : (HaveRead old item before.moved.items → HaveRead new item after.moved.items) → ArePartedBy old new item symbol cond reading before after
    parted-two read = record {
      own = second.own;
      read = read;
      at = λ c listed none.
          let t = old.has cond c in
          let i = old.has item c in
          let here = IsConfig-Keeps keeps listed in
          let was = readings_at-Keeps keeps (all_of before) c own listed in
          let L = readings_at old (all_of before) c in
          let one = first.at c here (λ is. was ∙ none (and_parts t (not i) (sym (lack c listed) ∙ is)).0) ∙ ap (λ l. if mid.has lacking c then reading ∷ [] else l) was in
          second.at c here (λ is.
          let parts = and_parts t i (sym (have c listed) ∙ is) in
          one ∙ (ap (λ b. if b then reading ∷ [] else L) (no-lack t i (mid.has lacking c) (lack c listed) parts.1) ∙ none parts.0))
          ∙ (ap (λ l. if mid.has having c then moved true symbol reading ∷ [] else l) one ∙ both symbol reading t i (mid.has lacking c) (mid.has having c) L (lack c listed) (have c listed));
      alike = λ a b la lb same_item same_cond were.
          let ha = IsConfig-Keeps keeps la in
          let hb = IsConfig-Keeps keeps lb in
          let lacks = lack a la ∙ ((λ j. same_cond j && not (same_item j)) ∙ sym (lack b lb)) in
          let has = have a la ∙ ((λ j. same_cond j && same_item j) ∙ sym (have b lb)) in
          second.alike a b ha hb has (first.alike a b ha hb lacks (alike-Keeps keeps (all_of before) a b own la lb were));
    }

pub no-readings : (r : Readings) → r.left.items ≡ [] → r.moved.items ≡ [] → all_of r ≡ []
no-readings r left moved = ap (λ l. l ++ r.moved.items) left ∙ moved

pub HaveRead-nil : (s : Sets) (item : ℕ) → HaveRead s item []
HaveRead-nil s item = record {
  some = All-nil (λ (x : Entry). IsNever s x.0.0 → ⊥);
  within = All-nil (λ (x : Entry). IsWithin s x.0.0 item);
  going = All-nil (λ (x : Entry). seen_reading x.1 ≡ None → ⊥);
  apart = λ i j d low high. absurd (omega arith);
}

-- the same, from an earlier state of the store
pub put-before : {old mid new : Sets} {cond : ℕ} {r : Option State} {before after : List Entry} → Keeps old mid → All (λ (x : Entry). IsCond old x.0.0) before → IsCond old cond → IsPut mid new cond r before after → IsPut old new cond r before after
put-before {old} {mid} {new} {cond} {r} {before} {after} keeps own cond_own put = record {
  own = put.own;
  at = λ c listed none.
      let was = readings_at-Keeps keeps before c own listed in
      let same = keeps.at cond c cond_own listed in
      put.at c (IsConfig-Keeps keeps listed) (λ t. was ∙ none (sym same ∙ t)) ∙ (λ j. if same j then r ∷ [] else was j);
  alike = λ a b la lb equal were. put.alike a b (IsConfig-Keeps keeps la) (IsConfig-Keeps keeps lb) (keeps.at cond a cond_own la ∙ (equal ∙ sym (keeps.at cond b cond_own lb))) (alike-Keeps keeps before a b own la lb were);
}

pub moved-none : (h : Bool) (symbol : Option grammar.Symbol) → None ≡ moved h symbol None
moved-none true symbol = refl
moved-none false symbol = refl

pub moved-all : (h : Bool) (symbol : Option grammar.Symbol) (o : Option State) → h ≡ true → moved true symbol o ≡ moved h symbol o
moved-all h symbol o is = ap (λ b. moved b symbol o) (sym is)

pub moved-no : (h : Bool) (symbol : Option grammar.Symbol) (o : Option State) → h ≡ false → o ≡ moved h symbol o
moved-no h symbol o is = ap (λ b. moved b symbol o) (sym is)

pub none-had : (t i : Bool) → t ≡ true → (t && i) ≡ false → i ≡ false
none-had true i t e = e
none-had false i t e = absurd (cc)

pub some-seen : (r : Option Reading) → is_some r ≡ true → seen_reading r ≡ None → ⊥
some-seen None e none = absurd (cc)
some-seen (Some r) e none = absurd (cc)

pub on_ok_both : {T E : Type 0} {P Q R : Type 0} (r : Result T E) → OnOk r P → OnOk r Q → (P → Q → R) → OnOk r R
on_ok_both (Ok x) p q f = f p q
on_ok_both (Err e) p q f = p

-- the same, from an earlier state of the store
pub parted-before : {old mid new : Sets} {item cond : ℕ} {symbol : Option grammar.Symbol} {reading : Option State} {before after : Readings} → Keeps old mid → All (λ (x : Entry). IsCond old x.0.0) (all_of before) → All (λ (x : Entry). IsCond old x.0.0) before.moved.items
    → IsCond old cond → IsCond old item → ArePartedBy mid new item symbol cond reading before after → ArePartedBy old new item symbol cond reading before after
parted-before {old} {mid} {new} {item} {cond} {symbol} {reading} {before} {after} keeps own moved_own cond_own item_own parted = record {
  own = parted.own;
  read = λ were. parted.read (HaveRead-Keeps keeps before.moved.items moved_own were);
  at = λ c listed none.
      let was = readings_at-Keeps keeps (all_of before) c own listed in
      let same = keeps.at cond c cond_own listed in
      let item_same = keeps.at item c item_own listed in
      parted.at c (IsConfig-Keeps keeps listed) (λ t. was ∙ none (sym same ∙ t)) ∙ (λ j. if same j then moved (item_same j) symbol reading ∷ [] else was j);
  alike = λ a b la lb equal_item equal were.
      let kept = λ (k : ℕ) (made : IsCond old k) (e : old.has k a ≡ old.has k b). keeps.at k a made la ∙ (e ∙ sym (keeps.at k b made lb)) in
      parted.alike a b (IsConfig-Keeps keeps la) (IsConfig-Keeps keeps lb) (kept item item_own equal_item) (kept cond cond_own equal) (alike-Keeps keeps (all_of before) a b own la lb were);
}
