-- How configurations read `_Pragma` operators.
use Rattle.std.proofs.Common.{◌≡◌, ℕ, ◌<◌, ◌&&◌, ◌||◌, not, Bool, true, false, true≢false, List, [], ◌∷◌, ◌++◌, All, map, Option, Some, None, is_some, is_none, append-nil, append_assoc, refl, sym, ap, subst, ◌∙◌, arith, if◌then◌else◌}
use Rattle.std.proofs.lemmas.List.Elements.{Contains-append_left, Contains-append_right, Contains-push}
use Rattle.std.specs.List.{Contains}
use Rattle.std.specs.Option.{option_to_list}
use Rattle.c11_directives.specs.Pragmas.{is_closing, is_opening, is_pragma, is_text}
use Rattle.c11_macros.specs.Text.{fault_of}
use Rattle.sc_base.specs.declared.fault.Fault as base
use Rattle.sc_base.specs.declared.place.Place as base_place
use Rattle.sc_base.specs.declared.token.Token as base_token
use Rattle.sc_expand.specs.Moved.{moved_failure}
use Rattle.sc_expand.specs.Seen.{seen_failure}
use Rattle.sc_model.specs.declared.cause.Cause.TheVariants.{BadPragma}
use Rattle.sc_model.specs.Fault.{Fault}
use Rattle.sc_model.specs.Token.{Token}
use Rattle.sc_prep.proofs.Facts.{All-append, All-cons, All-head, All-map, All-nil, All-pop, All-push, IsConfig-Keeps, IsConfig-kept, Keeps-trans, and-false, and-true, and_parts, faults_at-Keeps, faults_at-append, items_at-Keeps, items_at-append, map-append, map-one, none-told, or-false}
use Rattle.sc_prep.proofs.PragmaPlaces.{each-next, each-none, each-one}
use Rattle.sc_prep.proofs.RunLemmas.{fault-items, faults-All, part-All, part-later, seen-told}
use Rattle.sc_prep.proofs.Terms.{Cond, Denotes, Failure, IsCond, IsConfig, IsNever, IsPart, IsWithin, Keeps, Sets, fault_items, faults_at, has_none, is_empty, items_at, seen, seen_fault, seen_place}
use Rattle.sc_prep.specs.declared.pragmas.Pragmas.{Pragmas}
use Rattle.sc_prep.specs.Pragmas.{Awaited, AwaitsAt, BeginsPragma, EndsPragmas, HasNoPragma, MovesPragmas, OwnsPragmas, PutsOutside, ReadsPragma, awaited_behind, awaits, awaits_closing, awaits_opening, awaits_text, closing, is_outside, no_operator, nothing, opening, outside, read_behind, text, tokens_within, fault_awaiting}

-- ---- what is awaited, told of a store that has grown

pub owns-pragmas : {old new : Sets} {p : Pragmas} → Keeps old new → OwnsPragmas old p → OwnsPragmas new p
owns-pragmas keeps o = record { inside = keeps.own _ o.inside; opening = keeps.own _ o.opening; text = keeps.own _ o.text; closing = keeps.own _ o.closing; faults = λ k d h. keeps.own _ (o.faults k d h) }

pub awaits-kept : {old new : Sets} {p : Pragmas} {files : List (List ℕ)} {c : List ℕ} {a : Awaited} → Keeps old new → OwnsPragmas old p → IsConfig old.arities c → AwaitsAt old files p c a → AwaitsAt new files p c a
awaits-kept {p = p} {files} {c} keeps o listed at = record {
  inside = keeps.at _ c o.inside listed ∙ at.inside;
  opening = keeps.at _ c o.opening listed ∙ at.opening;
  text = keeps.at _ c o.text listed ∙ at.text;
  closing = keeps.at _ c o.closing listed ∙ at.closing;
  faults = ap (map (seen_fault files)) (faults_at-Keeps p.faults.items c keeps o.faults listed) ∙ at.faults;
}

pub awaits-none : {s : Sets} {p : Pragmas} (files : List (List ℕ)) {c : List ℕ} → IsConfig s.arities c → HasNoPragma s p → AwaitsAt s files p c no_operator
awaits-none {s} files {c} listed none = record {
  inside = none.inside.none c listed;
  opening = none.opening.none c listed;
  text = none.text.none c listed;
  closing = none.closing.none c listed;
  faults = ap (λ fs. map (seen_fault files) (faults_at s fs c)) none.faults;
}

-- the same faults are seen
told-as : (files : List (List ℕ)) (s t : Sets) (fs gs : List base.Fault) (c : List ℕ) → items_at t (fault_items gs) c ≡ items_at s (fault_items fs) c → map (seen_fault files) (faults_at t gs c) ≡ map (seen_fault files) (faults_at s fs c)
told-as files s t fs gs c same =
    seen-told files (faults_at t gs c)
    ∙ (ap (λ xs. map fault_of (map (moved_failure (seen_place files)) xs)) (sym (fault-items t gs c) ∙ (same ∙ fault-items s fs c)) ∙ sym (seen-told files (faults_at s fs c)))

told-none : (files : List (List ℕ)) (t : Sets) (gs : List base.Fault) (c : List ℕ) → items_at t (fault_items gs) c ≡ [] → map (seen_fault files) (faults_at t gs c) ≡ []
told-none files t gs c none = told-as files t t [] gs c none

placed-within : {s : Sets} (files : ℕ) (fs gs : List base.Fault) → IsPart (fault_items fs) s (fault_items gs) → All (λ (f : base.Fault). f.place.file.0 < files) fs → All (λ (f : base.Fault). f.place.file.0 < files) gs
placed-within files fs gs part all =
    let There : Failure base_place.Place → Type 0 = λ failure. failure.place.file.0 < files in
    let Item : Cond × Failure base_place.Place → Type 0 = λ item. item.1.place.file.0 < files in
    faults-All Item gs (part-All There part (All-map Item (λ (f : base.Fault). (f.cond, seen_failure f)) fs all))

-- a condition that is told of others, told of the store before
pub told-back : {old middle new : Sets} {a b r : ℕ} (f : Bool → Bool → Bool) → Keeps old middle → Keeps middle new → IsCond old a → IsCond old b → Denotes new r (λ c. f (middle.has a c) (middle.has b c)) → Denotes new r (λ c. f (old.has a c) (old.has b c))
told-back f keeps later own_a own_b told = record {
  own = told.own;
  at = λ c now. let listed = IsConfig-kept (Keeps-trans keeps later) now in told.at c now ∙ (λ j. f (keeps.at _ c own_a listed j) (keeps.at _ c own_b listed j));
}

-- ---- configurations leave their operators

module _ {old new : Sets} {p q : Pragmas} (cond : ℕ) (inside : Denotes new q.inside.0 (λ c. old.has p.inside.0 c && not (old.has cond c))) (opens : Denotes new q.opening.0 (λ c. old.has p.opening.0 c && not (old.has cond c)))
    (texts : Denotes new q.text.0 (λ c. old.has p.text.0 c && not (old.has cond c))) (closes : Denotes new q.closing.0 (λ c. old.has p.closing.0 c && not (old.has cond c)))
    (faults : IsWithin old (fault_items p.faults.items) (λ c. not (old.has cond c)) new (fault_items q.faults.items)) (keeps : Keeps old new) where
  left-at : (files : List (List ℕ)) (c : List ℕ) (a : Awaited) → IsConfig old.arities c → AwaitsAt old files p c a → (h : Bool) → old.has cond c ≡ h → AwaitsAt new files q c (if h then no_operator else a)
  left-at files c a listed at true here =
      let now = IsConfig-Keeps keeps listed in
      let gone : (x y : Bool) → x ≡ (y && not (old.has cond c)) → x ≡ false = λ x y e. e ∙ (ap (λ b. y && not b) here ∙ and-false y) in
      record {
        inside = gone _ _ (inside.at c now);
        opening = gone _ _ (opens.at c now);
        text = gone _ _ (texts.at c now);
        closing = gone _ _ (closes.at c now);
        faults = told-none files new q.faults.items c (faults.at c listed ∙ ap (λ b. if not b then items_at old (fault_items p.faults.items) c else []) here);
      }
  left-at files c a listed at false here =
      let now = IsConfig-Keeps keeps listed in
      let still : (x y z : Bool) → x ≡ (y && not (old.has cond c)) → y ≡ z → x ≡ z = λ x y z e same. e ∙ (ap (λ b. y && not b) here ∙ (and-true y ∙ same)) in
      record {
        inside = still _ _ _ (inside.at c now) at.inside;
        opening = still _ _ _ (opens.at c now) at.opening;
        text = still _ _ _ (texts.at c now) at.text;
        closing = still _ _ _ (closes.at c now) at.closing;
        faults = told-as files old new p.faults.items q.faults.items c (faults.at c listed ∙ ap (λ b. if not b then items_at old (fault_items p.faults.items) c else []) here) ∙ at.faults;
      }

  pub leaves-operators : MovesPragmas old p new q (λ files c a. if old.has cond c then no_operator else a)
  leaves-operators = record {
    owns = record {
      inside = inside.own;
      opening = opens.own;
      text = texts.own;
      closing = closes.own;
      faults = faults-All (λ (item : Cond × Failure base_place.Place). IsCond new item.0.0) q.faults.items faults.part.own;
    };
    at = λ files c a listed at. left-at files c a listed at (old.has cond c) refl;
    placed = λ files all. placed-within files p.faults.items q.faults.items faults.part all;
  }

-- ---- a token is read

-- what is awaited before the operators that end are left
abbrev mid : Awaited → (reads opens texts : Bool) → Awaited
mid no_operator reads opens texts = no_operator
mid (opening p) reads opens texts = if reads then (if opens then text p else nothing p) else opening p
mid (text p) reads opens texts = if reads then (if texts then closing p else nothing p) else text p
mid (closing p) reads opens texts = if reads then nothing p else closing p
mid (nothing p) reads opens texts = nothing p

record IsMid (a : Awaited) (reads opens texts : Bool) : Type 0 where
  inside : fault_awaiting (mid a reads opens texts) ≡ fault_awaiting a
  opening : (awaits_opening a && not reads) ≡ awaits_opening (mid a reads opens texts)
  text : ((awaits_text a && not reads) || (awaits_opening a && (opens && reads))) ≡ awaits_text (mid a reads opens texts)
  closing : ((awaits_closing a && not reads) || (awaits_text a && (texts && reads))) ≡ awaits_closing (mid a reads opens texts)

is-mid : (a : Awaited) (reads opens texts : Bool) → IsMid a reads opens texts
is-mid no_operator reads opens texts = record { inside = refl; opening = refl; text = refl; closing = refl }
is-mid (opening p) true true texts = record { inside = refl; opening = refl; text = refl; closing = refl }
is-mid (opening p) true false texts = record { inside = refl; opening = refl; text = refl; closing = refl }
is-mid (opening p) false true texts = record { inside = refl; opening = refl; text = refl; closing = refl }
is-mid (opening p) false false texts = record { inside = refl; opening = refl; text = refl; closing = refl }
is-mid (text p) true opens true = record { inside = refl; opening = refl; text = refl; closing = refl }
is-mid (text p) true opens false = record { inside = refl; opening = refl; text = refl; closing = refl }
is-mid (text p) false opens true = record { inside = refl; opening = refl; text = refl; closing = refl }
is-mid (text p) false opens false = record { inside = refl; opening = refl; text = refl; closing = refl }
is-mid (closing p) true opens texts = record { inside = refl; opening = refl; text = refl; closing = refl }
is-mid (closing p) false opens texts = record { inside = refl; opening = refl; text = refl; closing = refl }
is-mid (nothing p) reads opens texts = record { inside = refl; opening = refl; text = refl; closing = refl }

-- and behind that
is-read : (a : Awaited) (reads : Bool) (t : Token) → (if awaits_closing a && (is_closing t && reads) then no_operator else mid a reads (is_opening t) (is_text t)) ≡ (if reads then read_behind a t else a)
is-read no_operator true t = refl
is-read no_operator false t = refl
is-read (opening p) true t = refl
is-read (opening p) false t = refl
is-read (text p) true t = refl
is-read (text p) false t = refl
is-read (closing p) true t = by (is_closing t)
  where
    by : (b : Bool) → (if b && true then no_operator else nothing p) ≡ (if b then no_operator else nothing p)
    by true = refl
    by false = refl
is-read (closing p) false t = ap (λ b. if b then no_operator else closing p) (and-false (is_closing t))
is-read (nothing p) true t = refl
is-read (nothing p) false t = refl

-- configurations pass a token of their operators
module _ (names : List (List ℕ)) {old middle new : Sets} {p read q : Pragmas} (cond : ℕ) (t : base_token.Token) (owns : OwnsPragmas old p) {closed : ℕ} (keeps : Keeps old middle) (opens texts closes : Bool)
    (is_opens : opens ≡ is_opening (seen names [] t)) (is_texts : texts ≡ is_text (seen names [] t)) (is_closes : closes ≡ is_closing (seen names [] t)) (inside : read.inside ≡ p.inside) (faults : read.faults.items ≡ p.faults.items)
    (opening_is : Denotes middle read.opening.0 (λ c. old.has p.opening.0 c && not (old.has cond c)))
    (text_is : Denotes middle read.text.0 (λ c. (old.has p.text.0 c && not (old.has cond c)) || (old.has p.opening.0 c && (opens && old.has cond c))))
    (closing_is : Denotes middle read.closing.0 (λ c. (old.has p.closing.0 c && not (old.has cond c)) || (old.has p.text.0 c && (texts && old.has cond c)))) (closed_is : Denotes middle closed (λ c. old.has p.closing.0 c && (closes && old.has cond c)))
    (leaves : MovesPragmas middle read new q (λ files c a. if middle.has closed c then no_operator else a)) where
  mid-at : (files : List (List ℕ)) (c : List ℕ) (a : Awaited) → IsConfig old.arities c → AwaitsAt old files p c a → AwaitsAt middle files read c (mid a (old.has cond c) opens texts)
  mid-at files c a listed at =
      let now = IsConfig-Keeps keeps listed in
      let reads = old.has cond c in
      let is = is-mid a reads opens texts in
      let kept = awaits-kept keeps owns listed at in
      record {
        inside = (λ j. middle.has (inside j).0 c) ∙ (kept.inside ∙ ap is_some (sym is.inside));
        opening = opening_is.at c now ∙ (ap (λ b. b && not reads) at.opening ∙ is.opening);
        text = text_is.at c now ∙ ((λ j. (at.text j && not reads) || (at.opening j && (opens && reads))) ∙ is.text);
        closing = closing_is.at c now ∙ ((λ j. (at.closing j && not reads) || (at.text j && (texts && reads))) ∙ is.closing);
        faults = ap (λ fs. map (seen_fault files) (faults_at middle fs c)) faults ∙ (kept.faults ∙ ap option_to_list (sym is.inside));
      }

  pub passes-token : MovesPragmas old p new q (λ files c a. if old.has cond c then read_behind a (seen names files t) else a)
  passes-token = record {
    owns = leaves.owns;
    at = λ files c a listed at. subst (AwaitsAt new files q c)
        ((λ j. if (closed_is.at c (IsConfig-Keeps keeps listed) ∙ (λ k. at.closing k && (is_closes k && old.has cond c))) j then no_operator else mid a (old.has cond c) (is_opens j) (is_texts j)) ∙ is-read a (old.has cond c) (seen names files t))
        (leaves.at files c (mid a (old.has cond c) opens texts) (IsConfig-Keeps keeps listed) (mid-at files c a listed at));
    placed = λ files all. leaves.placed files (subst (All (λ (f : base.Fault). f.place.file.0 < files)) (sym faults) all);
  }

-- the configurations of a condition read a token, all without an operator, or some with one
none-inside : (o : Option Fault) (h i : Bool) → i ≡ is_some o → (h && not (h && i)) ≡ (h && is_none o)
none-inside None true i is = ap not is
none-inside (Some f) true i is = ap not is
none-inside o false i is = refl

reads-as : (a : Awaited) (h i : Bool) (t : Token) → i ≡ is_some (fault_awaiting a) → (if h && i then read_behind a t else a) ≡ (if h then read_behind a t else a)
reads-as a false i t is = refl
reads-as no_operator true true t is = refl
reads-as no_operator true false t is = refl
reads-as (opening p) true i t is = ap (λ b. if b then read_behind (opening p) t else opening p) is
reads-as (text p) true i t is = ap (λ b. if b then read_behind (text p) t else text p) is
reads-as (closing p) true i t is = ap (λ b. if b then read_behind (closing p) t else closing p) is
reads-as (nothing p) true i t is = ap (λ b. if b then read_behind (nothing p) t else nothing p) is

module _ (names : List (List ℕ)) {old middle : Sets} {p : Pragmas} (cond : ℕ) (t : base_token.Token) (own : IsCond old cond) (owns : OwnsPragmas old p) (keeps : Keeps old middle) {reading : ℕ}
    (is : Denotes middle reading (λ c. old.has cond c && old.has p.inside.0 c)) where
  pub reads-nothing : IsNever middle reading → ReadsPragma names old p cond t middle p cond
  reads-nothing never = record {
    moves = record {
      owns = owns-pragmas keeps owns;
      at = λ files c a listed at. subst (AwaitsAt middle files p c) (ap (λ b. if b then read_behind a (seen names files t) else a) (sym (none c listed)) ∙ reads-as a (old.has cond c) (old.has p.inside.0 c) (seen names files t) at.inside) (awaits-kept keeps owns listed at);
      placed = λ files all. all;
    };
    own = keeps.own _ own;
    within = λ c listed e. sym (keeps.at _ c own listed) ∙ e;
    is_free = λ files c a listed at. keeps.at _ c own listed
        ∙ ((sym (and-true (old.has cond c)) ∙ ap (λ b. old.has cond c && not b) (sym (none c listed))) ∙ none-inside (fault_awaiting a) (old.has cond c) (old.has p.inside.0 c) at.inside);
  }
    where
      none : (c : List ℕ) → IsConfig old.arities c → (old.has cond c && old.has p.inside.0 c) ≡ false
      none c listed = let now = IsConfig-Keeps keeps listed in sym (is.at c now) ∙ never.none c now

  pub reads-token : {last new : Sets} {q : Pragmas} {free : ℕ} → Keeps middle last → Keeps last new → Denotes last free (λ c. middle.has cond c && not (middle.has reading c))
      → MovesPragmas last p new q (λ files c a. if last.has reading c then read_behind a (seen names files t) else a) → ReadsPragma names old p cond t new q free
  reads-token {last} {new} {q} before later frees moves = record {
    moves = record {
      owns = moves.owns;
      at = λ files c a listed at. subst (AwaitsAt new files q c) (ap (λ b. if b then read_behind a (seen names files t) else a) (reading-is c listed) ∙ reads-as a (old.has cond c) (old.has p.inside.0 c) (seen names files t) at.inside)
          (moves.at files c a (IsConfig-Keeps (Keeps-trans keeps before) listed) (awaits-kept (Keeps-trans keeps before) owns listed at));
      placed = moves.placed;
    };
    own = later.own _ frees.own;
    within = λ c listed e.
        let mid_listed = IsConfig-Keeps keeps listed in
        let now = IsConfig-Keeps before mid_listed in
        sym (keeps.at _ c own listed) ∙ (and_parts (middle.has cond c) (not (middle.has reading c)) (sym (frees.at c now) ∙ (sym (later.at _ c frees.own now) ∙ e))).0;
    is_free = λ files c a listed at.
        let mid_listed = IsConfig-Keeps keeps listed in
        let now = IsConfig-Keeps before mid_listed in
        later.at _ c frees.own now ∙ (frees.at c now ∙ ((λ j. keeps.at _ c own listed j && not (is.at c mid_listed j)) ∙ none-inside (fault_awaiting a) (old.has cond c) (old.has p.inside.0 c) at.inside));
  }
    where
      reading-is : (c : List ℕ) → IsConfig old.arities c → last.has reading c ≡ (old.has cond c && old.has p.inside.0 c)
      reading-is c listed = let mid_listed = IsConfig-Keeps keeps listed in before.at _ c is.own mid_listed ∙ is.at c mid_listed

-- ---- an operator begins

pub begins-operator : {old new : Sets} {p q : Pragmas} (cond : Cond) (place : base_place.Place) → Keeps old new → IsCond old cond.0 → OwnsPragmas old p → Denotes new q.inside.0 (λ c. old.has p.inside.0 c || old.has cond.0 c)
    → Denotes new q.opening.0 (λ c. old.has p.opening.0 c || old.has cond.0 c) → q.text ≡ p.text → q.closing ≡ p.closing → q.faults.items ≡ p.faults.items ++ record { cond = cond; cause = BadPragma; place = place } ∷ []
    → BeginsPragma old p cond.0 place new q
begins-operator {old} {new} {p} {q} cond place keeps own owns inside opens texts closes faults = record {
  owns = record {
    inside = inside.own;
    opening = opens.own;
    text = subst (λ (a : Cond). IsCond new a.0) (sym texts) (keeps.own _ owns.text);
    closing = subst (λ (a : Cond). IsCond new a.0) (sym closes) (keeps.own _ owns.closing);
    faults = subst (All (λ (f : base.Fault). IsCond new f.cond.0)) (sym faults) (All-push (λ (f : base.Fault). IsCond new f.cond.0) p.faults.items fault (λ k d h. keeps.own _ (owns.faults k d h)) (keeps.own _ own));
  };
  at = λ files c a listed at free. by files c a listed (awaits-kept keeps owns listed at) at (old.has cond.0 c) refl free;
  placed = λ files there all. subst (All (λ (f : base.Fault). f.place.file.0 < files)) (sym faults) (All-push (λ (f : base.Fault). f.place.file.0 < files) p.faults.items fault all there);
}
  where
    fault : base.Fault
    fault = record { cond = cond; cause = BadPragma; place = place }

    told : (files : List (List ℕ)) (c : List ℕ) (h : Bool) → IsConfig old.arities c → old.has cond.0 c ≡ h → map (seen_fault files) (faults_at new q.faults.items c) ≡ map (seen_fault files) (faults_at new p.faults.items c) ++ (if h then seen_fault files fault ∷ [] else [])
    told files c h listed here =
        ap (λ fs. map (seen_fault files) (faults_at new fs c)) faults
        ∙ (ap (map (seen_fault files)) (faults_at-append new p.faults.items (fault ∷ []) c)
        ∙ (map-append (seen_fault files) (faults_at new p.faults.items c) (faults_at new (fault ∷ []) c) ∙ ap (λ fs. map (seen_fault files) (faults_at new p.faults.items c) ++ fs) (map-one (seen_fault files) (new.has cond.0 c) fault ∙ ap (λ b. if b then seen_fault files fault ∷ [] else []) (keeps.at _ c own listed ∙ here))))

    by : (files : List (List ℕ)) (c : List ℕ) (a : Awaited) → IsConfig old.arities c → AwaitsAt new files p c a → AwaitsAt old files p c a → (h : Bool) → old.has cond.0 c ≡ h → (old.has cond.0 c ≡ true → a ≡ no_operator)
        → AwaitsAt new files q c (if h then opening (seen_place files place) else a)
    by files c a listed now at true here free =
        let now_listed = IsConfig-Keeps keeps listed in
        let none = free here in
        record {
          inside = inside.at c now_listed ∙ (λ j. (at.inside ∙ ap (λ b. is_some (fault_awaiting b)) none) j || here j);
          opening = opens.at c now_listed ∙ (λ j. (at.opening ∙ ap awaits_opening none) j || here j);
          text = ap (λ (x : Cond). new.has x.0 c) texts ∙ (now.text ∙ ap awaits_text none);
          closing = ap (λ (x : Cond). new.has x.0 c) closes ∙ (now.closing ∙ ap awaits_closing none);
          faults = told files c true listed here ∙ ap (λ fs. fs ++ seen_fault files fault ∷ []) (now.faults ∙ ap (λ b. option_to_list (fault_awaiting b)) none);
        }
    by files c a listed now at false here free =
        let now_listed = IsConfig-Keeps keeps listed in
        record {
          inside = inside.at c now_listed ∙ (ap (λ b. old.has p.inside.0 c || b) here ∙ (or-false (old.has p.inside.0 c) ∙ at.inside));
          opening = opens.at c now_listed ∙ (ap (λ b. old.has p.opening.0 c || b) here ∙ (or-false (old.has p.opening.0 c) ∙ at.opening));
          text = ap (λ (x : Cond). new.has x.0 c) texts ∙ now.text;
          closing = ap (λ (x : Cond). new.has x.0 c) closes ∙ now.closing;
          faults = told files c false listed here ∙ (append-nil (map (seen_fault files) (faults_at new p.faults.items c)) ∙ now.faults);
        }

-- ---- a token is put behind a list, or is one of an operator

-- a token is none of an operator where nothing is awaited
none-outside : (a : Awaited) (t : Token) → is_none (fault_awaiting a) ≡ false → (read_behind a t ≡ awaited_behind a t) × (is_outside a t ≡ false)
none-outside no_operator t e = absurd (true≢false e)
none-outside (opening p) t e = (refl, refl)
none-outside (text p) t e = (refl, refl)
none-outside (closing p) t e = (refl, refl)
none-outside (nothing p) t e = (refl, refl)

is-none : (a : Awaited) → is_none (fault_awaiting a) ≡ true → a ≡ no_operator
is-none no_operator e = refl
is-none (opening p) e = absurd (true≢false (sym e))
is-none (text p) e = absurd (true≢false (sym e))
is-none (closing p) e = absurd (true≢false (sym e))
is-none (nothing p) e = absurd (true≢false (sym e))

module _ (names : List (List ℕ)) {old middle : Sets} {p read : Pragmas} {free : Cond} (cond : Cond) (t : base_token.Token) (list : List (Cond × base_token.Token)) (reads : ReadsPragma names old p cond.0 t middle read free.0) where
  abbrev item : List (Cond × base_token.Token)
  item = (cond, t) ∷ []

  abbrev has : (files : List (List ℕ)) → Bool → List Token
  has files h = if h then seen names files t ∷ [] else []

  one-token : (files : List (List ℕ)) (c : List ℕ) (h : Bool) → old.has cond.0 c ≡ h → tokens_within names files old item cond.0 c ≡ has files h
  one-token files c true here = (λ j. if here j then map (seen names files) (if here j then t ∷ [] else []) else [])
  one-token files c false here = (λ j. if here j then map (seen names files) (if here j then t ∷ [] else []) else [])

  no-item : {s : Sets} → IsPart item s []
  no-item {s} = record {
    own = All-nil (λ (i : Cond × base_token.Token). IsCond s i.0.0);
    some = All-nil (λ (i : Cond × base_token.Token). IsNever s i.0.0 → ⊥);
    from = All-nil (λ (i : Cond × base_token.Token). Contains (t ∷ []) i.1);
  }

  module _ (files : List (List ℕ)) (c : List ℕ) (a : Awaited) (listed : IsConfig old.arities c) (at : AwaitsAt old files p c a) where
    abbrev a_read : Awaited
    a_read = if old.has cond.0 c then read_behind a (seen names files t) else a

    now : AwaitsAt middle files read c a_read
    now = reads.moves.at files c a listed at

    freed : middle.has free.0 c ≡ (old.has cond.0 c && is_none (fault_awaiting a))
    freed = reads.is_free files c a listed at

  -- who reads it reads an operator
  pub puts-nothing : Keeps old middle → IsNever middle free.0 → PutsOutside names old p item cond.0 list middle read list
  puts-nothing keeps never = record {
    kept = [];
    is = sym (append-nil list);
    part = no-item;
    among = λ test c listed all. All-nil (λ (x : base_token.Token). test x ≡ true);
    owns = reads.moves.owns;
    awaits = λ files c a listed at. subst (AwaitsAt middle files read c) (both files c a listed at (old.has cond.0 c) refl).0 (now files c a listed at);
    puts = λ files c a listed at. sym (both files c a listed at (old.has cond.0 c) refl).1;
    each = each-one names old middle p cond t [] (omega arith) (λ files c a listed at. sym (both files c a listed at (old.has cond.0 c) refl).1);
    placed = λ files there all. reads.moves.placed files all;
  }
    where
      both : (files : List (List ℕ)) (c : List ℕ) (a : Awaited) (listed : IsConfig old.arities c) (at : AwaitsAt old files p c a) (h : Bool) → old.has cond.0 c ≡ h
          → (a_read files c a listed at ≡ awaits a (tokens_within names files old item cond.0 c)) × (outside a (tokens_within names files old item cond.0 c) ≡ [])
      both files c a listed at true here =
          let out = none-outside a (seen names files t) (ap (λ b. b && is_none (fault_awaiting a)) (sym here) ∙ (sym (freed files c a listed at) ∙ never.none c (IsConfig-Keeps keeps listed))) in
          ((λ j. if here j then read_behind a (seen names files t) else a) ∙ (out.0 ∙ ap (awaits a) (sym (one-token files c true here))), ap (outside a) (one-token files c true here) ∙ ap (λ b. if b then seen names files t ∷ [] else []) out.1)
      both files c a listed at false here = ((λ j. if here j then read_behind a (seen names files t) else a) ∙ ap (awaits a) (sym (one-token files c false here)), ap (outside a) (one-token files c false here))

  -- it is the name of an operator
  pub puts-operator : {new : Sets} {q : Pragmas} → Keeps old middle → ((files : List (List ℕ)) → is_pragma (seen names files t) ≡ true) → BeginsPragma middle read free.0 t.place new q → PutsOutside names old p item cond.0 list new q list
  puts-operator {new} {q} keeps named begins = record {
    kept = [];
    is = sym (append-nil list);
    part = no-item;
    among = λ test c listed all. All-nil (λ (x : base_token.Token). test x ≡ true);
    owns = begins.owns;
    awaits = λ files c a listed at. subst (AwaitsAt new files q c) (both files c a listed at (old.has cond.0 c) refl).0
        (begins.at files c _ (IsConfig-Keeps keeps listed) (now files c a listed at) (λ is. free-none files c a listed at (old.has cond.0 c) refl (sym (freed files c a listed at) ∙ is)));
    puts = λ files c a listed at. sym (both files c a listed at (old.has cond.0 c) refl).1;
    each = each-one names old new p cond t [] (omega arith) (λ files c a listed at. sym (both files c a listed at (old.has cond.0 c) refl).1);
    placed = λ files there all. begins.placed files (All-head (λ (i : Cond × base_token.Token). i.1.place.file.0 < files) (cond, t) [] there) (reads.moves.placed files all);
  }
    where
      free-none : (files : List (List ℕ)) (c : List ℕ) (a : Awaited) (listed : IsConfig old.arities c) (at : AwaitsAt old files p c a) (h : Bool) → old.has cond.0 c ≡ h → (old.has cond.0 c && is_none (fault_awaiting a)) ≡ true → a_read files c a listed at ≡ no_operator
      free-none files c a listed at true here e =
          let none = is-none a (ap (λ b. b && is_none (fault_awaiting a)) (sym here) ∙ e) in
          (λ j. if here j then read_behind (none j) (seen names files t) else none j)
      free-none files c a listed at false here e = absurd (true≢false (sym e ∙ ap (λ b. b && is_none (fault_awaiting a)) here))

      both : (files : List (List ℕ)) (c : List ℕ) (a : Awaited) (listed : IsConfig old.arities c) (at : AwaitsAt old files p c a) (h : Bool) → old.has cond.0 c ≡ h
          → ((if middle.has free.0 c then opening (seen_place files t.place) else a_read files c a listed at) ≡ awaits a (tokens_within names files old item cond.0 c)) × (outside a (tokens_within names files old item cond.0 c) ≡ [])
      both files c a listed at false here =
          ((λ j. if (freed files c a listed at ∙ ap (λ b. b && is_none (fault_awaiting a)) here) j then opening (seen_place files t.place) else (if here j then read_behind a (seen names files t) else a)) ∙ ap (awaits a) (sym (one-token files c false here)), ap (outside a) (one-token files c false here))
      both files c a listed at true here = by (is_none (fault_awaiting a)) refl
        where
          by : (b : Bool) → is_none (fault_awaiting a) ≡ b
              → ((if middle.has free.0 c then opening (seen_place files t.place) else a_read files c a listed at) ≡ awaits a (tokens_within names files old item cond.0 c)) × (outside a (tokens_within names files old item cond.0 c) ≡ [])
          by true e =
              let none = is-none a e in (
                (λ j. if (freed files c a listed at ∙ (λ k. here k && e k)) j then opening (seen_place files t.place) else a_read files c a listed at)
                    ∙ (ap (λ b. if b then opening (seen_place files t.place) else no_operator) (sym (named files)) ∙ ((λ j. awaited_behind (sym none j) (seen names files t)) ∙ ap (awaits a) (sym (one-token files c true here)))),
                ap (outside a) (one-token files c true here) ∙ ((λ j. if is_outside (none j) (seen names files t) then seen names files t ∷ [] else []) ∙ ap (λ b. if not b then seen names files t ∷ [] else []) (named files)),
              )
          by false e =
              let out = none-outside a (seen names files t) e in (
                (λ j. if (freed files c a listed at ∙ (λ k. here k && e k)) j then opening (seen_place files t.place) else (if here j then read_behind a (seen names files t) else a)) ∙ (out.0 ∙ ap (awaits a) (sym (one-token files c true here))),
                ap (outside a) (one-token files c true here) ∙ ap (λ b. if b then seen names files t ∷ [] else []) out.1,
              )

  -- or none, and no operator is read
  pub puts-token : Keeps old middle → (IsNever middle free.0 → ⊥) → ((files : List (List ℕ)) → is_pragma (seen names files t) ≡ false) → PutsOutside names old p item cond.0 list middle read (list ++ (free, t) ∷ [])
  puts-token keeps some other = record {
    kept = (free, t) ∷ [];
    is = refl;
    part = record {
      own = All-cons (λ (i : Cond × base_token.Token). IsCond middle i.0.0) (free, t) [] reads.own (All-nil (λ (i : Cond × base_token.Token). IsCond middle i.0.0));
      some = All-cons (λ (i : Cond × base_token.Token). IsNever middle i.0.0 → ⊥) (free, t) [] some (All-nil (λ (i : Cond × base_token.Token). IsNever middle i.0.0 → ⊥));
      from = All-cons (λ (i : Cond × base_token.Token). Contains (t ∷ []) i.1) (free, t) [] (Contains-push [] t) (All-nil (λ (i : Cond × base_token.Token). Contains (t ∷ []) i.1));
    };
    among = λ test c listed all. free-All (λ (x : base_token.Token). test x ≡ true) c listed all (middle.has free.0 c) refl;
    owns = reads.moves.owns;
    awaits = λ files c a listed at. subst (AwaitsAt middle files read c) (both files c a listed at (old.has cond.0 c) refl).0 (now files c a listed at);
    puts = λ files c a listed at. (both files c a listed at (old.has cond.0 c) refl).1;
    each = each-one names old middle p cond t ((free, t) ∷ []) (omega arith) (λ files c a listed at. (both files c a listed at (old.has cond.0 c) refl).1);
    placed = λ files there all. reads.moves.placed files all;
  }
    where
      free-All : (P : base_token.Token → Type 0) (c : List ℕ) → IsConfig old.arities c → All P (if old.has cond.0 c then (if old.has cond.0 c then t ∷ [] else []) else []) → (b : Bool) → middle.has free.0 c ≡ b → All P (if b then t ∷ [] else [])
      free-All P c listed all true e = subst (λ h. All P (if h then (if h then t ∷ [] else []) else [])) (reads.within c listed e) all
      free-All P c listed all false e = All-nil P

      Both : (files : List (List ℕ)) (c : List ℕ) (a : Awaited) → IsConfig old.arities c → AwaitsAt old files p c a → Type 0
      Both files c a listed at = (a_read files c a listed at ≡ awaits a (tokens_within names files old item cond.0 c)) × (map (seen names files) (if middle.has free.0 c then t ∷ [] else []) ≡ outside a (tokens_within names files old item cond.0 c))

      both : (files : List (List ℕ)) (c : List ℕ) (a : Awaited) (listed : IsConfig old.arities c) (at : AwaitsAt old files p c a) (h : Bool) → old.has cond.0 c ≡ h → Both files c a listed at
      both files c a listed at false here = (
        (λ j. if here j then read_behind a (seen names files t) else a) ∙ ap (awaits a) (sym (one-token files c false here)),
        (λ j. map (seen names files) (if (freed files c a listed at ∙ ap (λ b. b && is_none (fault_awaiting a)) here) j then t ∷ [] else [])) ∙ ap (outside a) (sym (one-token files c false here)),
      )
      both files c a listed at true here = by (is_none (fault_awaiting a)) refl
        where
          by : (b : Bool) → is_none (fault_awaiting a) ≡ b → Both files c a listed at
          by true e =
              let none = is-none a e in (
                (λ j. if here j then read_behind (none j) (seen names files t) else none j) ∙ (ap (λ b. if b then opening (seen_place files t.place) else no_operator) (sym (other files)) ∙ ((λ j. awaited_behind (sym none j) (seen names files t)) ∙ ap (awaits a) (sym (one-token files c true here)))),
                (λ j. map (seen names files) (if (freed files c a listed at ∙ (λ k. here k && e k)) j then t ∷ [] else []))
                    ∙ (ap (λ b. if not b then seen names files t ∷ [] else []) (sym (other files)) ∙ ((λ j. if is_outside (sym none j) (seen names files t) then seen names files t ∷ [] else []) ∙ ap (outside a) (sym (one-token files c true here)))),
              )
          by false e =
              let out = none-outside a (seen names files t) e in (
                (λ j. if here j then read_behind a (seen names files t) else a) ∙ (out.0 ∙ ap (awaits a) (sym (one-token files c true here))),
                (λ j. map (seen names files) (if (freed files c a listed at ∙ (λ k. here k && e k)) j then t ∷ [] else [])) ∙ (ap (λ b. if b then seen names files t ∷ [] else []) (sym out.1) ∙ ap (outside a) (sym (one-token files c true here))),
              )

-- ---- items are put behind a list

pub awaits-append : (a : Awaited) (ts us : List Token) → awaits a (ts ++ us) ≡ awaits (awaits a ts) us
awaits-append a [] us = refl
awaits-append a (t ∷ ts) us = awaits-append (awaited_behind a t) ts us

if-append : (b : Bool) (t : Token) {all : List Token} (front back : List Token) → all ≡ front ++ back → (if b then t ∷ all else all) ≡ (if b then t ∷ front else front) ++ back
if-append true t front back e = ap (λ xs. t ∷ xs) e
if-append false t front back e = e

pub outside-append : (a : Awaited) (ts us : List Token) → outside a (ts ++ us) ≡ outside a ts ++ outside (awaits a ts) us
outside-append a [] us = refl
outside-append a (t ∷ ts) us = if-append (is_outside a t) t (outside (awaited_behind a t) ts) (outside (awaits (awaited_behind a t) ts) us) (outside-append (awaited_behind a t) ts us)

pub puts-none : (names : List (List ℕ)) {s : Sets} {p : Pragmas} (by : ℕ) (list : List (Cond × base_token.Token)) → OwnsPragmas s p → PutsOutside names s p [] by list s p list
puts-none names {s} {p} by list owns = record {
  kept = [];
  is = sym (append-nil list);
  part = record {
    own = All-nil (λ (i : Cond × base_token.Token). IsCond s i.0.0);
    some = All-nil (λ (i : Cond × base_token.Token). IsNever s i.0.0 → ⊥);
    from = All-nil (λ (i : Cond × base_token.Token). Contains [] i.1);
  };
  among = λ test c listed all. All-nil (λ (x : base_token.Token). test x ≡ true);
  owns = owns;
  awaits = λ files c a listed at. subst (AwaitsAt s files p c) (ap (awaits a) (none-told (s.has by c))) at;
  puts = λ files c a listed at. ap (outside a) (none-told (s.has by c));
  each = each-none names by;
  placed = λ files there all. all;
}

module _ (names : List (List ℕ)) {first s1 s2 s3 : Sets} {p p1 q : Pragmas} {front list l1 l3 : List (Cond × base_token.Token)} (by : ℕ) (cond part : Cond) (t : base_token.Token) (before : Keeps first s1) (keeps : Keeps s1 s2) (later : Keeps s2 s3)
    (part_is : Denotes s2 part.0 (λ c. first.has cond.0 c && first.has by c)) (was : PutsOutside names first p front by list s1 p1 l1) (next : PutsOutside names s2 p1 ((part, t) ∷ []) part.0 l1 s3 q l3) where
  abbrev all_items : List (Cond × base_token.Token)
  all_items = front ++ (cond, t) ∷ []

  tokens-next : (files : List (List ℕ)) (c : List ℕ) → IsConfig first.arities c → tokens_within names files first all_items by c ≡ tokens_within names files first front by c ++ tokens_within names files s2 ((part, t) ∷ []) part.0 c
  tokens-next files c listed =
      ap (λ xs. if first.has by c then xs else []) (ap (map (seen names files)) (items_at-append first front ((cond, t) ∷ []) c) ∙ map-append (seen names files) (items_at first front c) (if first.has cond.0 c then t ∷ [] else []))
      ∙ (both (first.has by c) (first.has cond.0 c) ∙ ap (λ b. tokens_within names files first front by c ++ (if b then map (seen names files) (if b then t ∷ [] else []) else [])) (sym (part_is.at c (IsConfig-Keeps (Keeps-trans before keeps) listed))))
    where
      both : (b h : Bool) → (if b then map (seen names files) (items_at first front c) ++ map (seen names files) (if h then t ∷ [] else []) else [])
          ≡ (if b then map (seen names files) (items_at first front c) else []) ++ (if h && b then map (seen names files) (if h && b then t ∷ [] else []) else [])
      both true true = refl
      both true false = refl
      both false true = refl
      both false false = refl

  pub puts-next : PutsOutside names first p all_items by list s3 q l3
  puts-next = record {
    kept = was.kept ++ next.kept;
    is = next.is ∙ (ap (λ xs. xs ++ next.kept) was.is ∙ append_assoc list was.kept next.kept);
    part = record {
      own = All-append (λ (i : Cond × base_token.Token). IsCond s3 i.0.0) was.kept next.kept (λ k d h. now.own _ (was.part.own k d h)) next.part.own;
      some = All-append (λ (i : Cond × base_token.Token). IsNever s3 i.0.0 → ⊥) was.kept next.kept (part-later now was.part).some next.part.some;
      from = All-append (λ (i : Cond × base_token.Token). Contains (map (λ (j : Cond × base_token.Token). j.1) all_items) i.1) was.kept next.kept
          (λ k d h. told (Contains-append_left (map (λ (j : Cond × base_token.Token). j.1) front) (t ∷ []) _ (was.part.from k d h)))
          (λ k d h. told (Contains-append_right (map (λ (j : Cond × base_token.Token). j.1) front) (t ∷ []) _ (next.part.from k d h)));
    };
    among = λ test c listed all. kept-All test c listed all;
    owns = next.owns;
    awaits = λ files c a listed at. subst (AwaitsAt s3 files q c) (sym (ap (awaits a) (tokens-next files c listed) ∙ awaits-append a (tokens_within names files first front by c) (tokens_within names files s2 ((part, t) ∷ []) part.0 c)))
        (next.awaits files c _ (mid_listed listed) (mid files c a listed at));
    puts = λ files c a listed at.
        ap (map (seen names files)) (items_at-append s3 was.kept next.kept c)
        ∙ (map-append (seen names files) (items_at s3 was.kept c) (items_at s3 next.kept c)
        ∙ ((λ j. map (seen names files) (items_at-Keeps was.kept c now was.part.own (IsConfig-Keeps before listed) j) ++ next.puts files c _ (mid_listed listed) (mid files c a listed at) j)
        ∙ (ap (λ xs. xs ++ outside (awaits a (tokens_within names files first front by c)) (tokens_within names files s2 ((part, t) ∷ []) part.0 c)) (was.puts files c a listed at)
        ∙ sym (ap (outside a) (tokens-next files c listed) ∙ outside-append a (tokens_within names files first front by c) (tokens_within names files s2 ((part, t) ∷ []) part.0 c)))));
    each = each-next names by cond part t before keeps later part_is was.part.own was.puts mid was.each next.each;
    placed = λ files there all.
        let There : Cond × base_token.Token → Type 0 = λ item. item.1.place.file.0 < files in
        let parts = All-pop There all_items front (Some (cond, t)) refl there in
        next.placed files (All-cons There (part, t) [] parts.1 (All-nil There)) (was.placed files parts.0 all);
  }
    where
      now : Keeps s1 s3
      now = Keeps-trans keeps later

      mid_listed : {c : List ℕ} → IsConfig first.arities c → IsConfig s2.arities c
      mid_listed listed = IsConfig-Keeps (Keeps-trans before keeps) listed

      mid : (files : List (List ℕ)) (c : List ℕ) (a : Awaited) → IsConfig first.arities c → AwaitsAt first files p c a → AwaitsAt s2 files p1 c (awaits a (tokens_within names files first front by c))
      mid files c a listed at = awaits-kept keeps was.owns (IsConfig-Keeps before listed) (was.awaits files c a listed at)

      split : (P : base_token.Token → Type 0) (b h : Bool) (xs : List base_token.Token) → All P (if b then xs ++ (if h then t ∷ [] else []) else []) → All P (if b then xs else []) × All P (if h && b then (if h && b then t ∷ [] else []) else [])
      split P true true xs all = let p = All-pop P (xs ++ t ∷ []) xs (Some t) refl all in (p.0, All-cons P t [] p.1 (All-nil P))
      split P true false xs all = (subst (All P) (append-nil xs) all, All-nil P)
      split P false true xs all = (All-nil P, All-nil P)
      split P false false xs all = (All-nil P, All-nil P)

      kept-All : (test : base_token.Token → Bool) (c : List ℕ) → IsConfig first.arities c → All (λ (x : base_token.Token). test x ≡ true) (if first.has by c then items_at first all_items c else []) → All (λ (x : base_token.Token). test x ≡ true) (items_at s3 (was.kept ++ next.kept) c)
      kept-All test c listed all =
          let P : base_token.Token → Type 0 = λ x. test x ≡ true in
          let parts = split P (first.has by c) (first.has cond.0 c) (items_at first front c) (subst (λ xs. All P (if first.has by c then xs else [])) (items_at-append first front ((cond, t) ∷ []) c) all) in
          subst (All P) (sym (items_at-append s3 was.kept next.kept c)) (All-append P (items_at s3 was.kept c) (items_at s3 next.kept c)
          (subst (All P) (sym (items_at-Keeps was.kept c now was.part.own (IsConfig-Keeps before listed))) (was.among test c listed parts.0))
          (next.among test c (mid_listed listed) (subst (λ b. All P (if b then (if b then t ∷ [] else []) else [])) (sym (part_is.at c (mid_listed listed))) parts.1)))

      told : {x : base_token.Token} → Contains (map (λ (j : Cond × base_token.Token). j.1) front ++ t ∷ []) x → Contains (map (λ (j : Cond × base_token.Token). j.1) all_items) x
      told {x} h = subst (λ ts. Contains ts x) (sym (map-append (λ (j : Cond × base_token.Token). j.1) front ((cond, t) ∷ []))) h

-- ---- runs end

module _ (names : List (List ℕ)) {old s1 s3 new : Sets} {p read q : Pragmas} (items : List (Cond × base_token.Token)) (acting : ℕ) (list : List (Cond × base_token.Token)) {longer : List (Cond × base_token.Token)} (faults unread : List base.Fault) {more : List base.Fault}
    (k1 : Keeps old s1) (k2 : Keeps s1 s3) (k3 : Keeps s3 new) (own : All (λ (f : base.Fault). IsCond old f.cond.0) faults) (acts : IsCond old acting) (puts : PutsOutside names old p items acting list s1 read longer)
    (within : IsWithin s1 (fault_items read.faults.items) (λ c. s1.has acting c && has_none s1 faults c) s3 (fault_items unread)) (is : more ≡ faults ++ unread) (leaves : MovesPragmas s3 read new q (λ files c a. if s3.has acting c then no_operator else a)) where
  own_unread : All (λ (f : base.Fault). IsCond s3 f.cond.0) unread
  own_unread = faults-All (λ (item : Cond × Failure base_place.Place). IsCond s3 item.0.0) unread within.part.own

  acts-now : (c : List ℕ) → IsConfig old.arities c → s1.has acting c ≡ old.has acting c
  acts-now c listed = k1.at _ c acts listed

  faults-now : (files : List (List ℕ)) (c : List ℕ) → IsConfig old.arities c
      → map (seen_fault files) (faults_at new unread c) ≡ (if old.has acting c && has_none old faults c then map (seen_fault files) (faults_at s1 read.faults.items c) else [])
  faults-now files c listed =
      let mid_listed = IsConfig-Keeps k1 listed in
      ap (map (seen_fault files)) (faults_at-Keeps unread c k3 own_unread (IsConfig-Keeps k2 mid_listed))
      ∙ (by (s1.has acting c && has_none s1 faults c) (within.at c mid_listed) ∙ (λ j. if acts-now c listed j && is_empty (faults_at-Keeps faults c k1 own listed j) then map (seen_fault files) (faults_at s1 read.faults.items c) else []))
    where
      by : (b : Bool) → items_at s3 (fault_items unread) c ≡ (if b then items_at s1 (fault_items read.faults.items) c else []) → map (seen_fault files) (faults_at s3 unread c) ≡ (if b then map (seen_fault files) (faults_at s1 read.faults.items c) else [])
      by true e = told-as files s1 s3 read.faults.items unread c e
      by false e = told-none files s3 unread c e

  pub ends-operators : EndsPragmas names old p items acting list faults new q longer more
  ends-operators = record {
    middle = s1;
    read = read;
    puts = puts;
    unread = unread;
    is = is;
    faults_own = λ k d h. k3.own _ (own_unread k d h);
    placed = λ files all. placed-within files read.faults.items unread within.part all;
    leaves = record {
      owns = leaves.owns;
      at = λ files c a listed at. let mid_listed = IsConfig-Keeps k2 listed in
          subst (AwaitsAt new files q c) (ap (λ b. if b then no_operator else a) (k2.at _ c (k1.own _ acts) listed ∙ acts-now c (IsConfig-kept k1 listed))) (leaves.at files c a mid_listed (awaits-kept k2 puts.owns listed at));
      placed = leaves.placed;
    };
    until = k1;
    later = Keeps-trans k2 k3;
    told = faults-now;
  }
