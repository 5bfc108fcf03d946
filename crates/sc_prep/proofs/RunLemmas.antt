-- The lists of a walk whose runs are closed.
use Rattle.std.proofs.Common.{◌≡◌, ℕ, ◌+◌, ◌&&◌, not, Bool, true, false, List, [], ◌∷◌, ◌++◌, All, Some, map, slice_get, take, append-nil, append_assoc, refl, sym, ap, subst, ◌∙◌, if◌then◌else◌}
use Rattle.std.proofs.lemmas.List.Elements.{All-contains, Contains-append_left, Contains-push}
use Rattle.std.specs.List.{Contains}
use Rattle.sc_base.specs.declared.fault.Fault.{Fault}
use Rattle.sc_base.specs.declared.place.Place.{Place}
use Rattle.sc_expand.proofs.AlikeLemmas.{AreAlike-Keeps, AreAlikeFaults-Keeps, all-back}
use Rattle.sc_expand.proofs.ClosingLemmas.{Adds, added, left_out}
use Rattle.sc_expand.specs.Closing.{IsClosed}
use Rattle.c11_macros.specs.Text.{fault_of}
use Rattle.sc_expand.specs.Moved.{moved_failure}
use Rattle.sc_expand.specs.Seen.{failures_at, seen_failure}
use Rattle.sc_prep.proofs.Facts.{All-at, All-head, All-map, All-nil, All-push, All-tail, IsConfig-Keeps, IsConfig-kept, faults_at-Keeps, faults_at-append, items_at-Keeps, items_at-append, map-append, none-told, take-next}
use Rattle.sc_prep.proofs.Terms.{Cond, Denotes, Expanded, Failure, IsCond, IsConfig, IsNever, IsPart, IsWithin, Keeps, RefusesEach, Sets, Walk, fault_items, faults_at, has_none, is_empty, items_at, seen_fault, seen_place}
use Rattle.sc_prep.specs.Closes.{KeepsEach, keeps_item, leaves_item, no_items}
use Rattle.sc_subst.specs.declared.hidden.Hidden.{Hidden}

pub denotes-as : {s : Sets} {a : ℕ} (f g : List ℕ → Bool) → ((c : List ℕ) → IsConfig s.arities c → f c ≡ g c) → Denotes s a f → Denotes s a g
denotes-as f g same told = record { own = told.own; at = λ c listed. told.at c listed ∙ same c listed }

never-back : {old new : Sets} (keeps : Keeps old new) (a : ℕ) → IsCond old a → IsNever new a → IsNever old a
never-back keeps a own never = record { none = λ c listed. sym (keeps.at a c own listed) ∙ never.none c (IsConfig-Keeps keeps listed) }

-- ---- items of a list

module _ {T : Type 0} where
  pub part-later : {old new : Sets} {items kept : List (Cond × T)} → Keeps old new → IsPart items old kept → IsPart items new kept
  part-later keeps was = record {
    own = λ k d h. keeps.own _ (was.own k d h);
    some = λ k d h never. was.some k d h (never-back keeps _ (was.own k d h) never);
    from = was.from;
  }

  -- what the items have, so have those
  pub part-All : {s : Sets} {items kept : List (Cond × T)} (P : T → Type 0) → IsPart items s kept → All (λ (i : Cond × T). P i.1) items → All (λ (i : Cond × T). P i.1) kept
  part-All {items = items} P part all = λ k d h. All-contains P (map (λ (i : Cond × T). i.1) items) _ (All-map P (λ (i : Cond × T). i.1) items all) (part.from k d h)

  longer : (items : List (Cond × T)) (item : Cond × T) (x : T) → Contains (map (λ (i : Cond × T). i.1) items) x → Contains (map (λ (i : Cond × T). i.1) (items ++ item ∷ [])) x
  longer items item x h = subst (λ ts. Contains ts x) (sym (map-append (λ (i : Cond × T). i.1) items (item ∷ []))) (Contains-append_left (map (λ (i : Cond × T). i.1) items) (item.1 ∷ []) x h)

  -- an item more, which some configuration has, or not
  part-next : {s : Sets} (items kept next : List (Cond × T)) (item : Cond × T) (part : Cond) → IsCond s part.0 → Adds s part.0 (part, item.1) kept next → IsPart items s kept → IsPart (items ++ item ∷ []) s next
  part-next {s} items kept next item part own (added some is) was =
      let x : Cond × T = (part, item.1) in
      subst (IsPart (items ++ item ∷ []) s) (sym is) (record {
        own = All-push (λ (i : Cond × T). IsCond s i.0.0) kept x was.own own;
        some = All-push (λ (i : Cond × T). IsNever s i.0.0 → ⊥) kept x was.some some;
        from = All-push (λ (i : Cond × T). Contains (map (λ (j : Cond × T). j.1) (items ++ item ∷ [])) i.1) kept x (λ k d h. longer items item _ (was.from k d h))
            (subst (λ ts. Contains ts item.1) (sym (map-append (λ (j : Cond × T). j.1) items (item ∷ []))) (Contains-push (map (λ (j : Cond × T). j.1) items) item.1));
      })
  part-next {s} items kept next item part own (left_out never is) was = subst (IsPart (items ++ item ∷ []) s) (sym is) (record {
    own = was.own;
    some = was.some;
    from = λ k d h. longer items item _ (was.from k d h);
  })

  added-at : {s : Sets} (kept next : List (Cond × T)) (part : Cond) (x : T) (c : List ℕ) → IsConfig s.arities c → Adds s part.0 (part, x) kept next → items_at s next c ≡ items_at s kept c ++ (if s.has part.0 c then x ∷ [] else [])
  added-at {s} kept next part x c listed (added some is) = ap (λ xs. items_at s xs c) is ∙ items_at-append s kept ((part, x) ∷ []) c
  added-at {s} kept next part x c listed (left_out never is) =
      ap (λ xs. items_at s xs c) is ∙ (sym (append-nil (items_at s kept c)) ∙ ap (λ b. items_at s kept c ++ (if b then x ∷ [] else [])) (sym (never.none c listed)))

  one_within : (t h : Bool) (x : T) (xs : List T) → (if t then xs else []) ++ (if h && t then x ∷ [] else []) ≡ (if t then xs ++ (if h then x ∷ [] else []) else [])
  one_within true true x xs = refl
  one_within true false x xs = refl
  one_within false true x xs = refl
  one_within false false x xs = refl

  -- ---- each item, or none of it

  each-append : {old new : Sets} {t : List ℕ → Bool} {xs ks ys ls : List (Cond × T)} → KeepsEach old t new xs ks → KeepsEach old t new ys ls → KeepsEach old t new (xs ++ ys) (ks ++ ls)
  each-append no_items last = last
  each-append (keeps_item at rest) last = keeps_item at (each-append rest last)
  each-append (leaves_item at rest) last = leaves_item at (each-append rest last)

  each-later : {first old new : Sets} {t : List ℕ → Bool} {items kept : List (Cond × T)} → Keeps first old → Keeps old new → All (λ (i : Cond × T). IsCond old i.0.0) kept → KeepsEach first t old items kept → KeepsEach first t new items kept
  each-later before keeps own no_items = no_items
  each-later {old = old} before keeps own (keeps_item {part = part} {x} {kept = kept} at rest) =
      let P : Cond × T → Type 0 = λ i. IsCond old i.0.0 in
      keeps_item (λ c listed. keeps.at part.0 c (All-head P (part, x) kept own) (IsConfig-Keeps before listed) ∙ at c listed) (each-later before keeps (All-tail P (part, x) kept own) rest)
  each-later before keeps own (leaves_item at rest) = leaves_item at (each-later before keeps own rest)

  each-as : {old mid new : Sets} (by t : List ℕ → Bool) {items kept : List (Cond × T)} → Keeps old mid → All (λ (i : Cond × T). IsCond old i.0.0) items → ((c : List ℕ) → IsConfig old.arities c → by c ≡ t c)
      → KeepsEach mid by new items kept → KeepsEach old t new items kept
  each-as by t keeps own same no_items = no_items
  each-as {old} by t keeps own same (keeps_item {cond} {x = x} {items} at rest) =
      let P : Cond × T → Type 0 = λ i. IsCond old i.0.0 in
      keeps_item (λ c listed. at c (IsConfig-Keeps keeps listed) ∙ (λ i. keeps.at cond.0 c (All-head P (cond, x) items own) listed i && same c listed i)) (each-as by t keeps (All-tail P (cond, x) items own) same rest)
  each-as {old} by t keeps own same (leaves_item {cond} {x} {items} at rest) =
      let P : Cond × T → Type 0 = λ i. IsCond old i.0.0 in
      leaves_item (λ c listed. sym (λ i. keeps.at cond.0 c (All-head P (cond, x) items own) listed i && same c listed i) ∙ at c (IsConfig-Keeps keeps listed)) (each-as by t keeps (All-tail P (cond, x) items own) same rest)

  each-next : {first old new : Sets} {items kept next : List (Cond × T)} (by part : Cond) (item : Cond × T) → Keeps first old → Keeps old new → KeepsEach first (first.has by.0) new items kept
      → Denotes new part.0 (λ c. first.has item.0.0 c && first.has by.0 c) → Adds new part.0 (part, item.1) kept next → KeepsEach first (first.has by.0) new (items ++ item ∷ []) next
  each-next {first} {new = new} {items} {kept} by part item before keeps was part_is (added some is) =
      subst (KeepsEach first (first.has by.0) new (items ++ item ∷ [])) (sym is) (each-append was (keeps_item (λ c listed. part_is.at c (IsConfig-Keeps keeps (IsConfig-Keeps before listed))) no_items))
  each-next {first} {new = new} {items} {kept} by part item before keeps was part_is (left_out never is) =
      subst (KeepsEach first (first.has by.0) new (items ++ item ∷ [])) (append-nil kept ∙ sym is)
      (each-append was (leaves_item (λ c listed. let now = IsConfig-Keeps keeps (IsConfig-Keeps before listed) in sym (part_is.at c now) ∙ never.none c now) no_items))

  -- ---- items in the configurations of a test

  pub within-none : {s : Sets} (t : List ℕ → Bool) → IsWithin {T = T} s [] t s []
  within-none {s} t = record {
    part = record { own = All-nil (λ (i : Cond × T). IsCond s i.0.0); some = All-nil (λ (i : Cond × T). IsNever s i.0.0 → ⊥); from = All-nil (λ (i : Cond × T). Contains (map (λ (j : Cond × T). j.1) []) i.1) };
    each = no_items;
    at = λ c listed. none-told (t c);
  }

  -- the list stays within the other as the store grows
  pub within-later : {first old new : Sets} {items kept : List (Cond × T)} {t : List ℕ → Bool} → Keeps first old → Keeps old new → IsWithin first items t old kept → IsWithin first items t new kept
  within-later {kept = kept} before keeps was = record {
    part = part-later keeps was.part;
    each = each-later before keeps was.part.own was.each;
    at = λ c listed. items_at-Keeps kept c keeps was.part.own (IsConfig-Keeps before listed) ∙ was.at c listed;
  }

  -- the same told of the store before
  pub within-as : {old mid new : Sets} {items kept : List (Cond × T)} (by t : List ℕ → Bool) → Keeps old mid → All (λ (item : Cond × T). IsCond old item.0.0) items
      → ((c : List ℕ) → IsConfig old.arities c → by c ≡ t c) → IsWithin mid items by new kept → IsWithin old items t new kept
  within-as {old} {mid} {items = items} by t keeps own same was = record {
    part = was.part;
    each = each-as by t keeps own same was.each;
    at = λ c listed. was.at c (IsConfig-Keeps keeps listed)
        ∙ (ap (λ b. if b then items_at mid items c else []) (same c listed) ∙ ap (λ xs. if t c then xs else []) (items_at-Keeps items c keeps own listed));
  }

  -- an item more
  pub within-next : {first old new : Sets} {items kept next : List (Cond × T)} (by part : Cond) (item : Cond × T) → Keeps first old → Keeps old new → IsWithin first items (first.has by.0) old kept
      → Denotes new part.0 (λ c. first.has item.0.0 c && first.has by.0 c) → Adds new part.0 (part, item.1) kept next → IsWithin first (items ++ item ∷ []) (first.has by.0) new next
  within-next {first} {old} {new} {items} {kept} {next} by part item before keeps was part_is adds = record {
    part = part-next items kept next item part part_is.own adds (part-later keeps was.part);
    each = each-next by part item before keeps (each-later before keeps was.part.own was.each) part_is adds;
    at = λ c listed.
        let mid = IsConfig-Keeps before listed in
        let now = IsConfig-Keeps keeps mid in
        added-at kept next part item.1 c now adds
        ∙ (ap (λ xs. xs ++ (if new.has part.0 c then item.1 ∷ [] else [])) (items_at-Keeps kept c keeps was.part.own mid ∙ was.at c listed)
        ∙ (ap (λ b. (if first.has by.0 c then items_at first items c else []) ++ (if b then item.1 ∷ [] else [])) (part_is.at c now)
        ∙ (one_within (first.has by.0 c) (first.has item.0.0 c) item.1 (items_at first items c) ∙ ap (λ xs. if first.has by.0 c then xs else []) (sym (items_at-append first items (item ∷ []) c)))));
  }

  -- the item of an index
  pub item-own : (s : Sets) (items : List (Cond × T)) (i : ℕ) (cond : Cond) (x : T) → slice_get items i ≡ Some (cond, x) → All (λ (item : Cond × T). IsCond s item.0.0) items → IsCond s cond.0
  item-own s items i cond x at own = All-at (λ (item : Cond × T). IsCond s item.0.0) items i (cond, x) at own

  pub within-step : {first old new : Sets} (items kept next : List (Cond × T)) (i : ℕ) (cond : Cond) (x : T) (by part : Cond) → slice_get items i ≡ Some (cond, x) → Keeps first old → Keeps old new
      → IsWithin first (take i items) (first.has by.0) old kept → Denotes new part.0 (λ c. first.has cond.0 c && first.has by.0 c) → Adds new part.0 (part, x) kept next → IsWithin first (take (i + 1) items) (first.has by.0) new next
  within-step {first} {new = new} items kept next i cond x by part at before keeps was part_is adds =
      subst (λ xs. IsWithin first xs (first.has by.0) new next) (sym (take-next items i (cond, x) at)) (within-next by part (cond, x) before keeps was part_is adds)

-- ---- faults as items

-- faults, as failures of the text
pub seen-told : (files : List (List ℕ)) (fs : List Fault) → map (seen_fault files) fs ≡ map fault_of (map (moved_failure (seen_place files)) (map seen_failure fs))
seen-told files [] = refl
seen-told files (f ∷ fs) = ap (λ gs. seen_fault files f ∷ gs) (seen-told files fs)

pub fault-items : (s : Sets) (faults : List Fault) (c : List ℕ) → items_at s (fault_items faults) c ≡ failures_at s faults c
fault-items s [] c = refl
fault-items s (f ∷ fs) c = by (s.has f.cond.0 c) (fault-items s fs c)
  where
    by : (b : Bool) → items_at s (fault_items fs) c ≡ failures_at s fs c → (if b then seen_failure f ∷ items_at s (fault_items fs) c else items_at s (fault_items fs) c) ≡ map seen_failure (if b then f ∷ faults_at s fs c else faults_at s fs c)
    by true rest = ap (λ xs. seen_failure f ∷ xs) rest
    by false rest = rest

-- what their items have
pub faults-All : (P : Cond × Failure Place → Type 0) (faults : List Fault) → All P (fault_items faults) → All (λ (f : Fault). P (f.cond, seen_failure f)) faults
faults-All P faults all = all-back P (λ (f : Fault). (f.cond, seen_failure f)) faults all

-- a fault more
pub faults-next : {first old new : Sets} (faults kept next : List Fault) (by part : Cond) (fault : Fault) → Keeps first old → Keeps old new → IsWithin first (fault_items faults) (first.has by.0) old (fault_items kept)
    → Denotes new part.0 (λ c. first.has fault.cond.0 c && first.has by.0 c) → Adds new part.0 (record fault { cond = part }) kept next → IsWithin first (fault_items (faults ++ fault ∷ [])) (first.has by.0) new (fault_items next)
faults-next {first} {new = new} faults kept next by part fault before keeps was part_is adds =
    let item : Fault → Cond × Failure Place = λ f. (f.cond, seen_failure f) in
    subst (λ xs. IsWithin first xs (first.has by.0) new (fault_items next)) (sym (map-append item faults (fault ∷ []))) (within-next by part (item fault) before keeps was part_is (made adds))
  where
    made : Adds new part.0 (record fault { cond = part }) kept next → Adds new part.0 (part, seen_failure fault) (fault_items kept) (fault_items next)
    made (added some is) = added some (ap fault_items is ∙ map-append (λ (f : Fault). (f.cond, seen_failure f)) kept (record fault { cond = part } ∷ []))
    made (left_out never is) = left_out never (ap fault_items is)

pub items-own : (s : Sets) (faults : List Fault) → All (λ (f : Fault). IsCond s f.cond.0) faults → All (λ (item : Cond × Failure Place). IsCond s item.0.0) (fault_items faults)
items-own s faults own = All-map (λ (item : Cond × Failure Place). IsCond s item.0.0) (λ (f : Fault). (f.cond, seen_failure f)) faults own

-- ---- what was closed

pub closed-later : {old new last : Sets} {rest : List (Cond × Hidden)} {under : ℕ} {e : Expanded} → Keeps old new → Keeps new last → IsClosed old new rest under e → IsClosed old last rest under e
closed-later {e = e} before keeps was = record {
  list = λ c listed. items_at-Keeps e.list c keeps was.own (IsConfig-Keeps before listed) ∙ was.list c listed;
  faults = λ c listed. ap (map seen_failure) (faults_at-Keeps e.faults.items c keeps was.faults_own (IsConfig-Keeps before listed)) ∙ was.faults c listed;
  own = λ k d h. keeps.own _ (was.own k d h);
  some = λ k d h never. was.some k d h (never-back keeps _ (was.own k d h) never);
  held = was.held;
  placed = was.placed;
  faults_placed = was.faults_placed;
  faults_some = λ k d h never. was.faults_some k d h (never-back keeps _ (was.faults_own k d h) never);
  faults_own = λ k d h. keeps.own _ (was.faults_own k d h);
  alike = λ c d at there same all.
      let x = was.alike c d at there same all in
      (AreAlike-Keeps keeps (IsConfig-Keeps before at) (IsConfig-Keeps before there) e.list was.own x.0, AreAlikeFaults-Keeps keeps (IsConfig-Keeps before at) (IsConfig-Keeps before there) e.faults.items was.faults_own x.1);
}

-- ---- refusals

pub is_empty-one : {A : Type 0} (b : Bool) (f : A) → not b ≡ is_empty (if b then f ∷ [] else [])
is_empty-one true f = refl
is_empty-one false f = refl

is_empty-append : {A : Type 0} (xs ys : List A) → is_empty (xs ++ ys) ≡ (is_empty xs && is_empty ys)
is_empty-append [] ys = refl
is_empty-append (x ∷ xs) ys = refl

pub and_assoc : (a b c : Bool) → ((a && b) && c) ≡ (a && (b && c))
and_assoc true b c = refl
and_assoc false b c = refl

pub and-true : (a : Bool) → a ≡ (a && true)
and-true true = refl
and-true false = refl

-- one item more is left out
pub without-one : {A : Type 0} {s : Sets} {left : ℕ} (all has : List ℕ → Bool) (before now : List ℕ → List A) (x : A) → ((c : List ℕ) → now c ≡ before c ++ (if has c then x ∷ [] else []))
    → Denotes s left (λ c. (all c && is_empty (before c)) && not (has c)) → Denotes s left (λ c. all c && is_empty (now c))
without-one all has before now x next told =
    denotes-as (λ c. (all c && is_empty (before c)) && not (has c)) (λ c. all c && is_empty (now c))
    (λ c listed. and_assoc (all c) (is_empty (before c)) (not (has c))
    ∙ ap (λ b. all c && b) (ap (λ b. is_empty (before c) && b) (is_empty-one (has c) x)
    ∙ (sym (is_empty-append (before c) (if has c then x ∷ [] else [])) ∙ ap is_empty (sym (next c))))) told

pub without-nothing : (A : Type 0) (s : Sets) (all : ℕ) → IsCond s all → Denotes s all (λ c. s.has all c && is_empty {A = A} [])
without-nothing A s all own = record { own = own; at = λ c listed. and-true (s.has all c) }

-- the configurations of one fault are refused
pub refuses-one : {old new : Sets} (keeps : Keeps old new) (w next : Walk) (fault : Fault)
    → next ≡ record w { acting = next.acting; prepared = record w.prepared { faults = next.prepared.faults; live = next.prepared.live } }
    → next.prepared.faults.items ≡ w.prepared.faults.items ++ fault ∷ []
    → Denotes new next.prepared.live.0 (λ c. old.has w.prepared.live.0 c && not (old.has fault.cond.0 c))
    → Denotes new next.acting.0 (λ c. old.has w.acting.0 c && not (old.has fault.cond.0 c)) → RefusesEach old w (fault ∷ []) new next
refuses-one {old} {new} keeps w next fault same faults live acting = record {
  same = same;
  faults = faults;
  live = denotes-as (λ c. old.has w.prepared.live.0 c && not (old.has fault.cond.0 c)) (λ c. old.has w.prepared.live.0 c && has_none old (fault ∷ []) c)
      (λ c listed. ap (λ b. old.has w.prepared.live.0 c && b) (is_empty-one (old.has fault.cond.0 c) fault)) live;
  acting = denotes-as (λ c. old.has w.acting.0 c && not (old.has fault.cond.0 c)) (λ c. old.has w.acting.0 c && has_none old (fault ∷ []) c)
      (λ c listed. ap (λ b. old.has w.acting.0 c && b) (is_empty-one (old.has fault.cond.0 c) fault)) acting;
}

pub refuses-nothing : (s : Sets) (w : Walk) → IsCond s w.prepared.live.0 → IsCond s w.acting.0 → RefusesEach s w [] s w
refuses-nothing s w live acting = record {
  same = refl;
  faults = sym (append-nil w.prepared.faults.items);
  live = record { own = live; at = λ c listed. and-true (s.has w.prepared.live.0 c) };
  acting = record { own = acting; at = λ c listed. and-true (s.has w.acting.0 c) };
}

pub refuses-then : {r s t : Sets} (keeps : Keeps r s) (later : Keeps s t) (w v u : Walk) (xs ys : List Fault) → All (λ (f : Fault). IsCond r f.cond.0) ys
    → RefusesEach r w xs s v → RefusesEach s v ys t u → RefusesEach r w (xs ++ ys) t u
refuses-then {r} {s} {t} keeps later w v u xs ys own a b =
    let none : (c : List ℕ) → IsConfig r.arities c → (has_none r xs c && has_none s ys c) ≡ has_none r (xs ++ ys) c =
    λ c listed. ap (λ fs. has_none r xs c && is_empty fs) (faults_at-Keeps ys c keeps own listed)
    ∙ (sym (is_empty-append (faults_at r xs c) (faults_at r ys c)) ∙ ap is_empty (sym (faults_at-append r xs ys c))) in
    record {
      same = b.same ∙ ap (λ (x : Walk). record x { acting = u.acting; prepared = record x.prepared { faults = u.prepared.faults; live = u.prepared.live } }) a.same;
      faults = b.faults ∙ (ap (λ zs. zs ++ ys) a.faults ∙ append_assoc w.prepared.faults.items xs ys);
      live = record {
        own = b.live.own;
        at = λ c listed.
            let mid = IsConfig-kept later listed in
            let first = IsConfig-kept keeps mid in
            b.live.at c listed ∙ (ap (λ x. x && has_none s ys c) (a.live.at c mid)
            ∙ (and_assoc (r.has w.prepared.live.0 c) (has_none r xs c) (has_none s ys c) ∙ ap (λ x. r.has w.prepared.live.0 c && x) (none c first)));
      };
      acting = record {
        own = b.acting.own;
        at = λ c listed.
            let mid = IsConfig-kept later listed in
            let first = IsConfig-kept keeps mid in
            b.acting.at c listed ∙ (ap (λ x. x && has_none s ys c) (a.acting.at c mid)
            ∙ (and_assoc (r.has w.acting.0 c) (has_none r xs c) (has_none s ys c) ∙ ap (λ x. r.has w.acting.0 c && x) (none c first)));
      };
    }
