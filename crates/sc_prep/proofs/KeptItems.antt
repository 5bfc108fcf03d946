-- Where the items of a list stand of which each was kept or left out.
use Rattle.std.proofs.Common.{◌≡◌, ℕ, zero, suc, ◌+◌, ◌<◌, ◌≤◌, ◌&&◌, Bool, true, true≢false, List, [], ◌∷◌, ◌++◌, Some, drop, length, map, slice_get, take, refl, sym, ap, subst, ◌∙◌, arith, if◌then◌else◌}
use Rattle.std.proofs.Math.Seq.{take-append_seam}
use native.Mathlib.Numerals.{unary_clauses}
use Rattle.c11_macros.specs.Hidden.{Hidden, Provenance}
use Rattle.c11_macros.specs.Macros.{Macros}
use Rattle.c11_macros.specs.Runs.{Passes, Runs}
use Rattle.c11_macros.specs.Trace.{Agree}
use Rattle.sc_expand.specs.Spans.{ComesAt, IsSpan, behind}
use Rattle.sc_hoist.specs.Alike.{AreAlike, IsAlike}
use Rattle.sc_prep.proofs.Facts.{All-cons, All-head, All-nil, All-tail, length-append, same_Some, take-append-drop}
use Rattle.sc_prep.proofs.Terms.{Cond, IsConfig, Sets, items_at}
use Rattle.sc_prep.specs.Closes.{KeepsEach, keeps_item, leaves_item, no_items}
use Rattle.sc_table.proofs.TableLemmas.{and_true}

module _ {T : Type 0} (old new : Sets) (t : List ℕ → Bool) where
  -- a configuration of the test has the same
  pub each-at : (c : List ℕ) → IsConfig old.arities c → t c ≡ true → {items kept : List (Cond × T)} → KeepsEach old t new items kept
      → items_at new kept c ≡ items_at old items c
  each-at c listed here no_items = refl
  each-at c listed here (keeps_item {cond} {x = x} {items} {kept} at rest) =
      λ i. if (at c listed ∙ and_true (old.has cond.0 c) _ here) i then x ∷ each-at c listed here rest i else each-at c listed here rest i
  each-at c listed here (leaves_item {cond} {x} {items} at rest) =
      each-at c listed here rest ∙ sym (ap (λ b. if b then x ∷ items_at old items c else items_at old items c) (sym (and_true (old.has cond.0 c) _ here) ∙ at c listed))

  -- and two of them that have the same of the list have the same of what is kept
  pub each-alike : (c d : List ℕ) → IsConfig old.arities c → IsConfig old.arities d → t c ≡ true → t d ≡ true → {items kept : List (Cond × T)}
      → KeepsEach old t new items kept → AreAlike old c d items → AreAlike new c d kept
  each-alike c d at there one other no_items alike = All-nil (λ (i : Cond × T). IsAlike new c d i.0)
  each-alike c d at there one other (keeps_item {cond} {part} {x} {items} {kept} is rest) alike =
      All-cons (λ (i : Cond × T). IsAlike new c d i.0) (part, x) kept
      ((is c at ∙ and_true (old.has cond.0 c) _ one)
      ∙ (All-head (λ (i : Cond × T). IsAlike old c d i.0) (cond, x) items alike ∙ sym (is d there ∙ and_true (old.has cond.0 d) _ other)))
      (each-alike c d at there one other rest (All-tail (λ (i : Cond × T). IsAlike old c d i.0) (cond, x) items alike))
  each-alike c d at there one other (leaves_item {cond} {x} {items} is rest) alike =
      each-alike c d at there one other rest (All-tail (λ (i : Cond × T). IsAlike old c d i.0) (cond, x) items alike)

  -- what is kept of the one list and of the other behind it
  record Parts (xs ys kept : List (Cond × T)) : Type 0 where
    first : List (Cond × T)
    last : List (Cond × T)
    is : kept ≡ first ++ last
    one : KeepsEach old t new xs first
    other : KeepsEach old t new ys last

  parts : (xs ys : List (Cond × T)) {kept : List (Cond × T)} → KeepsEach old t new (xs ++ ys) kept → Parts xs ys kept
  parts [] ys {kept} each = record { first = []; last = kept; is = refl; one = no_items; other = each }
  parts (y ∷ xs) ys (keeps_item {part = part} {x} at rest) =
      let r = parts xs ys rest in
      record { first = (part, x) ∷ r.first; last = r.last; is = ap (λ l. (part, x) ∷ l) r.is; one = keeps_item at r.one; other = r.other }
  parts (y ∷ xs) ys (leaves_item at rest) =
      let r = parts xs ys rest in
      record { first = r.first; last = r.last; is = r.is; one = leaves_item at r.one; other = r.other }

  -- where the item stands now, and how many stand behind it of so many
  pub record StandsAt (items kept : List (Cond × T)) (at size : ℕ) (item : Cond × T) : Type 0 where
    pub now : ℕ
    pub few : ℕ
    pub part : Cond
    pub is : slice_get kept now ≡ Some (part, item.1)
    pub has : (c : List ℕ) → IsConfig old.arities c → new.has part.0 c ≡ (old.has item.0.0 c && t c)
    pub below : now + few < length kept
    pub behind : KeepsEach old t new (drop (at + 1) items) (drop (now + 1) kept)
    pub next : KeepsEach old t new (take size (drop (at + 1) items)) (take few (drop (now + 1) kept))

  module _ (size : ℕ) (item : Cond × T) (c : List ℕ) (listed : IsConfig old.arities c) (has : old.has item.0.0 c ≡ true) (here : t c ≡ true) where
    pub stands-at : (at : ℕ) {items kept : List (Cond × T)} → KeepsEach old t new items kept → slice_get items at ≡ Some item → StandsAt items kept at size item
    stands-at at no_items is = absurd (cc)
    stands-at zero (keeps_item {cond} {part} {x} {items} {kept} at rest) is =
        let same : ◌≡◌ {A = Cond × T} (cond, x) item = same_Some (cond, x) item is in
        let r = parts (take size items) (drop size items) (subst (λ l. KeepsEach old t new l kept) (sym (take-append-drop size items)) rest) in
        record {
          now = 0;
          few = length r.first;
          part = part;
          is = ap (λ (y : Cond × T). Some (part, y.1)) same;
          has = λ d told. at d told ∙ ap (λ (y : Cond × T). old.has y.0.0 d && t d) same;
          below = let long = ap length r.is ∙ length-append r.first r.last in omega (arith, long);
          behind = rest;
          next = subst (λ l. KeepsEach old t new (take size items) l) (sym (ap (take (length r.first)) r.is ∙ take-append_seam r.first r.last)) r.one;
        }
    stands-at zero (leaves_item {cond} {x} at rest) is =
        let same : ◌≡◌ {A = Cond × T} (cond, x) item = same_Some (cond, x) item is in
        absurd (true≢false (sym (ap (λ (y : Cond × T). old.has y.0.0 c) same ∙ has) ∙ (sym (and_true (old.has cond.0 c) _ here) ∙ at c listed)))
    stands-at (suc n) (keeps_item at rest) is =
        let r = stands-at n rest is in
        record { now = suc r.now; few = r.few; part = r.part; is = r.is; has = r.has; below = omega (arith, r.below); behind = simp unary_clauses (simp unary_clauses at r.behind); next = simp unary_clauses (simp unary_clauses at r.next) }
    stands-at (suc n) (leaves_item at rest) is =
        let r = stands-at n rest is in
        record { now = r.now; few = r.few; part = r.part; is = r.is; has = r.has; below = r.below; behind = simp unary_clauses (simp unary_clauses at r.behind); next = simp unary_clauses (simp unary_clauses at r.next) }

-- ---- whose expansion comes to it

module _ {T P : Type 0} (see : T → Hidden P) (provenance : Provenance P) (macros more : List ℕ → Macros)
    (old new : Sets) (t : List ℕ → Bool) {items kept : List (Cond × T)} (each : KeepsEach old t new items kept) where
  -- it comes there still, and the same becomes of it
  abbrev pub still-comes : {at size : ℕ} {item : Cond × T} (stands : StandsAt old new t items kept at size item) (c : List ℕ) → IsConfig old.arities c
      → t c ≡ true
      → more c ≡ macros c → (x : ComesAt see provenance macros old items at c) → x.item ≡ item → ComesAt see provenance more new kept stands.now c
  still-comes {at} {item = item} stands c listed here same x is =
      let all : map see (items_at old items c) ≡ map see (items_at new kept c) = ap (map see) (sym (each-at old new t c listed here each)) in
      let back : behind see provenance macros old items at c ≡ behind see provenance more new kept stands.now c = ap (map see) (sym (each-at old new t c listed here stands.behind)) in
      record {
        item = (stands.part, item.1);
        is = stands.is;
        has = stands.has c listed ∙ (and_true (old.has item.0.0 c) _ here ∙ (sym (ap (λ (y : Cond × T). old.has y.0.0 c) is) ∙ x.has));
        before = x.before;
        passes = subst (λ (p : Macros × List (Hidden P) × T × List (Hidden P)). Passes provenance p.0 p.1 x.before (see p.2 ∷ p.3))
            (λ i. (sym same i, all i, ap (λ (y : Cond × T). y.1) is i, back i)) x.passes;
        done = x.done;
        end = x.end;
        uses = x.uses;
        runs = subst (λ (p : Macros × T × List (Hidden P)). Runs provenance p.0 (see p.1 ∷ []) p.2 x.done x.end x.uses)
            (λ i. (sym same i, ap (λ (y : Cond × T). y.1) is i, back i)) x.runs;
      }

  -- two that expand it alike do so still
  abbrev pub still-span : {at size : ℕ} (c d : List ℕ) → IsConfig old.arities c → IsConfig old.arities d → t c ≡ true → t d ≡ true → more c ≡ macros c
      → more d ≡ macros d
      → (x : IsSpan see provenance macros old items at size c d) (stands : StandsAt old new t items kept at size x.one.item)
      → IsSpan see provenance more new kept stands.now stands.few c d
  still-span c d at_c at_d here there same_c same_d x stands = record {
    one = still-comes stands c at_c here same_c x.one refl;
    other = still-comes stands d at_d there same_d x.other (same_Some x.other.item x.one.item (sym x.other.is ∙ x.one.is));
    alike = each-alike old new t c d at_c at_d here there stands.next x.alike;
    one_within = subst (λ (l : List T). length x.one.uses.taken ≤ length l) (sym (each-at old new t c at_c here stands.next)) x.one_within;
    other_within = subst (λ (l : List T). length x.other.uses.taken ≤ length l) (sym (each-at old new t d at_d there stands.next)) x.other_within;
    agree = subst (λ (p : Macros × Macros). Agree p.0 p.1 x.one.uses.looked_up) (λ i. (sym same_c i, sym same_d i)) x.agree;
  }
