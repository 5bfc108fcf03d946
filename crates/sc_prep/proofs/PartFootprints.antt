-- What waits before an item of an expression is a footprint of each configuration that has it.
use Rattle.std.proofs.Common.{◌≡◌, ℕ, suc, ◌+◌, ◌≤◌, Bool, true, List, ◌∷◌, ◌++◌, drop, map, slice_get, take, Ok, Some, drop-cons, refl, sym, ap, subst, ◌∙◌, if◌then◌else◌}
use Rattle.c11_directives.specs.Footprints as plain
use Rattle.c11_expressions.proofs.PartLemmas.{one_part}
use Rattle.c11_expressions.specs.Parts.{IsPart, Part}
use Rattle.sc_base.specs.declared.token.Token as base
use Rattle.sc_if.specs.Symbols.{symbol_at}
use Rattle.sc_model.specs.Token.{Token}
use Rattle.sc_prep.proofs.Facts.{get_or_from_slice_get, items_at-append, map-append, map-map, slice_get_within, take-append-drop}
use Rattle.sc_prep.proofs.NameFootprints.{made-all, made-length, made-pairs, made_of}
use Rattle.sc_prep.proofs.Terms.{BranchesFull, Cond, HasFootprints, HasPart, HasParts, IsConfig, Macros, OutOfMemory, PartHas, ReadFault, RefusesAt, Sets, Spot, Standard, Stop, StopsBy, TextExpands, Used, before_token, items_at, seen, waiting}

-- at the configuration this waits before the item
module _ {standard : Standard} (s : Sets) (names files : List (List ℕ)) (list : List (Cond × base.Token)) (index : ℕ) (item : Cond × base.Token) (is : slice_get list index ≡ Some item) (p : List ℕ × Part)
    (has : HasPart standard s names (take index list) item p) where
  abbrev see : base.Token → Token
  see t = seen names files t

  items-parted : items_at s list p.0 ≡ items_at s (take index list) p.0 ++ item.1 ∷ items_at s (drop (suc index) list) p.0
  items-parted =
      let c = p.0 in
      let rest = drop (suc index) list in
      let behind : drop index list ≡ item ∷ rest = drop-cons list index item (slice_get_within list index item is) ∙ ap (λ x. x ∷ rest) (get_or_from_slice_get list index item item is) in
      ap (λ xs. items_at s xs c) (sym (take-append-drop index list) ∙ ap (λ xs. take index list ++ xs) behind)
      ∙ (items_at-append s (take index list) (item ∷ rest) c ∙ ap (λ b. items_at s (take index list) c ++ (if b then item.1 ∷ items_at s rest c else items_at s rest c)) has.has)

  pub part-has : {macros : Macros} {text : List Token} → TextExpands macros text (Ok (map see (items_at s list p.0))) → PartHas standard macros text (before_token (see item.1), waiting p.1)
  part-has {macros} {text} expands =
      let front = items_at s (take index list) p.0 in
      let rest = items_at s (drop (suc index) list) p.0 in
      record {
        before = map see front;
        next = see item.1;
        rest = map see rest;
        part = p.1;
        expands = subst (λ ts. TextExpands macros text (Ok ts)) (ap (map see) items-parted ∙ map-append see front (item.1 ∷ rest)) expands;
        waits = subst (λ ts. IsPart (symbol_at standard names item.1) ts p.1) (sym (map-map (plain.symbol_at standard) see front)) has.part;
        is = refl;
      }

-- one configuration has one part
parts-differ : {standard : Standard} {s : Sets} {names : List (List ℕ)} {front : List (Cond × base.Token)} {item : Cond × base.Token} (p q : List ℕ × Part) → HasPart standard s names front item p → HasPart standard s names front item q
    → (p.1 ≡ q.1 → ⊥) → p.0 ≡ q.0 → ⊥
parts-differ {standard} {s} {names} {front} {item} p q one other differ same =
    let tokens = λ (c : List ℕ). map (symbol_at standard names) (items_at s front c) in
    differ (one_part (symbol_at standard names item.1) (tokens q.0) p.1 q.1 (subst (λ c. IsPart (symbol_at standard names item.1) (tokens c) p.1) same one.part) other.part)

waiting-one : (p q : Part) → waiting p ≡ waiting q → p ≡ q
waiting-one p q same = cc

module _ {standard : Standard} {s : Sets} {names : List (List ℕ)} {list : List (Cond × base.Token)} {test : List ℕ → Bool} {count : ℕ} (h : HasParts standard s names list test count) where
  abbrev Has : List ℕ × Part → Type 0
  Has = HasPart standard s names (take h.index list) h.item

  abbrev config : (p : List ℕ × Part) → Has p → List ℕ
  config p has = p.0

  abbrev footprint : (p : List ℕ × Part) → Has p → List ℕ × Used
  footprint p has = (p.0, waiting p.1)

  pub part-footprints : (files : List (List ℕ)) (P : List ℕ → Spot × Used → Type 0)
      → ((p : List ℕ × Part) → IsConfig s.arities p.0 → test p.0 ≡ true → Has p → P p.0 (before_token (seen names files h.item.1), waiting p.1)) → HasFootprints (IsConfig s.arities) P count
  part-footprints files P to =
      let at = before_token (seen names files h.item.1) in
      let Q : List ℕ × Part → Type 0 = λ p. P p.0 (at, waiting p.1) in
      record {
        at = at;
        footprints = made_of Has footprint h.parts h.each;
        many = subst (λ n. count ≤ n) (sym (made-length Has footprint h.parts h.each)) h.many;
        listed = made-all Has footprint (λ p. IsConfig s.arities p.0) (λ p. IsConfig s.arities p.0) (λ p has is. is) h.parts h.each h.listed;
        each = made-all Has footprint Q (λ p. P p.0 (at, p.1)) (λ p has is. is) h.parts h.each (λ k d within. to _ (h.listed k d within) (h.among k d within) (h.each k d within));
        apart = made-pairs Has footprint (λ p q. p.1 ≡ q.1 → ⊥) (λ p q. (p.0 ≡ q.0 → ⊥) × (p.1 ≡ q.1 → ⊥))
            (λ p q one other differ. (parts-differ p q one other differ, λ same. differ (waiting-one p.1 q.1 same))) h.parts h.each h.apart;
      }

pub parts-stop : (standard : Standard) (s : Sets) (names : List (List ℕ)) (list : List (Cond × base.Token)) (test : List ℕ → Bool) (limit : ℕ) (stop : Stop) → RefusesAt standard s names list test limit stop → StopsBy s.arities limit stop
parts-stop standard s names list test limit (BranchesFull count) is =
    let h = is.1 in (
      is.0,
      record {
        configs = made_of (Has h) (config h) h.parts h.each;
        many = subst (λ n. limit + 1 ≤ n) (sym (made-length (Has h) (config h) h.parts h.each)) h.many;
        listed = made-all (Has h) (config h) (λ p. IsConfig s.arities p.0) (IsConfig s.arities) (λ p has is. is) h.parts h.each h.listed;
        apart = made-pairs (Has h) (config h) (λ p q. p.1 ≡ q.1 → ⊥) (λ c d. c ≡ d → ⊥) (λ p q one other differ. parts-differ p q one other differ) h.parts h.each h.apart;
      },
    )
parts-stop standard s names list test limit ReadFault is = is
parts-stop standard s names list test limit OutOfMemory is = tt
