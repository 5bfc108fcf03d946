-- Blocks, and the walk that looks once at each.
use Rattle.std.proofs.Common.{◌≡◌, ℕ, ◌+◌, ◌<◌, ◌≤◌, ◌&&◌, not, Bool, true, false, List, All, length, get_or, set, refl, sym, ◌∙◌, subst, inl, inr, arith}
use Rattle.std.specs.Prelude.{slice_index}
use Rattle.std.proofs.lemmas.Bool.{cases_eq, cases_lt, true≢false}
use Rattle.std.proofs.lemmas.List.Elements.{All-map}
use Rattle.std.proofs.lemmas.List.{length-map, get_or-map, get_or-set_same, get_or-set_other}
use Rattle.sc_base.specs.declared.id.Cond.{Cond}
use Rattle.sc_guarded.specs.Blocks.{cond_at, LiesWithin, IsBlock, AreBlocks}
use Rattle.sc_model.proofs.SetLemmas.{IsConfig-kept}
use Rattle.sc_model.specs.Sets.{Sets, IsConfig, IsCond, Denotes, Keeps, IsNever}

-- a condition that was made passes the test that it passes later
pub Denotes-kept : {old new : Sets} {a : ℕ} → Keeps old new → IsCond old a → Denotes old a (new.has a)
Denotes-kept {old} {new} {a} keeps own = record { own = own; at = λ c listed. sym (keeps.at a c own listed) }

LiesWithin-refl : (s : Sets) (a : ℕ) → LiesWithin s a a
LiesWithin-refl s a = record { has = λ c listed has. has }

LiesWithin-trans : {s : Sets} {a b d : ℕ} → LiesWithin s a b → LiesWithin s b d → LiesWithin s a d
LiesWithin-trans a_b b_d = record { has = λ c listed has. b_d.has c listed (a_b.has c listed has) }

LiesWithin-Keeps : {old new : Sets} {a b : ℕ} → Keeps old new → IsCond old a → IsCond old b → LiesWithin old a b → LiesWithin new a b
LiesWithin-Keeps {old} {new} {a} {b} keeps own_a own_b within = record {
  has = λ c listed has.
      let was = IsConfig-kept keeps listed in
      keeps.at b c own_b was ∙ within.has c was (sym (keeps.at a c own_a was) ∙ has);
}

LiesWithin-kept : {old new : Sets} {a b : ℕ} → Keeps old new → IsCond old a → IsCond old b → LiesWithin new a b → LiesWithin old a b
LiesWithin-kept {old} {new} {a} {b} keeps own_a own_b within = record {
  has = λ c listed has.
      let now = subst (λ ns. IsConfig ns c) (sym keeps.arities) listed in
      sym (keeps.at b c own_b listed) ∙ within.has c now (keeps.at a c own_a listed ∙ has);
}

-- a condition lies within another where nothing of it is outside
module _ {s : Sets} {a b outside : ℕ} (told : Denotes s outside (λ c. s.has a c && not (s.has b c))) where
  pub within-never : IsNever s outside → LiesWithin s a b
  within-never never = record { has = λ c listed has. by (s.has a c) (s.has b c) (sym (told.at c listed) ∙ never.none c listed) has }
    where
      by : (x y : Bool) → (x && not y) ≡ false → x ≡ true → y ≡ true
      by true true none has = refl
      by true false none has = absurd (cc)
      by false y none has = absurd (cc)

  pub never-within : LiesWithin s a b → IsNever s outside
  never-within within = record { none = λ c listed. told.at c listed ∙ by (s.has a c) (s.has b c) (within.has c listed) }
    where
      by : (x y : Bool) → (x ≡ true → y ≡ true) → (x && not y) ≡ false
      by true true has = refl
      by true false has = absurd (let no : false ≡ true = has refl in cc)
      by false y has = refl

module _ {T : Type 0} where
  pub cond_at-get : (items : List (Cond × T)) (i : ℕ) (item : Cond × T) → i < length items → cond_at items i ≡ (get_or items i item).0.0
  cond_at-get items i item within = get_or-map (λ (item : Cond × T). item.0.0) items i item 0 within

  pub cond_at-own : {s : Sets} (items : List (Cond × T)) (i : ℕ) → All (λ (item : Cond × T). IsCond s item.0.0) items → i < length items → IsCond s (cond_at items i)
  cond_at-own {s} items i own within =
      let f : Cond × T → ℕ = λ item. item.0.0 in
      All-map (IsCond s) f items own i 0 (omega (arith, within, length-map items f))

  pub own-Keeps : {old new : Sets} (items : List (Cond × T)) → Keeps old new → All (λ (item : Cond × T). IsCond old item.0.0) items → All (λ (item : Cond × T). IsCond new item.0.0) items
  own-Keeps items keeps own = λ k d below. keeps.own _ (own k d below)

  -- the block of item i reaches to here at least
  pub record Reaches (s : Sets) (items : List (Cond × T)) (i end : ℕ) : Type 0 where
    pub behind : i < end
    pub most : end ≤ length items
    pub inside : (k : ℕ) → i ≤ k → k < end → LiesWithin s (cond_at items k) (cond_at items i)

  module _ {old new : Sets} (items : List (Cond × T)) (keeps : Keeps old new) (own : All (λ (item : Cond × T). IsCond old item.0.0) items) where
    pub Reaches-Keeps : {i end : ℕ} → Reaches old items i end → Reaches new items i end
    Reaches-Keeps {i} {end} were = record {
      behind = were.behind;
      most = were.most;
      inside = λ k from below.
          LiesWithin-Keeps keeps (cond_at-own items k own (omega (arith, below, were.most))) (cond_at-own items i own (omega (arith, were.behind, were.most))) (were.inside k from below);
    }

    pub IsBlock-Keeps : {i end : ℕ} → IsBlock old items i end → IsBlock new items i end
    IsBlock-Keeps {i} {end} was =
        let reaches = Reaches-Keeps (record { behind = was.behind; most = was.most; inside = was.inside }) in
        record {
          behind = was.behind;
          most = was.most;
          inside = reaches.inside;
          first = λ below within. was.first below (LiesWithin-kept keeps (cond_at-own items end own below) (cond_at-own items i own (omega (arith, was.behind, was.most))) within);
        }

    pub AreBlocks-Keeps : {ends : List ℕ} → AreBlocks old items ends → AreBlocks new items ends
    AreBlocks-Keeps were = record { long = were.long; each = λ i below. IsBlock-Keeps (were.each i below) }

  module _ {s : Sets} (items : List (Cond × T)) {i end : ℕ} where
    pub reaches-first : i < length items → end ≡ i + 1 → Reaches s items i end
    reaches-first below next = record {
      behind = omega (arith, next);
      most = omega (arith, next, below);
      inside = λ k from under. let same : k ≡ i = omega (arith, next, from, under) in subst (λ k. LiesWithin s (cond_at items k) (cond_at items i)) (sym same) (LiesWithin-refl s (cond_at items i));
    }

    -- over a block whose first item lies within item i
    pub reaches-over : {after : ℕ} → Reaches s items i end → IsBlock s items end after → LiesWithin s (cond_at items end) (cond_at items i) → Reaches s items i after
    reaches-over {after} were block within = record {
      behind = omega (arith, were.behind, block.behind);
      most = block.most;
      inside = λ k from under. elim (cases_lt k end) [
        | inl before ↦ were.inside k from before
        | inr behind ↦ LiesWithin-trans (block.inside k behind under) within
      ];
    }

    pub block-ends : Reaches s items i end → (end < length items → LiesWithin s (cond_at items end) (cond_at items i) → ⊥) → IsBlock s items i end
    block-ends were first = record { behind = were.behind; most = were.most; inside = were.inside; first = first }

    -- an item with the same condition has the same end
    pub block-same : {after : ℕ} → Reaches s items i end → IsBlock s items end after → cond_at items end ≡ cond_at items i → IsBlock s items i after
    block-same {after} were block same =
        let reaches = reaches-over were block (subst (λ a. LiesWithin s (cond_at items end) a) same (LiesWithin-refl s (cond_at items end))) in
        record {
          behind = reaches.behind;
          most = reaches.most;
          inside = reaches.inside;
          first = λ below within. block.first below (subst (λ a. LiesWithin s (cond_at items after) a) (sym same) within);
        }

  -- what of one item is outside another
  pub outside-told : {old new : Sets} {outside : ℕ} (items : List (Cond × T)) (i end : ℕ) (item next : Cond × T) → Keeps old new → All (λ (item : Cond × T). IsCond old item.0.0) items
      → i < length items → end < length items
      → ((f g : List ℕ → Bool) → Denotes old (get_or items end next).0.0 f → Denotes old (get_or items i item).0.0 g → Denotes new outside (λ c. f c && not (g c)))
      → Denotes new outside (λ c. new.has (cond_at items end) c && not (new.has (cond_at items i) c))
  outside-told {old} {new} {outside} items i end item next keeps own below within meaning =
      let P : ℕ → ℕ → Type 0 = λ a b. (f g : List ℕ → Bool) → Denotes old a f → Denotes old b g → Denotes new outside (λ c. f c && not (g c)) in
      let told : P (cond_at items end) (cond_at items i) = rw (cond_at-get items i item below, cond_at-get items end next within) meaning in
      told (new.has (cond_at items end)) (new.has (cond_at items i)) (Denotes-kept keeps (cond_at-own items end own within)) (Denotes-kept keeps (cond_at-own items i own below))

  -- one end more, from the last item on
  pub blocks-more : {s : Sets} (items : List (Cond × T)) (ends : List ℕ) (i end : ℕ) → length ends ≡ length items → i < length items → IsBlock s items i end
      → ((k : ℕ) → i < k → k < length items → IsBlock s items k (slice_index ends k)) → (k : ℕ) → i ≤ k → k < length items → IsBlock s items k (slice_index (set ends i end) k)
  blocks-more {s} items ends i end long within block behind k from below = elim (cases_eq k i) [
    | inl same ↦ subst (λ k. IsBlock s items k (slice_index (set ends i end) k)) (sym same) (subst (IsBlock s items i) (sym (get_or-set_same ends i end 0 (omega (arith, long, within)))) block)
    | inr other ↦ subst (IsBlock s items k) (sym (get_or-set_other ends i k end 0 other)) (behind k (omega (arith, from, other)) below)
  ]

  -- a block in another ends there at the latest
  pub nested : {s : Sets} (items : List (Cond × T)) (ends : List ℕ) (i g : ℕ) → AreBlocks s items ends → i < length items → i ≤ g → g < slice_index ends i → slice_index ends g ≤ slice_index ends i
  nested {s} items ends i g are within from below =
      let outer = are.each i within in
      let inner = are.each g (omega (arith, below, outer.most)) in
      elim (cases_lt (slice_index ends i) (slice_index ends g)) [
        | inl longer ↦
            absurd (outer.first (omega (arith, longer, inner.most)) (LiesWithin-trans (inner.inside (slice_index ends i) (omega (arith, below)) longer) (outer.inside g from below)))
        | inr is ↦ is
      ]

  -- what the item that heads a block doesn't have, no item of the block has
  pub block-none : {s : Sets} (items : List (Cond × T)) (i end k : ℕ) (c : List ℕ) → IsBlock s items i end → i ≤ k → k < end → IsConfig s.arities c → s.has (cond_at items i) c ≡ false
      → s.has (cond_at items k) c ≡ false
  block-none {s} items i end k c block from below listed none = by (s.has (cond_at items k) c) refl
    where
      by : (b : Bool) → s.has (cond_at items k) c ≡ b → s.has (cond_at items k) c ≡ false
      by true is = absurd (true≢false (sym ((block.inside k from below).has c listed is) ∙ none))
      by false is = is
