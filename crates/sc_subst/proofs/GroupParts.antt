-- Parentheses that belong together, in a part of a list, and by their texts.
use Rattle.std.proofs.Common.{◌≡◌, ℕ, zero, suc, ◌+◌, ◌-◌, ◌<◌, ◌≤◌, Bool, true, false, List, [], ◌∷◌, All, Option, Some, None, slice_get, codes, drop, length, take, refl, sym, ap, ◌∙◌, subst, arith}
use Rattle.std.specs.Option.{option_map}
use Rattle.std.proofs.lemmas.Bool.{eqb-true}
use Rattle.std.proofs.lemmas.List.{drop-drop, drop-take}
use Rattle.std.proofs.lemmas.List.Elements.{All-drop, All-get_or, All-head, All-tail, All-weaker}
use Rattle.std.proofs.lemmas.Option.{get_or_from_slice_get, slice_get_within}
use Rattle.sc_base.specs.Seen.{text_at}
use Rattle.sc_macro.proofs.Texts.{same_text}
use Rattle.sc_model.specs.Bytes.{same_bytes}
use Rattle.sc_model.specs.Growth.{IsOneToOne}
use Rattle.sc_model.proofs.ByteLemmas.{same_bytes-true}
use Rattle.sc_subst.specs.Groups.{AreGroups, IsGroup, IsParenthesized, group_end, group_step, has_spelling, has_text}
use Rattle.sc_subst.specs.declared.groups.Groups.{Groups}
use Rattle.sc_subst.specs.declared.hidden.Hidden.{Hidden}

counted : (o : Option ℕ) (i : ℕ) → option_map suc o ≡ Some i → (j : ℕ) × (o ≡ Some j) × (i ≡ suc j)
counted None i is = absurd (cc)
counted (Some j) i is = let same : i ≡ suc j = cc in (j, refl, same)

module _ {A : Type 0} where
  pub all_at : (P : A → Type 0) (xs : List A) (i : ℕ) (x : A) → All P xs → slice_get xs i ≡ Some x → P x
  all_at P xs i x all at = subst P (get_or_from_slice_get xs i x x at) (All-get_or P xs i x (slice_get_within xs i x at) all)

  pub get_dropped : (xs : List A) (n i : ℕ) → slice_get (drop n xs) i ≡ slice_get xs (n + i)
  get_dropped [] zero i = refl
  get_dropped [] (suc n) i = refl
  get_dropped (x ∷ xs) zero i = let e : i ≡ 0 + i = omega arith in ap (slice_get (x ∷ xs)) e
  get_dropped (x ∷ xs) (suc n) i = let e : suc (n + i) ≡ suc n + i = omega arith in get_dropped xs n i ∙ ap (slice_get (x ∷ xs)) e

  pub get_taken : (xs : List A) (n i : ℕ) → i < n → slice_get (take n xs) i ≡ slice_get xs i
  get_taken xs zero i h = absurd (omega arith)
  get_taken [] (suc n) i h = refl
  get_taken (x ∷ xs) (suc n) zero h = refl
  get_taken (x ∷ xs) (suc n) (suc i) h = get_taken xs n i (omega arith)

  module _ (opens closes : A → Bool) where
    -- the end of a group, among the first items
    end_front : (depth k n : ℕ) (xs : List A) → group_end opens closes depth xs ≡ Some k → k < n → group_end opens closes depth (take n xs) ≡ Some k
    end_front depth k n [] is early = absurd (cc)
    end_front depth k zero (x ∷ xs) is early = absurd (omega arith)
    end_front depth k (suc n) (x ∷ xs) is early = by (opens x) (closes x) depth is (λ d j less at. end_front d j n xs at less)
      where
        later : (depth : ℕ) → option_map suc (group_end opens closes depth xs) ≡ Some k → ((d j : ℕ) → j < n → group_end opens closes d xs ≡ Some j → group_end opens closes d (take n xs) ≡ Some j)
            → option_map suc (group_end opens closes depth (take n xs)) ≡ Some k
        later depth is go =
            let it = counted (group_end opens closes depth xs) k is in
            ap (option_map suc) (go depth it.0 (omega (arith, it.2)) it.1) ∙ ap Some (sym it.2)

        by : (o e : Bool) (depth : ℕ) → group_step o e depth (λ d. group_end opens closes d xs) ≡ Some k → ((d j : ℕ) → j < n → group_end opens closes d xs ≡ Some j → group_end opens closes d (take n xs) ≡ Some j)
            → group_step o e depth (λ d. group_end opens closes d (take n xs)) ≡ Some k
        by true e depth is go = later (suc depth) is go
        by false true zero is go = is
        by false true (suc depth) is go = later depth is go
        by false false depth is go = later depth is go

    -- the item that ends a group is one that closes
    pub end_closes : (depth k : ℕ) (x : A) (xs : List A) → group_end opens closes depth xs ≡ Some k → slice_get xs k ≡ Some x → closes x ≡ true
    end_closes depth k x [] is at = absurd (cc)
    end_closes depth k x (y ∷ ys) is at = by (opens y) (closes y) refl depth is (λ d j was there. end_closes d j x ys was there)
      where
        later : (depth : ℕ) → option_map suc (group_end opens closes depth ys) ≡ Some k → ((d j : ℕ) → group_end opens closes d ys ≡ Some j → slice_get ys j ≡ Some x → closes x ≡ true) → closes x ≡ true
        later depth is go =
            let it = counted (group_end opens closes depth ys) k is in
            go depth it.0 it.1 (ap (slice_get (y ∷ ys)) (sym it.2) ∙ at)

        by : (o e : Bool) → closes y ≡ e → (depth : ℕ) → group_step o e depth (λ d. group_end opens closes d ys) ≡ Some k → ((d j : ℕ) → group_end opens closes d ys ≡ Some j → slice_get ys j ≡ Some x → closes x ≡ true) → closes x ≡ true
        by true e one depth is go = later (suc depth) is go
        by false true one zero is go =
            let first : 0 ≡ k = cc in
            let same : Some y ≡ Some x = ap (slice_get (y ∷ ys)) first ∙ at in
            let item : x ≡ y = cc in
            ap closes item ∙ one
        by false true one (suc depth) is go = later depth is go
        by false false one depth is go = later depth is go

  -- tests that tell the same of each item find the same end
  end_alike : (opens closes others ends : A → Bool) (depth : ℕ) (xs : List A) → All (λ x. (opens x ≡ others x) × (closes x ≡ ends x)) xs → group_end opens closes depth xs ≡ group_end others ends depth xs
  end_alike opens closes others ends depth [] all = refl
  end_alike opens closes others ends depth (x ∷ xs) all =
      let P : A → Type 0 = λ y. (opens y ≡ others y) × (closes y ≡ ends y) in
      let first = All-head P x xs all in
      ap (λ o. group_step o (closes x) depth (λ d. group_end opens closes d xs)) first.0
      ∙ (ap (λ e. group_step (others x) e depth (λ d. group_end opens closes d xs)) first.1
      ∙ by (others x) (ends x) depth (λ d. end_alike opens closes others ends d xs (All-tail P x xs all)))
    where
      by : (o e : Bool) (depth : ℕ) → ((d : ℕ) → group_end opens closes d xs ≡ group_end others ends d xs) → group_step o e depth (λ d. group_end opens closes d xs) ≡ group_step o e depth (λ d. group_end others ends d xs)
      by true e depth go = ap (option_map suc) (go (suc depth))
      by false true zero go = refl
      by false true (suc depth) go = ap (option_map suc) (go depth)
      by false false depth go = ap (option_map suc) (go depth)

  -- what is said of the items from one index on, up to another, is so of each
  pub part_at : (P : A → Type 0) (xs : List A) (from to place : ℕ) (x : A) → from ≤ place → place < to → All P (take (to - from) (drop from xs)) → slice_get xs place ≡ Some x → P x
  part_at P xs from to place x low high all at =
      let there : from + (place - from) ≡ place = omega (arith, low) in
      all_at P (take (to - from) (drop from xs)) (place - from) x all
      (get_taken (drop from xs) (to - from) (place - from) (omega (arith, low, high)) ∙ (get_dropped xs from (place - from) ∙ (ap (slice_get xs) there ∙ at)))

  -- a group of a list, in those of its items that stand from one index on, up to another
  pub group_within : (opens closes others ends : A → Bool) (xs : List A) (from to index close : ℕ) → index < to - from → close < to
      → All (λ x. (opens x ≡ others x) × (closes x ≡ ends x)) (take (to - from) (drop from xs))
      → IsGroup opens closes xs (from + index) close → IsGroup others ends (take (to - from) (drop from xs)) index (close - from)
  group_within opens closes others ends xs from to index close in_window early alike group = record {
    opening = λ x at.
        sym (all_at P part index x alike at).0
        ∙ group.opening x (sym (get_taken (drop from xs) (to - from) index in_window ∙ get_dropped xs from index) ∙ at);
    behind = omega (arith, group.behind);
    is =
        sym (end_alike opens closes others ends 0 (drop (index + 1) part) (All-drop P (index + 1) part alike))
        ∙ (ap (group_end opens closes 0) rest
        ∙ (end_front opens closes 0 (close - ((from + index) + 1)) ((to - from) - (index + 1)) (drop ((from + index) + 1) xs) group.is (omega (arith, group.behind))
        ∙ ap Some count));
  } where
    part : List A
    part = take (to - from) (drop from xs)

    P : A → Type 0
    P x = (opens x ≡ others x) × (closes x ≡ ends x)

    count : close - ((from + index) + 1) ≡ (close - from) - (index + 1)
    count = omega arith

    rest : drop (index + 1) part ≡ take ((to - from) - (index + 1)) (drop ((from + index) + 1) xs)
    rest =
        let ys = drop from xs in
        let wide : to - from ≡ (index + 1) + ((to - from) - (index + 1)) = omega (arith, in_window) in
        let place : from + (index + 1) ≡ (from + index) + 1 = omega arith in
        ap (λ m. drop (index + 1) (take m ys)) wide
        ∙ (drop-take (index + 1) ((to - from) - (index + 1)) ys
        ∙ ap (take ((to - from) - (index + 1))) (drop-drop (index + 1) from xs ∙ ap (λ m. drop m xs) place))

-- an id tells what its text tells
pub by_text : (names : List (List ℕ)) (id : ℕ) (text : List ℕ) (t : Hidden) → IsOneToOne names → id < length names → same_bytes (text_at names id) text ≡ true → t.token.spelling.0 < length names
    → has_spelling id t ≡ has_text names text t
by_text names id text t one held is own =
    sym (same_text names t.token.spelling.0 id one own held) ∙ ap (same_bytes (text_at names t.token.spelling.0)) (same_bytes-true (text_at names id) text is)

-- what is known of the parentheses of a list, in a part of it, where the texts of two are right
module _ (names : List (List ℕ)) (xs : List Hidden) (groups : Groups) (from to index close : ℕ) (are : AreGroups xs groups)
    (known : slice_get groups.closes.items (from + index) ≡ Some close) (some : 0 < close) where
  pub closes_behind : from + index < close
  closes_behind = (are (from + index) close known some).behind

  pub parenthesized_within : (first last : Hidden) → IsOneToOne names → index < to - from → close < to → slice_get xs (from + index) ≡ Some first → slice_get xs close ≡ Some last
      → same_bytes (text_at names first.token.spelling.0) (codes "(") ≡ true → same_bytes (text_at names last.token.spelling.0) (codes ")") ≡ true
      → All (λ h. h.token.spelling.0 < length names) (take (to - from) (drop from xs))
      → IsParenthesized names (take (to - from) (drop from xs)) index (close - from)
  parenthesized_within first last one in_window early at_first at_last opens closes held =
      group_within (has_spelling groups.opening.0) (has_spelling groups.closing.0) (has_text names (codes "(")) (has_text names (codes ")")) xs from to index close in_window early
      (All-weaker Own Alike alike (take (to - from) (drop from xs)) held) group
    where
      Own : Hidden → Type 0
      Own h = h.token.spelling.0 < length names

      Alike : Hidden → Type 0
      Alike h = (has_spelling groups.opening.0 h ≡ has_text names (codes "(") h) × (has_spelling groups.closing.0 h ≡ has_text names (codes ")") h)

      group : IsGroup (has_spelling groups.opening.0) (has_spelling groups.closing.0) xs (from + index) close
      group = are (from + index) close known some

      opening : first.token.spelling.0 ≡ groups.opening.0
      opening = eqb-true first.token.spelling.0 groups.opening.0 (group.opening first at_first)

      closing : last.token.spelling.0 ≡ groups.closing.0
      closing =
          let there : ((from + index) + 1) + (close - ((from + index) + 1)) ≡ close = omega (arith, group.behind) in
          eqb-true last.token.spelling.0 groups.closing.0
          (end_closes (has_spelling groups.opening.0) (has_spelling groups.closing.0) 0 (close - ((from + index) + 1)) last (drop ((from + index) + 1) xs) group.is
          (get_dropped xs ((from + index) + 1) (close - ((from + index) + 1)) ∙ (ap (slice_get xs) there ∙ at_last)))

      opening_held : groups.opening.0 < length names
      opening_held = subst (λ id. id < length names) opening (part_at Own xs from to (from + index) first (omega arith) (omega (arith, in_window)) held at_first)

      closing_held : groups.closing.0 < length names
      closing_held = subst (λ id. id < length names) closing (part_at Own xs from to close last (omega (arith, group.behind)) early held at_last)

      alike : (h : Hidden) → Own h → Alike h
      alike h own = (
        by_text names groups.opening.0 (codes "(") h one opening_held (ap (λ id. same_bytes (text_at names id) (codes "(")) (sym opening) ∙ opens) own,
        by_text names groups.closing.0 (codes ")") h one closing_held (ap (λ id. same_bytes (text_at names id) (codes ")")) (sym closing) ∙ closes) own,
      )
