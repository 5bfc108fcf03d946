-- What those that wait keep of first tokens of the whole list that are gone.
use Rattle.std.proofs.Common.{◌≡◌, ℕ, Bool, true, false, List, [], ◌∷◌, ◌++◌, All, append_assoc, append-nil, slice_get, Some, sym, ap, subst, refl, ◌∙◌, map, if◌then◌else◌, ◌&&◌}
use Rattle.sc_expand.proofs.AlikeLemmas.{AreAlike-Keeps, IsAlike-Keeps, none-told}
use Rattle.sc_expand.proofs.WaitingLemmas.{bottom-frame, some-Keeps}
use Rattle.sc_expand.proofs.Facts.{All-append, IsConfig-Keeps, All-cons, All-head, All-nil, All-tail, IsConfig-kept, and_parts, false_from_ne_true}
use Rattle.sc_expand.proofs.SeenLemmas.{seen_at-Grows, seen_at-append}
use Rattle.sc_expand.proofs.Terms.{AreAlike, Cond, Enclosing, Expansion, Grows, Hidden, IsAlike, IsCond, IsConfig, IsHeldExpansion, IsNever, IsPushed, IsRested, IsRestricted, Keeps, KeepsFirst, KeepsGone, KeepsLeft, Sets, Stores, bottom, bottom_by, items_at, put_out, seen_at, seen_hidden, empty}
use Rattle.sc_expand.specs.Restricted as restricted
use Rattle.sc_expand.specs.Waiting as waiting

-- ---- lists under a condition

pub All-before : {X : Type 0} (P : X → Type 0) (xs ys : List X) → All P (xs ++ ys) → All P xs
All-before P [] ys all = All-nil P
All-before P (x ∷ xs) ys all = All-cons P x xs (All-head P x (xs ++ ys) all) (All-before P xs ys (All-tail P x (xs ++ ys) all))

pub All-behind : {X : Type 0} (P : X → Type 0) (xs ys : List X) → All P (xs ++ ys) → All P ys
All-behind P [] ys all = all
All-behind P (x ∷ xs) ys all = All-behind P xs ys (All-tail P x (xs ++ ys) all)

pub never-empty : {X : Type 0} (xs : List X) (x : X) → xs ++ x ∷ [] ≡ [] → ⊥
never-empty [] x is = cc
never-empty (y ∷ xs) x is = cc

-- both conditions are as they were
pub both-Keeps : {old new : Sets} → Keeps old new → (a b : ℕ) → IsCond old a → IsCond old b → (c : List ℕ) → IsConfig old.arities c → (new.has a c && new.has b c) ≡ (old.has a c && old.has b c)
both-Keeps keeps a b one two c listed = λ i. keeps.at a c one listed i && keeps.at b c two listed i

-- neither has both conditions
pub not-both : (a b : Bool) → (a ≡ true → b ≡ true → ⊥) → (a && b) ≡ false
not-both a b not = false_from_ne_true (a && b) (λ both. let p = and_parts a b both in not p.0 p.1)

module _ {T : Type 0} (s : Sets) (live : ℕ) where
  one-kept : (has here : Bool) (x : T) (ts us : List T) → us ≡ (if here then ts else []) → (if has && here then x ∷ us else us) ≡ (if here then (if has then x ∷ ts else ts) else [])
  one-kept true true x ts us is = ap (λ l. x ∷ l) is
  one-kept true false x ts us is = is
  one-kept false true x ts us is = is
  one-kept false false x ts us is = is

  one-out : (has here : Bool) (x : T) (ts us : List T) → (has && here) ≡ false → us ≡ (if here then ts else []) → us ≡ (if here then (if has then x ∷ ts else ts) else [])
  one-out has here x ts us not is = ap (λ b. if b then x ∷ us else us) (sym not) ∙ one-kept has here x ts us is

  pub restricted-items : {xs us : List (Cond × T)} → IsRestricted s live xs us → (c : List ℕ) → IsConfig s.arities c → items_at s us c ≡ (if s.has live c then items_at s xs c else [])
  restricted-items empty c listed = none-told (s.has live c)
  restricted-items (restricted.kept cond item list rest both some r) c listed =
      ap (λ b. if b then item.1 ∷ items_at s rest c else items_at s rest c) (both.at c listed) ∙ one-kept (s.has item.0.0 c) (s.has live c) item.1 (items_at s list c) (items_at s rest c) (restricted-items r c listed)
  restricted-items (restricted.left_out item list rest none r) c listed = one-out (s.has item.0.0 c) (s.has live c) item.1 (items_at s list c) (items_at s rest c) (none c listed) (restricted-items r c listed)

  pub restricted-own : {xs us : List (Cond × T)} → IsRestricted s live xs us → All (λ (x : Cond × T). IsCond s x.0.0) us
  restricted-own empty = All-nil (λ (x : Cond × T). IsCond s x.0.0)
  restricted-own (restricted.kept cond item list rest both some r) = All-cons (λ (x : Cond × T). IsCond s x.0.0) (cond, item.1) rest both.own (restricted-own r)
  restricted-own (restricted.left_out item list rest none r) = restricted-own r

  pub restricted-some : {xs us : List (Cond × T)} → IsRestricted s live xs us → All (λ (x : Cond × T). IsNever s x.0.0 → ⊥) us
  restricted-some empty = All-nil (λ (x : Cond × T). IsNever s x.0.0 → ⊥)
  restricted-some (restricted.kept cond item list rest both some r) = All-cons (λ (x : Cond × T). IsNever s x.0.0 → ⊥) (cond, item.1) rest some (restricted-some r)
  restricted-some (restricted.left_out item list rest none r) = restricted-some r

  pub restricted-all : (P : T → Type 0) {xs us : List (Cond × T)} → IsRestricted s live xs us → All (λ (x : Cond × T). P x.1) xs → All (λ (x : Cond × T). P x.1) us
  restricted-all P empty all = all
  restricted-all P (restricted.kept cond item list rest both some r) all =
      let Q : Cond × T → Type 0 = λ x. P x.1 in
      All-cons Q (cond, item.1) rest (All-head Q item list all) (restricted-all P r (All-tail Q item list all))
  restricted-all P (restricted.left_out item list rest none r) all = restricted-all P r (All-tail (λ (x : Cond × T). P x.1) item list all)

  pub restricted-alike : {xs us : List (Cond × T)} → IsRestricted s live xs us → (c d : List ℕ) → IsConfig s.arities c → IsConfig s.arities d → s.has live c ≡ s.has live d → AreAlike s c d xs → AreAlike s c d us
  restricted-alike empty c d p q same all = all
  restricted-alike (restricted.kept cond item list rest both some r) c d p q same all =
      let Q : Cond × T → Type 0 = λ x. IsAlike s c d x.0 in
      let first : s.has item.0.0 c ≡ s.has item.0.0 d = All-head Q item list all in
      All-cons Q (cond, item.1) rest (both.at c p ∙ ((λ i. first i && same i) ∙ sym (both.at d q))) (restricted-alike r c d p q same (All-tail Q item list all))
  restricted-alike (restricted.left_out item list rest none r) c d p q same all = restricted-alike r c d p q same (All-tail (λ (x : Cond × T). IsAlike s c d x.0) item list all)

module _ {T : Type 0} where
  pub restricted-append : (s : Sets) (live : ℕ) (xs ys us vs : List (Cond × T)) → IsRestricted s live xs us → IsRestricted s live ys vs → IsRestricted s live (xs ++ ys) (us ++ vs)
  restricted-append s live xs ys us vs empty second = second
  restricted-append s live xs ys us vs (restricted.kept cond item list rest both some first) second =
      restricted.kept cond item (list ++ ys) (rest ++ vs) both some (restricted-append s live list ys rest vs first second)
  restricted-append s live xs ys us vs (restricted.left_out item list rest none first) second =
      restricted.left_out item (list ++ ys) (us ++ vs) none (restricted-append s live list ys us vs first second)

  pub restricted-Keeps : {old new : Sets} → Keeps old new → (live : ℕ) → IsCond old live → (xs us : List (Cond × T)) → All (λ (item : Cond × T). IsCond old item.0.0) xs → IsRestricted old live xs us → IsRestricted new live xs us
  restricted-Keeps keeps live live_own xs us own empty = empty
  restricted-Keeps {old} {new} keeps live live_own xs us own (restricted.kept cond item list rest both some r) =
      let O : Cond × T → Type 0 = λ item. IsCond old item.0.0 in
      let item_own = All-head O item list own in
      restricted.kept cond item list rest (record {
        own = keeps.own cond.0 both.own;
        at = λ c listed.
            let was = IsConfig-kept keeps listed in
            keeps.at cond.0 c both.own was ∙ (both.at c was ∙ sym (both-Keeps keeps item.0.0 live item_own live_own c was));
      }) (λ never. some (record { none = λ c listed. sym (keeps.at cond.0 c both.own listed) ∙ never.none c (IsConfig-Keeps keeps listed) }))
      (restricted-Keeps keeps live live_own list rest (All-tail O item list own) r)
  restricted-Keeps {old} {new} keeps live live_own xs us own (restricted.left_out item list rest none r) =
      let O : Cond × T → Type 0 = λ item. IsCond old item.0.0 in
      restricted.left_out item list us (λ c listed.
      let was = IsConfig-kept keeps listed in
      both-Keeps keeps item.0.0 live (All-head O item list own) live_own c was ∙ none c was)
      (restricted-Keeps keeps live live_own list us (All-tail O item list own) r)

-- ---- tokens that are gone

first-same : (list : List (Cond × Hidden)) (item : Cond × Hidden) (rest : List (Cond × Hidden)) (first : Cond × Hidden) → list ≡ item ∷ rest → slice_get list 0 ≡ Some first → first ≡ item
first-same [] item rest first is at = absurd (cc)
first-same (x ∷ xs) item rest first is at = cc

list-some : (item : Cond × Hidden) (rest : List (Cond × Hidden)) → item ∷ rest ≡ [] → ⊥
list-some item rest none = cc

-- nothing is gone
pub gone-nothing : (s : Sets) (e after : Expansion) → (bottom after).work ≡ (bottom e).work → after.rest ≡ e.rest → KeepsGone s e after
gone-nothing s e after work rest = record { gone = []; kept = []; work = sym work; rest = rest ∙ sym (append-nil e.rest); is = restricted.empty }

-- the first token of the list on top is
pub gone-first : (s : Sets) (e after : Expansion) (item : Cond × Hidden) → e.top.work ≡ item ∷ after.top.work → after.below ≡ e.below
    → KeepsFirst s s e.refusals.waiting.0 e.below.items e.top.work e.rest after.rest → KeepsGone s e after
gone-first s e after item work below (waiting.kept first cond whole is meets put) = by put
  where
    same : first ≡ item
    same = first-same e.top.work item after.top.work first work is

    moved : (bottom e).work ≡ item ∷ (bottom after).work
    moved =
        ap (λ bs. (bottom_by bs e.top).work) whole
        ∙ (work ∙ ap (λ (l : List (Cond × Hidden)). item ∷ l) (sym (ap (λ b. (bottom_by b.items after.top).work) below ∙ ap (λ bs. (bottom_by bs after.top).work) whole)))

    by : IsPushed s cond first.1 e.rest after.rest → KeepsGone s e after
    by (restricted.pushed some put) = record {
      gone = item ∷ [];
      kept = (cond, first.1) ∷ [];
      work = moved;
      rest = put;
      is = subst (λ (x : Cond × Hidden). IsRestricted s e.refusals.waiting.0 (x ∷ []) ((cond, first.1) ∷ [])) same (restricted.kept cond first [] [] meets some restricted.empty);
    }
    by (restricted.absent never put) = record {
      gone = item ∷ [];
      kept = [];
      work = moved;
      rest = put ∙ sym (append-nil e.rest);
      is = subst (λ (x : Cond × Hidden). IsRestricted s e.refusals.waiting.0 (x ∷ []) []) same (restricted.left_out first [] [] (λ c listed. sym (meets.at c listed) ∙ never.none c listed) restricted.empty);
    }
gone-first s e after item work below (waiting.none over same) = by e.below.items refl
  where
    by : (bs : List Enclosing) → e.below.items ≡ bs → KeepsGone s e after
    by [] is = absurd (list-some item after.top.work (sym work ∙ over is))
    by (b ∷ bs) is =
        gone-nothing s e after (ap (λ b. (bottom_by b.items after.top).work) below ∙ (ap (λ l. (bottom_by l after.top).work) is ∙ sym (ap (λ l. (bottom_by l e.top).work) is))) same

-- one after the other
pub gone-then : {old mid : Stores} {new : Sets} {files : ℕ} (one two three : Expansion) → Grows old mid → Keeps mid.sets new → IsHeldExpansion old files one → two.refusals ≡ one.refusals
    → KeepsGone mid.sets one two → KeepsGone new two three → KeepsGone new one three
gone-then {old} {mid} {new} one two three grows keeps held refusals a b =
    let Own : Cond × Hidden → Type 0 = λ item. IsCond mid.sets item.0.0 in
    let owned : All Own (bottom one).work = λ k d h. grows.sets.own _ ((bottom-frame one held).work.own k d h) in
    record {
      gone = a.gone ++ b.gone;
      kept = a.kept ++ b.kept;
      work = a.work ∙ (ap (λ l. a.gone ++ l) b.work ∙ sym (append_assoc a.gone b.gone (bottom three).work));
      rest = b.rest ∙ (ap (λ l. l ++ b.kept) a.rest ∙ append_assoc one.rest a.kept b.kept);
      is = restricted-append new one.refusals.waiting.0 a.gone b.gone a.kept b.kept
          (restricted-Keeps keeps one.refusals.waiting.0 (grows.sets.own one.refusals.waiting.0 held.refusals.waiting) a.gone a.kept (All-before Own a.gone (bottom two).work (subst (All Own) a.work owned)) a.is)
          (subst (λ r. IsRestricted new r.waiting.0 b.gone b.kept) refusals b.is);
    }

-- ---- what waits, where each configuration that was not refused rests

module _ {old new : Stores} {files : ℕ} {e after : Expansion} (held : IsHeldExpansion old files e) (rested : IsRested old new e after) where
  abbrev gone : KeepsGone new.sets e after
  gone = rested.keeps files held

  -- of what is gone those that wait keep all, and others nothing
  kept-is : (c : List ℕ) → IsConfig old.sets.arities c → (b : Bool) → new.sets.has after.refusals.waiting.0 c ≡ b → seen_at new gone.kept c ≡ seen_at new (if b then gone.gone else []) c
  kept-is c listed b is =
      ap (map (seen_hidden new.names new.hides)) (restricted-items new.sets e.refusals.waiting.0 gone.is c (IsConfig-Keeps rested.grows.sets listed)
      ∙ (ap (λ h. if h then items_at new.sets gone.gone c else []) (ap (λ r. new.sets.has r.waiting.0 c) (sym rested.refusals) ∙ is) ∙ by b))
    where
      by : (b : Bool) → (if b then items_at new.sets gone.gone c else []) ≡ items_at new.sets (if b then gone.gone else []) c
      by true = refl
      by false = refl

  rest-is : (c : List ℕ) → IsConfig old.sets.arities c → (b : Bool) → new.sets.has after.refusals.waiting.0 c ≡ b → seen_at new after.rest c ≡ seen_at old e.rest c ++ seen_at new (if b then gone.gone else []) c
  rest-is c listed b is =
      ap (λ l. seen_at new l c) gone.rest ∙ (seen_at-append new e.rest gone.kept c ∙ (λ i. seen_at-Grows rested.grows c listed e.rest held.rest i ++ kept-is c listed b is i))

  pub rested-left : KeepsLeft old new e after
  rested-left = record {
    left = λ c listed apart waits.
        let were = seen_at-Grows rested.grows c listed (bottom e).work (bottom-frame e held).work in
        ap (λ l. l ++ seen_at new (bottom after).work c) (rest-is c listed true waits)
        ∙ (append_assoc (seen_at old e.rest c) (seen_at new gone.gone c) (seen_at new (bottom after).work c)
        ∙ ap (λ l. seen_at old e.rest c ++ l) (sym (ap (λ l. seen_at new l c) gone.work ∙ seen_at-append new gone.gone (bottom after).work c) ∙ were));
    put = λ c listed apart waits. ap (λ l. seen_at new l c) rested.out ∙ seen_at-Grows rested.grows c listed (put_out e) (bottom-frame e held).out;
    others = λ c listed lacks. rest-is c listed false lacks ∙ append-nil (seen_at old e.rest c);
    some =
        let Some : Cond × Hidden → Type 0 = λ item. IsNever new.sets item.0.0 → ⊥ in
        λ all. subst (All Some) (sym gone.rest) (All-append Some e.rest gone.kept (some-Keeps rested.grows.sets e.rest held.rest.own all) (restricted-some new.sets e.refusals.waiting.0 gone.is));
  }

  -- where all of the whole list is alike
  pub rested-alike : {c d : List ℕ} → IsConfig old.sets.arities c → IsConfig old.sets.arities d → AreAlike old.sets c d (bottom e).work → IsAlike old.sets c d e.refusals.waiting → AreAlike old.sets c d e.rest
      → AreAlike new.sets c d after.rest
  rested-alike {c} {d} p q list waiting all =
      let Same : Cond × Hidden → Type 0 = λ item. IsAlike new.sets c d item.0 in
      let keeps = rested.grows.sets in
      let first = All-before Same gone.gone (bottom after).work (subst (All Same) gone.work (AreAlike-Keeps keeps p q (bottom e).work (bottom-frame e held).work.own list)) in
      subst (All Same) (sym gone.rest) (All-append Same e.rest gone.kept (AreAlike-Keeps keeps p q e.rest held.rest.own all)
      (restricted-alike new.sets e.refusals.waiting.0 gone.is c d (IsConfig-Keeps keeps p) (IsConfig-Keeps keeps q) (IsAlike-Keeps keeps p q held.refusals.waiting waiting) first))
