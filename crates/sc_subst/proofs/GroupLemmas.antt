-- How the parentheses of a list are found from its end.
use Rattle.std.proofs.Common.{◌≡◌, ◌∙◌, ◌+◌, ◌-◌, ◌<◌, ◌≤◌, ◌⊎◌, ℕ, zero, suc, Bool, true, false, All, List, [], ◌∷◌, Some, inl, inr, arith, drop, get_or, length, set, slice_get, refl, ap, subst}
use Rattle.std.specs.Option.{option_map}
use Rattle.std.proofs.lemmas.List.{drop_more, drop_all}
use Rattle.std.proofs.lemmas.List.Elements.{All-cons, All-get_or, All-head, All-nil, All-tail, All-weaker}
use Rattle.std.proofs.lemmas.Option.{get_or_from_slice_get, same_Some, slice_get_within}
use Rattle.sc_subst.specs.Groups.{group_end, group_step, IsGroup}

-- these are the indices of the items that close the groups which open before the items from an
-- index on, the innermost first
pub record IsStack {A : Type 0} (opens closes : A → Bool) (list : List A) (index : ℕ) (stack : List ℕ) : Type 0 where
  pub ends : (depth : ℕ) → group_end opens closes depth (drop index list) ≡ option_map (λ j. j - index) (slice_get stack depth)
  pub behind : All (λ j. index ≤ j) stack

-- as seen from one item before
one_before : (index : ℕ) (stack : List ℕ) (depth : ℕ) → All (λ j. index + 1 ≤ j) stack
    → option_map suc (option_map (λ j. j - (index + 1)) (slice_get stack depth)) ≡ option_map (λ j. j - index) (slice_get stack depth)
one_before index [] depth behind = refl
one_before index (j ∷ stack) zero behind =
    let le : index + 1 ≤ j = All-head (λ j. index + 1 ≤ j) j stack behind in
    let same : suc (j - (index + 1)) ≡ j - index = omega (arith, le) in
    ap Some same
one_before index (j ∷ stack) (suc depth) behind = one_before index stack depth (All-tail (λ j. index + 1 ≤ j) j stack behind)

-- what is behind an item is behind the one before it
nearer : (index : ℕ) (stack : List ℕ) → All (λ j. index + 1 ≤ j) stack → All (λ j. index ≤ j) stack
nearer index stack = All-weaker (λ j. index + 1 ≤ j) (λ j. index ≤ j) (λ j le. omega (arith, le)) stack

module _ {A : Type 0} (opens closes : A → Bool) (list : List A) where
  -- behind the last item no group is open
  pub stack_at_end : (index : ℕ) → length list ≤ index → IsStack opens closes list index []
  stack_at_end index past = record {
    ends = λ depth. ap (group_end opens closes depth) (drop_all index list past);
    behind = All-nil (λ j. index ≤ j);
  }

  module _ (index : ℕ) (default : A) (within : index < length list) where
    -- the step at an item of which both are known
    step : (o c : Bool) → opens (get_or list index default) ≡ o → closes (get_or list index default) ≡ c → (depth : ℕ)
        → group_end opens closes depth (drop index list) ≡ group_step o c depth (λ d. group_end opens closes d (drop (index + 1) list))
    step o c is_o is_c depth =
        let go = λ (d : ℕ). group_end opens closes d (drop (index + 1) list) in
        ap (group_end opens closes depth) (drop_more list index default within)
        ∙ (ap (λ b. group_step b (closes (get_or list index default)) depth go) is_o ∙ ap (λ b. group_step o b depth go) is_c)

    -- an opening item takes the innermost one
    pub stack_popped : (j : ℕ) (stack : List ℕ) → opens (get_or list index default) ≡ true
        → IsStack opens closes list (index + 1) (j ∷ stack) → IsStack opens closes list index stack
    stack_popped j stack opening was =
        let rest = All-tail (λ j. index + 1 ≤ j) j stack was.behind in
        record {
          ends = λ depth. step true (closes (get_or list index default)) opening refl depth
              ∙ (ap (option_map suc) (was.ends (suc depth)) ∙ one_before index stack depth rest);
          behind = nearer index stack rest;
        }

    -- a closing item becomes the innermost one
    pub stack_pushed : (stack : List ℕ) → opens (get_or list index default) ≡ false → closes (get_or list index default) ≡ true
        → IsStack opens closes list (index + 1) stack → IsStack opens closes list index (index ∷ stack)
    stack_pushed stack opening closing was =
        let none : 0 ≡ index - index = omega arith in
        let At : ℕ → Type 0 = λ depth. group_step false true depth (λ d. group_end opens closes d (drop (index + 1) list))
        ≡ option_map (λ j. j - index) (slice_get (index ∷ stack) depth) in
        let at : (depth : ℕ) → At depth = λ depth. elim depth as At [
          | zero ↦ ap Some none
          | suc d ↦ ap (option_map suc) (was.ends d) ∙ one_before index stack d was.behind
        ] in
        record {
          ends = λ depth. step false true opening closing depth ∙ at depth;
          behind = All-cons (λ j. index ≤ j) index stack (omega arith) (nearer index stack was.behind);
        }

    -- another item changes nothing
    pub stack_kept : (stack : List ℕ) → opens (get_or list index default) ≡ false → closes (get_or list index default) ≡ false
        → IsStack opens closes list (index + 1) stack → IsStack opens closes list index stack
    stack_kept stack opening closing was = record {
      ends = λ depth. step false false opening closing depth ∙ (ap (option_map suc) (was.ends depth) ∙ one_before index stack depth was.behind);
      behind = nearer index stack was.behind;
    }

    -- an opening item is closed by the innermost one
    pub group_found : (j : ℕ) (stack : List ℕ) → opens (get_or list index default) ≡ true
        → IsStack opens closes list (index + 1) (j ∷ stack) → IsGroup opens closes list index j
    group_found j stack opening was =
        let le : index + 1 ≤ j = All-head (λ j. index + 1 ≤ j) j stack was.behind in
        record {
          opening = λ x at. subst (λ y. opens y ≡ true) (get_or_from_slice_get list index x default at) opening;
          behind = omega (arith, le);
          is = was.ends 0;
        }

-- what is read after a write
written : {X : Type 0} (xs : List X) (i : ℕ) (w : X) (k : ℕ) (v : X) → slice_get (set xs i w) k ≡ Some v
    → ((i ≡ k) × (w ≡ v)) ⊎ (slice_get xs k ≡ Some v)
written [] i w k v at = inr at
written (x ∷ xs) zero w zero v at = inl (refl, same_Some w v at)
written (x ∷ xs) zero w (suc k) v at = inr at
written (x ∷ xs) (suc i) w zero v at = inr at
written (x ∷ xs) (suc i) w (suc k) v at = elim (written xs i w k v at) [ inl both ↦ inl (ap suc both.0, both.1) | inr before ↦ inr before ]

-- one more fact of what a list holds
pub written_known : {X : Type 0} (P : ℕ → X → Type 0) (xs : List X) (i : ℕ) (w : X) → ((k : ℕ) (v : X) → slice_get xs k ≡ Some v → P k v) → P i w
    → (k : ℕ) (v : X) → slice_get (set xs i w) k ≡ Some v → P k v
written_known P xs i w known one k v at = elim (written xs i w k v at) [
  | inl both ↦ subst (λ k. P k v) both.0 (subst (P i) both.1 one)
  | inr before ↦ known k v before
]

-- in a list of zeros no number is above 0
pub zeros_hold_nothing : (xs : List ℕ) → All (λ n. n ≡ 0) xs → (k v : ℕ) → slice_get xs k ≡ Some v → 0 < v → ⊥
zeros_hold_nothing xs zeros k v at some =
    let is : v ≡ 0 = subst (λ n. n ≡ 0) (get_or_from_slice_get xs k v 0 at) (All-get_or (λ n. n ≡ 0) xs k 0 (slice_get_within xs k v at) zeros) in
    omega (arith, is, some)
