-- Numbers of trees, as more trees get numbers.
use Rattle.std.proofs.Common.{◌≡◌, ℕ, ◌+◌, ◌<◌, ◌==◌, not, Bool, true, false, List, [], ◌∷◌, ◌++◌, length, take, get_or, slice_get, position, Option, Some, None, refl, sym, ap, subst, ◌∙◌}
use Rattle.std.specs.List.{Contains, list_any}
use Rattle.std.proofs.lemmas.Bool.{eqb-true}
use Rattle.std.proofs.lemmas.Cmp.{nat_eq_equiv, on_equiv}
use Rattle.std.proofs.lemmas.List.{take_more}
use Rattle.std.proofs.lemmas.Map.Views.{list_any-from_Contains}
use Rattle.std.proofs.lemmas.Option.{slice_get_within, slice_get-get_or, get_or_from_slice_get}
use Rattle.indexmap.proofs.CallerLemmas.{Contains-list_any}
use Rattle.sc_base.specs.declared.id.Cond.{Cond}
use Rattle.sc_base.specs.declared.id.TreeId.{TreeId}
use Rattle.sc_base.proofs.Growth.{Extends-keeps}
use Rattle.sc_model.specs.Growth.{Extends}
use Rattle.sc_show.specs.TreeRules as rules
use Rattle.sc_show.specs.TreeRules.{AreBranchNumbers}
use Rattle.sc_show.specs.TreeShows.{AreNumbersOf, no_numbers, more_numbers, IsRootOf, no_root, root_of}
use Rattle.sc_show.proofs.PrinterNumbers.{position_passes}

pub same_tree : (a b : TreeId) → (a.0 == b.0) ≡ true → a ≡ b
same_tree a b same = ap (λ (n : ℕ). let x : TreeId = record { 0 = n } in x) (eqb-true a.0 b.0 same)

-- whether a tree has a number, as a test
pub found_tree : (ks : List TreeId) (a : TreeId) → list_any (λ (k : TreeId). a.0 == k.0) ks ≡ true → Contains ks a
found_tree ks a some = Contains-list_any (λ (a b : TreeId). a.0 == b.0) same_tree ks a some

pub listed_tree : (ks : List TreeId) (a : TreeId) → Contains ks a → list_any (λ (k : TreeId). a.0 == k.0) ks ≡ true
listed_tree ks a has = list_any-from_Contains (on_equiv (λ (k : TreeId). k.0) nat_eq_equiv) a ks has

pub fresh_tree : (ks : List TreeId) (a : TreeId) → (Contains ks a → ⊥) → true ≡ not (list_any (λ (k : TreeId). a.0 == k.0) ks)
fresh_tree ks a none = by (list_any (λ (k : TreeId). a.0 == k.0) ks) refl
  where
    by : (b : Bool) → list_any (λ (k : TreeId). a.0 == k.0) ks ≡ b → true ≡ not b
    by true some = absurd (none (found_tree ks a some))
    by false other = refl

-- the number of a tree that has one
pub number_at : {T : Type 0} (ks : List T) (a : T) (has : Contains ks a) → slice_get ks has.0 ≡ Some a
number_at ks a has = slice_get-get_or ks has.0 a has.1 ∙ ap Some has.2

pub number_of_tree : (ks : List TreeId) (a : TreeId) (n : ℕ) → Some n ≡ position (λ (k : TreeId). a.0 == k.0) ks → slice_get ks n ≡ Some a
number_of_tree ks a n found = let at = position_passes (λ (k : TreeId). a.0 == k.0) ks n (sym found) in at.1 ∙ ap Some (sym (same_tree a at.0 at.2))

pub contains_at : {T : Type 0} (ks : List T) (n : ℕ) (a : T) → slice_get ks n ≡ Some a → Contains ks a
contains_at ks n a at = (n, slice_get_within ks n a at, get_or_from_slice_get ks n a a at)

pub AreNumbersOf-push : {ids xs : List TreeId} {ns : List ℕ} (id : TreeId) (n : ℕ) → AreNumbersOf ids xs ns → slice_get ids n ≡ Some id → AreNumbersOf ids (xs ++ id ∷ []) (ns ++ n ∷ [])
AreNumbersOf-push id n no_numbers at = more_numbers id n [] [] at no_numbers
AreNumbersOf-push id n (more_numbers x m xs ms found rest) at = more_numbers x m (xs ++ id ∷ []) (ms ++ n ∷ []) found (AreNumbersOf-push id n rest at)

pub AreNumbersOf-grows : {ids others xs : List TreeId} {ns : List ℕ} → Extends ids others → AreNumbersOf ids xs ns → AreNumbersOf others xs ns
AreNumbersOf-grows grows no_numbers = no_numbers
AreNumbersOf-grows grows (more_numbers x m xs ms found rest) = more_numbers x m xs ms (Extends-keeps m x found grows) (AreNumbersOf-grows grows rest)

pub AreBranchNumbers-push : {conditions : List Cond} {ids : List TreeId} {xs : List (Cond × TreeId)} {ns : List (ℕ × ℕ)} (branch : Cond × TreeId) (c n : ℕ) → AreBranchNumbers conditions ids xs ns
    → slice_get conditions c ≡ Some branch.0 → slice_get ids n ≡ Some branch.1 → AreBranchNumbers conditions ids (xs ++ branch ∷ []) (ns ++ (c, n) ∷ [])
AreBranchNumbers-push branch c n rules.no_numbers at at_too = rules.more_numbers branch c n [] [] at at_too rules.no_numbers
AreBranchNumbers-push branch c n (rules.more_numbers x d m xs ms found found_too rest) at at_too =
    rules.more_numbers x d m (xs ++ branch ∷ []) (ms ++ (c, n) ∷ []) found found_too (AreBranchNumbers-push branch c n rest at at_too)

pub AreBranchNumbers-grows : {conditions more : List Cond} {ids others : List TreeId} {xs : List (Cond × TreeId)} {ns : List (ℕ × ℕ)} → Extends conditions more → Extends ids others
    → AreBranchNumbers conditions ids xs ns → AreBranchNumbers more others xs ns
AreBranchNumbers-grows grows trees_grow rules.no_numbers = rules.no_numbers
AreBranchNumbers-grows grows trees_grow (rules.more_numbers x d m xs ms found found_too rest) =
    rules.more_numbers x d m xs ms (Extends-keeps d x.0 found grows) (Extends-keeps m x.1 found_too trees_grow) (AreBranchNumbers-grows grows trees_grow rest)

-- what an index past the end reads
abbrev pub no_branch : Cond × TreeId
no_branch = (record { 0 = 0 }, record { 0 = 0 })

-- the trees so far with the next one
pub AreNumbersOf-more : {ids : List TreeId} {ns ms : List ℕ} (xs : List TreeId) (i n : ℕ) (d : TreeId) → i < length xs → AreNumbersOf ids (take i xs) ns → slice_get ids n ≡ Some (get_or xs i d) → ms ≡ ns ++ n ∷ []
    → AreNumbersOf ids (take (i + 1) xs) ms
AreNumbersOf-more {ids} {ns} {ms} xs i n d within before at is =
    subst (AreNumbersOf ids (take (i + 1) xs)) (sym is) (subst (λ ys. AreNumbersOf ids ys (ns ++ n ∷ [])) (sym (take_more xs i d within)) (AreNumbersOf-push (get_or xs i d) n before at))

pub AreBranchNumbers-more : {conditions more : List Cond} {ids others : List TreeId} {ns ms : List (ℕ × ℕ)} (xs : List (Cond × TreeId)) (i c n : ℕ) (d : Cond × TreeId) → i < length xs → Extends conditions more → Extends ids others
    → AreBranchNumbers conditions ids (take i xs) ns → slice_get more c ≡ Some (get_or xs i d).0 → slice_get others n ≡ Some (get_or xs i d).1 → ms ≡ ns ++ (c, n) ∷ []
    → AreBranchNumbers more others (take (i + 1) xs) ms
AreBranchNumbers-more {conditions} {more} {ids} {others} {ns} {ms} xs i c n d within grows trees_grow before at at_too is =
    subst (AreBranchNumbers more others (take (i + 1) xs)) (sym is)
    (subst (λ ys. AreBranchNumbers more others ys (ns ++ (c, n) ∷ [])) (sym (take_more xs i d within)) (AreBranchNumbers-push (get_or xs i d) c n (AreBranchNumbers-grows grows trees_grow before) at at_too))

-- the number of the root
pub root_some : {ids : List TreeId} {root : Option TreeId} {number : Option ℕ} (id : TreeId) (n : ℕ) → root ≡ Some id → number ≡ Some n → slice_get ids n ≡ Some id → IsRootOf ids root number
root_some {ids} {root} {number} id n is is_too at = subst (λ r. IsRootOf ids r number) (sym is) (subst (IsRootOf ids (Some id)) (sym is_too) (root_of id n at))

pub root_none : {ids : List TreeId} {root : Option TreeId} {number : Option ℕ} → root ≡ None → number ≡ None → IsRootOf ids root number
root_none {ids} {root} {number} is is_too = subst (λ r. IsRootOf ids r number) (sym is) (subst (IsRootOf ids None) (sym is_too) no_root)
