-- The order of the lines of parts.
use Rattle.std.proofs.Common.{◌≡◌, ℕ, suc, ◌+◌, ◌<◌, List, [], ◌∷◌, ◌++◌, length, map, Option, refl, sym, ap, subst, ◌∙◌, arith, length-append}
use Rattle.std.specs.List.{Contains}
use Rattle.std.specs.Option.{option_to_list}
use Rattle.std.proofs.lemmas.Option.{same_Some}
use Rattle.sc_base.specs.declared.id.Cond.{Cond}
use Rattle.sc_base.specs.declared.id.TreeId.{TreeId}
use Rattle.sc_base.proofs.Growth.{Extends-refl, Extends-trans, Extends-push, Extends-keeps}
use Rattle.sc_model.specs.Growth.{Extends, IsOneToOne}
use Rattle.sc_model.specs.Sets.{Sets}
use Rattle.sc_model.proofs.ListLemmas.{slice_get-seam}
use Rattle.sc_text.specs.Answer.{Condition, Part}
use Rattle.sc_text.specs.Layout.{children_named, Finishes, nowhere, was_there, comes}
use Rattle.sc_tree.specs.Lines.{Line, children_of}
use Rattle.sc_show.specs.TreeShows.{AreNumbersOf, no_numbers, more_numbers, AreBranchesOf, no_branches, more_branches, IsPartOf, leaf_shown, node_shown, choice_shown, ArePartsOf, no_parts, more_parts, FinishesIn, nowhere_in, was_there_in, comes_in, IsRootOf, no_root, root_of}
use Rattle.sc_show.proofs.TreeNumbers.{number_at, contains_at}
use Rattle.sc_show.proofs.TreeShown.{part_at}

-- a walk forgets nothing
pub FinishesIn-Extends : {store : List Line} {done ids now : List TreeId} → FinishesIn store done ids now → Extends done now
FinishesIn-Extends (nowhere_in done) = Extends-refl done
FinishesIn-Extends (was_there_in done now id others has rest) = FinishesIn-Extends rest
FinishesIn-Extends (comes_in done before now id others line fresh at below rest) = Extends-trans (FinishesIn-Extends below) (Extends-trans (Extends-push before id) (FinishesIn-Extends rest))

pub contains_grows : {T : Type 0} {xs ys : List T} (x : T) → Extends xs ys → Contains xs x → Contains ys x
contains_grows {T} {xs} {ys} x grows has = contains_at ys has.0 x (Extends-keeps has.0 x (number_at xs x has) grows)

-- and has come to where it began
pub FinishesIn-first : {store : List Line} {done ids now others : List TreeId} (id : TreeId) → FinishesIn store done ids now → ids ≡ id ∷ others → Contains now id
FinishesIn-first id (nowhere_in done) is = absurd (cc)
FinishesIn-first id (was_there_in done now x others has rest) is = let first : x ≡ id = cc in subst (Contains now) first (contains_grows x (FinishesIn-Extends rest) has)
FinishesIn-first id (comes_in done before now x others line fresh at below rest) is =
    let first : x ≡ id = cc in
    subst (Contains now) first (contains_grows x (FinishesIn-Extends rest) (contains_at (before ++ x ∷ []) (length before) x (slice_get-seam before x [])))

pub root_numbered : (ids : List TreeId) {root : Option TreeId} {number : Option ℕ} → IsRootOf ids root number → AreNumbersOf ids (option_to_list root) (option_to_list number)
root_numbered ids no_root = no_numbers
root_numbered ids (root_of id number at) = more_numbers id number [] [] at no_numbers

-- ---- the order of the parts

module _ (s : Sets) (names files : List (List ℕ)) (store : List Line) (ids : List TreeId) where
  pub parts_long : {others : List TreeId} {parts : List Part} → ArePartsOf s names files store ids others parts → length parts ≡ length others
  parts_long no_parts = refl
  parts_long (more_parts id line part others parts in_store is rest) = ap suc (parts_long rest)

  branch_trees : {branches : List (Cond × TreeId)} {tests : List (Condition × ℕ)} → AreBranchesOf s ids branches tests
      → AreNumbersOf ids (map (λ (branch : Cond × TreeId). branch.1) branches) (map (λ (branch : Condition × ℕ). branch.1) tests)
  branch_trees no_branches = no_numbers
  branch_trees (more_branches branch test number branches tests means at rest) =
      more_numbers branch.1 number (map (λ (branch : Cond × TreeId). branch.1) branches) (map (λ (branch : Condition × ℕ). branch.1) tests) at (branch_trees rest)

  children_numbered : {line : Line} {part : Part} → IsPartOf s names files ids line part → AreNumbersOf ids (children_of line) (children_named part)
  children_numbered (leaf_shown place spelling) = no_numbers
  children_numbered (node_shown production children numbers are) = are
  children_numbered (choice_shown branches tests are) = branch_trees are

  -- a walk in the store is one among the parts
  module _ (parts : List Part) (are : ArePartsOf s names files store ids ids parts) (once : IsOneToOne ids) where
    pub walk_numbered : {done others now : List TreeId} {numbers : List ℕ} → FinishesIn store done others now → Extends now ids → AreNumbersOf ids others numbers → Finishes parts (length done) numbers (length now)
    walk_numbered (nowhere_in done) grows no_numbers = nowhere (length done)
    walk_numbered (was_there_in done now id others has rest) grows (more_numbers _ number _ numbers at more) =
        let there = Extends-keeps has.0 id (number_at done id has) (Extends-trans (FinishesIn-Extends rest) grows) in
        let same = once.same number has.0 id at there in
        was_there (length done) (length now) number numbers (let less : number < length done = omega (arith, same, has.1) in less) (walk_numbered rest grows more)
    walk_numbered (comes_in done before now id others line fresh in_store below rest) grows (more_numbers _ number _ numbers at more) =
        let longer = Extends-trans (FinishesIn-Extends rest) grows in
        let there = Extends-keeps (length before) id (slice_get-seam before id []) longer in
        let same : number ≡ length before = once.same number (length before) id at there in
        let found = part_at s names files store ids are number id at in
        let is = subst (λ (l : Line). AreNumbersOf ids (children_of l) (children_named found.part)) (same_Some found.line line (sym found.in_store ∙ in_store)) (children_numbered found.is) in
        let next : length (before ++ id ∷ []) ≡ number + 1 = omega (arith, length-append before (id ∷ []), same) in
        comes (length done) number (length now) numbers found.part found.at
        (subst (Finishes parts (length done) (children_named found.part)) (sym same) (walk_numbered below (Extends-trans (Extends-push before id) longer) is))
        (subst (λ n. Finishes parts n numbers (length now)) next (walk_numbered rest grows more))
