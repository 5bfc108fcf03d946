-- The choices that a tree's text shows are stored.
use Rattle.std.proofs.Common.{◌≡◌, ℕ, zero, suc, List, length, Some, slice_get, refl, ap, subst}
use Rattle.std.proofs.lemmas.Option.{same_Some}
use Rattle.sc_base.specs.declared.id.Cond.{Cond}
use Rattle.sc_base.specs.declared.id.TreeId.{TreeId}
use Rattle.sc_model.specs.Sets.{Sets}
use Rattle.sc_text.specs.Answer.{Condition, Part, choice_part}
use Rattle.sc_tree.specs.Lines.{Line}
use Rattle.sc_show.specs.TreeShows.{AreBranchesOf, no_branches, more_branches, IsPartOf, leaf_shown, node_shown, choice_shown, ArePartsOf, no_parts, more_parts, IsChoiceOf}

module _ (s : Sets) (names files : List (List ℕ)) (store : List Line) (ids : List TreeId) where
  as_many : {branches : List (Cond × TreeId)} {tests : List (Condition × ℕ)} → AreBranchesOf s ids branches tests → length tests ≡ length branches
  as_many no_branches = refl
  as_many (more_branches branch test number branches tests means at rest) = ap suc (as_many rest)

  of_store : {line : Line} {part : Part} (id : TreeId) (tests : List (Condition × ℕ)) → slice_get store id.0 ≡ Some line → IsPartOf s names files ids line part → part ≡ choice_part tests → IsChoiceOf s store ids tests
  of_store id tests at (leaf_shown place spelling) same = absurd (cc)
  of_store id tests at (node_shown production children numbers are) same = absurd (cc)
  of_store id tests at (choice_shown branches others are) same =
      let tests_are : others ≡ tests = cc in
      let shown = subst (AreBranchesOf s ids branches) tests_are are in
      record { id = id; branches = branches; in_store = at; are = shown; as_many = as_many shown }

  pub choice-stored : {others : List TreeId} {parts : List Part} → ArePartsOf s names files store ids others parts → (n : ℕ) (tests : List (Condition × ℕ)) → slice_get parts n ≡ Some (choice_part tests) → IsChoiceOf s store ids tests
  choice-stored no_parts n tests at = absurd (cc)
  choice-stored (more_parts id line part others parts in_store is rest) zero tests at = of_store id tests in_store is (same_Some part (choice_part tests) at)
  choice-stored (more_parts id line part others parts in_store is rest) (suc n) tests at = choice-stored rest n tests at
