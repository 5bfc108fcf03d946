-- A tree of the store has one text.
use Rattle.std.proofs.Common.{◌≡◌, ℕ, List, [], ◌∷◌, ◌++◌, Option, Some, slice_get, refl, sym, ap, subst, ◌∙◌}
use Rattle.std.specs.List.{AllZip, concat, Contains}
use Rattle.std.proofs.lemmas.Option.{same_Some}
use Rattle.sc_base.specs.declared.fault.Fault as base
use Rattle.sc_base.specs.declared.id.Cond.{Cond}
use Rattle.sc_base.specs.declared.id.TreeId.{TreeId}
use Rattle.sc_base.specs.Seen.{text_at, seen_place}
use Rattle.sc_model.specs.Growth.{IsOneToOne}
use Rattle.sc_model.specs.Sets.{Sets, IsConfig}
use Rattle.sc_model.specs.Space.{Space, arities_of}
use Rattle.sc_text.specs.Answer.{Condition, Part}
use Rattle.sc_text.specs.Layout.{IsSameBranch, IsSamePart, IsSameAnswer}
use Rattle.sc_text.proofs.OneText.{one_text}
use Rattle.sc_tree.specs.Lines.{Line, children_of}
use Rattle.sc_show.specs.TreeShows.{FinishesIn, nowhere_in, was_there_in, comes_in, AreNumbersOf, no_numbers, more_numbers, AreBranchesOf, no_branches, more_branches, IsPartOf, leaf_shown, node_shown, choice_shown, ArePartsOf, no_parts, more_parts, IsRootOf, no_root, root_of, ShowsTree}

-- a walk to the same trees of one store comes to the same ones, in one order
one_walk : {store : List Line} {done was roots others now late : List TreeId} → done ≡ was → roots ≡ others → FinishesIn store done roots now → FinishesIn store was others late → now ≡ late
one_walk start same (nowhere_in done) (nowhere_in was) = start
one_walk start same (nowhere_in done) (was_there_in was late id others has rest) = absurd (cc)
one_walk start same (nowhere_in done) (comes_in was before late id others line fresh at below rest) = absurd (cc)
one_walk start same (was_there_in done now id roots has rest) (nowhere_in was) = absurd (cc)
one_walk start same (was_there_in done now id roots has rest) (was_there_in was late other others has_too rest_too) =
    let later : roots ≡ others = cc in
    one_walk start later rest rest_too
one_walk start same (was_there_in done now id roots has rest) (comes_in was before late other others line fresh at below rest_too) =
    let first : id ≡ other = cc in
    absurd (fresh (subst (λ xs. Contains xs other) start (subst (Contains done) first has)))
one_walk start same (comes_in done before now id roots line fresh at below rest) (nowhere_in was) = absurd (cc)
one_walk start same (comes_in done before now id roots line fresh at below rest) (was_there_in was late other others has rest_too) =
    let first : id ≡ other = cc in
    absurd (fresh (subst (λ xs. Contains xs id) (sym start) (subst (Contains was) (sym first) has)))
one_walk {store} start same (comes_in done before now id roots line fresh at below rest) (comes_in was before_too late other others line_too fresh_too at_too below_too rest_too) =
    let first : id ≡ other = cc in
    let later : roots ≡ others = cc in
    let lines = same_Some line line_too (sym at ∙ (ap (λ (x : TreeId). slice_get store x.0) first ∙ at_too)) in
    let befores = one_walk start (ap children_of lines) below below_too in
    one_walk (λ i. befores i ++ first i ∷ []) later rest rest_too

module _ (space : Space) (s : Sets) (names files : List (List ℕ)) (store : List Line) (ids : List TreeId) (once : IsOneToOne ids) (arities : s.arities ≡ arities_of space) where
  -- the numbers of the same trees
  one_numbers : {xs ys : List TreeId} {ms ns : List ℕ} → xs ≡ ys → AreNumbersOf ids xs ms → AreNumbersOf ids ys ns → ms ≡ ns
  one_numbers same no_numbers no_numbers = refl
  one_numbers same no_numbers (more_numbers y n ys ns at rest) = absurd (cc)
  one_numbers same (more_numbers x m xs ms at rest) no_numbers = absurd (cc)
  one_numbers same (more_numbers x m xs ms at rest) (more_numbers y n ys ns at_too rest_too) =
      let first : x ≡ y = cc in
      let later : xs ≡ ys = cc in
      let number = once.same m n x at (at_too ∙ ap Some (sym first)) in
      let others = one_numbers later rest rest_too in
      λ i. number i ∷ others i

  one_root : {root top : Option TreeId} {told other : Option ℕ} → root ≡ top → IsRootOf ids root told → IsRootOf ids top other → told ≡ other
  one_root same no_root no_root = refl
  one_root same no_root (root_of y n at) = absurd (cc)
  one_root same (root_of x m at) no_root = absurd (cc)
  one_root same (root_of x m at) (root_of y n at_too) = let first : x ≡ y = same_Some x y same in ap Some (once.same m n x at (at_too ∙ ap Some (sym first)))

  -- the same trees under the same conditions
  one_choice : {xs ys : List (Cond × TreeId)} {bs cs : List (Condition × ℕ)} → xs ≡ ys → AreBranchesOf s ids xs bs → AreBranchesOf s ids ys cs → AllZip (IsSameBranch space) bs cs
  one_choice same no_branches no_branches = tt
  one_choice same no_branches (more_branches y g n ys cs means at rest) = absurd (cc)
  one_choice same (more_branches x f m xs bs means at rest) no_branches = absurd (cc)
  one_choice same (more_branches x f m xs bs means at rest) (more_branches y g n ys cs means_too at_too rest_too) =
      let first : x ≡ y = cc in
      let later : xs ≡ ys = cc in
      let here = λ (config : List ℕ) (listed : IsConfig (arities_of space) config). subst (λ ns. IsConfig ns config) (sym arities) listed in (
        record {
          cond = record { at = λ config listed. means config (here config listed) ∙ (ap (λ (z : Cond × TreeId). s.has z.0.0 config) first ∙ sym (means_too config (here config listed))) };
          child = once.same m n x.1 at (at_too ∙ ap (λ (z : Cond × TreeId). Some z.1) (sym first));
        },
        one_choice later rest rest_too,
      )

  one_part : {line other : Line} {part shown : Part} → line ≡ other → IsPartOf s names files ids line part → IsPartOf s names files ids other shown → IsSamePart space part shown
  one_part same (leaf_shown place spelling) (leaf_shown site word) =
      let places : place ≡ site = cc in
      let words : spelling ≡ word = cc in
      λ i. record { place = seen_place files (places i); spelling = text_at names (words i).0 }
  one_part same (node_shown production children numbers are) (node_shown other others ns are_too) =
      let productions : production ≡ other = cc in
      let trees : children ≡ others = cc in
      (productions, one_numbers trees are are_too)
  one_part same (choice_shown branches tests are) (choice_shown others fs are_too) = let trees : branches ≡ others = cc in one_choice trees are are_too
  one_part same is is_too = absurd (cc)

  one_parts : {xs ys : List TreeId} {parts shown : List Part} → xs ≡ ys → ArePartsOf s names files store ids xs parts → ArePartsOf s names files store ids ys shown → AllZip (IsSamePart space) parts shown
  one_parts same no_parts no_parts = tt
  one_parts same no_parts (more_parts y other shown ys others at is rest) = absurd (cc)
  one_parts same (more_parts x line part xs parts at is rest) no_parts = absurd (cc)
  one_parts same (more_parts x line part xs parts at is rest) (more_parts y other shown ys others at_too is_too rest_too) =
      let first : x ≡ y = cc in
      let later : xs ≡ ys = cc in
      let lines = same_Some line other (sym at ∙ (ap (λ (z : TreeId). slice_get store z.0) first ∙ at_too)) in
      (one_part lines is is_too, one_parts later rest rest_too)

pub one_shown_tree : {space : Space} {s : Sets} {names files : List (List ℕ)} {store : List Line} {root : Option TreeId} {faults : List base.Fault} {p q : List ℕ} → s.arities ≡ arities_of space
    → ShowsTree space s names files store root faults p → ShowsTree space s names files store root faults q → p ≡ q
one_shown_tree {space} {s} {names} {files} {store} {root} arities x y =
    let ids = one_walk refl refl x.finished y.finished in
    let parts = subst (λ trees. ArePartsOf s names files store trees trees y.answer.body.parts) (sym ids) y.parts in
    let root_is = subst (λ trees. IsRootOf trees root y.answer.body.root) (sym ids) y.root_is in
    let same : IsSameAnswer space x.answer y.answer = record {
      body = (one_parts space s names files store x.ids x.once arities refl x.parts parts, one_root space s names files store x.ids x.once arities refl x.root_is root_is);
      faults = λ config listed.
          let here = subst (λ ns. IsConfig ns config) (sym arities) listed in
          x.faults_are config here ∙ sym (y.faults_are config here);
    } in
    x.whole ∙ (ap concat (one_text x.text_of y.text_of same) ∙ sym y.whole)
