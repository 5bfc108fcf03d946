-- That the choices of a text are sound, and when it has a root.
use Rattle.std.proofs.Common.{◌≡◌, ◌∙◌, ℕ, zero, suc, ◌<◌, Bool, true, false, List, [], ◌∷◌, get_or, length, slice_get, map, Option, Some, None, Result, Ok, Err, arith, refl, sym, ap, subst}
use Rattle.c11_parsing.specs.Trees.{Condition, Tree}
use Rattle.c11_directives.specs.Listed.{IsListed}
use Rattle.sc_base.specs.declared.id.Cond.{Cond}
use Rattle.sc_base.specs.declared.id.TreeId.{TreeId}
use Rattle.sc_core.proofs.TreeTelling.{result-at, shown-faults}
use Rattle.sc_core.specs.declared.output.Output.{Output}
use Rattle.sc_core.specs.declared.tree_texts.ParsedFile.{ParsedFile}
use Rattle.sc_core.specs.Ordinary.{Setting}
use Rattle.sc_core.specs.CommandTexts.{IsParseText, shown_result}
use Rattle.sc_core.specs.Texts.{CanShowTree, HasAnswers, seen_by}
use Rattle.sc_fork.specs.Choices.{AreSound}
use Rattle.sc_guarded.specs.Items.{seen_fault}
use Rattle.sc_model.specs.Fault.{Fault}
use Rattle.sc_model.specs.Sets.{Sets, IsConfig, Keeps}
use Rattle.sc_model.specs.Space.{Space, arities_of}
use Rattle.sc_show.proofs.TreeResults.{choice-stored}
use Rattle.sc_text.proofs.TextLaws.{reads-unique}
use Rattle.sc_text.specs.Answer.{Answer, At, HasSoundChoices, IsRooted, PartsConfigs, accepted, choice_part, project, refused, tree_parts}
use Rattle.sc_text.specs.Text.{Reads}
use Rattle.sc_show.specs.TreeShows.{AreBranchesOf, IsChoiceOf, IsRootOf, ShowsTree, more_branches, no_branches, no_root, root_of}
use Rattle.sc_tree.specs.Lines.{Line}

-- ---- choices

-- a branch of the text has the configurations of its branch in the store
branch-at : {s : Sets} {ids : List TreeId} {branches : List (Cond × TreeId)} {tests : List (Condition × ℕ)} → AreBranchesOf s ids branches tests
    → (k : ℕ) (d : Condition × ℕ) (e : Cond × TreeId) → k < length tests → (c : List ℕ) → IsConfig s.arities c → (get_or tests k d).0 c ≡ s.has (get_or branches k e).0.0 c
branch-at no_branches k d e h c listed = absurd (omega arith)
branch-at (more_branches branch test number branches tests means at rest) zero d e h c listed = means c listed
branch-at (more_branches branch test number branches tests means at rest) (suc k) d e h c listed = branch-at rest k d e (omega (arith, h)) c listed

-- a store without trees has none
pub no-choices : (s : Sets) (lines : List Line) → lines ≡ [] → AreSound s lines
no-choices s lines none = record { each = λ i branches at. let bad = sym (ap (λ (ls : List Line). slice_get ls i) none) ∙ at in cc }

first-of : {A : Type 0} (xs : List A) → 1 < length xs → A
first-of [] h = absurd (omega arith)
first-of (x ∷ xs) h = x

module _ {s : Sets} (space : Space) (store : List Line) (ids : List TreeId) (arities : s.arities ≡ arities_of space) (sound : AreSound s store) where
  here : (c : List ℕ) → IsConfig (arities_of space) c → IsConfig s.arities c
  here c listed = subst (λ ns. IsConfig ns c) (sym arities) listed

  there : (c : List ℕ) → IsConfig s.arities c → IsConfig (arities_of space) c
  there c config = subst (λ ns. IsConfig ns c) arities config

  pub parts-configs : (tests : List (Condition × ℕ)) → IsChoiceOf s store ids tests → PartsConfigs space tests
  parts-configs tests is =
      let was = sound.each is.id.0 is.branches is.in_store in
      let as_many = is.as_many in
      let some = was.some in
      let e = first-of is.branches some in
      record {
        several = omega arith;
        apart = λ i j d below within c listed one other.
            was.apart i j e below (omega (arith, within)) c (here c listed) (sym (branch-at is.are i d e (omega (arith, below, within)) c (here c listed)) ∙ one)
            (sym (branch-at is.are j d e within c (here c listed)) ∙ other);
        possible = λ k d h never. was.possible k e (omega (arith, h)) (record { none = λ c config. sym (branch-at is.are k d e h c config) ∙ never c (there c config) });
      }

module _ {s new : Sets} (keeps : Keeps s new) (names files : List (List ℕ)) (space : Space) (p : ParsedFile) (text : Output) (shows : ShowsTree space new names files p.trees p.root p.faults.items text.lines.items)
    (shown : CanShowTree s names files p) (arities : s.arities ≡ arities_of space) where
  pub choices-sound : AreSound new p.trees → HasSoundChoices space shows.answer.body.parts
  choices-sound sound = record {
    each = λ id branches at. parts-configs space p.trees shows.ids (keeps.arities ∙ arities) sound branches (choice-stored new names files p.trees shows.ids shows.parts id branches at);
  }

  -- ---- the root

  unrefused : (config : List ℕ) (o : Result Tree Fault) → At shows.answer config (shown_result o) → project shows.answer.faults config ≡ [] → shows.answer.body.root ≡ None → ⊥
  unrefused config (Ok tree) (accepted _ _ (root, (at, _))) none rootless = let bad = sym rootless ∙ at in cc
  unrefused config (Err fault) (refused _ is) none rootless = let bad = sym none ∙ is in cc

  rooted-by : (number : ℕ) {root : Option TreeId} → IsRootOf shows.ids root shows.answer.body.root → shows.answer.body.root ≡ Some number → (id : TreeId) × (root ≡ Some id)
  rooted-by number is at = by is at
    where
      by : {root : Option TreeId} {told : Option ℕ} → IsRootOf shows.ids root told → told ≡ Some number → (id : TreeId) × (root ≡ Some id)
      by no_root at = cc
      by (root_of id n there) at = (id, refl)

  pub rooted : HasAnswers (IsListed space) (seen_by s names files p) p.root p.faults.items → IsRooted (IsListed space) shows.answer
  rooted answers = record {
    some = λ number at.
        let root = rooted-by number shows.root_is at in
        let found = answers.some root.0 root.1 in
        (found.0, (found.1.0, shown-faults keeps names files space p text shows shown arities found.0 found.1.0 ∙ ap (map (seen_fault files)) found.1.1.1.0));
    none = λ rootless config listed none.
        let at = answers.each config listed in
        unrefused config at.0 (result-at keeps names files space p text shows shown arities config listed at.0 at.1) none rootless;
  }

-- ---- texts that are none of parsing

module _ {of : Setting} {pieces : List (List ℕ)} {told : Bool} (text : IsParseText of pieces told) {answer : Answer tree_parts} (reads : Reads of.space pieces answer) where
  -- the text reads as one answer
  same : text.answer ≡ answer
  same = reads-unique refl text.text.reads reads

  sound : HasSoundChoices of.space answer.body.parts
  sound = subst (λ (a : Answer tree_parts). HasSoundChoices of.space a.body.parts) same text.choices

  pub two-branches : (number : ℕ) (branch : Condition × ℕ) → slice_get answer.body.parts number ≡ Some (choice_part (branch ∷ [])) → ⊥
  two-branches number branch at = let several = (sound.each number (branch ∷ []) at).several in omega arith

  pub two-conditions : (number a b : ℕ) (test : Condition) → slice_get answer.body.parts number ≡ Some (choice_part ((test, a) ∷ (test, b) ∷ [])) → ⊥
  two-conditions number a b test at =
      let parts = sound.each number ((test, a) ∷ (test, b) ∷ []) at in
      parts.possible 0 (test, a) (omega arith) (λ c listed. never (test c) (λ has. parts.apart 0 1 (test, a) (omega arith) (omega arith) c listed has has))
    where
      never : (has : Bool) → (has ≡ true → ⊥) → has ≡ false
      never true lacks = absurd (lacks refl)
      never false lacks = refl

  pub root-accepted : ((config : List ℕ) → IsListed of.space config → project answer.faults config ≡ [] → ⊥) → answer.body.root ≡ None
  root-accepted refuses = by answer.body.root refl
    where
      is : IsRooted (IsListed of.space) answer
      is = subst (IsRooted (IsListed of.space)) same text.rooted

      by : (root : Option ℕ) → answer.body.root ≡ root → answer.body.root ≡ None
      by None at = at
      by (Some number) at = let some = is.some number at in absurd (refuses some.0 some.1.0 some.1.1)
