-- That the text of one configuration is its tree laid out, or its fault alone.
use Rattle.std.proofs.Common.{◌≡◌, ◌∙◌, ℕ, Bool, true, false, List, [], ◌∷◌, All, length, map, slice_get, Option, Some, None, Result, Ok, Err, arith, refl, sym, ap, subst}
use Rattle.std.proofs.lemmas.List.Elements.{All-head, All-tail}
use Rattle.std.specs.Option.{option_to_list}
use Rattle.std.specs.Prelude.{if◌then◌else◌}
use Rattle.c11_directives.specs.Listed.{IsListed}
use Rattle.c11_parsing.specs.Trees.{Tree}
use Rattle.sc_base.specs.declared.fault.Fault as base
use Rattle.sc_base.specs.declared.id.TreeId.{TreeId}
use Rattle.sc_core.proofs.LaidParts.{id-at, laid-ids, nothing-more, parts-are, shown-as}
use Rattle.sc_core.proofs.Plains.{plain-translated, stands-plain}
use Rattle.sc_core.proofs.TreeTelling.{answer-told, result-at, root-numbered, shown-faults, tells-tree}
use Rattle.sc_core.specs.declared.output.Output.{Output}
use Rattle.sc_core.specs.declared.tree_texts.ParsedFile.{ParsedFile}
use Rattle.sc_core.specs.Cut.{first_config}
use Rattle.sc_core.specs.CommandTexts.{shown_result}
use Rattle.sc_core.specs.Texts.{AreTranslated, CanShowTree, HasAnswers, IsLaid, IsPlain, Stands, TellsPlain, no_tree, seen_by, tree_laid}
use Rattle.sc_fork.specs.Outcomes.{RootReads, root_reads}
use Rattle.sc_guarded.specs.Items.{faults_at, seen_fault}
use Rattle.sc_model.specs.Fault.{Fault}
use Rattle.sc_model.specs.Outside.{Files}
use Rattle.sc_model.specs.Sets.{Sets, IsConfig, IsNever, Keeps}
use Rattle.sc_model.specs.Space.{Space, arities_of}
use Rattle.sc_project.proofs.Laying.{Stand-whole}
use Rattle.sc_project.specs.Layout.{LaysOut}
use Rattle.sc_show.specs.PlainText.{IsPlainAnswer, fault_alone, tree_alone}
use Rattle.sc_text.specs.Answer.{Answer, At, Condition, Part, project, tree_parts}
use Rattle.sc_show.specs.TreeShows.{ArePartsOf, FinishesIn, IsRootOf, ShowsTree, no_parts, no_root, shown_tree}
use Rattle.sc_text.proofs.OneAnswer.{IsShown}
use Rattle.sc_text.proofs.OneText.{faults_shown, no-faults}
use Rattle.sc_tree.specs.Lines.{Line}
use Rattle.sc_tree.specs.Reads.{Reads}

-- ---- the faults of one configuration

module _ {space : Space} (c : List ℕ) (one : (d : List ℕ) → IsConfig (arities_of space) d → d ≡ c) where
  had-there : (pair : Condition × Fault) → IsShown space pair → pair.0 c ≡ true
  had-there pair shown = by (pair.0 c) refl
    where
      by : (b : Bool) → pair.0 c ≡ b → pair.0 c ≡ true
      by true is = is
      by false is = absurd (shown (record { none = λ d listed. ap pair.0 (one d listed) ∙ is }))

  all-there : (pairs : List (Condition × Fault)) → All (IsShown space) pairs → project pairs c ≡ map (λ (pair : Condition × Fault). pair.1) pairs
  all-there [] shown = refl
  all-there (pair ∷ pairs) shown =
      ap (λ (b : Bool). if b then pair.1 ∷ project pairs c else project pairs c) (had-there pair (All-head (IsShown space) pair pairs shown))
      ∙ ap (λ (faults : List Fault). pair.1 ∷ faults) (all-there pairs (All-tail (IsShown space) pair pairs shown))

  only-fault : (pairs : List (Condition × Fault)) → All (IsShown space) pairs → (fault : Fault) → project pairs c ≡ fault ∷ []
      → (test : Condition) × ((pairs ≡ (test, fault) ∷ []) × (test c ≡ true))
  only-fault pairs shown fault told = by pairs shown (sym (all-there pairs shown) ∙ told)
    where
      by : (pairs : List (Condition × Fault)) → All (IsShown space) pairs → map (λ (pair : Condition × Fault). pair.1) pairs ≡ fault ∷ []
          → (test : Condition) × ((pairs ≡ (test, fault) ∷ []) × (test c ≡ true))
      by [] shown is = absurd (cc)
      by (pair ∷ []) shown is =
          let same : pair.1 ≡ fault = cc in
          (pair.0, (ap (λ (f : Fault). (pair.0, f) ∷ []) same, had-there pair (All-head (IsShown space) pair [] shown)))
      by (pair ∷ other ∷ pairs) shown is = absurd (cc)

-- ---- a text without a tree

nothing-shown : {s : Sets} {names files : List (List ℕ)} {store : List Line} {ids : List TreeId} {parts : List Part} → ArePartsOf s names files store ids [] parts → parts ≡ []
nothing-shown no_parts = refl

rootless : {ids : List TreeId} {number : Option ℕ} → IsRootOf ids None number → number ≡ None
rootless no_root = refl

-- ---- what the text of one configuration is

module _ {s new : Sets} (keeps : Keeps s new) (names files : List (List ℕ)) (space : Space) (old p : ParsedFile) (text : Output)
    (shows : ShowsTree space new names files p.trees p.root p.faults.items text.lines.items) (shown : CanShowTree s names files p) (arities : s.arities ≡ arities_of space)
    (c : List ℕ) (here : IsListed space c) (one : (d : List ℕ) → IsConfig (arities_of space) d → d ≡ c) (plain : IsPlain (seen_by s names files old) c old p) where
  faults-told : project shows.answer.faults c ≡ map (seen_fault files) (faults_at s p.faults.items c)
  faults-told = shown-faults keeps names files space p text shows shown arities c here

  -- its tree, where there is no fault
  tree-told : (id root : TreeId) (tree : Tree) → p.root ≡ Some root → LaysOut s old.trees c id.0 0 p.trees root.0 → Reads (seen_by s names files old) c id.0 tree → faults_at s p.faults.items c ≡ []
      → IsPlainAnswer shows.answer c (Ok (shown_tree tree))
  tree-told id root tree is laid reads none =
      let n = length p.trees in
      let ids = laid-ids s old.trees c id.0 root p.trees shows.ids laid (subst (λ (o : Option TreeId). FinishesIn p.trees [] (option_to_list o) shows.ids) is shows.finished) in
      let parts = subst (λ (xs : List TreeId). ArePartsOf new names files p.trees xs xs shows.answer.body.parts) ids shows.parts in
      let seen = shown-as (seen_by s names files old) c id.0 0 root.0 p.trees tree reads laid in
      let number = root-numbered root shows.root_is is in
      let same : number.0 ≡ root.0 = sym (id-at 0 n number.0 root (ap (λ (xs : List TreeId). slice_get xs number.0) (sym ids) ∙ number.1.1) ∙ omega arith) in
      tree_alone (shown_tree tree) (parts-are n 0 p.trees (Stand-whole p.trees) plain.plain parts ∙ seen.parts) (number.1.0 ∙ ap (λ (k : ℕ). Some k) (same ∙ seen.number))
      (no-faults shows.text_of (λ d listed. ap (project shows.answer.faults) (one d listed) ∙ (faults-told ∙ ap (map (seen_fault files)) none)))

  -- its fault, where there is no tree
  fault-told : (fault : Fault) → p.root ≡ None → map (seen_fault files) (faults_at s p.faults.items c) ≡ fault ∷ [] → IsPlainAnswer shows.answer c (Err fault)
  fault-told fault is stands =
      let ids = nothing-more (subst (λ (o : Option TreeId). FinishesIn p.trees [] (option_to_list o) shows.ids) is shows.finished) in
      let parts = subst (λ (xs : List TreeId). ArePartsOf new names files p.trees xs xs shows.answer.body.parts) ids shows.parts in
      let only = only-fault c one shows.answer.faults (faults_shown shows.text_of) fault (faults-told ∙ stands) in
      fault_alone only.0 fault (nothing-shown parts) (rootless (subst (λ (o : Option TreeId). IsRootOf shows.ids o shows.answer.body.root) is shows.root_is)) only.1.0 only.1.1

  module _ (answers : HasAnswers (IsListed space) (seen_by s names files old) old.root old.faults.items) where
    abbrev Old : Result Tree Fault → Type 0
    Old result = Stands (seen_by s names files old) old.root old.faults.items c result

    -- a configuration with a tree has no fault
    unrefused : (id : TreeId) (fault : Fault) → old.root ≡ Some id → Old (Err fault) → ⊥
    unrefused id fault is stands =
        let some = answers.some id is in
        let at = one some.0 some.1.0.formed in
        let none : faults_at s old.faults.items c ≡ [] = subst (λ (d : List ℕ). faults_at s old.faults.items d ≡ []) at some.1.1.1.0 in
        let bad : [] ≡ fault ∷ [] = ap (map (seen_fault files)) (sym none) ∙ stands in
        absurd (cc)

    told : (result : Result Tree Fault) → Old result → (was root : Option TreeId) → old.root ≡ was → p.root ≡ root → IsLaid (seen_by s names files old) c p.trees was root
        → IsPlainAnswer shows.answer c (shown_result result)
    told (Ok tree) stands _ _ was is no_tree = absurd (treeless (subst (λ (o : Option TreeId). RootReads (seen_by s names files old) c o tree) was stands.1))
      where
        treeless : RootReads (seen_by s names files old) c None tree → ⊥
        treeless reads = elim reads [ ]
    told (Ok tree) stands _ _ was is (tree_laid id root laid) =
        tree-told id root tree is laid (reads-of (subst (λ (o : Option TreeId). RootReads (seen_by s names files old) c o tree) was stands.1))
        (subst (λ (fs : List base.Fault). faults_at s fs c ≡ []) (sym plain.faults) stands.0)
      where
        reads-of : RootReads (seen_by s names files old) c (Some id) tree → Reads (seen_by s names files old) c id.0 tree
        reads-of (root_reads _ _ reads) = reads
    told (Err fault) stands _ _ was is no_tree = fault-told fault is (subst (λ (fs : List base.Fault). map (seen_fault files) (faults_at s fs c) ≡ fault ∷ []) (sym plain.faults) stands)
    told (Err fault) stands _ _ was is (tree_laid id root laid) = absurd (unrefused id fault was stands)

    pub plain-told : (result : Result Tree Fault) → Old result → IsPlainAnswer shows.answer c (shown_result result)
    plain-told result stands = told result stands old.root p.root refl refl plain.laid

-- ---- what it tells

module _ {s new : Sets} (keeps : Keeps s new) (names files : List (List ℕ)) (space : Space) (old p : ParsedFile) (text : Output)
    (shows : ShowsTree space new names files p.trees p.root p.faults.items text.lines.items) (shown : CanShowTree s names files p) (arities : s.arities ≡ arities_of space)
    (here : IsListed space (first_config space)) (one : (d : List ℕ) → IsConfig (arities_of space) d → d ≡ first_config space) (plain : IsPlain (seen_by s names files old) (first_config space) old p)
    (answers : HasAnswers (IsListed space) (seen_by s names files old) old.root old.faults.items)
    (none : text.is_refused ≡ false → All (λ (f : base.Fault). IsNever s f.cond.0) p.faults.items)
    (some : text.is_refused ≡ true → All (λ (f : base.Fault). IsNever s f.cond.0) p.faults.items → ⊥) where
  pub tells-plain : (holds : Option Files) (main : List ℕ) → (most : ℕ) → AreTranslated holds space main (seen_by s names files old) old.root old.faults.items most → TellsPlain holds space main text
  tells-plain holds main most translated =
      let c = first_config space in
      let at = answers.each c here in
      let of_plain = plain-translated c plain holds space main most (λ d listed. one d listed.formed) translated in
      let told = answer-told keeps names files space p text shows shown arities none some holds main most of_plain in
      record {
        tells = tells-tree keeps names files space p text shows shown arities none some holds main most of_plain;
        result = shown_result at.0;
        same = subst (λ (answer : Answer tree_parts). At answer c (shown_result at.0)) told (result-at keeps names files space p text shows shown arities c here at.0 (stands-plain c plain c refl at.0 at.1));
        plain = subst (λ (answer : Answer tree_parts). IsPlainAnswer answer c (shown_result at.0)) told (plain-told keeps names files space old p text shows shown arities c here one plain answers at.0 at.1);
      }
