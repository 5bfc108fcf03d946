-- That a text tells what ordinary translation gives.
use Rattle.std.proofs.Common.{◌≡◌, ◌∙◌, ℕ, not, true, false, List, [], ◌∷◌, All, length, map, slice_get, Option, Some, Result, Ok, Err, refl, sym, ap, subst, inl, inr, ◌⊎◌}
use Rattle.std.proofs.lemmas.List.{length-map, nil_from_length}
use Rattle.std.proofs.lemmas.List.Elements.{All-weaker}
use Rattle.c11_directives.specs.Listed.{IsListed}
use Rattle.c11_parsing.specs.Trees.{Tree}
use Rattle.sc_base.proofs.Growth.{Extends-refl}
use Rattle.sc_base.specs.declared.fault.Fault as base
use Rattle.sc_base.specs.declared.id.TreeId.{TreeId}
use Rattle.sc_core.proofs.Telling.{tells-by}
use Rattle.sc_core.proofs.Translating.{translates-unique}
use Rattle.sc_core.specs.declared.output.Output.{Output}
use Rattle.sc_core.specs.declared.tree_texts.ParsedFile.{ParsedFile}
use Rattle.sc_core.specs.Ordinary.{Setting, Translates}
use Rattle.sc_core.specs.CommandTexts.{AcceptsAll, HasNoFault, IsTranslation, shown_result}
use Rattle.sc_core.specs.Texts.{AreTranslated, CanShowTree, Stands, TellsTree, seen_by, setting_of}
use Rattle.sc_fork.specs.Outcomes.{RootReads, root_reads}
use Rattle.sc_guarded.proofs.ItemLemmas.{faults_at-Keeps, faults_at-never, never-faults_at}
use Rattle.sc_guarded.specs.Items.{faults_at, seen_fault}
use Rattle.sc_guarded.specs.Printable.{IsShowableFault}
use Rattle.sc_model.proofs.SetLemmas.{IsConfig-Keeps}
use Rattle.sc_model.specs.Fault.{Fault}
use Rattle.sc_model.specs.Outside.{Files}
use Rattle.sc_model.specs.Sets.{Sets, IsCond, IsConfig, IsNever, Keeps}
use Rattle.sc_model.specs.Space.{Space, arities_of}
use Rattle.sc_show.proofs.Pieces.{text_lines}
use Rattle.sc_show.specs.Pieces.{IsLine, split_lines_after}
use Rattle.sc_text.specs.Answer.{At, accepted, project, refused}
use Rattle.sc_text.specs.Layout.{IsTextOf}
use Rattle.sc_show.specs.TreeShows.{ShowsTree, IsRootOf, no_root, root_of, shown_tree}
use Rattle.sc_tree.proofs.ReadLemmas.{Reads-Grows}
use Rattle.sc_tree.specs.Reads.{Reads}

-- each piece of the text is a line
pub tree-lines : {space : Space} {s : Sets} {names files : List (List ℕ)} (p : ParsedFile) (text : List ℕ) → ShowsTree space s names files p.trees p.root p.faults.items text
    → All IsLine (split_lines_after text)
tree-lines p text shows = subst (All IsLine) (sym (shows.cut ∙ shows.text_of.reads.written)) (text_lines shows.text_of.reads.lines shows.text_of.reads.clear)

-- the number of the root
pub root-numbered : {ids : List TreeId} {root : Option TreeId} {number : Option ℕ} (id : TreeId) → IsRootOf ids root number → root ≡ Some id → (n : ℕ) × ((number ≡ Some n) × (slice_get ids n ≡ Some id))
root-numbered id no_root is = cc
root-numbered id (root_of other n at) is = (n, (refl, at ∙ is))

-- ---- what a text tells

module _ {s new : Sets} (keeps : Keeps s new) (names files : List (List ℕ)) (space : Space) (p : ParsedFile) (text : Output) (shows : ShowsTree space new names files p.trees p.root p.faults.items text.lines.items)
    (shown : CanShowTree s names files p) (arities : s.arities ≡ arities_of space) where
  abbrev NoFault : Type 0
  NoFault = All (λ (f : base.Fault). IsNever s f.cond.0) p.faults.items

  here : (config : List ℕ) → IsListed space config → IsConfig s.arities config
  here config listed = subst (λ ns. IsConfig ns config) (sym arities) listed.formed

  -- each configuration is listed, or has no fault
  abbrev AreOthers : Type 0
  AreOthers = (config : List ℕ) → IsConfig s.arities config → IsListed space config ⊎ (faults_at s p.faults.items config ≡ [])

  owns : All (λ (f : base.Fault). IsCond s f.cond.0) p.faults.items
  owns = All-weaker (IsShowableFault s files) (λ (f : base.Fault). IsCond s f.cond.0) (λ f is. is.own) p.faults.items shown.faults

  pub shown-faults : (config : List ℕ) → IsListed space config → project shows.answer.faults config ≡ map (seen_fault files) (faults_at s p.faults.items config)
  shown-faults config listed = shows.faults_are config (IsConfig-Keeps keeps (here config listed)) ∙ ap (map (seen_fault files)) (faults_at-Keeps p.faults.items config keeps owns (here config listed))

  none-shown : NoFault → HasNoFault space shows.answer
  none-shown never config listed = shown-faults config listed ∙ ap (map (seen_fault files)) (faults_at-never s p.faults.items never config (here config listed))

  none-at : (config : List ℕ) → map (seen_fault files) (faults_at s p.faults.items config) ≡ [] → faults_at s p.faults.items config ≡ []
  none-at config nothing = nil_from_length (faults_at s p.faults.items config) (sym (length-map (faults_at s p.faults.items config) (seen_fault files)) ∙ ap length nothing)

  none-had : AreOthers → HasNoFault space shows.answer → NoFault
  none-had others nothing = never-faults_at s p.faults.items (λ config formed. elim (others config formed) [
    | inl listed ↦ none-at config (sym (shown-faults config listed) ∙ nothing config listed)
    | inr none ↦ none
  ])

  reads-now : (config : List ℕ) (id : ℕ) (tree : Tree) → IsConfig s.arities config → Reads (seen_by s names files p) config id tree → Reads (seen_by new names files p) config id tree
  reads-now config id tree listed reads =
      Reads-Grows (seen_by s names files p) (seen_by new names files p) config id tree
      (record { sets = keeps; names = Extends-refl names; files = Extends-refl files; lines = Extends-refl p.trees }) listed reads

  pub result-at : (config : List ℕ) → IsListed space config → (o : Result Tree Fault) → Stands (seen_by s names files p) p.root p.faults.items config o → At shows.answer config (shown_result o)
  result-at config listed (Ok tree) stands = by p.root refl stands.1
    where
      by : (root : Option TreeId) → p.root ≡ root → RootReads (seen_by s names files p) config root tree → At shows.answer config (Ok (shown_tree tree))
      by _ is (root_reads id _ reads) =
          let number = root-numbered id shows.root_is is in
          accepted (shown_tree tree) (shown-faults config listed ∙ ap (map (seen_fault files)) stands.0)
          (number.0, (number.1.0, shows.trees config (IsConfig-Keeps keeps (here config listed)) id number.0 tree is number.1.0 (reads-now config id.0 tree (here config listed) reads)))
  result-at config listed (Err fault) stands = refused fault (shown-faults config listed ∙ stands)

  accepted-by : (config : List ℕ) (P : Result Tree Fault → Type 0) (o : Result Tree Fault) → P o → Stands (seen_by s names files p) p.root p.faults.items config o
      → faults_at s p.faults.items config ≡ [] → (tree : Tree) × P (Ok tree)
  accepted-by config P (Ok tree) is stands nothing = (tree, is)
  accepted-by config P (Err fault) is stands nothing = let bad : [] ≡ fault ∷ [] = sym (ap (map (seen_fault files)) nothing) ∙ stands in cc

  unrefused-by : (config : List ℕ) (o : Result Tree Fault) (tree : Tree) → o ≡ Ok tree → Stands (seen_by s names files p) p.root p.faults.items config o → faults_at s p.faults.items config ≡ []
  unrefused-by config (Ok other) tree is stands = stands.0
  unrefused-by config (Err fault) tree is stands = cc

  module _ (none : text.is_refused ≡ false → NoFault) (some : text.is_refused ≡ true → NoFault → ⊥) where
    module _ {holds : Option Files} {main : List ℕ} {most : ℕ} (are : AreTranslated holds space main (seen_by s names files p) p.root p.faults.items most) where
      abbrev setting : Setting
      setting = setting_of space main are.parser are.files

      all-accepted : NoFault → AcceptsAll space (Translates setting)
      all-accepted never config listed =
          let at = are.each config listed in
          accepted-by config (Translates setting config) at.ordinary at.translated at.stands (faults_at-never s p.faults.items never config (here config listed))

      none-refused : AcceptsAll space (Translates setting) → NoFault
      none-refused all =
          never-faults_at s p.faults.items (λ config formed. elim (are.others config formed) [
            | inl listed ↦ (let at = are.each config listed in let a = all config listed in unrefused-by config at.ordinary a.0 (translates-unique at.translated a.1) at.stands)
            | inr none ↦ none
          ])

      translation : IsTranslation setting shows.answer (not text.is_refused)
      translation = record {
        each = λ config listed.
            let at = are.each config listed in
            record { ordinary = at.ordinary; given = at.translated; said = result-at config listed at.ordinary at.stands };
        verdict = tells-by text.is_refused NoFault (AcceptsAll space (Translates setting)) none some all-accepted none-refused;
      }

    pub tells-tree : (holds : Option Files) (main : List ℕ) (most : ℕ) → AreTranslated holds space main (seen_by s names files p) p.root p.faults.items most → TellsTree holds space main text
    tells-tree holds main most are = record {
      answer = shows.answer;
      text_of = subst (λ pieces. IsTextOf space pieces shows.answer) (sym shows.cut) shows.text_of;
      verdict = tells-by text.is_refused NoFault (HasNoFault space shows.answer) none some none-shown (none-had are.others);
      parser = are.parser;
      c11 = are.c11;
      files = are.files;
      held = are.held;
      right = translation are;
      few = record { most = most; classes = are.classes; few = are.few };
    }

    pub answer-told : (holds : Option Files) (main : List ℕ) (most : ℕ) (are : AreTranslated holds space main (seen_by s names files p) p.root p.faults.items most) → shows.answer ≡ (tells-tree holds main most are).answer
    unfolding tells-tree
    answer-told holds main most are = refl
