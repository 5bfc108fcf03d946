-- The tree of the one configuration of a space.
use Rattle.std.proofs.Common.{◌≡◌, ◌∙◌, ℕ, ◌+◌, ◌<◌, true, false, List, [], ◌∷◌, All, get_or, length, map, slice_get, Option, Some, None, Result, Ok, Err, arith, refl, sym, ap, subst, inl, inr}
use Rattle.std.proofs.lemmas.Bool.{both_ways}
use Rattle.std.proofs.lemmas.List.Elements.{All-append, All-cons, All-nil}
use Rattle.std.proofs.lemmas.Option.{slice_get_within, slice_get-get_or}
use Rattle.std.specs.Prelude.{IfSome}
use Rattle.c11_directives.specs.Listed.{IsListed}
use Rattle.c11_parsing.specs.Trees.{Tree}
use Rattle.sc_base.specs.declared.fault.Fault as base
use Rattle.sc_base.specs.declared.id.Cond.{Cond}
use Rattle.sc_base.specs.declared.id.Name.{Name}
use Rattle.sc_base.specs.declared.id.TreeId.{TreeId}
use Rattle.sc_base.specs.declared.place.Place.{Place}
use Rattle.sc_core.specs.declared.tree_texts.ParsedFile.{ParsedFile}
use Rattle.sc_core.specs.Texts.{AreTranslated, CanShowTree, HasAnswers, IsLaid, IsPlain, Stands, no_tree, seen_by, tree_laid}
use Rattle.sc_fork.specs.Outcomes.{RootReads, root_reads}
use Rattle.sc_guarded.specs.Items.{faults_at, seen_fault}
use Rattle.sc_guarded.specs.Printable.{AreApart, IsShowableFault}
use Rattle.sc_model.specs.Fault.{Fault}
use Rattle.sc_model.specs.Outside.{Files}
use Rattle.sc_model.specs.Sets.{Sets, IsCond}
use Rattle.sc_model.specs.Space.{Space}
use Rattle.sc_project.specs.Layout.{AllLaid, HasTree, LaysOut, leaf_laid, node_laid, choice_laid, none_laid, more_laid}
use Rattle.sc_show.specs.TreeShows.{AreShowableLeaves, IsShowableLeaf}
use Rattle.sc_tree.specs.Lines.{Line, leaf, node, choice, branches_of}
use Rattle.sc_tree.specs.Reads.{Reads}
use Rattle.sc_tree.specs.Walks.{is_choice}

-- ---- its leaves are those of the store

abbrev IsShown : (names files : List (List ℕ)) → Line → Type 0
IsShown names files line = (place : Place) (spelling : Name) → line ≡ leaf place spelling → IsShowableLeaf names files place spelling

same-place : (place other : Place) (spelling more : Name) → leaf place spelling ≡ leaf other more → place ≡ other
same-place place other spelling more is = cc

same-spelling : (place other : Place) (spelling more : Name) → leaf place spelling ≡ leaf other more → spelling ≡ more
same-spelling place other spelling more is = cc

leaf-as : (names files : List (List ℕ)) (place : Place) (spelling : Name) → IsShowableLeaf names files place spelling → IsShown names files (leaf place spelling)
leaf-as names files place spelling is other more same =
    subst (λ (q : Place). IsShowableLeaf names files q more) (same-place place other spelling more same)
    (subst (λ (n : Name). IsShowableLeaf names files place n) (same-spelling place other spelling more same) is)

node-as : (names files : List (List ℕ)) (production : ℕ) (children : List TreeId) → IsShown names files (node production children)
node-as names files production children place spelling same = cc

module _ (names files : List (List ℕ)) (s : Sets) (lines : List Line) (c : List ℕ) (shown : AreShowableLeaves names files lines) where
  mutual
    laid-shown : {id start root : ℕ} {laid : List Line} → LaysOut s lines c id start laid root → All (IsShown names files) laid
    laid-shown (leaf_laid id start place spelling at) =
        All-cons (IsShown names files) (leaf place spelling) [] (leaf-as names files place spelling (shown.each id place spelling at)) (All-nil (IsShown names files))
    laid-shown (node_laid id start production children roots below at all) =
        All-append (IsShown names files) below (node production roots ∷ []) (all-shown all)
        (All-cons (IsShown names files) (node production roots) [] (node-as names files production roots) (All-nil (IsShown names files)))
    laid-shown (choice_laid id start root branches child laid at own items rest) = laid-shown rest

    all-shown : {children roots : List TreeId} {start : ℕ} {laid : List Line} → AllLaid s lines c children start laid roots → All (IsShown names files) laid
    all-shown (none_laid start) = All-nil (IsShown names files)
    all-shown (more_laid child root children roots start laid rest first others) = All-append (IsShown names files) laid rest (laid-shown first) (all-shown others)

at-some : (P : Line → Type 0) (lines : List Line) (i : ℕ) (line : Line) → All P lines → slice_get lines i ≡ Some line → P line
at-some P lines i line all at =
    let within = slice_get_within lines i line at in
    let same = sym (slice_get-get_or lines i line within) ∙ at in
    let here : get_or lines i line ≡ line = cc in
    subst P here (all i line within)

plain-owns : (s : Sets) (line : Line) → is_choice line ≡ false → All (λ (branch : Cond × TreeId). IsCond s branch.0.0) (branches_of line)
plain-owns s (leaf place spelling) plain = All-nil (λ (branch : Cond × TreeId). IsCond s branch.0.0)
plain-owns s (node production children) plain = All-nil (λ (branch : Cond × TreeId). IsCond s branch.0.0)
plain-owns s (choice branches) plain = absurd (both_ways true plain refl)

-- ---- it can be shown

module _ {s : Sets} {names files : List (List ℕ)} (old : ParsedFile) (shown : CanShowTree s names files old) where
  -- there is no tree
  pub none-shown : (p : ParsedFile) → p.trees ≡ [] → p.root ≡ None → p.faults.items ≡ old.faults.items → CanShowTree s names files p
  none-shown p no_trees no_root same = record {
    leaves = record { each = λ i place spelling at. let bad = sym (ap (λ (ls : List Line). slice_get ls i) no_trees) ∙ at in cc };
    branches = record { each = λ i line at. let bad = sym (ap (λ (ls : List Line). slice_get ls i) no_trees) ∙ at in cc };
    root = subst (λ (o : Option TreeId). IfSome o (λ id. id.0 < length p.trees)) (sym no_root) tt;
    faults = subst (All (IsShowableFault s files)) (sym same) shown.faults;
    apart = subst (AreApart s) (sym same) shown.apart;
    paths = shown.paths;
  }

  pub laid-can : (p : ParsedFile) (c : List ℕ) (id root : TreeId) → LaysOut s old.trees c id.0 0 p.trees root.0 → root.0 + 1 ≡ length p.trees → All (λ line. is_choice line ≡ false) p.trees
      → p.root ≡ Some root → p.faults.items ≡ old.faults.items → CanShowTree s names files p
  laid-can p c id root laid last plain is same = record {
    leaves = record {
      each = λ i place spelling at. at-some (IsShown names files) p.trees i (leaf place spelling) (laid-shown names files s old.trees c shown.leaves laid) at place spelling refl;
    };
    branches = record { each = λ i line at. plain-owns s line (at-some (λ line. is_choice line ≡ false) p.trees i line plain at) };
    root = subst (λ (o : Option TreeId). IfSome o (λ id. id.0 < length p.trees)) (sym is) (omega (arith, last));
    faults = subst (All (IsShowableFault s files)) (sym same) shown.faults;
    apart = subst (AreApart s) (sym same) shown.apart;
    paths = shown.paths;
  }

  -- the root stands for a tree at the one configuration
  pub root-has : {is_listed : List ℕ → Type 0} (c : List ℕ) → ((d : List ℕ) → is_listed d → d ≡ c) → HasAnswers is_listed (seen_by s names files old) old.root old.faults.items → (id : TreeId) → old.root ≡ Some id → HasTree s old.trees c id.0
  root-has c one answers id is =
      let some = answers.some id is in
      let tree = some.1.1.0 in
      by (subst (λ (d : List ℕ). RootReads (seen_by s names files old) d (Some id) tree) (one some.0 some.1.0) (subst (λ (o : Option TreeId). RootReads (seen_by s names files old) some.0 o tree) is some.1.1.1.1))
    where
      by : {tree : Tree} → RootReads (seen_by s names files old) c (Some id) tree → HasTree s old.trees c id.0
      by {tree} (root_reads _ _ reads) = record { names = names; files = files; tree = tree; reads = reads }

-- ---- the same tree

module _ (s : Sets) (names files : List (List ℕ)) (old p : ParsedFile) (c : List ℕ) (same : p.faults.items ≡ old.faults.items) where
  pub plain-none : old.root ≡ None → p.root ≡ None → p.trees ≡ [] → IsPlain (seen_by s names files old) c old p
  plain-none no_root none no_trees = record {
    faults = same;
    reads = λ tree reads. absurd (rootless tree (subst (λ (o : Option TreeId). RootReads (seen_by s names files old) c o tree) no_root reads));
    plain = subst (All (λ line. is_choice line ≡ false)) (sym no_trees) (All-nil (λ line. is_choice line ≡ false));
    laid = subst (λ (o : Option TreeId). IsLaid (seen_by s names files old) c p.trees o p.root) (sym no_root) (subst (IsLaid (seen_by s names files old) c p.trees None) (sym none) no_tree);
  }
    where
      rootless : (tree : Tree) → RootReads (seen_by s names files old) c None tree → ⊥
      rootless tree reads = elim reads [ ]

  pub plain-some : (id root : TreeId) → old.root ≡ Some id → p.root ≡ Some root → All (λ line. is_choice line ≡ false) p.trees
      → ((tree : Tree) → Reads (seen_by s names files old) c id.0 tree → Reads (seen_by s names files p) c root.0 tree) → LaysOut s old.trees c id.0 0 p.trees root.0 → IsPlain (seen_by s names files old) c old p
  plain-some id root was is plain reads laid = record {
    faults = same;
    reads = λ tree old_reads.
        subst (λ (o : Option TreeId). RootReads (seen_by s names files p) c o tree) (sym is)
        (again tree (subst (λ (o : Option TreeId). RootReads (seen_by s names files old) c o tree) was old_reads));
    plain = plain;
    laid = subst (λ (o : Option TreeId). IsLaid (seen_by s names files old) c p.trees o p.root) (sym was) (subst (IsLaid (seen_by s names files old) c p.trees (Some id)) (sym is) (tree_laid id root laid));
  }
    where
      again : (tree : Tree) → RootReads (seen_by s names files old) c (Some id) tree → RootReads (seen_by s names files p) c (Some root) tree
      again tree (root_reads _ _ at) = root_reads root tree (reads tree at)

-- what it stands for at that configuration
module _ {s : Sets} {names files : List (List ℕ)} {old p : ParsedFile} (c : List ℕ) (plain : IsPlain (seen_by s names files old) c old p) where
  pub stands-plain : (d : List ℕ) → d ≡ c → (o : Result Tree Fault) → Stands (seen_by s names files old) old.root old.faults.items d o → Stands (seen_by s names files p) p.root p.faults.items d o
  stands-plain d is (Ok tree) stands = (
    subst (λ (fs : List base.Fault). faults_at s fs d ≡ []) (sym plain.faults) stands.0,
    subst (λ (e : List ℕ). RootReads (seen_by s names files p) e p.root tree) (sym is)
        (plain.reads tree (subst (λ (e : List ℕ). RootReads (seen_by s names files old) e old.root tree) is stands.1)),
  )
  stands-plain d is (Err fault) stands = subst (λ (fs : List base.Fault). map (seen_fault files) (faults_at s fs d) ≡ fault ∷ []) (sym plain.faults) stands

  pub plain-translated : (holds : Option Files) (space : Space) (main : List ℕ) (most : ℕ) → ((d : List ℕ) → IsListed space d → d ≡ c)
      → AreTranslated holds space main (seen_by s names files old) old.root old.faults.items most → AreTranslated holds space main (seen_by s names files p) p.root p.faults.items most
  plain-translated holds space main most one are = record {
    parser = are.parser;
    c11 = are.c11;
    files = are.files;
    held = are.held;
    each = λ d listed.
        let at = are.each d listed in
        record { ordinary = at.ordinary; translated = at.translated; stands = stands-plain d (one d listed) at.ordinary at.stands };
    others = λ d formed. elim (are.others d formed) [
      | inl listed ↦ inl listed
      | inr none ↦ inr (subst (λ (fs : List base.Fault). faults_at s fs d ≡ []) (sym plain.faults) none)
    ];
    classes = are.classes;
    few = are.few;
  }
