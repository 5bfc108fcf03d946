-- What the summary of a file tells.
use Rattle.std.proofs.Common.{◌≡◌, ◌∙◌, ℕ, zero, suc, Bool, true, false, not, List, [], ◌∷◌, length, map, slice_get, Option, Some, None, Result, Ok, Err, refl, sym, ap, subst, inl, inr, if◌then◌else◌, arith, nat_lt, slice_index, ◌<◌}
use Rattle.std.specs.List.{Contains}
use Rattle.std.specs.Prelude.{replicate}
use Rattle.std.proofs.lemmas.Bool.{ltb-true, true≢false}
use Rattle.std.proofs.lemmas.Bool.Decides.{leb_tells}
use Rattle.std.proofs.lemmas.List.{length-map, nil_from_length}
use Rattle.std.proofs.lemmas.Option.{same_Some}
use Rattle.c11_directives.specs.Listed.{IsListed, SaysValid, absent}
use Rattle.c11_parsing.specs.Trees.{Tree}
use Rattle.lr_tables.proofs.Members.{cons_cases, cons_head, no_member}
use Rattle.sc_base.specs.declared.fault.Fault as base
use Rattle.sc_base.specs.declared.id.TreeId.{TreeId}
use Rattle.sc_core.proofs.Translating.{translates-unique}
use Rattle.sc_core.specs.declared.tree_texts.ParsedFile.{ParsedFile}
use Rattle.sc_core.proofs.Cuts.{only-formed, zeros-are}
use Rattle.sc_core.proofs.MadeSpaces.{made-sound}
use Rattle.sc_core.specs.Cut.{first_config, last_config}
use Rattle.sc_core.specs.declared.output.Output.{Output}
use Rattle.sc_core.specs.Made.{made_name, made_space}
use Rattle.sc_core.specs.Ordinary.{HasClasses, Setting, Translates}
use Rattle.sc_core.specs.CommandTexts.{AcceptsAll, HasFaults, HasSizeAt, Tells, size_in}
use Rattle.sc_core.specs.Texts.{AreTranslated, HasAnswers, IsTranslated, Stands, TellsSummary, lines_of, seen_by, setting_of}
use Rattle.sc_fork.specs.Outcomes.{RootReads, root_reads}
use Rattle.sc_guarded.specs.Items.{faults_at, seen_fault}
use Rattle.sc_model.specs.Fault.{Fault}
use Rattle.sc_model.specs.Sets.{IsAlways, IsCond, IsConfig, IsNever, Sets}
use Rattle.sc_model.specs.Outside.{Files}
use Rattle.sc_model.specs.Space.{Space, arities_of}
use Rattle.sc_project.specs.declared.size.TreeSize.{TreeSize}
use Rattle.sc_project.specs.Layout.{HasTree}
use Rattle.sc_project.specs.Size.{size_of}
use Rattle.sc_prep.specs.Valid.{IsValidSet}
use Rattle.sc_show.specs.declared.summary.Summary.{Summary}
use Rattle.sc_show.specs.FaultCount.{AreFaultsOf, HasFaultAt}
use Rattle.sc_show.specs.Summary.{summary_pieces}
use Rattle.sc_space.specs.declared.space.Space as whole
use Rattle.sc_space.specs.Seen.{seen_space, seen_variable}
use Rattle.sc_tree.specs.Reads.{Reads, Tables}

-- ---- whether a configuration has a fault

pub none-had : (s : Sets) (faults : List base.Fault) (i : ℕ) (fault : base.Fault) (c : List ℕ) → slice_get faults i ≡ Some fault → s.has fault.cond.0 c ≡ true → faults_at s faults c ≡ [] → ⊥
none-had s [] i fault c at holds nothing = cc
none-had s (x ∷ faults) i fault c at holds nothing = by (s.has x.cond.0 c) refl nothing i at (λ k there rest. none-had s faults k fault c there holds rest)
  where
    by : (b : Bool) → s.has x.cond.0 c ≡ b → (if b then x ∷ faults_at s faults c else faults_at s faults c) ≡ [] → (k : ℕ) → slice_get (x ∷ faults) k ≡ Some fault
        → ((j : ℕ) → slice_get faults j ≡ Some fault → faults_at s faults c ≡ [] → ⊥) → ⊥
    by true is bad k there more = cc
    by false is rest zero there more =
        let same : x ≡ fault = same_Some x fault there in
        let has : s.has x.cond.0 c ≡ true = subst (λ (f : base.Fault). s.has f.cond.0 c ≡ true) (sym same) holds in
        cc
    by false is rest (suc k) there more = more k there rest

-- ---- the size of a tree

module _ (s : Sets) (names files : List (List ℕ)) (p : ParsedFile) (c : List ℕ) where
  abbrev w : Tables
  w = seen_by s names files p

  pub size-rootless : (o : Result Tree Fault) → p.root ≡ None → Stands (seen_by s names files p) p.root p.faults.items c o → ◌≡◌ {A = Option TreeSize} None (size_in o)
  size-rootless (Ok tree) is stands = by (subst (λ (root : Option TreeId). RootReads (seen_by s names files p) c root tree) is stands.1)
    where
      by : RootReads (seen_by s names files p) c None tree → ◌≡◌ {A = Option TreeSize} None (Some (size_of tree))
      by reads = elim reads [ ]
  size-rootless (Err fault) is stands = refl

  pub size-refused : (o : Result Tree Fault) → (faults_at s p.faults.items c ≡ [] → ⊥) → Stands (seen_by s names files p) p.root p.faults.items c o → ◌≡◌ {A = Option TreeSize} None (size_in o)
  size-refused (Ok tree) some stands = absurd (some stands.0)
  size-refused (Err fault) some stands = refl

  -- where it has none, the root stands for its tree
  tree-read : (o : Result Tree Fault) (root : TreeId) → p.root ≡ Some root → faults_at s p.faults.items c ≡ [] → Stands (seen_by s names files p) p.root p.faults.items c o
      → (tree : Tree) × ((o ≡ Ok tree) × Reads (seen_by s names files p) c root.0 tree)
  tree-read (Ok tree) root is nothing stands = by (Some root) refl (subst (λ (r : Option TreeId). RootReads (seen_by s names files p) c r tree) is stands.1)
    where
      by : (r : Option TreeId) → r ≡ Some root → RootReads (seen_by s names files p) c r tree → (t : Tree) × ((◌≡◌ {A = Result Tree Fault} (Ok tree) (Ok t)) × Reads (seen_by s names files p) c root.0 t)
      by _ same (root_reads id _ reads) = (tree, (refl, subst (λ (k : TreeId). Reads (seen_by s names files p) c k.0 tree) (same_Some id root same) reads))
  tree-read (Err fault) root is nothing stands = let bad : [] ≡ fault ∷ [] = sym (ap (map (seen_fault files)) nothing) ∙ stands in cc

  pub size-read : (o : Result Tree Fault) (root : TreeId) (size : TreeSize) → p.root ≡ Some root → faults_at s p.faults.items c ≡ []
      → ((tree : Tree) → Reads (seen_by s names files p) c root.0 tree → size ≡ size_of tree) → Stands (seen_by s names files p) p.root p.faults.items c o → Some size ≡ size_in o
  size-read o root size is nothing sized stands =
      let found = tree-read o root is nothing stands in
      ap (λ (z : TreeSize). Some z) (sized found.0 found.1.1) ∙ ap size_in (sym found.1.0)

  pub has-tree : HasAnswers (IsConfig s.arities) (seen_by s names files p) p.root p.faults.items → IsConfig s.arities c → (root : TreeId) → p.root ≡ Some root → faults_at s p.faults.items c ≡ [] → HasTree s p.trees c root.0
  has-tree answered config root is nothing =
      let at = answered.each c config in
      let found = tree-read at.0 root is nothing at.1 in
      record { names = names; files = files; tree = found.0; reads = found.1.1 }

-- ---- the faults

module _ (of : Setting) (s : Sets) (names files : List (List ℕ)) (p : ParsedFile) (different : List Fault) (are : AreFaultsOf s files p.faults.items different)
    (here : (config : List ℕ) → IsListed of.space config → IsConfig s.arities config) (there : (config : List ℕ) → IsConfig s.arities config → IsListed of.space config)
    (each : (config : List ℕ) → IsListed of.space config → IsTranslated of (seen_by s names files p) p.root p.faults.items config) where
  -- a configuration with a fault has that for its answer
  refused-by : (config : List ℕ) (fault : Fault) (o : Result Tree Fault) → Stands (seen_by s names files p) p.root p.faults.items config o → HasFaultAt s files p.faults.items config fault → o ≡ Err fault
  refused-by config fault (Ok tree) stands has = absurd (no_member fault (subst (λ (fs : List base.Fault). Contains (map (seen_fault files) fs) fault) stands.0 has))
  refused-by config fault (Err other) stands has = elim (cons_cases other fault [] (subst (λ (fs : List Fault). Contains fs fault) stands has)) [
    | inl same ↦ ap (λ (f : Fault). Err f) same
    | inr none ↦ absurd (no_member fault none)
  ]

  had : (config : List ℕ) (fault : Fault) (o : Result Tree Fault) → o ≡ Err fault → Stands (seen_by s names files p) p.root p.faults.items config o → HasFaultAt s files p.faults.items config fault
  had config fault (Ok tree) is stands = cc
  had config fault (Err other) is stands =
      let same : other ≡ fault = cc in
      subst (λ (fs : List Fault). Contains fs fault) (sym stands) (subst (Contains (other ∷ [])) same (cons_head other []))

  pub has-faults : HasFaults of (length different)
  has-faults = record {
    faults = different;
    once = are.once;
    some = λ k d below.
        let one = are.some k d below in
        let at = each one.0 (there one.0 one.1) in
        (one.0, there one.0 one.1, subst (Translates of one.0) (refused-by one.0 _ at.ordinary at.stands one.2) at.translated);
    each = λ config listed.
        let at = each config listed in
        record { ordinary = at.ordinary; given = at.translated; said = λ fault is. are.all config fault (here config listed) (had config fault at.ordinary is at.stands) };
    many = refl;
  }

  accepted-by : (config : List ℕ) (o : Result Tree Fault) → different ≡ [] → Translates of config o → Stands (seen_by s names files p) p.root p.faults.items config o → IsConfig s.arities config
      → (tree : Tree) × Translates of config (Ok tree)
  accepted-by config (Ok tree) none is stands listed = (tree, is)
  accepted-by config (Err fault) none is stands listed = absurd (no_member fault (subst (λ (fs : List Fault). Contains fs fault) none (are.all config fault listed (had config fault (Err fault) refl stands))))

  pub verdict-is : (b : Bool) → (b ≡ true → different ≡ [] → ⊥) → (b ≡ false → different ≡ []) → Tells (not b) (AcceptsAll of.space (Translates of))
  verdict-is false some none = λ config listed. let at = each config listed in accepted-by config at.ordinary (none refl) at.translated at.stands (here config listed)
  verdict-is true some none = λ all. by different refl all
    where
      by : (fs : List Fault) → different ≡ fs → AcceptsAll of.space (Translates of) → ⊥
      by [] is all = some refl is
      by (fault ∷ fs) is all =
          let one = are.some 0 fault (omega (arith, ap length is)) in
          let at = each one.0 (there one.0 one.1) in
          let ok = all one.0 (there one.0 one.1) in
          let bad = sym (refused-by one.0 _ at.ordinary at.stands one.2) ∙ translates-unique at.translated ok.1 in
          cc

-- ---- the whole

last-option : (v : ℕ) → v < length (arities_of made_space) → slice_index (last_config made_space) v < slice_index (arities_of made_space) v
last-option zero below = omega arith
last-option (suc zero) below = omega arith
last-option (suc (suc zero)) below = omega arith
last-option (suc (suc (suc zero))) below = omega arith
last-option (suc (suc (suc (suc zero)))) below = omega arith
last-option (suc (suc (suc (suc (suc zero))))) below = omega arith
last-option (suc (suc (suc (suc (suc (suc zero)))))) below = omega arith
last-option (suc (suc (suc (suc (suc (suc (suc zero))))))) below = omega arith
last-option (suc (suc (suc (suc (suc (suc (suc (suc v)))))))) below = absurd (omega (arith, below))

last-formed : IsConfig (arities_of made_space) (last_config made_space)
last-formed = record { long = refl; each = last-option }

first-formed : IsConfig (arities_of made_space) (first_config made_space)
first-formed = only-formed made_space made-sound.has_options

-- all configurations of the space are listed
pub made-listed : (config : List ℕ) → IsConfig (arities_of made_space) config → IsListed made_space config
made-listed config formed = record { formed = formed; valid = absent refl }

-- and a condition that has all has them
module _ {s : Sets} {space : Space} (is : space ≡ made_space) (arities : s.arities ≡ arities_of space) (live : ℕ) (own : IsCond s live) (always : IsAlways s live) where
  pub made-valid : IsValidSet s space live
  made-valid = record {
    own = own;
    says = λ config formed. subst (λ b. SaysValid space config (Ok b)) (sym (always.all config formed)) (absent (ap (λ (of : Space). of.valid) is));
  }

  pub made-some : IsNever s live → ⊥
  made-some never =
      let first = first_config made_space in
      let formed : IsConfig s.arities first = subst (λ ns. IsConfig ns first) (sym (arities ∙ ap arities_of is)) first-formed in
      let bad : true ≡ false = sym (always.all first formed) ∙ never.none first formed in
      true≢false bad

-- ---- the configurations that are made of equal numbers

module _ (space : whole.Space) (n : ℕ) (ks : List ℕ) (s : Sets) (long : n ≡ length space.variables.items) (is : seen_space space ≡ made_space) (arities : s.arities ≡ arities_of made_space) where
  pub first-is : ks ≡ replicate n 0 → ks ≡ first_config made_space
  first-is zeros = zeros-are space n ks long zeros ∙ ap (λ (of : Space). first_config of) is

  eight : n ≡ 8
  eight = long ∙ sym (length-map space.variables.items seen_variable) ∙ ap (λ (of : Space). length of.variables) is

  pub last-is : ks ≡ replicate n 1 → ks ≡ last_config made_space
  last-is ones = ones ∙ ap (λ m. replicate m 1) eight

  pub first-chosen : ks ≡ replicate n 0 → IsConfig s.arities ks
  first-chosen zeros = subst (λ ns. IsConfig ns ks) (sym arities) (subst (IsConfig (arities_of made_space)) (sym (first-is zeros)) first-formed)

  pub last-chosen : ks ≡ replicate n 1 → IsConfig s.arities ks
  last-chosen ones = subst (λ ns. IsConfig ns ks) (sym arities) (subst (IsConfig (arities_of made_space)) (sym (last-is ones)) last-formed)

-- ---- the text

module _ (holds : Option Files) (items : ℕ) (s : Sets) (names files : List (List ℕ)) (p : ParsedFile) (text : Output) (summary : Summary)
    (are : AreTranslated holds made_space made_name (seen_by s names files p) p.root p.faults.items p.classes) (arities : s.arities ≡ arities_of made_space) where
  abbrev setting : Setting
  setting = setting_of made_space made_name are.parser are.files

  here : (config : List ℕ) → IsListed made_space config → IsConfig s.arities config
  here config listed = subst (λ ns. IsConfig ns config) (sym arities) listed.formed

  there : (config : List ℕ) → IsConfig s.arities config → IsListed made_space config
  there config formed = made-listed config (subst (λ ns. IsConfig ns config) arities formed)

  size-told : (config : List ℕ) (size : Option TreeSize) → IsListed made_space config
      → ((o : Result Tree Fault) → Stands (seen_by s names files p) p.root p.faults.items config o → size ≡ size_in o) → HasSizeAt setting config size
  size-told config size listed is = let at = are.each config listed in record { ordinary = at.ordinary; given = at.translated; said = is at.ordinary at.stands }

  pub summary-told : lines_of text ≡ summary_pieces summary → summary.items ≡ items
      → ((o : Result Tree Fault) → Stands (seen_by s names files p) p.root p.faults.items (first_config made_space) o → summary.first ≡ size_in o)
      → ((o : Result Tree Fault) → Stands (seen_by s names files p) p.root p.faults.items (last_config made_space) o → summary.last ≡ size_in o)
      → (different : List Fault) → AreFaultsOf s files p.faults.items different → length different ≡ summary.faults → summary.classes ≡ p.classes → text.is_refused ≡ nat_lt 0 summary.faults
      → TellsSummary holds items text
  summary-told written items_are first last different of many classes refused = record {
    parser = are.parser;
    files = are.files;
    held = are.held;
    text_of = record {
      summary = summary;
      written = written;
      items_are = items_are;
      first = size-told (first_config made_space) summary.first (made-listed (first_config made_space) first-formed) first;
      last = size-told (last_config made_space) summary.last (made-listed (last_config made_space) last-formed) last;
      faults = subst (HasFaults setting) many (has-faults setting s names files p different of here there are.each);
      classes = subst (HasClasses setting) (sym classes) are.classes;
      verdict = verdict-is setting s names files p different of here there are.each text.is_refused
          (λ is none. let more = ltb-true 0 summary.faults (sym refused ∙ is) in omega (arith, more, many, ap length none))
          (λ is. nil_from_length different (by summary.faults (sym refused ∙ is) many));
    };
  }
    where
      by : (n : ℕ) → nat_lt 0 n ≡ false → length different ≡ n → length different ≡ 0
      by n is long = elim (leb_tells (suc 0) n) [ inl more ↦ absurd (true≢false (sym more.0 ∙ is)) | inr none ↦ omega (arith, none.1, long) ]

-- what the listed configurations have all have
pub made-answers : (s : Sets) (names files : List (List ℕ)) (p : ParsedFile) → s.arities ≡ arities_of made_space → HasAnswers (IsListed made_space) (seen_by s names files p) p.root p.faults.items
    → HasAnswers (IsConfig s.arities) (seen_by s names files p) p.root p.faults.items
made-answers s names files p arities answered = record {
  each = λ config formed. answered.each config (made-listed config (subst (λ ns. IsConfig ns config) arities formed));
  some = λ id is.
      let found = answered.some id is in
      (found.0, (subst (λ ns. IsConfig ns found.0) (sym arities) found.1.0.formed, found.1.1));
}
