-- The whole text shows the tree.
use Rattle.std.proofs.Common.{◌≡◌, ℕ, ◌<◌, List, [], ◌∷◌, ◌++◌, length, map, slice_get, Some, None, IfSome, Option, All, refl, sym, ap, subst, ◌∙◌, append-nil}
use Rattle.std.specs.List.{Contains, filter_map}
use Rattle.std.specs.Option.{option_to_list}
use Rattle.std.proofs.lemmas.List.Elements.{All-nil, All-cons, All-append, All-head, All-tail, All-map, filter_map-append}
use Rattle.std.proofs.lemmas.List.Folds.{list_all-append}
use Rattle.std.proofs.lemmas.Option.{same_Some}
use Rattle.sc_base.specs.declared.fault.Fault as base
use Rattle.sc_base.specs.declared.id.Cond.{Cond}
use Rattle.sc_base.specs.declared.id.FileId.{FileId}
use Rattle.sc_base.specs.declared.id.TreeId.{TreeId}
use Rattle.sc_base.proofs.Growth.{Extends-refl}
use Rattle.sc_guarded.specs.Printable.{IsShowableFault}
use Rattle.sc_model.specs.Growth.{Extends, IsOneToOne}
use Rattle.sc_model.specs.Sets.{Sets, IsCanonical, Keeps}
use Rattle.sc_model.specs.Space.{Space, arities_of}
use Rattle.sc_model.proofs.SetLemmas.{Keeps-refl}
use Rattle.sc_text.specs.Answer.{tree_parts, Answer}
use Rattle.sc_text.specs.Layout.{Finishes, nothing, is_item, HasOrder}
use Rattle.sc_text.specs.Text.{TextLine, root_line, end_line, needs, condition_numbered, file_numbered, line_text, root_said, says, body_said}
use Rattle.sc_text.proofs.LayoutLemmas.{OfFiles}
use Rattle.sc_tree.specs.Lines.{Line}
use Rattle.sc_show.specs.declared.printer.Printer.{Printer}
use Rattle.sc_show.specs.Prints.{Prints}
use Rattle.sc_show.specs.Rules.{counts_of, tests_of, fault_item, LaidLines, LaidOut, AreMerged}
use Rattle.sc_show.specs.TreeRules.{IsLineOf, of_leaf, of_node, of_choice, AreTreeLines, no_lines, more_lines, PrintedTree}
use Rattle.sc_show.specs.TreeShows.{AreShowableLeaves, FinishesIn, ArePartsOf, IsRootOf, no_root, root_of, ShowsTree}
use Rattle.sc_show.proofs.Ending.{all_printed, is_whole, faults_told}
use Rattle.sc_show.proofs.LinesChoices.{both}
use Rattle.sc_show.proofs.PrinterLaying.{LaidLines-trans, LaidLines-one}
use Rattle.sc_show.proofs.PrinterReading.{wrote-nothing}
use Rattle.sc_show.proofs.TokensItemLines.{IsFileOf}
use Rattle.sc_show.proofs.TreeLines.{lines_right}
use Rattle.sc_show.proofs.TreeOrder.{FinishesIn-first, parts_long, walk_numbered, root_numbered}
use Rattle.sc_show.proofs.TreeShown.{tree_at, parts_told}

root_at : {ids : List TreeId} {root : Option TreeId} {told : Option ℕ} (id : TreeId) (number : ℕ) → IsRootOf ids root told → root ≡ Some id → told ≡ Some number → slice_get ids number ≡ Some id
root_at id number no_root same same_too = absurd (cc)
root_at {ids} id number (root_of other n at) same same_too =
    ap (slice_get ids) (sym (same_Some n number same_too)) ∙ at ∙ same

-- the root of a walk has a number
pub root_contained : {store : List Line} {done now : List TreeId} (root : Option TreeId) → FinishesIn store done (option_to_list root) now → IfSome root (Contains now)
root_contained None walk = tt
root_contained (Some id) walk = FinishesIn-first id walk refl

-- the files that the lines of trees need are in the table
module _ {names files : List (List ℕ)} {store : List Line} {ks : List Cond} {fs : List FileId} {ids : List TreeId} (leaves : AreShowableLeaves names files store) where
  line_files : {number : ℕ} {line : Line} {shown : TextLine} (i : ℕ) → slice_get store i ≡ Some line → IsLineOf names ks fs ids number line shown → All (OfFiles (IsFileOf fs files)) (needs shown)
  line_files i in_store (of_leaf place spelling file at) =
      let P = OfFiles (IsFileOf fs files) in
      let held : (id : FileId) → slice_get fs file ≡ Some id → id.0 < length files =
      λ id found. subst (λ (f : FileId). f.0 < length files) (same_Some place.file id (sym at ∙ found)) (leaves.each i place spelling in_store).file in
      let filed : IsFileOf fs files file = record { each = held } in
      All-cons P (file_numbered file) [] filed (All-nil P)
  line_files i in_store (of_node production children numbers are) = All-nil (OfFiles (IsFileOf fs files))
  line_files i in_store (of_choice branches numbers are) =
      All-map (OfFiles (IsFileOf fs files)) (λ (branch : ℕ × ℕ). condition_numbered branch.0) numbers (λ k d below. tt)

  body_files : {next : ℕ} {trees : List (TreeId × Line)} {body : List TextLine} → AreTreeLines names ks fs ids next trees body → All (λ (tree : TreeId × Line). slice_get store tree.0.0 ≡ Some tree.1) trees
      → All (λ line. All (OfFiles (IsFileOf fs files)) (needs line)) body
  body_files (no_lines next) held = All-nil (λ (line : TextLine). All (OfFiles (IsFileOf fs files)) (needs line))
  body_files (more_lines next tree shown trees lines is rest) held =
      let of_store = λ (t : TreeId × Line). slice_get store t.0.0 ≡ Some t.1 in
      All-cons (λ (line : TextLine). All (OfFiles (IsFileOf fs files)) (needs line)) shown lines
      (line_files tree.0.0 (All-head of_store tree trees held) is) (body_files rest (All-tail of_store tree trees held))

-- What was laid out from an empty printer, with the line of the root, the faults and the last line.
-- The merged faults could be shown in an earlier store.
pub ShowsTree-end : {space : Space} {old mid merging s : Sets} {names files : List (List ℕ)} {store : List Line} {p q r u : Printer} (root : Option TreeId) (number : Option ℕ) (faults merged : List base.Fault) (text : List ℕ)
    → s.arities ≡ arities_of space → IsOneToOne files → AreShowableLeaves names files store → All (IsShowableFault merging files) merged → IsCanonical s → AreMerged s files faults merged → Keeps mid s
    → length p.conditions.keys ≡ 2 → p.files.keys ≡ [] → p.trees.keys ≡ [] → p.text.items ≡ [] → Prints space old files p []
    → PrintedTree space old mid names files store p q (option_to_list root) → IsRootOf q.trees.keys root number → r.text.items ≡ q.text.items ++ line_text (root_line number)
    → r.conditions.keys ≡ q.conditions.keys → r.files.keys ≡ q.files.keys → r.trees.keys ≡ q.trees.keys → LaidOut space mid s files r u (map fault_item merged)
    → IsOneToOne u.conditions.keys → IsOneToOne u.files.keys → IsOneToOne u.trees.keys → text ≡ u.text.items ++ line_text end_line → ShowsTree space s names files store root faults text
ShowsTree-end {space} {old} {mid} {merging} {s} {names} {files} {store} {p} {q} {r} {u} root number faults merged text arities apart leaves can canonical are_merged keeps
    begun no_files no_trees no_text started printed root_is root_written kept kept_files kept_trees b differ files_differ trees_differ written =
    let a = printed.laid in
    let ks = u.conditions.keys in
    let fs = u.files.keys in
    let ids = q.trees.keys in
    let are : AreTreeLines names ks fs ids 0 printed.trees a.shown =
    subst (λ n. AreTreeLines names ks fs ids n printed.trees a.shown) (ap length no_trees)
    (a.are ks fs ids (subst (λ ls. Extends ls ks) kept b.laid.grows) (subst (λ gs. Extends gs fs) kept_files b.laid.files_grow) (Extends-refl ids)) in
    let keys : ids ≡ map (λ (tree : TreeId × Line). tree.0) printed.trees = a.keys ∙ ap (λ xs. xs ++ map (λ (tree : TreeId × Line). tree.0) printed.trees) no_trees in
    let root_laid : LaidLines space mid mid files q r (root_line number ∷ []) =
    LaidLines-one {q = q} r (root_line number) [] refl refl refl (wrote-nothing q.text.items refl) root_written (nothing (counts_of q)) (λ t ks keeps more. All-nil (HasOrder space (tests_of t ks))) a.laid.table
    (Extends-refl q.conditions.keys) (Extends-refl q.files.keys) kept kept_files (λ before was. subst (Prints space mid files q) (sym (append-nil before)) was) in
    let laid = LaidLines-trans keeps (LaidLines-trans (Keeps-refl mid) a.laid root_laid) b.laid in
    let before = all_printed text arities apart canonical begun no_files no_text started laid differ files_differ written in
    let parts = parts_told s names files store ks fs ids before.reading before.conditions before.names are printed.of_store in
    let are_parts : ArePartsOf s names files store ids ids parts.parts = subst (λ xs. ArePartsOf s names files store ids xs parts.parts) (sym keys) parts.are in
    let once : IsOneToOne ids = subst IsOneToOne (b.same_trees ∙ kept_trees) trees_differ in
    let told = faults_told space faults merged b.shown arities before.conditions before.names can are_merged (b.are s ks fs (Keeps-refl s) (Extends-refl ks) (Extends-refl fs)) in
    let answer : Answer tree_parts = record { body = record { parts = parts.parts; root = number }; faults = told.pairs } in
    let say = says before.reading.conditions before.reading.files in
    let of_table = λ (line : TextLine). All (OfFiles (IsFileOf fs files)) (needs line) in
    let body : List TextLine = a.shown ++ root_line number ∷ [] in
    let finished : FinishesIn store [] (option_to_list root) ids = subst (λ xs. FinishesIn store xs (option_to_list root) ids) no_trees printed.finished in
    let end = is_whole text arities apart canonical begun no_files no_text started laid differ files_differ written answer
    (filter_map-append say body b.shown ∙ ap (λ said. said ++ filter_map say b.shown) (filter_map-append say a.shown (root_line number ∷ []) ∙ ap (λ said. said ++ root_said number ∷ []) parts.said)
    ∙ ap (λ said. body_said tree_parts answer.body ++ said) told.said)
    (list_all-append is_item body b.shown ∙ both (list_all-append is_item a.shown (root_line number ∷ []) ∙ both (lines_right are) refl) told.right)
    (All-append of_table body b.shown
    (All-append of_table a.shown (root_line number ∷ []) (body_files leaves are printed.of_store) (All-cons of_table (root_line number) [] (All-nil (OfFiles (IsFileOf fs files))) (All-nil of_table)))
    told.filed)
    (subst (Finishes parts.parts 0 (option_to_list number)) (sym (parts_long s names files store ids are_parts))
    (walk_numbered s names files store ids parts.parts are_parts once finished (Extends-refl ids) (root_numbered ids root_is)))
    told.ascending in
    record {
      pieces = end.pieces;
      answer = answer;
      whole = end.whole;
      cut = end.cut;
      text_of = end.text_of;
      ids = ids;
      once = once;
      finished = finished;
      parts = are_parts;
      root_is = root_is;
      trees = λ c here id n tree is_root is_number reads. tree_at s names files store ids are_parts c here id.0 n tree reads (root_at id n root_is is_root is_number);
      faults_are = told.are;
    }
