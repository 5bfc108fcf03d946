-- The lines of a tree's text, after one another.
use Rattle.std.proofs.Common.{◌≡◌, ℕ, ◌+◌, true, List, [], ◌∷◌, ◌++◌, length, map, Some, slice_get, unwrap_or, refl, sym, ap, subst, ◌∙◌, arith, append-nil, append_assoc, length-append}
use Rattle.std.specs.List.{list_all}
use Rattle.std.proofs.lemmas.List.{map-append, length-map}
use Rattle.std.proofs.lemmas.List.Elements.{All-nil}
use Rattle.std.proofs.lemmas.Simd.{map-map}
use Rattle.sc_base.specs.declared.id.Cond.{Cond}
use Rattle.sc_base.specs.declared.id.FileId.{FileId}
use Rattle.sc_base.specs.declared.id.Name.{Name}
use Rattle.sc_base.specs.declared.id.TreeId.{TreeId}
use Rattle.sc_base.specs.declared.place.Place.{Place}
use Rattle.sc_base.specs.Seen.{text_at}
use Rattle.sc_base.proofs.Growth.{Extends-refl, Extends-trans, Extends-append, Extends-keeps}
use Rattle.sc_model.specs.Growth.{Extends}
use Rattle.sc_model.specs.Sets.{Sets, Keeps}
use Rattle.sc_model.specs.Space.{Space}
use Rattle.sc_text.specs.Layout.{Introduces, nothing, is_item, HasOrder}
use Rattle.sc_text.specs.Text.{TextLine, leaf_line, node_line, choice_line, condition_numbered, line_text}
use Rattle.sc_tree.specs.Lines.{Line, leaf, node, choice}
use Rattle.sc_show.specs.declared.printer.Printer.{Printer}
use Rattle.sc_show.specs.Prints.{IsTable, Prints, printed_place}
use Rattle.sc_show.specs.Rules.{counts_of, tests_of, Introduced, IntroducedFile, LaidLines}
use Rattle.sc_show.specs.TreeRules.{IsLineOf, of_leaf, of_node, of_choice, AreBranchNumbers, AreTreeLines, no_lines, more_lines, LaidOutTree}
use Rattle.sc_show.specs.TreeShows.{IsShowableLeaf, AreNumbersOf}
use Rattle.sc_show.proofs.LinesChoices.{both}
use Rattle.sc_show.proofs.PrinterLaying.{LaidLines-trans, LaidLines-nothing, LaidLines-one}
use Rattle.sc_show.proofs.PrinterReading.{wrote-nothing}
use Rattle.sc_show.proofs.TreeNumbers.{AreNumbersOf-grows, AreBranchNumbers-grows}

-- they are items
line_right : {names : List (List ℕ)} {ks : List Cond} {fs : List FileId} {ids : List TreeId} {number : ℕ} {line : Line} {shown : TextLine} → IsLineOf names ks fs ids number line shown → is_item shown ≡ true
line_right (of_leaf place spelling file at) = refl
line_right (of_node production children numbers are) = refl
line_right (of_choice branches numbers are) = refl

pub lines_right : {names : List (List ℕ)} {ks : List Cond} {fs : List FileId} {ids : List TreeId} {next : ℕ} {trees : List (TreeId × Line)} {lines : List TextLine} → AreTreeLines names ks fs ids next trees lines → list_all is_item lines ≡ true
lines_right (no_lines next) = refl
lines_right (more_lines next tree line trees lines is rest) = both (line_right is) (lines_right rest)

pub AreTreeLines-append : {names : List (List ℕ)} {ks : List Cond} {fs : List FileId} {ids : List TreeId} {n m : ℕ} {trees more : List (TreeId × Line)} {lines rest : List TextLine}
    → AreTreeLines names ks fs ids n trees lines → m ≡ n + length trees → AreTreeLines names ks fs ids m more rest → AreTreeLines names ks fs ids n (trees ++ more) (lines ++ rest)
AreTreeLines-append {names} {ks} {fs} {ids} {m = m} {more = more} {rest = rest} (no_lines n) at b = subst (λ k. AreTreeLines names ks fs ids k more rest) (let e : m ≡ n = omega (arith, at) in e) b
AreTreeLines-append {m = m} {more = more} {rest = rest} (more_lines n tree line trees lines one others) at b =
    more_lines n tree line (trees ++ more) (lines ++ rest) one (AreTreeLines-append others (let e : m ≡ n + 1 + length trees = omega (arith, at) in e) b)

pub LaidOutTree-trans : {space : Space} {old mid new : Sets} {names files : List (List ℕ)} {p q r : Printer} {trees more : List (TreeId × Line)} → Keeps mid new
    → LaidOutTree space old mid names files p q trees → LaidOutTree space mid new names files q r more → LaidOutTree space old new names files p r (trees ++ more)
LaidOutTree-trans {p = p} {q = q} {trees = trees} {more = more} keeps a b = record {
  shown = a.shown ++ b.shown;
  laid = LaidLines-trans keeps a.laid b.laid;
  are = λ ks fs ids grows files_grow trees_grow.
      AreTreeLines-append
      (a.are ks fs ids (Extends-trans b.laid.grows grows) (Extends-trans b.laid.files_grow files_grow) (Extends-trans (subst (Extends q.trees.keys) (sym b.keys) (Extends-append q.trees.keys _)) trees_grow))
      (ap length a.keys ∙ length-append p.trees.keys _ ∙ ap (λ n. length p.trees.keys + n) (length-map trees (λ (tree : TreeId × Line). tree.0)))
      (b.are ks fs ids grows files_grow trees_grow);
  keys = b.keys ∙ ap (λ ks. ks ++ map (λ (tree : TreeId × Line). tree.0) more) a.keys ∙ append_assoc p.trees.keys (map (λ (tree : TreeId × Line). tree.0) trees) (map (λ (tree : TreeId × Line). tree.0) more)
      ∙ ap (λ ks. p.trees.keys ++ ks) (sym (map-append (λ (tree : TreeId × Line). tree.0) trees more));
}

pub LaidOutTree-nothing : {space : Space} {s : Sets} {names files : List (List ℕ)} {p : Printer} → IsTable s p.conditions.keys → LaidOutTree space s s names files p p []
LaidOutTree-nothing {p = p} table = record {
  shown = [];
  laid = LaidLines-nothing table;
  are = λ ks fs ids grows files_grow trees_grow. no_lines (length p.trees.keys);
  keys = sym (append-nil p.trees.keys);
}

-- a tree's line
LaidOutTree-one : {space : Space} {old s : Sets} {names files : List (List ℕ)} {p u : Printer} (tree : TreeId) (line : Line) (shown : TextLine) → LaidLines space old s files p u (shown ∷ [])
    → ((ks : List Cond) (fs : List FileId) (ids : List TreeId) → Extends u.conditions.keys ks → Extends u.files.keys fs → Extends u.trees.keys ids → IsLineOf names ks fs ids (length p.trees.keys) line shown)
    → u.trees.keys ≡ p.trees.keys ++ tree ∷ [] → LaidOutTree space old s names files p u ((tree, line) ∷ [])
LaidOutTree-one {p = p} tree line shown laid are keys = record {
  shown = shown ∷ [];
  laid = laid;
  are = λ ks fs ids grows files_grow trees_grow.
      more_lines (length p.trees.keys) (tree, line) shown [] [] (are ks fs ids grows files_grow trees_grow) (no_lines (length p.trees.keys + 1));
  keys = keys;
}

pub LaidOutTree-leaf : {names files : List (List ℕ)} {p q u : Printer} (tree : TreeId) (place : Place) (spelling : Name) (text : List ℕ) (m number : ℕ) → slice_get names spelling.0 ≡ Some text → IntroducedFile files p q m → slice_get q.files.keys m ≡ Some place.file
    → IsShowableLeaf names files place spelling → number ≡ length q.trees.keys → u.trees.keys ≡ q.trees.keys ++ tree ∷ [] → u.conditions.keys ≡ q.conditions.keys → u.files.keys ≡ q.files.keys
    → u.text.items ≡ q.text.items ++ line_text (leaf_line number (printed_place m place) text)
    → (space : Space) (s : Sets) → IsTable s p.conditions.keys → LaidOutTree space s s names files p u ((tree, leaf place spelling) ∷ [])
LaidOutTree-leaf {names} {files} {p} {q} {u} tree place spelling text m number named file found can at keys kept kept_files written space s table =
    let line : TextLine = leaf_line number (printed_place m place) (text_at names spelling.0) in
    let told = ap (λ t. q.text.items ++ line_text (leaf_line number (printed_place m place) t)) (sym (ap (λ o. unwrap_or o []) named)) in
    LaidOutTree-one tree (leaf place spelling) line
    (LaidLines-one u line file.lines refl refl can.plain file.wrote (written ∙ told) file.introduces (λ t ks keeps grows. file.ordered space (tests_of t ks)) (subst (IsTable s) (sym file.same_conditions) table)
    (subst (Extends p.conditions.keys) (sym file.same_conditions) (Extends-refl p.conditions.keys)) file.grows kept kept_files (file.prints space s))
    (λ ks fs ids grows files_grow trees_grow.
    subst (λ n. IsLineOf names ks fs ids n (leaf place spelling) line) (at ∙ ap length file.same_trees)
    (of_leaf place spelling m (Extends-keeps m place.file found (subst (λ gs. Extends gs fs) kept_files files_grow))))
    (keys ∙ ap (λ ks. ks ++ tree ∷ []) file.same_trees)

pub LaidOutTree-node : {names files : List (List ℕ)} {p u : Printer} (tree : TreeId) (production : ℕ) (children : List TreeId) (numbers : List ℕ) (number : ℕ) → AreNumbersOf p.trees.keys children numbers
    → number ≡ length p.trees.keys → u.trees.keys ≡ p.trees.keys ++ tree ∷ [] → u.conditions.keys ≡ p.conditions.keys → u.files.keys ≡ p.files.keys
    → u.text.items ≡ p.text.items ++ line_text (node_line number production numbers)
    → (space : Space) (s : Sets) → IsTable s p.conditions.keys → LaidOutTree space s s names files p u ((tree, node production children) ∷ [])
LaidOutTree-node {names} {files} {p} {u} tree production children numbers number are at keys kept kept_files written space s table =
    LaidOutTree-one tree (node production children) (node_line number production numbers)
    (LaidLines-one {q = p} u (node_line number production numbers) [] refl refl refl (wrote-nothing p.text.items refl) written (nothing (counts_of p)) (λ t ks keeps grows. All-nil (HasOrder space (tests_of t ks))) table
    (Extends-refl p.conditions.keys) (Extends-refl p.files.keys) kept kept_files (λ before was. subst (Prints space s files p) (sym (append-nil before)) was))
    (λ ks fs ids grows files_grow trees_grow.
    subst (λ n. IsLineOf names ks fs ids n (node production children) (node_line number production numbers)) at
    (of_node production children numbers (AreNumbersOf-grows (Extends-trans (subst (Extends p.trees.keys) (sym keys) (Extends-append p.trees.keys _)) trees_grow) are)))
    keys

pub LaidOutTree-choice : {space : Space} {old s : Sets} {names files : List (List ℕ)} {p q u : Printer} (tree : TreeId) (branches : List (Cond × TreeId)) (numbers : List (ℕ × ℕ)) (number : ℕ)
    → Introduced space old s p q (map (λ (branch : ℕ × ℕ). branch.0) numbers) → AreBranchNumbers q.conditions.keys q.trees.keys branches numbers
    → number ≡ length q.trees.keys → u.trees.keys ≡ q.trees.keys ++ tree ∷ [] → u.conditions.keys ≡ q.conditions.keys → u.files.keys ≡ q.files.keys
    → u.text.items ≡ q.text.items ++ line_text (choice_line number numbers) → LaidOutTree space old s names files p u ((tree, choice branches) ∷ [])
LaidOutTree-choice {space} {old} {s} {names} {files} {p} {q} {u} tree branches numbers number conditions are at keys kept kept_files written =
    LaidOutTree-one tree (choice branches) (choice_line number numbers)
    (LaidLines-one u (choice_line number numbers) conditions.lines refl refl refl conditions.wrote written
    (subst (λ needed. Introduces (counts_of p) needed conditions.lines (counts_of q)) (map-map condition_numbered (λ (branch : ℕ × ℕ). branch.0) numbers) conditions.introduces)
    conditions.ordered conditions.table conditions.grows (subst (Extends p.files.keys) (sym conditions.same_files) (Extends-refl p.files.keys)) kept kept_files (conditions.prints files))
    (λ ks fs ids grows files_grow trees_grow.
    subst (λ n. IsLineOf names ks fs ids n (choice branches) (choice_line number numbers)) (at ∙ ap length conditions.same_trees)
    (of_choice branches numbers (AreBranchNumbers-grows (subst (λ ls. Extends ls ks) kept grows) (Extends-trans (subst (Extends q.trees.keys) (sym keys) (Extends-append q.trees.keys _)) trees_grow) are)))
    (keys ∙ ap (λ ks. ks ++ tree ∷ []) conditions.same_trees)
