-- The trees that parts show.
use Rattle.std.proofs.Common.{◌≡◌, ℕ, zero, suc, Bool, true, false, List, [], ◌∷◌, map, slice_get, unwrap_or, Some, All, refl, sym, ap, subst, ◌∙◌, if◌then◌else◌}
use Rattle.std.specs.List.{cons_option, filter_map}
use Rattle.std.proofs.lemmas.List.Elements.{All-head, All-tail}
use Rattle.std.proofs.lemmas.Option.{same_Some}
use Rattle.c11_parsing.specs.Trees.{Tree, Forest}
use Rattle.sc_base.specs.declared.id.Cond.{Cond}
use Rattle.sc_base.specs.declared.id.FileId.{FileId}
use Rattle.sc_base.specs.declared.id.Name.{Name}
use Rattle.sc_base.specs.declared.id.TreeId.{TreeId}
use Rattle.sc_base.specs.declared.place.Place as declared_place
use Rattle.sc_base.specs.Seen.{text_at, seen_place, position_of}
use Rattle.sc_guarded.specs.Items.{items_at}
use Rattle.sc_model.specs.Sets.{Sets, IsConfig}
use Rattle.sc_model.specs.Token.{Shown, Token, shown}
use Rattle.sc_text.specs.Answer.{Condition, project, Part, leaf_part, node_part, choice_part, TreeAt, leaf_at, node_at, choice_at, TreesAt, none_at, more_at}
use Rattle.sc_text.specs.Text.{TextLine, Reading, condition_at, branches_of, part_said, parts_said, says}
use Rattle.sc_tree.specs.Lines.{Line, leaf, node, choice}
use Rattle.sc_tree.specs.Reads.{Tables, IsTokenAt, Reads, leaf_reads, node_reads, choice_reads, AllRead, none_read, more_read}
use Rattle.sc_show.specs.Prints.{Agrees}
use Rattle.sc_show.specs.TreeRules as rules
use Rattle.sc_show.specs.TreeRules.{AreBranchNumbers, IsLineOf, of_leaf, of_node, of_choice, AreTreeLines, no_lines, more_lines}
use Rattle.sc_show.specs.TreeShows.{shown_tree, shown_forest, AreNumbersOf, no_numbers, more_numbers, AreBranchesOf, no_branches, more_branches, IsPartOf, leaf_shown, node_shown, choice_shown, ArePartsOf, no_parts, more_parts}
use Rattle.sc_show.proofs.TokensItemLines.{name_read}

-- ---- the part of an id

pub record PartAt (s : Sets) (names files : List (List ℕ)) (store : List Line) (ids : List TreeId) (parts : List Part) (number : ℕ) (id : TreeId) : Type 0 where
  pub line : Line
  pub part : Part
  pub in_store : slice_get store id.0 ≡ Some line
  pub at : slice_get parts number ≡ Some part
  pub is : IsPartOf s names files ids line part

module _ (s : Sets) (names files : List (List ℕ)) (store : List Line) (ids : List TreeId) where
  pub part_at : {others : List TreeId} {parts : List Part} → ArePartsOf s names files store ids others parts → (n : ℕ) (id : TreeId) → slice_get others n ≡ Some id → PartAt s names files store ids parts n id
  part_at no_parts n id at = absurd (cc)
  part_at (more_parts x line part others parts in_store is rest) zero id at =
      record { line = line; part = part; in_store = ap (λ (y : TreeId). slice_get store y.0) (sym (same_Some x id at)) ∙ in_store; at = refl; is = is }
  part_at (more_parts x line part others parts in_store is rest) (suc n) id at =
      let found = part_at rest n id at in
      record { line = found.line; part = found.part; in_store = found.in_store; at = found.at; is = found.is }

  part_leaf : {line : Line} {part : Part} (place : declared_place.Place) (spelling : Name) → IsPartOf s names files ids line part → line ≡ leaf place spelling
      → part ≡ leaf_part (record { place = seen_place files place; spelling = text_at names spelling.0 })
  part_leaf place spelling (leaf_shown other name) same =
      let places : other ≡ place = cc in
      let names_are : name ≡ spelling = cc in
      λ i. leaf_part (record { place = seen_place files (places i); spelling = text_at names (names_are i).0 })
  part_leaf place spelling (node_shown production children numbers are) same = absurd (cc)
  part_leaf place spelling (choice_shown branches tests are) same = absurd (cc)

  record NodePart (production : ℕ) (children : List TreeId) (part : Part) : Type 0 where
    numbers : List ℕ
    is : part ≡ node_part production numbers
    are : AreNumbersOf ids children numbers

  part_node : {line : Line} {part : Part} (production : ℕ) (children : List TreeId) → IsPartOf s names files ids line part → line ≡ node production children → NodePart production children part
  part_node production children (leaf_shown other name) same = absurd (cc)
  part_node production children (node_shown number others numbers are) same =
      let productions : number ≡ production = cc in
      let trees : others ≡ children = cc in
      record { numbers = numbers; is = ap (λ n. node_part n numbers) productions; are = subst (λ xs. AreNumbersOf ids xs numbers) trees are }
  part_node production children (choice_shown branches tests are) same = absurd (cc)

  record ChoicePart (branches : List (Cond × TreeId)) (part : Part) : Type 0 where
    tests : List (Condition × ℕ)
    is : part ≡ choice_part tests
    are : AreBranchesOf s ids branches tests

  part_choice : {line : Line} {part : Part} (branches : List (Cond × TreeId)) → IsPartOf s names files ids line part → line ≡ choice branches → ChoicePart branches part
  part_choice branches (leaf_shown other name) same = absurd (cc)
  part_choice branches (node_shown number others numbers are) same = absurd (cc)
  part_choice branches (choice_shown others tests are) same =
      let trees : others ≡ branches = cc in
      record { tests = tests; is = refl; are = subst (λ xs. AreBranchesOf s ids xs tests) trees are }

  -- the branches of a configuration
  branches_at : {branches : List (Cond × TreeId)} {tests : List (Condition × ℕ)} (c : List ℕ) → IsConfig s.arities c → AreBranchesOf s ids branches tests → AreNumbersOf ids (items_at s branches c) (project tests c)
  branches_at c listed no_branches = no_numbers
  branches_at c listed (more_branches branch test number branches tests means at rest) = by (test c) (s.has branch.0.0 c) (means c listed) (branches_at c listed rest)
    where
      by : (a b : Bool) → a ≡ b → AreNumbersOf ids (items_at s branches c) (project tests c)
          → AreNumbersOf ids (if b then branch.1 ∷ items_at s branches c else items_at s branches c) (if a then number ∷ project tests c else project tests c)
      by true true same more = more_numbers branch.1 number (items_at s branches c) (project tests c) at more
      by true false same more = absurd (cc)
      by false true same more = absurd (cc)
      by false false same more = more

  record One (child : TreeId) (numbers : List ℕ) : Type 0 where
    number : ℕ
    is : numbers ≡ number ∷ []
    at : slice_get ids number ≡ Some child

  only_one : {children : List TreeId} {numbers : List ℕ} (child : TreeId) → AreNumbersOf ids children numbers → children ≡ child ∷ [] → One child numbers
  only_one child no_numbers same = absurd (cc)
  only_one child (more_numbers x n [] [] at no_numbers) same = let first : x ≡ child = cc in record { number = n; is = refl; at = at ∙ ap Some first }
  only_one child (more_numbers x n [] (m ∷ ns) at rest) same = elim rest [ ]
  only_one child (more_numbers x n (y ∷ xs) ns at rest) same = absurd (cc)

  pub shown_token : (w : Tables) (place : declared_place.Place) (spelling : Name) (token : Token) → w.names ≡ names → w.files ≡ files → IsTokenAt w place spelling token
      → ◌≡◌ {A = Shown} (record { place = seen_place files place; spelling = text_at names spelling.0 }) (shown token)
  shown_token w place spelling token same_names same_files is =
      let name : text_at names spelling.0 ≡ token.spelling = ap (λ ns. text_at ns spelling.0) (sym same_names) ∙ ap (λ o. unwrap_or o []) is.spelling in
      let file : text_at files place.file.0 ≡ token.place.file = ap (λ fs. text_at fs place.file.0) (sym same_files) ∙ ap (λ o. unwrap_or o []) is.file in
      let position = sym is.position in
      λ i. record { place = record { file = file i; position = position i }; spelling = name i }

  -- the tree of a number is the one for which the id stands
  module _ {parts : List Part} (are : ArePartsOf s names files store ids ids parts) (c : List ℕ) (listed : IsConfig s.arities c) where
    mutual
      pub tree_at : (id number : ℕ) (tree : Tree) → Reads (record { sets = s; names = names; files = files; lines = store }) c id tree → slice_get ids number ≡ Some (record { 0 = id })
          → TreeAt parts c number (shown_tree tree)
      tree_at id number _ (leaf_reads _ place spelling token at token_at) numbered =
          let found = part_at are number (record { 0 = id }) numbered in
          let part = part_leaf place spelling found.is (same_Some found.line (leaf place spelling) (sym found.in_store ∙ at)) in
          let seen = shown_token (record { sets = s; names = names; files = files; lines = store }) place spelling token refl refl token_at in
          leaf_at number (shown token) (found.at ∙ ap Some (part ∙ ap leaf_part seen))
      tree_at id number _ (node_reads _ production children forest at read) numbered =
          let found = part_at are number (record { 0 = id }) numbered in
          let part = part_node production children found.is (same_Some found.line (node production children) (sym found.in_store ∙ at)) in
          node_at number production part.numbers (shown_forest forest) (found.at ∙ ap Some part.is) (trees_at children forest part.numbers read part.are)
      tree_at id number _ (choice_reads _ branches child tree at own one read) numbered =
          let found = part_at are number (record { 0 = id }) numbered in
          let part = part_choice branches found.is (same_Some found.line (choice branches) (sym found.in_store ∙ at)) in
          let only = only_one child (branches_at c listed part.are) one in
          choice_at number only.number part.tests (shown_tree tree) (found.at ∙ ap Some part.is) only.is (tree_at child.0 only.number tree read only.at)

      trees_at : (children : List TreeId) (forest : Forest) (numbers : List ℕ) → AllRead (record { sets = s; names = names; files = files; lines = store }) c children forest → AreNumbersOf ids children numbers
          → TreesAt parts c numbers (shown_forest forest)
      trees_at _ _ _ none_read no_numbers = none_at
      trees_at _ _ _ (more_read child children tree forest first rest) (more_numbers _ number _ numbers at others) =
          more_at number numbers (shown_tree tree) (shown_forest forest) (tree_at child.0 number tree first at) (trees_at children forest numbers rest others)

-- ---- what the lines of parts say

pub record PartsSaid (s : Sets) (names files : List (List ℕ)) (store : List Line) (ids : List TreeId) (r : Reading) (next : ℕ) (trees : List (TreeId × Line)) (shown : List TextLine) : Type 0 where
  pub parts : List Part
  pub said : filter_map (says r.conditions r.files) shown ≡ parts_said next parts
  pub are : ArePartsOf s names files store ids (map (λ (tree : TreeId × Line). tree.0) trees) parts

module _ (s : Sets) (names files : List (List ℕ)) (store : List Line) (ks : List Cond) (fs : List FileId) (ids : List TreeId) (r : Reading) (agrees : Agrees s ks r.conditions)
    (named : r.files ≡ map (λ (f : FileId). text_at files f.0) fs) where
  branches_read : {branches : List (Cond × TreeId)} {numbers : List (ℕ × ℕ)} → AreBranchNumbers ks ids branches numbers → AreBranchesOf s ids branches (branches_of r.conditions numbers)
  branches_read rules.no_numbers = no_branches
  branches_read (rules.more_numbers branch condition number branches numbers at numbered rest) =
      more_branches branch (condition_at r.conditions condition) number branches (branches_of r.conditions numbers)
      (λ c listed. agrees.each condition branch.0 at c listed) numbered (branches_read rest)

  part_said_by : {number : ℕ} {line : Line} {shown : TextLine} → IsLineOf names ks fs ids number line shown → (part : Part) × ((says r.conditions r.files shown ≡ Some (part_said number part)) × IsPartOf s names files ids line part)
  part_said_by {number} (of_leaf place spelling file at) =
      let name = name_read files fs r.files named file place.file at in
      (_, (λ i. Some (part_said number (leaf_part (record { place = record { file = name i; position = position_of place }; spelling = text_at names spelling.0 }))), leaf_shown place spelling))
  part_said_by (of_node production children numbers are) = (node_part production numbers, (refl, node_shown production children numbers are))
  part_said_by (of_choice branches numbers are) = (choice_part (branches_of r.conditions numbers), (refl, choice_shown branches (branches_of r.conditions numbers) (branches_read are)))

  pub parts_told : {next : ℕ} {trees : List (TreeId × Line)} {shown : List TextLine} → AreTreeLines names ks fs ids next trees shown → All (λ (tree : TreeId × Line). slice_get store tree.0.0 ≡ Some tree.1) trees
      → PartsSaid s names files store ids r next trees shown
  parts_told (no_lines next) held = record { parts = []; said = refl; are = no_parts }
  parts_told (more_lines next tree line trees lines is rest) held =
      let one = part_said_by is in
      let others = parts_told rest (All-tail (λ (t : TreeId × Line). slice_get store t.0.0 ≡ Some t.1) tree trees held) in
      record {
        parts = one.0 ∷ others.parts;
        said = ap (λ o. cons_option o (filter_map (says r.conditions r.files) lines)) one.1.0 ∙ ap (λ said. part_said next one.0 ∷ said) others.said;
        are = more_parts tree.0 tree.1 one.0 (map (λ (t : TreeId × Line). t.0) trees) others.parts (All-head (λ (t : TreeId × Line). slice_get store t.0.0 ≡ Some t.1) tree trees held) one.1.1 others.are;
      }
