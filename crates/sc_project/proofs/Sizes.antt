-- How many leaves and other nodes are laid out.
use Rattle.std.proofs.Common.{◌≡◌, ◌∙◌, ℕ, zero, suc, ◌+◌, List, [], ◌∷◌, ◌++◌, length, length-append, take, slice_get, Some, arith, refl, sym, ap, ap₂, subst}
use Rattle.std.proofs.lemmas.List.{take_all}
use Rattle.std.proofs.lemmas.Option.{same_Some}
use Rattle.c11_parsing.specs.Trees.{Tree, Forest, leaves, leaves_of}
use Rattle.sc_base.specs.declared.id.TreeId.{TreeId}
use Rattle.sc_project.proofs.Laying.{choice_only, cons_first, leaf_only, node_only}
use Rattle.sc_project.specs.Layout.{AllLaid, LaysOut, none_laid, more_laid}
use Rattle.sc_project.specs.declared.size.TreeSize.{TreeSize}
use Rattle.sc_project.specs.Leaves.{leaves_in, one_leaf}
use Rattle.sc_project.specs.Size.{nodes, nodes_of, size_of}
use Rattle.sc_tree.specs.Lines.{Line, node}
use Rattle.sc_tree.specs.Reads.{AllRead, Reads, Tables, leaf_reads, node_reads, choice_reads, none_read, more_read}

leaves-append : (xs ys : List Line) → leaves_in (xs ++ ys) ≡ leaves_in xs + leaves_in ys
leaves-append [] ys = omega arith
leaves-append (x ∷ xs) ys = omega (arith, leaves-append xs ys)

pub leaves-take : (lines : List Line) (i : ℕ) (line : Line) → slice_get lines i ≡ Some line → leaves_in (take (suc i) lines) ≡ leaves_in (take i lines) + one_leaf line
leaves-take [] i line at = absurd (cc)
leaves-take (x ∷ lines) zero line at = let same : x ≡ line = same_Some x line at in omega (arith, ap one_leaf same)
leaves-take (x ∷ lines) (suc i) line at = omega (arith, leaves-take lines i line at)

-- Of the lines that are laid out of a tree so many are leaves, and so many there are in all.
pub record AreOfTree (laid : List Line) (tree : Tree) : Type 0 where
  pub leaf_lines : leaves_in laid ≡ length (leaves tree)
  pub lines : length laid ≡ length (leaves tree) + nodes tree

record AreOfForest (laid : List Line) (forest : Forest) : Type 0 where
  leaf_lines : leaves_in laid ≡ length (leaves_of forest)
  lines : length laid ≡ length (leaves_of forest) + nodes_of forest

module _ (w : Tables) (c : List ℕ) where
  mutual
    pub sized : (id start root : ℕ) (laid : List Line) (tree : Tree) → Reads w c id tree → LaysOut w.sets w.lines c id start laid root → AreOfTree laid tree
    sized id start root laid _ (leaf_reads _ place spelling token at token_at) out =
        let only = leaf_only w.sets w.lines c id start root laid place spelling out at in
        record { leaf_lines = ap leaves_in only.0; lines = ap length only.0 }
    sized id start root laid _ (node_reads _ production children forest at read) out =
        let only = node_only w.sets w.lines c id start root laid production children out at in
        let below = all-sized children start only.roots only.below forest read only.out in
        record {
          leaf_lines = omega (arith, ap leaves_in only.whole, leaves-append only.below (node production only.roots ∷ []), below.leaf_lines);
          lines = omega (arith, ap length only.whole, length-append only.below (node production only.roots ∷ []), below.lines);
        }
    sized id start root laid _ (choice_reads _ branches child tree at own one read) out =
        let only = choice_only w.sets w.lines c id start root laid branches out at in
        let same : only.child ≡ child = cons_first (sym only.one ∙ one) in
        sized child.0 start root laid tree read (subst (λ (x : TreeId). LaysOut w.sets w.lines c x.0 start laid root) same only.out)

    all-sized : (children : List TreeId) (start : ℕ) (roots : List TreeId) (below : List Line) (forest : Forest) → AllRead w c children forest
        → AllLaid w.sets w.lines c children start below roots → AreOfForest below forest
    all-sized _ start _ _ _ none_read (none_laid _) = record { leaf_lines = refl; lines = refl }
    all-sized _ start _ _ _ (more_read child children tree forest first rest) (more_laid _ root _ roots _ laid others out all) =
        let one = sized child.0 start root.0 laid tree first out in
        let row = all-sized children (start + length laid) roots others forest rest all in
        let long = length-append (leaves tree) (leaves_of forest) in
        record { leaf_lines = omega (arith, leaves-append laid others, one.leaf_lines, row.leaf_lines, long); lines = omega (arith, length-append laid others, one.lines, row.lines, long) }

-- what is counted of all lines is the size
pub same-size : (size : TreeSize) (tree : Tree) (laid : List Line) (count : ℕ) → count ≡ length laid → AreOfTree laid tree → size.leaves ≡ leaves_in (take count laid) → size.leaves + size.nodes ≡ count
    → size ≡ size_of tree
same-size size tree laid count all are leaf_lines lines =
    let whole : leaves_in (take count laid) ≡ leaves_in laid = ap leaves_in (take_all count laid (omega (arith, all))) in
    let leaves_are : size.leaves ≡ length (leaves tree) = leaf_lines ∙ whole ∙ are.leaf_lines in
    let nodes_are : size.nodes ≡ nodes tree = omega (arith, leaves_are, lines, all, are.lines) in
    ap₂ (λ (l n : ℕ). let size : TreeSize = record { leaves = l; nodes = n } in size) leaves_are nodes_are
