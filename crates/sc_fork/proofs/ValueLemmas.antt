-- The values of a stack that are trees.
use Rattle.std.proofs.Common.{◌≡◌, ℕ, ◌<◌, ◌+◌, List, [], ◌∷◌, ◌++◌, take, get_or, length, reverse, Option, Some, None, sym, ap, ◌∙◌, subst, All, append_assoc}
use Rattle.std.specs.Option.{IfSome}
use Rattle.std.specs.List.{filter_map}
use Rattle.std.proofs.lemmas.List.{take_more, append-nil, reverse-append}
use Rattle.std.proofs.lemmas.List.Elements.{filter_map-append, All-head, All-tail, All-cons, All-nil, All-append}
use Rattle.c11_parsing.specs.Core.{frames}
use Rattle.c11_parsing.specs.LR.{trees_of}
use Rattle.c11_parsing.specs.Trees.{Tree, Forest, no_trees, with_tree}
use Rattle.sc_base.specs.declared.id.TreeId.{TreeId}
use Rattle.sc_merge.specs.Shows.{ValueReads, silent_reads, tree_reads, ValuesRead, no_values, more_values}
use Rattle.sc_stack.specs.Entries.{Entry, states_of, values_of}
use Rattle.sc_tree.specs.Reads.{Tables, AllRead, none_read, more_read}

-- ---- values that are trees

abbrev pub trees_among : {A : Type 0} → List (Option A) → List A
trees_among values = filter_map (λ value. value) values

among-more : {A : Type 0} (values : List (Option A)) (i : ℕ) (value d : Option A) (before : List A) → i < length values → get_or values i d ≡ value
    → before ≡ trees_among (take i values) → trees_among (take (i + 1) values) ≡ before ++ trees_among (value ∷ [])
among-more values i value d before within at so_far =
    ap trees_among (take_more values i d within) ∙ filter_map-append (λ v. v) (take i values) (get_or values i d ∷ [])
    ∙ ap (λ v. trees_among (take i values) ++ trees_among (v ∷ [])) at ∙ ap (λ ts. ts ++ trees_among (value ∷ [])) (sym so_far)

pub present-some : {A : Type 0} (values : List (Option A)) (i : ℕ) (x : A) (d : Option A) (before after : List A) → i < length values → get_or values i d ≡ Some x
    → before ≡ trees_among (take i values) → after ≡ before ++ x ∷ [] → after ≡ trees_among (take (i + 1) values)
present-some values i x d before after within at so_far added = added ∙ sym (among-more values i (Some x) d before within at so_far)

pub present-none : {A : Type 0} (values : List (Option A)) (i : ℕ) (d : Option A) (before after : List A) → i < length values → get_or values i d ≡ None
    → before ≡ trees_among (take i values) → after ≡ before → after ≡ trees_among (take (i + 1) values)
present-none values i d before after within at so_far same = same ∙ sym (among-more values i None d before within at so_far ∙ append-nil before)

-- ---- what holds of them

pub All-reverse : {A : Type 0} (P : A → Type 0) (xs : List A) → All P xs → All P (reverse xs)
All-reverse P [] all = All-nil P
All-reverse P (x ∷ xs) all =
    subst (λ ys. All P ys) (sym (reverse-append (x ∷ []) xs))
    (All-append P (reverse xs) (x ∷ []) (All-reverse P xs (All-tail P x xs all)) (All-cons P x [] (All-head P x xs all) (All-nil P)))

pub among-All : {A : Type 0} (P : A → Type 0) (values : List (Option A)) → All (λ (value : Option A). IfSome value P) values → All P (trees_among values)
among-All P [] all = All-nil P
among-All {A} P (None ∷ values) all = among-All P values (All-tail (λ (value : Option A). IfSome value P) None values all)
among-All {A} P (Some x ∷ values) all =
    All-cons P x (trees_among values) (All-head (λ (value : Option A). IfSome value P) (Some x) values all)
    (among-All P values (All-tail (λ (value : Option A). IfSome value P) (Some x) values all))

-- ---- what they stand for

with-read : (w : Tables) (c : List ℕ) (value : Option TreeId) (tree : Option Tree) (rest : List TreeId) (forest : Forest) → ValueReads w c value tree
    → AllRead w c rest forest → AllRead w c (trees_among (value ∷ []) ++ rest) (with_tree tree forest)
with-read w c _ _ rest forest silent_reads read = read
with-read w c _ _ rest forest (tree_reads id tree first) read = more_read id rest tree forest first read

among-reverse : {A : Type 0} (value : Option A) (values : List (Option A)) (rest : List A)
    → trees_among (reverse values) ++ (trees_among (value ∷ []) ++ rest) ≡ trees_among (reverse (value ∷ values)) ++ rest
among-reverse value values rest =
    sym (append_assoc (trees_among (reverse values)) (trees_among (value ∷ [])) rest)
    ∙ ap (λ ts. ts ++ rest) (sym (filter_map-append (λ v. v) (reverse values) (value ∷ [])))
    ∙ ap (λ vs. trees_among vs ++ rest) (sym (reverse-append (value ∷ []) values))

among-read : (w : Tables) (c : List ℕ) (stack : List Entry) (trees : List (Option Tree)) (rest : List TreeId) (forest : Forest)
    → ValuesRead w c (values_of stack) trees → AllRead w c rest forest
    → AllRead w c (trees_among (reverse (values_of stack)) ++ rest) (trees_of (frames (states_of stack) trees) forest)
among-read w c [] _ rest forest no_values read = read
among-read w c (entry ∷ stack) _ rest forest (more_values _ _ tree trees first others) read =
    subst (λ ids. AllRead w c ids (trees_of (frames (states_of stack) trees) (with_tree tree forest))) (among-reverse entry.value (values_of stack) rest)
    (among-read w c stack trees (trees_among (entry.value ∷ []) ++ rest) (with_tree tree forest) others (with-read w c entry.value tree rest forest first read))

-- the trees of a stack from the lowest up
pub stack-read : (w : Tables) (c : List ℕ) (stack : List Entry) (trees : List (Option Tree)) → ValuesRead w c (values_of stack) trees
    → AllRead w c (trees_among (reverse (values_of stack))) (trees_of (frames (states_of stack) trees) no_trees)
stack-read w c stack trees read =
    subst (λ ids. AllRead w c ids (trees_of (frames (states_of stack) trees) no_trees)) (append-nil (trees_among (reverse (values_of stack))))
    (among-read w c stack trees [] no_trees read none_read)
