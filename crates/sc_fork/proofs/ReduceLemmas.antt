-- The tree that a reduction makes of the values on the stack.
use Rattle.std.proofs.Common.{◌≡◌, ℕ, zero, suc, ◌<◌, ◌≤◌, ◌+◌, ◌-◌, ◌==◌, ◌||◌, not, nat_lt, Bool, true, false, IsTrue, List, [], ◌∷◌, ◌++◌, All, IfSome, MatchOption, length, map, take, drop, reverse, get_or, slice_get, option_map, is_some, Option, Some, None, refl, sym, ap, ◌∙◌, subst, inl, inr, arith}
use Rattle.std.specs.List.{filter_map, list_all}
use Rattle.std.proofs.lemmas.Bool.{ltb-true}
use Rattle.std.proofs.lemmas.Bool.Decides.{eqb_tells}
use Rattle.std.proofs.lemmas.List.{append_assoc, append-nil, drop-map, length-append, length-map, length-reverse, length-take, reverse-append, take_more}
use Rattle.std.proofs.lemmas.List.Elements.{All-nil, All-cons, All-head, All-tail, filter_map-append}
use Rattle.std.proofs.lemmas.Option.{same_Some}
use Rattle.c11_parsing.specs.Core.{frames}
use Rattle.c11_parsing.specs.LR.{Frame, trees_of, tree_of}
use Rattle.c11_parsing.specs.Trees as plain
use Rattle.c11_parsing.specs.Trees.{Tree, Forest, no_trees, with_tree}
use Rattle.lr_tables.specs.declared.grammar.Entry.{Entry as RuleEntry}
use Rattle.lr_tables.specs.declared.grammar.Entry.TheVariants.{Left, Right}
use Rattle.lr_tables.specs.declared.grammar.Grammar.{Grammar}
use Rattle.lr_tables.specs.declared.grammar.Symbol.{Symbol}
use Rattle.lr_tables.specs.Grammar.{Production, symbol_number}
use Rattle.lr_tables.specs.Paths.{top, Path, above}
use Rattle.lr_tables.specs.Tables as lr
use Rattle.lr_tables.specs.Tables.{IsGoto, NoGoto}
use Rattle.sc_base.specs.declared.id.TreeId.{TreeId}
use Rattle.sc_fork.specs.Owns.{IsOnPath, has_tree}
use Rattle.sc_fork.specs.Reducing.{IsValueOf, passed_on, made}
use Rattle.sc_fork.proofs.ProductionLemmas.{Reduction, top-state}
use Rattle.lr_tables.proofs.Members.{passes}
use Rattle.lr_tables.proofs.Stacks.{drop_path}
use Rattle.sc_grammar.specs.C11.{productions}
use Rattle.sc_grammar.specs.Production.{symbols_of}
use Rattle.sc_lalr.specs.declared.tables.Tables as lalr
use Rattle.sc_lalr.specs.Tables.{goto_of, tables_of}
use Rattle.sc_merge.specs.Shows.{ValueReads, silent_reads, tree_reads, ValuesRead, no_values, more_values}
use Rattle.sc_stack.specs.Entries.{Entry, state_of, states_of, values_of}
use Rattle.sc_tree.specs.Lines.{Line, node}
use Rattle.sc_tree.specs.Reads.{Tables, Reads, node_reads, AllRead, none_read, more_read}

-- ---- values

pub one-value : (lines : List Line) (number : ℕ) (values : List (Option TreeId)) (d : Option TreeId) → length values ≡ 1 → IsValueOf lines number values (get_or values 0 d)
one-value lines number [] d one = absurd (omega (arith, one))
one-value lines number (value ∷ []) d one = passed_on value
one-value lines number (value ∷ (other ∷ values)) d one = absurd (omega (arith, one))

-- the values that are trees are the store's
pub among-own : (P : TreeId → Type 0) (values : List (Option TreeId)) → All (λ value. IfSome value P) values → All P (filter_map (λ value. value) values)
among-own P [] own = All-nil P
among-own P (None ∷ values) own = among-own P values (All-tail (λ value. IfSome value P) None values own)
among-own P (Some id ∷ values) own =
    All-cons P id (filter_map (λ value. value) values) (All-head (λ value. IfSome value P) (Some id) values own) (among-own P values (All-tail (λ value. IfSome value P) (Some id) values own))

-- ---- right sides

pub few-symbols : (entries : List RuleEntry) → length (symbols_of entries) ≤ length entries
few-symbols [] = omega arith
few-symbols (Left n mark ∷ entries) = let h = few-symbols entries in omega (arith, h)
few-symbols (Right x ∷ entries) = let h = few-symbols entries in omega (arith, h)

symbols-append : (xs ys : List RuleEntry) → symbols_of (xs ++ ys) ≡ symbols_of xs ++ symbols_of ys
symbols-append [] ys = refl
symbols-append (Left n mark ∷ xs) ys = symbols-append xs ys
symbols-append (Right x ∷ xs) ys = ap (λ zs. x ∷ zs) (symbols-append xs ys)

more-symbols : (entries : List RuleEntry) (i : ℕ) (d : RuleEntry) → i < length entries
    → length (symbols_of (take (i + 1) entries)) ≡ length (symbols_of (take i entries)) + length (symbols_of (get_or entries i d ∷ []))
more-symbols entries i d below =
    ap (λ es. length (symbols_of es)) (take_more entries i d below)
    ∙ ap length (symbols-append (take i entries) (get_or entries i d ∷ []))
    ∙ length-append (symbols_of (take i entries)) (symbols_of (get_or entries i d ∷ []))

-- one entry more
pub symbol-more : (entries : List RuleEntry) (i n : ℕ) (x : Symbol) (d : RuleEntry) → i < length entries → get_or entries i d ≡ Right x → n ≡ length (symbols_of (take i entries))
    → n + 1 ≡ length (symbols_of (take (i + 1) entries))
symbol-more entries i n x d below is so_far =
    let last : length (symbols_of (get_or entries i d ∷ [])) ≡ 1 = ap (λ e. length (symbols_of (e ∷ []))) is in
    omega (arith, more-symbols entries i d below, last, so_far)

pub no-symbol-more : (entries : List RuleEntry) (i n : ℕ) (d : RuleEntry) → i < length entries → ((x : Symbol) → get_or entries i d ≡ Right x → ⊥) → n ≡ length (symbols_of (take i entries))
    → n ≡ length (symbols_of (take (i + 1) entries))
no-symbol-more entries i n d below other so_far =
    let last : length (symbols_of (get_or entries i d ∷ [])) ≡ 0 = by (get_or entries i d) other in
    omega (arith, more-symbols entries i d below, last, so_far)
  where
    by : (e : RuleEntry) → ((x : Symbol) → e ≡ Right x → ⊥) → length (symbols_of (e ∷ [])) ≡ 0
    by (Left n mark) other = refl
    by (Right x) other = absurd (other x refl)

-- ---- the stack

-- one symbol alone on a right side has a tree
abbrev one_tree : List Symbol → Bool
one_tree [] = true
one_tree (x ∷ []) = has_tree (symbol_number 96 x)
one_tree (x ∷ (y ∷ xs)) = true

units-have-trees : IsTrue (list_all (λ (p : Production). one_tree p.right) productions)
units-have-trees = refl

not-same : (k n : ℕ) → (k ≡ n → ⊥) → (k == n) ≡ false
not-same k n h = elim (eqb_tells k n) [ inl same ↦ absurd (h same.1) | inr other ↦ other.0 ]

left-sides-known : IsTrue (list_all (λ (p : Production). nat_lt p.left 100) productions)
left-sides-known = refl

nonterminal-has-tree : (n : ℕ) → has_tree (96 + n) ≡ true
nonterminal-has-tree n =
    ap (λ b. not (b || 96 + n == 2)) (not-same (96 + n) 1 (λ e. omega (arith, e))) ∙ ap (λ b. not b) (not-same (96 + n) 2 (λ e. omega (arith, e)))

passed-tree : (stack : List Entry) (symbols : List ℕ) (right : List Symbol) (value : Option TreeId) → map is_some (values_of stack) ≡ map has_tree symbols → length right ≤ length stack
    → (length right ≡ 1 → slice_get symbols 0 ≡ option_map (symbol_number 96) (slice_get right 0)) → one_tree right ≡ true
    → reverse (values_of (take (length right) stack)) ≡ value ∷ [] → is_some value ≡ true
passed-tree stack symbols [] value trees high head test one = absurd (cc)
passed-tree [] symbols (x ∷ []) value trees high head test one = absurd (omega (arith, high))
passed-tree (entry ∷ stack) [] (x ∷ []) value trees high head test one = absurd (cc)
passed-tree (entry ∷ stack) (y ∷ symbols) (x ∷ []) value trees high head test one =
    let passed : entry.value ≡ value = cc in
    let tree : is_some entry.value ≡ has_tree y = cc in
    ap is_some (sym passed) ∙ tree ∙ ap has_tree (same_Some y (symbol_number 96 x) (head refl)) ∙ test
passed-tree stack symbols (x ∷ (y ∷ xs)) value trees high head test one =
    absurd (omega (
      arith,
      high,
      ap length one,
      length-reverse (values_of (take (length (x ∷ (y ∷ xs))) stack)),
      length-map (take (length (x ∷ (y ∷ xs))) stack) (λ (entry : Entry). entry.value),
      length-take (length (x ∷ (y ∷ xs))) stack,
    ))

module _ (g : Grammar) (states : List (List ℕ)) (stack : List Entry) (on : IsOnPath g states stack) (number : ℕ) (r : Reduction g states (states_of stack) on.symbols number) where
  abbrev size : ℕ
  size = length r.production.right

  high : size ≤ length stack
  high = omega (arith, r.high, length-map stack (λ (entry : Entry). entry.state))

  -- the tree of the left side is there
  pub left-tree : (lines : List Line) (value : Option TreeId) → IsValueOf lines number (reverse (values_of (take size stack))) value → is_some value ≡ true
  left-tree lines value is = by (reverse (values_of (take size stack))) value refl is
    where
      by : (values : List (Option TreeId)) (value : Option TreeId) → reverse (values_of (take size stack)) ≡ values → IsValueOf lines number values value → is_some value ≡ true
      by _ _ same (passed_on value) =
          passed-tree stack on.symbols r.production.right value on.trees high r.head (passes (λ (p : Production). one_tree p.right) productions (number - 1) r.production units-have-trees r.at) same
      by _ _ same (made values id several at) = refl

  pub path-after : (state : ℕ) (value : Option TreeId) → IsGoto g states (state_of (drop size stack)) (96 + r.production.left) state
      → Path g states (states_of (record { state = state; value = value } ∷ drop size stack)) ((96 + r.production.left) ∷ drop size on.symbols)
  path-after state value goto =
      above state (96 + r.production.left) (states_of (drop size stack)) (drop size on.symbols)
      (subst (λ s. IsGoto g states s (96 + r.production.left) state) (sym (top-state (drop size stack))) goto)
      (subst (λ ss. Path g states ss (drop size on.symbols)) (drop-map (λ (entry : Entry). entry.state) size stack) (drop_path g states size (states_of stack) on.symbols on.path))

  -- the state that follows is put on the stack
  pub on-path : (state : ℕ) (value : Option TreeId) → IsGoto g states (state_of (drop size stack)) (96 + r.production.left) state → is_some value ≡ true
      → IsOnPath g states (record { state = state; value = value } ∷ drop size stack)
  on-path state value goto some = record {
    symbols = (96 + r.production.left) ∷ drop size on.symbols;
    path = path-after state value goto;
    trees = ap (λ b. b ∷ map is_some (values_of (drop size stack))) (some ∙ sym (nonterminal-has-tree r.production.left))
        ∙ ap (λ bs. has_tree (96 + r.production.left) ∷ bs)
        (ap (map is_some) (sym (drop-map (λ (entry : Entry). entry.value) size stack)) ∙ sym (drop-map is_some size (values_of stack)) ∙ ap (drop size) on.trees ∙ drop-map has_tree size on.symbols);
  }

  -- and there is such a state
  pub goes-on : (tables : lalr.Tables) → lr.AreTables g (tables_of states tables) → g.terminals ≡ 96 → g.nonterminals ≡ 100 → (found : Option ℕ) → goto_of tables (state_of (drop size stack)) r.production.left ≡ found
      → MatchOption found ⊥ (IsGoto g states (state_of (drop size stack)) (96 + r.production.left))
  goes-on tables are terminals nonterminals found is = by found (subst (λ o. MatchOption o (NoGoto g states s (g.terminals + left)) (IsGoto g states s (g.terminals + left))) is (are.goto s left below))
    where
      below : r.production.left < g.nonterminals
      below =
          let low = ltb-true r.production.left 100 (passes (λ (p : Production). nat_lt p.left 100) productions (number - 1) r.production left-sides-known r.at) in
          omega (arith, low, nonterminals)

      s : ℕ
      s = state_of (drop size stack)

      left : ℕ
      left = r.production.left

      by : (found : Option ℕ) → MatchOption found (NoGoto g states s (g.terminals + left)) (IsGoto g states s (g.terminals + left)) → MatchOption found ⊥ (IsGoto g states s (96 + left))
      by None nowhere =
          nowhere.none r.goto.0
          (subst (λ t. IsGoto g states s (t + left) r.goto.0) (sym terminals)
          (subst (λ z. IsGoto g states z (96 + left) r.goto.0) (ap top (drop-map (λ (entry : Entry). entry.state) size stack) ∙ top-state (drop size stack)) r.goto.1))
      by (Some state) goto = subst (λ t. IsGoto g states s (t + left) state) terminals goto

-- ---- trees of frames

-- each value stands for the tree of the frame
pub data FramesRead (w : Tables) (c : List ℕ) : List (Option TreeId) → List Frame → Type 0 where
  no_frames : FramesRead w c [] []
  more_frames : (value : Option TreeId) (values : List (Option TreeId)) (frame : Frame) (fs : List Frame) → ValueReads w c value frame.tree → FramesRead w c values fs
      → FramesRead w c (value ∷ values) (frame ∷ fs)

module _ (w : Tables) (c : List ℕ) where
  pub frames-read : (n : ℕ) (stack : List Entry) (trees : List (Option Tree)) → ValuesRead w c (values_of stack) trees
      → FramesRead w c (values_of (take n stack)) (take n (frames (states_of stack) trees))
  frames-read zero stack trees reads = no_frames
  frames-read (suc n) [] trees reads = no_frames
  frames-read (suc n) (entry ∷ stack) _ (more_values _ _ tree trees first rest) =
      more_frames entry.value (values_of (take n stack)) (record { state = entry.state; tree = tree }) (take n (frames (states_of stack) trees)) first (frames-read n stack trees rest)

  pub below-reads : (n : ℕ) (stack : List Entry) (trees : List (Option Tree)) → ValuesRead w c (values_of stack) trees → ValuesRead w c (values_of (drop n stack)) (drop n trees)
  below-reads zero stack trees reads = reads
  below-reads (suc n) [] _ no_values = no_values
  below-reads (suc n) (entry ∷ stack) _ (more_values _ _ tree trees first rest) = below-reads n stack trees rest

  first-read : (value : Option TreeId) (tree : Option Tree) (children : List TreeId) (forest : Forest) → ValueReads w c value tree → AllRead w c children forest
      → AllRead w c (filter_map (λ v. v) (value ∷ []) ++ children) (with_tree tree forest)
  first-read _ _ children forest silent_reads rest = rest
  first-read _ _ children forest (tree_reads id tree reads) rest = more_read id children tree forest reads rest

  -- the trees of frames, the top first, stand from right to left
  forest-read : (values : List (Option TreeId)) (fs : List Frame) (children : List TreeId) (forest : Forest) → FramesRead w c values fs → AllRead w c children forest
      → AllRead w c (filter_map (λ v. v) (reverse values) ++ children) (trees_of fs forest)
  forest-read _ _ children forest no_frames rest = rest
  forest-read _ _ children forest (more_frames value values frame fs first others) rest =
      let order : filter_map (λ v. v) (reverse (value ∷ values)) ++ children ≡ filter_map (λ v. v) (reverse values) ++ (filter_map (λ v. v) (value ∷ []) ++ children) =
      ap (λ vs. filter_map (λ (v : Option TreeId). v) vs ++ children) (reverse-append (value ∷ []) values)
      ∙ ap (λ ids. ids ++ children) (filter_map-append (λ (v : Option TreeId). v) (reverse values) (value ∷ []))
      ∙ append_assoc (filter_map (λ v. v) (reverse values)) (filter_map (λ v. v) (value ∷ [])) children in
      subst (λ ids. AllRead w c ids (trees_of fs (with_tree frame.tree forest))) (sym order)
      (forest-read values fs (filter_map (λ v. v) (value ∷ []) ++ children) (with_tree frame.tree forest) others (first-read value frame.tree children forest first rest))

  node-read : (number : ℕ) (values : List (Option TreeId)) (fs : List Frame) (id : TreeId) → FramesRead w c values fs
      → slice_get w.lines id.0 ≡ Some (node number (filter_map (λ v. v) (reverse values))) → Reads w c id.0 (plain.node number (trees_of fs no_trees))
  node-read number values fs id reads at =
      node_reads id.0 number (filter_map (λ v. v) (reverse values)) (trees_of fs no_trees) at
      (subst (λ ids. AllRead w c ids (trees_of fs no_trees)) (append-nil (filter_map (λ v. v) (reverse values))) (forest-read values fs [] no_trees reads none_read))

  -- the value of a left side stands for the tree of the left side
  pub left-read : (number : ℕ) (values : List (Option TreeId)) (fs : List Frame) (value : Option TreeId) → FramesRead w c values fs → IsValueOf w.lines number (reverse values) value
      → ValueReads w c value (tree_of number fs)
  left-read number values fs value reads is = by (reverse values) value refl is fs reads
    where
      by : (order : List (Option TreeId)) (value : Option TreeId) → reverse values ≡ order → IsValueOf w.lines number order value → (fs : List Frame) → FramesRead w c values fs → ValueReads w c value (tree_of number fs)
      by _ _ same (passed_on value) fs reads = passed values value same fs reads
        where
          passed : (values : List (Option TreeId)) (value : Option TreeId) → reverse values ≡ value ∷ [] → (fs : List Frame) → FramesRead w c values fs → ValueReads w c value (tree_of number fs)
          passed _ value same _ no_frames = absurd (cc)
          passed _ value same _ (more_frames v _ frame _ first no_frames) = let e : v ≡ value = cc in subst (λ z. ValueReads w c z frame.tree) e first
          passed _ value same _ (more_frames v _ frame _ first (more_frames u vs other fs second rest)) =
              absurd (omega (arith, ap length same, length-reverse (v ∷ (u ∷ vs))))
      by _ _ same (made order id several at) fs reads = several_trees values fs reads (λ one. several (ap length (sym same) ∙ length-reverse values ∙ one))
          (subst (λ vs. slice_get w.lines id.0 ≡ Some (node number (filter_map (λ v. v) vs))) (sym same) at)
        where
          several_trees : (values : List (Option TreeId)) (fs : List Frame) → FramesRead w c values fs → (length values ≡ 1 → ⊥)
              → slice_get w.lines id.0 ≡ Some (node number (filter_map (λ v. v) (reverse values))) → ValueReads w c (Some id) (tree_of number fs)
          several_trees _ _ no_frames more at = tree_reads id (plain.node number no_trees) (node-read number [] [] id no_frames at)
          several_trees _ _ (more_frames v _ frame _ first no_frames) more at = absurd (more refl)
          several_trees _ _ (more_frames v _ frame _ first (more_frames u vs other fs second rest)) more at =
              tree_reads id (plain.node number (trees_of (frame ∷ (other ∷ fs)) no_trees))
              (node-read number (v ∷ (u ∷ vs)) (frame ∷ (other ∷ fs)) id (more_frames v (u ∷ vs) frame (other ∷ fs) first (more_frames u vs other fs second rest)) at)

pub frames-below : (n : ℕ) (states : List ℕ) (trees : List (Option Tree)) → drop n (frames states trees) ≡ frames (drop n states) (drop n trees)
frames-below zero states trees = refl
frames-below (suc n) [] trees = refl
frames-below (suc n) (state ∷ states) [] = frames-below n states [] ∙ ap (frames (drop n states)) (none-left n)
  where
    none-left : (n : ℕ) → drop {A = Option Tree} n [] ≡ []
    none-left zero = refl
    none-left (suc n) = refl
frames-below (suc n) (state ∷ states) (tree ∷ trees) = frames-below n states trees
