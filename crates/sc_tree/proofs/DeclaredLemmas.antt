-- What a tree declares stands at the end of a walk.
use Rattle.std.proofs.Common.{◌≡◌, ℕ, zero, suc, ◌<◌, ◌+◌, Bool, true, false, List, [], ◌∷◌, ◌++◌, map, length, take, get_or, All, Option, Some, None, slice_get, refl, sym, ap, ◌∙◌, subst, append_assoc, if◌then◌else◌}
use Rattle.std.proofs.lemmas.List.Elements.{All-head, All-tail, All-cons, All-nil, All-append}
use Rattle.c11_parsing.specs.Bindings.{declared, declared_in}
use Rattle.c11_parsing.specs.C11.{c11_declarators, declarator_child}
use Rattle.c11_parsing.specs.Trees.{Tree, Forest, no_trees}
use Rattle.sc_base.specs.declared.id.Cond.{Cond}
use Rattle.sc_base.specs.declared.id.Name.{Name}
use Rattle.sc_base.specs.declared.id.TreeId.{TreeId}
use Rattle.sc_base.specs.declared.place.Place.{Place}
use Rattle.sc_guarded.specs.Items.{items_at}
use Rattle.sc_guarded.proofs.ItemLemmas.{items_at-append}
use Rattle.sc_model.specs.Sets.{Sets, IsCond}
use Rattle.std.proofs.lemmas.List.{append-nil, take_more}
use Rattle.sc_tree.proofs.Steps.{line-at}
use Rattle.sc_tree.specs.declared.line.Line as kept
use Rattle.sc_tree.specs.declared.line.Line.TheVariants.{Leaf, Node, Choice}
use Rattle.sc_tree.specs.Views.{line_of}
use Rattle.sc_tree.specs.Lines.{Line, leaf, node}
use Rattle.sc_tree.specs.Reads.{Tables, Reads, leaf_reads, node_reads, choice_reads, AllRead, none_read, more_read, Spells}
use Rattle.sc_tree.specs.Walks.{child_at, leaf_items, leaf_names, name_in, under, Follows, ends, goes_on, chooses, Walked, from_tree}

-- ---- leaves

under-at : (s : Sets) (cond : Cond) (names : List Name) (c : List ℕ) → items_at s (under cond names) c ≡ (if s.has cond.0 c then names else [])
under-at s cond [] c = by (s.has cond.0 c)
  where
    nothing : List Name
    nothing = []

    by : (b : Bool) → nothing ≡ (if b then nothing else nothing)
    by true = refl
    by false = refl
under-at s cond (name ∷ names) c = by (s.has cond.0 c) (under-at s cond names c)
  where
    by : (b : Bool) → items_at s (under cond names) c ≡ (if b then names else []) → (if b then name ∷ items_at s (under cond names) c else items_at s (under cond names) c) ≡ (if b then name ∷ names else [])
    by true rest = ap (λ ns. name ∷ ns) rest
    by false rest = rest

pub leaf_items-at : (s : Sets) (lines : List Line) (found : List (Cond × TreeId)) (c : List ℕ) → items_at s (leaf_items lines found) c ≡ leaf_names lines (items_at s found c)
leaf_items-at s lines [] c = refl
leaf_items-at s lines (tree ∷ found) c =
    items_at-append s (under tree.0 (name_in (slice_get lines tree.1.0))) (leaf_items lines found) c
    ∙ ap (λ ns. ns ++ items_at s (leaf_items lines found) c) (under-at s tree.0 (name_in (slice_get lines tree.1.0)) c)
    ∙ ap (λ ns. (if s.has tree.0.0 c then name_in (slice_get lines tree.1.0) else []) ++ ns) (leaf_items-at s lines found c)
    ∙ by (s.has tree.0.0 c)
  where
    by : (b : Bool) → (if b then name_in (slice_get lines tree.1.0) else []) ++ leaf_names lines (items_at s found c)
        ≡ leaf_names lines (if b then tree.1 ∷ items_at s found c else items_at s found c)
    by true = refl
    by false = refl

under-own : (s : Sets) (cond : Cond) (names : List Name) → IsCond s cond.0 → All (λ (name : Cond × Name). IsCond s name.0.0) (under cond names)
under-own s cond [] own = All-nil (λ (name : Cond × Name). IsCond s name.0.0)
under-own s cond (name ∷ names) own = All-cons (λ (n : Cond × Name). IsCond s n.0.0) (cond, name) (under cond names) own (under-own s cond names own)

pub leaf_items-own : (s : Sets) (lines : List Line) (found : List (Cond × TreeId)) → All (λ (tree : Cond × TreeId). IsCond s tree.0.0) found
    → All (λ (name : Cond × Name). IsCond s name.0.0) (leaf_items lines found)
leaf_items-own s lines [] own = All-nil (λ (name : Cond × Name). IsCond s name.0.0)
leaf_items-own s lines (tree ∷ found) own =
    let P : Cond × TreeId → Type 0 = λ t. IsCond s t.0.0 in
    All-append (λ (name : Cond × Name). IsCond s name.0.0) (under tree.0 (name_in (slice_get lines tree.1.0))) (leaf_items lines found)
    (under-own s tree.0 (name_in (slice_get lines tree.1.0)) (All-head P tree found own)) (leaf_items-own s lines found (All-tail P tree found own))

pub leaf_items-append : (lines : List Line) (xs ys : List (Cond × TreeId)) → leaf_items lines (xs ++ ys) ≡ leaf_items lines xs ++ leaf_items lines ys
leaf_items-append lines [] ys = refl
leaf_items-append lines (x ∷ xs) ys =
    ap (λ ns. under x.0 (name_in (slice_get lines x.1.0)) ++ ns) (leaf_items-append lines xs ys)
    ∙ sym (append_assoc (under x.0 (name_in (slice_get lines x.1.0))) (leaf_items lines xs) (leaf_items lines ys))

-- ---- the walk to the declared name

-- the walk from the tree, and its names
pub record Declares (w : Tables) (c : List ℕ) (id : TreeId) (texts : List (List ℕ)) : Type 0 where
  pub path : List TreeId
  pub follows : Follows declarator_child w.sets w.lines c id path
  pub spells : Spells w.names (leaf_names w.lines path) texts

name-at : (lines : List Line) (id : TreeId) (line : Line) (path : List TreeId) → slice_get lines id.0 ≡ Some line → leaf_names lines (id ∷ path) ≡ name_in (Some line) ++ leaf_names lines path
name-at lines id line path at = ap (λ l. name_in l ++ leaf_names lines path) at

-- what the child declares, where there is one
abbrev pub DeclaresChild : Tables → List ℕ → Option TreeId → List (List ℕ) → Type 0
DeclaresChild w c None texts = texts ≡ []
DeclaresChild w c (Some child) texts = Declares w c child texts

through-node : (w : Tables) (c : List ℕ) (id : TreeId) (production : ℕ) (children : List TreeId) (texts : List (List ℕ)) (child : Option TreeId) → slice_get w.lines id.0 ≡ Some (node production children)
    → child_at children (declarator_child production) ≡ child → DeclaresChild w c child texts → Declares w c id texts
through-node w c id production children texts None at next none = record {
  path = id ∷ [];
  follows = ends id (node production children) at refl next;
  spells = record { same = ap (map (λ (name : Name). slice_get w.names name.0)) (name-at w.lines id (node production children) [] at) ∙ ap (map (λ (text : List ℕ). Some text)) (sym none) };
}
through-node w c id production children texts (Some child) at next rest = record {
  path = id ∷ rest.path;
  follows = goes_on id child (node production children) rest.path at next rest.follows;
  spells = record { same = ap (map (λ (name : Name). slice_get w.names name.0)) (name-at w.lines id (node production children) rest.path at) ∙ rest.spells.same };
}

none-in : (w : Tables) (c : List ℕ) (n : ℕ) → DeclaresChild w c (child_at [] (Some n)) (declared_in c11_declarators (Some n) no_trees)
none-in w c n = refl

mutual
  pub declares : (w : Tables) (c : List ℕ) (id : ℕ) (tree : Tree) → Reads w c id tree → Declares w c (record { 0 = id }) (declared c11_declarators tree)
  declares w c id _ (leaf_reads _ place spelling token at token_at) = record {
    path = record { 0 = id } ∷ [];
    follows = ends (record { 0 = id }) (leaf place spelling) at refl refl;
    spells = record { same = ap (map (λ (name : Name). slice_get w.names name.0)) (name-at w.lines (record { 0 = id }) (leaf place spelling) [] at) ∙ ap (λ t. t ∷ []) token_at.spelling };
  }
  declares w c id _ (node_reads _ production children forest at read) =
      through-node w c (record { 0 = id }) production children _ (child_at children (declarator_child production)) at refl (declares-in w c (declarator_child production) children forest read)
  declares w c id tree (choice_reads _ branches child _ at own one read) =
      let rest = declares w c child.0 tree read in
      record { path = rest.path; follows = chooses (record { 0 = id }) child branches rest.path at one rest.follows; spells = rest.spells }

  declares-in : (w : Tables) (c : List ℕ) (n : Option ℕ) (children : List TreeId) (forest : Forest) → AllRead w c children forest
      → DeclaresChild w c (child_at children n) (declared_in c11_declarators n forest)
  declares-in w c None children forest read = refl
  declares-in w c (Some n) _ _ none_read = none-in w c n
  declares-in w c (Some zero) _ _ (more_read child children tree forest first rest) = declares w c child.0 tree first
  declares-in w c (Some (suc n)) _ _ (more_read child children tree forest first rest) = declares-in w c (Some n) children forest rest

-- ---- the leaves that are found

pub not_leaf : (line : kept.Line) → ((place : Place) (spelling : Name) → line ≡ Leaf place spelling → ⊥) → name_in (Some (line_of line)) ≡ []
not_leaf (Leaf place spelling) other = absurd (other place spelling refl)
not_leaf (Node production children) other = refl
not_leaf (Choice branches) other = refl

pub leaves-more : (lines : List kept.Line) (found : List (Cond × TreeId)) (i : ℕ) (z : Cond × TreeId) (x : kept.Line) (before after : List (Cond × Name)) → i < length found
    → x ≡ get_or lines (get_or found i z).1.0 x → (get_or found i z).1.0 < length lines → before ≡ leaf_items (map line_of lines) (take i found)
    → after ≡ before ++ under (get_or found i z).0 (name_in (Some (line_of x))) → after ≡ leaf_items (map line_of lines) (take (i + 1) found)
leaves-more lines found i z x before after within is inside same added =
    let tree = get_or found i z in
    let ls = map line_of lines in
    added ∙ ap (λ ns. ns ++ under tree.0 (name_in (Some (line_of x)))) same
    ∙ ap (λ ns. leaf_items ls (take i found) ++ ns)
    (ap (λ l. under tree.0 (name_in l)) (sym (line-at lines tree.1.0 x is inside)) ∙ sym (append-nil (under tree.0 (name_in (slice_get ls tree.1.0)))))
    ∙ sym (leaf_items-append ls (take i found) (tree ∷ []))
    ∙ ap (leaf_items ls) (sym (take_more found i z within))

pub names-at : (s : Sets) (lines : List Line) (names : List (Cond × Name)) (found passed : List (Cond × TreeId)) (c : List ℕ) (path : List TreeId) → names ≡ leaf_items lines found → found ≡ passed
    → items_at s passed c ≡ path → items_at s names c ≡ leaf_names lines path
names-at s lines names found passed c path named same at =
    ap (λ ns. items_at s ns c) named ∙ leaf_items-at s lines found c ∙ ap (λ trees. leaf_names lines (items_at s trees c)) same ∙ ap (leaf_names lines) at

pub names-own : (s : Sets) (lines : List Line) (names : List (Cond × Name)) (found passed : List (Cond × TreeId)) → names ≡ leaf_items lines found → found ≡ passed
    → All (λ (tree : Cond × TreeId). IsCond s tree.0.0) passed → All (λ (name : Cond × Name). IsCond s name.0.0) names
names-own s lines names found passed named same own =
    subst (λ (ns : List (Cond × Name)). All (λ (name : Cond × Name). IsCond s name.0.0) ns) (sym named)
    (leaf_items-own s lines found (subst (λ (trees : List (Cond × TreeId)). All (λ (tree : Cond × TreeId). IsCond s tree.0.0) trees) (sym same) own))

pub start-at : (s : Sets) (always : Cond) (id : TreeId) (c : List ℕ) → s.has always.0 c ≡ true → items_at s ((always, id) ∷ []) c ≡ id ∷ []
start-at s always id c has = ap (λ b. if b then id ∷ [] else []) has

pub start-none : (s : Sets) (cond : Cond) (id : TreeId) (c : List ℕ) → s.has cond.0 c ≡ false → items_at s ((cond, id) ∷ []) c ≡ []
start-none s cond id c has = ap (λ b. if b then id ∷ [] else []) has

pub start-all : (P : Cond × TreeId → Type 0) (always : Cond) (id : TreeId) → P (always, id) → All P ((always, id) ∷ [])
start-all P always id h = All-cons P (always, id) [] h (All-nil P)

pub declared-at : (old new : Sets) (names files : List (List ℕ)) (lines : List Line) (c : List ℕ) (id : TreeId) (tree : Tree) (found : List (Cond × Name)) (starts : List (Cond × TreeId))
    → items_at old starts c ≡ id ∷ []
    → ((path : List TreeId) → Walked declarator_child old lines c (items_at old starts c) path → items_at new found c ≡ leaf_names lines path)
    → Reads (record { sets = old; names = names; files = files; lines = lines }) c id.0 tree → Spells names (items_at new found c) (declared c11_declarators tree)
declared-at old new names files lines c id tree found starts one walks read =
    let way = declares (record { sets = old; names = names; files = files; lines = lines }) c id.0 tree read in
    record { same = ap (map (λ (name : Name). slice_get names name.0)) (walks way.path (subst (λ ids. Walked declarator_child old lines c ids way.path) (sym one) (from_tree id way.path way.follows))) ∙ way.spells.same }
