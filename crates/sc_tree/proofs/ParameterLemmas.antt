-- The parameters of a function stand on two walks: down to its list, and back along the list.
use Rattle.std.proofs.Common.{◌≡◌, ℕ, zero, suc, ◌<◌, ◌+◌, Bool, true, false, List, [], ◌∷◌, ◌++◌, map, length, take, get_or, reverse, All, Option, Some, None, slice_get, refl, sym, ap, ◌∙◌, subst, append_assoc, if◌then◌else◌}
use Rattle.std.proofs.lemmas.Bool.{false≢true}
use Rattle.std.proofs.lemmas.List.{append-nil, map-append, reverse-append, take_more}
use Rattle.std.proofs.lemmas.Option.{same_Some, none-some}
use Rattle.std.specs.List.{filter}
use Rattle.c11_parsing.specs.Bindings as plain
use Rattle.c11_parsing.specs.Bindings.{parameters_below, parameters_in, parameters_or, parameter, parameter_in, declared}
use Rattle.c11_parsing.specs.C11.{c11_declarators, declarator_child, parameters_child, earlier_child, is_parameter, last_child}
use Rattle.c11_parsing.specs.Trees as trees
use Rattle.c11_parsing.specs.Trees.{Tree, Forest, no_trees}
use Rattle.sc_base.specs.declared.id.Cond.{Cond}
use Rattle.sc_base.specs.declared.id.Name.{Name}
use Rattle.sc_base.specs.declared.id.TreeId.{TreeId}
use Rattle.sc_base.proofs.Growth.{Extends-keeps, Extends-refl}
use Rattle.sc_guarded.specs.Items.{items_at}
use Rattle.sc_guarded.proofs.ItemLemmas.{items_at-append, items_at-Keeps}
use Rattle.sc_model.specs.Sets.{Sets, IsConfig, IsCond, Keeps}
use Rattle.sc_model.proofs.SetLemmas.{IsConfig-Keeps, Keeps-trans}
use Rattle.sc_tree.proofs.DeclaredLemmas.{Declares, declares}
use Rattle.sc_tree.proofs.GuardedLemmas.{is_named_at, items_at-filter}
use Rattle.sc_tree.proofs.ReadLemmas.{Reads-Grows}
use Rattle.sc_tree.proofs.WalkLemmas.{child-below}
use Rattle.sc_tree.specs.Lines.{Line, leaf, node, choice, children_of}
use Rattle.sc_tree.specs.Parameters.{list_at, list_of, first_list, is_named, last_of, last_parameter, IsNoChoice, AreParameters, no_parameters, more_parameters}
use Rattle.sc_tree.specs.Reads.{Tables, Grows, Reads, leaf_reads, node_reads, choice_reads, AllRead, none_read, more_read, Spells}
use Rattle.sc_tree.specs.Walks.{child_at, is_choice, leaf_names, listed, Follows, ends, goes_on, chooses, Walked, nowhere, from_tree}

-- the tree met first is the last one behind a walk
first-last : (lines : List Line) (id : TreeId) (ids met : List TreeId) → first_list lines (reverse (id ∷ ids)) met ≡ first_list lines (reverse ids) (list_of (slice_get lines id.0) met)
first-last lines id ids met = ap (λ xs. first_list lines xs met) (reverse-append (id ∷ []) ids) ∙ go (reverse ids)
  where
    go : (xs : List TreeId) → first_list lines (xs ++ id ∷ []) met ≡ first_list lines xs (list_of (slice_get lines id.0) met)
    go [] = refl
    go (x ∷ xs) = ap (λ ids. list_of (slice_get lines x.0) ids) (go xs)

-- ---- down to the list

-- the list that was met and the names in it
pub data Met (w : Tables) (c : List ℕ) : List TreeId → List (List ℕ) → Type 0 where
  no_list : Met w c [] []
  a_list : (id : TreeId) (tree : Tree) → Reads w c id.0 tree → Met w c (id ∷ []) (plain.listed c11_declarators tree)

-- the walk from the tree, and the list that is met last on it
pub record Leads (w : Tables) (c : List ℕ) (id : TreeId) (met : List TreeId) (texts : List (List ℕ)) : Type 0 where
  pub path : List TreeId
  pub follows : Follows declarator_child w.sets w.lines c id path
  pub list : Met w c (first_list w.lines (reverse path) met) texts

-- the same from the child, where there is one
abbrev LeadsChild : Tables → List ℕ → Option TreeId → List TreeId → List (List ℕ) → Type 0
LeadsChild w c None met texts = Met w c met texts
LeadsChild w c (Some child) met texts = Leads w c child met texts

own-list : (w : Tables) (c : List ℕ) (n : ℕ) (children : List TreeId) (forest : Forest) → AllRead w c children forest
    → Met w c (listed (slice_get children n)) (plain.listed_in c11_declarators (Some n) forest)
own-list w c zero _ _ none_read = no_list
own-list w c (suc n) _ _ none_read = no_list
own-list w c zero _ _ (more_read child children tree forest first rest) = a_list child tree first
own-list w c (suc n) _ _ (more_read child children tree forest first rest) = own-list w c n children forest rest

met-here : (w : Tables) (c : List ℕ) (n : Option ℕ) (children : List TreeId) (forest : Forest) (met : List TreeId) (texts : List (List ℕ)) → AllRead w c children forest → Met w c met texts
    → Met w c (list_at children n met) (parameters_or c11_declarators n forest texts)
met-here w c None children forest met texts read above = above
met-here w c (Some n) children forest met texts read above = own-list w c n children forest read

through-node : (w : Tables) (c : List ℕ) (id : TreeId) (production : ℕ) (children : List TreeId) (met : List TreeId) (texts : List (List ℕ)) (child : Option TreeId) → slice_get w.lines id.0 ≡ Some (node production children)
    → child_at children (declarator_child production) ≡ child → LeadsChild w c child (list_at children (parameters_child production) met) texts → Leads w c id met texts
through-node w c id production children met texts None at next list = record {
  path = id ∷ [];
  follows = ends id (node production children) at refl next;
  list = subst (λ ids. Met w c ids texts) (ap (λ l. list_of l met) (sym at)) list;
}
through-node w c id production children met texts (Some child) at next rest = record {
  path = id ∷ rest.path;
  follows = goes_on id child (node production children) rest.path at next rest.follows;
  list = subst (λ ids. Met w c ids texts) (ap (λ l. first_list w.lines (reverse rest.path) (list_of l met)) (sym at) ∙ sym (first-last w.lines id rest.path met)) rest.list;
}

mutual
  pub leads : (w : Tables) (c : List ℕ) (id : ℕ) (tree : Tree) (met : List TreeId) (texts : List (List ℕ)) → Reads w c id tree → Met w c met texts
      → Leads w c (record { 0 = id }) met (parameters_below c11_declarators tree texts)
  leads w c id _ met texts (leaf_reads _ place spelling token at token_at) above = record {
    path = record { 0 = id } ∷ [];
    follows = ends (record { 0 = id }) (leaf place spelling) at refl refl;
    list = subst (λ ids. Met w c ids texts) (ap (λ l. list_of l met) (sym at)) above;
  }
  leads w c id _ met texts (node_reads _ production children forest at read) above =
      through-node w c (record { 0 = id }) production children met _ (child_at children (declarator_child production)) at refl
      (leads-in w c (declarator_child production) children forest (list_at children (parameters_child production) met) (parameters_or c11_declarators (parameters_child production) forest texts) read
      (met-here w c (parameters_child production) children forest met texts read above))
  leads w c id tree met texts (choice_reads _ branches child _ at own one read) above =
      let rest = leads w c child.0 tree met texts read above in
      record { path = rest.path; follows = chooses (record { 0 = id }) child branches rest.path at one rest.follows; list = rest.list }

  leads-in : (w : Tables) (c : List ℕ) (n : Option ℕ) (children : List TreeId) (forest : Forest) (met : List TreeId) (texts : List (List ℕ)) → AllRead w c children forest → Met w c met texts
      → LeadsChild w c (child_at children n) met (parameters_in c11_declarators n forest texts)
  leads-in w c None children forest met texts read above = above
  leads-in w c (Some zero) _ _ met texts none_read above = above
  leads-in w c (Some (suc n)) _ _ met texts none_read above = above
  leads-in w c (Some zero) _ _ met texts (more_read child children tree forest first rest) above = leads w c child.0 tree met texts first above
  leads-in w c (Some (suc n)) _ _ met texts (more_read child children tree forest first rest) above = leads-in w c (Some n) children forest met texts rest above

-- ---- back along the list

AreParameters-push : (w : Tables) (c : List ℕ) (ids : List TreeId) (texts : List (List ℕ)) (id : TreeId) (tree : Tree) → AreParameters w c ids texts → IsNoChoice w.lines id → Reads w c id.0 tree
    → AreParameters w c (ids ++ id ∷ []) (texts ++ last_parameter tree)
AreParameters-push w c _ _ id tree no_parameters plain read =
    subst (λ ts. AreParameters w c (id ∷ []) ts) (append-nil (last_parameter tree)) (more_parameters id tree [] [] plain read no_parameters)
AreParameters-push w c _ _ id tree (more_parameters x first ids texts x_plain x_read rest) plain read =
    subst (λ ts. AreParameters w c (x ∷ (ids ++ id ∷ [])) ts) (sym (append_assoc (last_parameter first) texts (last_parameter tree)))
    (more_parameters x first (ids ++ id ∷ []) (texts ++ last_parameter tree) x_plain x_read (AreParameters-push w c ids texts id tree rest plain read))

-- the walk back from a list, and the names in it
pub record Lists (w : Tables) (c : List ℕ) (id : TreeId) (texts : List (List ℕ)) : Type 0 where
  pub path : List TreeId
  pub follows : Follows earlier_child w.sets w.lines c id path
  pub each : AreParameters w c (reverse path) texts

-- the earlier parameters, where there are some
abbrev ListsChild : Tables → List ℕ → Option TreeId → List (List ℕ) → Type 0
ListsChild w c None texts = texts ≡ []
ListsChild w c (Some child) texts = Lists w c child texts

back-node : (w : Tables) (c : List ℕ) (id : TreeId) (production : ℕ) (children : List TreeId) (forest : Forest) (texts : List (List ℕ)) (child : Option TreeId)
    → slice_get w.lines id.0 ≡ Some (node production children) → Reads w c id.0 (trees.node production forest)
    → child_at children (earlier_child production) ≡ child → ListsChild w c child texts → Lists w c id (texts ++ last_parameter (trees.node production forest))
back-node w c id production children forest texts None at read next none = record {
  path = id ∷ [];
  follows = ends id (node production children) at refl next;
  each = subst (λ ts. AreParameters w c (id ∷ []) (ts ++ last_parameter (trees.node production forest))) (sym none)
      (AreParameters-push w c [] [] id (trees.node production forest) no_parameters (record { line = node production children; at = at; plain = refl }) read);
}
back-node w c id production children forest texts (Some child) at read next rest = record {
  path = id ∷ rest.path;
  follows = goes_on id child (node production children) rest.path at next rest.follows;
  each = subst (λ ids. AreParameters w c ids (texts ++ last_parameter (trees.node production forest))) (sym (reverse-append (id ∷ []) rest.path))
      (AreParameters-push w c (reverse rest.path) texts id (trees.node production forest) rest.each (record { line = node production children; at = at; plain = refl }) read);
}

mutual
  pub lists : (w : Tables) (c : List ℕ) (id : ℕ) (tree : Tree) → Reads w c id tree → Lists w c (record { 0 = id }) (plain.listed c11_declarators tree)
  lists w c id _ (leaf_reads _ place spelling token at token_at) = record {
    path = record { 0 = id } ∷ [];
    follows = ends (record { 0 = id }) (leaf place spelling) at refl refl;
    each = more_parameters (record { 0 = id }) (trees.leaf token) [] [] (record { line = leaf place spelling; at = at; plain = refl }) (leaf_reads id place spelling token at token_at) no_parameters;
  }
  lists w c id _ (node_reads _ production children forest at read) =
      back-node w c (record { 0 = id }) production children forest (plain.listed_in c11_declarators (earlier_child production) forest) (child_at children (earlier_child production)) at
      (node_reads id production children forest at read) refl (lists-in w c (earlier_child production) children forest read)
  lists w c id tree (choice_reads _ branches child _ at own one read) =
      let rest = lists w c child.0 tree read in
      record { path = rest.path; follows = chooses (record { 0 = id }) child branches rest.path at one rest.follows; each = rest.each }

  lists-in : (w : Tables) (c : List ℕ) (n : Option ℕ) (children : List TreeId) (forest : Forest) → AllRead w c children forest
      → ListsChild w c (child_at children n) (plain.listed_in c11_declarators n forest)
  lists-in w c None children forest read = refl
  lists-in w c (Some zero) _ _ none_read = refl
  lists-in w c (Some (suc n)) _ _ none_read = refl
  lists-in w c (Some zero) _ _ (more_read child children tree forest first rest) = lists w c child.0 tree first
  lists-in w c (Some (suc n)) _ _ (more_read child children tree forest first rest) = lists-in w c (Some n) children forest rest

-- the walk back from the list that was met, if one was
pub record Walks (w : Tables) (c : List ℕ) (met : List TreeId) (texts : List (List ℕ)) : Type 0 where
  pub path : List TreeId
  pub walked : Walked earlier_child w.sets w.lines c met path
  pub each : AreParameters w c (reverse path) texts

pub walks : (old new : Tables) (c : List ℕ) (met : List TreeId) (texts : List (List ℕ)) → Grows old new → IsConfig old.sets.arities c → Met old c met texts → Walks new c met texts
walks old new c _ _ grows is no_list = record { path = []; walked = nowhere; each = no_parameters }
walks old new c _ _ grows is (a_list id tree read) =
    let way = lists new c id.0 tree (Reads-Grows old new c id.0 tree grows is read) in
    record { path = way.path; walked = from_tree id way.path way.follows; each = way.each }

-- ---- more lists

pub AreParameters-Grows : (old new : Tables) (c : List ℕ) (ids : List TreeId) (texts : List (List ℕ)) → Grows old new → IsConfig old.sets.arities c → AreParameters old c ids texts → AreParameters new c ids texts
AreParameters-Grows old new c _ _ grows is no_parameters = no_parameters
AreParameters-Grows old new c _ _ grows is (more_parameters id tree ids texts plain read rest) =
    more_parameters id tree ids texts (record { line = plain.line; at = Extends-keeps _ _ plain.at grows.lines; plain = plain.plain }) (Reads-Grows old new c id.0 tree grows is read)
    (AreParameters-Grows old new c ids texts grows is rest)

-- the names in lists that are joined
pub record Split (w : Tables) (c : List ℕ) (xs ys : List TreeId) (texts : List (List ℕ)) : Type 0 where
  pub left : List (List ℕ)
  pub right : List (List ℕ)
  pub first : AreParameters w c xs left
  pub second : AreParameters w c ys right
  pub joined : texts ≡ left ++ right

pub split : (w : Tables) (c : List ℕ) (xs ys : List TreeId) (texts : List (List ℕ)) → AreParameters w c (xs ++ ys) texts → Split w c xs ys texts
split w c [] ys texts all = record { left = []; right = texts; first = no_parameters; second = all; joined = refl }
split w c (x ∷ xs) ys _ (more_parameters _ tree _ texts plain read rest) =
    let s = split w c xs ys texts rest in
    record {
      left = last_parameter tree ++ s.left;
      right = s.right;
      first = more_parameters x tree xs s.left plain read s.first;
      second = s.second;
      joined = ap (λ ts. last_parameter tree ++ ts) s.joined ∙ sym (append_assoc (last_parameter tree) s.left s.right);
    }

pub Spells-append : (names : List (List ℕ)) (xs ys : List Name) (left right : List (List ℕ)) → Spells names xs left → Spells names ys right → Spells names (xs ++ ys) (left ++ right)
Spells-append names xs ys left right first second = record {
  same = map-append (λ (name : Name). slice_get names name.0) xs ys
      ∙ ap (λ zs. zs ++ map (λ (name : Name). slice_get names name.0) ys) first.same
      ∙ ap (λ zs. map (λ (text : List ℕ). Some text) left ++ zs) second.same
      ∙ sym (map-append (λ (text : List ℕ). Some text) left right);
}

-- ---- one parameter

-- the tree that is the parameter
pub record LastReads (w : Tables) (c : List ℕ) (last : TreeId) (texts : List (List ℕ)) : Type 0 where
  pub tree : Tree
  pub read : Reads w c last.0 tree
  pub same : parameter c11_declarators tree ≡ texts

-- the same, where there is one
abbrev LastAt : Tables → List ℕ → Option TreeId → List (List ℕ) → Type 0
LastAt w c None texts = texts ≡ []
LastAt w c (Some last) texts = LastReads w c last texts

last-in : (w : Tables) (c : List ℕ) (n : Option ℕ) (children : List TreeId) (forest : Forest) → AllRead w c children forest → LastAt w c (child_at children n) (parameter_in c11_declarators n forest)
last-in w c None children forest read = refl
last-in w c (Some zero) _ _ none_read = refl
last-in w c (Some (suc n)) _ _ none_read = refl
last-in w c (Some zero) _ _ (more_read child children tree forest first rest) = record { tree = tree; read = first; same = refl }
last-in w c (Some (suc n)) _ _ (more_read child children tree forest first rest) = last-in w c (Some n) children forest rest

last-at : (w : Tables) (c : List ℕ) (id : TreeId) (line : Line) (tree : Tree) → slice_get w.lines id.0 ≡ Some line → is_choice line ≡ false → Reads w c id.0 tree
    → LastAt w c (last_of line id) (last_parameter tree)
last-at w c id line _ here no_choice (leaf_reads _ place spelling token at token_at) =
    subst (λ (l : Line). LastAt w c (last_of l id) []) (same_Some (leaf place spelling) line (sym at ∙ here)) refl
last-at w c id line _ here no_choice (node_reads _ production children forest at read) =
    subst (λ (l : Line). LastAt w c (last_of l id) (last_parameter (trees.node production forest))) (same_Some (node production children) line (sym at ∙ here)) (by (is_parameter production) refl)
  where
    by : (b : Bool) → is_parameter production ≡ b → LastAt w c (if is_parameter production then Some id else child_at children (last_child production)) (last_parameter (trees.node production forest))
    by true told =
        subst (λ t. LastAt w c (if t then Some id else child_at children (last_child production))
        (if t then declared c11_declarators (trees.node production forest) else parameter_in c11_declarators (last_child production) forest)) (sym told)
        (record { tree = trees.node production forest; read = node_reads id.0 production children forest at read; same = ap (λ t. if t then declared c11_declarators (trees.node production forest) else []) told })
    by false told =
        subst (λ t. LastAt w c (if t then Some id else child_at children (last_child production))
        (if t then declared c11_declarators (trees.node production forest) else parameter_in c11_declarators (last_child production) forest)) (sym told)
        (last-in w c (last_child production) children forest read)
last-at w c id line tree here no_choice (choice_reads _ branches child _ at own one read) =
    absurd (false≢true (sym no_choice ∙ ap is_choice (sym (same_Some (choice branches) line (sym at ∙ here)))))

pub last-reads : (w : Tables) (c : List ℕ) (id last : TreeId) (line : Line) (tree : Tree) → slice_get w.lines id.0 ≡ Some line → last_of line id ≡ Some last → IsNoChoice w.lines id → Reads w c id.0 tree
    → LastReads w c last (last_parameter tree)
last-reads w c id last line tree here is plain read =
    let same : plain.line ≡ line = same_Some plain.line line (sym plain.at ∙ here) in
    subst (λ l. LastAt w c l (last_parameter tree)) is (last-at w c id line tree here (ap is_choice (sym same) ∙ plain.plain) read)

pub last-none : (w : Tables) (c : List ℕ) (id : TreeId) (line : Line) (tree : Tree) → slice_get w.lines id.0 ≡ Some line → last_of line id ≡ None → IsNoChoice w.lines id → Reads w c id.0 tree
    → last_parameter tree ≡ []
last-none w c id line tree here is plain read =
    let same : plain.line ≡ line = same_Some plain.line line (sym plain.at ∙ here) in
    subst (λ l. LastAt w c l (last_parameter tree)) is (last-at w c id line tree here (ap is_choice (sym same) ∙ plain.plain) read)

pub last-below : (bound : ℕ) (line : Line) (id last : TreeId) → last_of line id ≡ Some last → id.0 < bound → All (λ (child : TreeId). child.0 < bound) (children_of line) → last.0 < bound
last-below bound (leaf place spelling) id last is within below = absurd (none-some last is)
last-below bound (choice branches) id last is within below = absurd (none-some last is)
last-below bound (node production children) id last is within below = by (is_parameter production) is
  where
    by : (b : Bool) → (if b then Some id else child_at children (last_child production)) ≡ Some last → last.0 < bound
    by true at = subst (λ (x : TreeId). x.0 < bound) (same_Some id last at) within
    by false at = child-below last_child bound (node production children) last at below

-- ---- a tree behind choices

abbrev pub nowhere_on : ℕ → Option ℕ
nowhere_on = λ production. None

-- the token or node that is found
pub record Behind (w : Tables) (c : List ℕ) (id : TreeId) (tree : Tree) : Type 0 where
  pub found : TreeId
  pub line : Line
  pub follows : Follows nowhere_on w.sets w.lines c id (found ∷ [])
  pub at : slice_get w.lines found.0 ≡ Some line
  pub plain : is_choice line ≡ false
  pub read : Reads w c found.0 tree

pub behind : (w : Tables) (c : List ℕ) (id : ℕ) (tree : Tree) → Reads w c id tree → Behind w c (record { 0 = id }) tree
behind w c id _ (leaf_reads _ place spelling token at token_at) = record {
  found = record { 0 = id };
  line = leaf place spelling;
  follows = ends (record { 0 = id }) (leaf place spelling) at refl refl;
  at = at;
  plain = refl;
  read = leaf_reads id place spelling token at token_at;
}
behind w c id _ (node_reads _ production children forest at read) = record {
  found = record { 0 = id };
  line = node production children;
  follows = ends (record { 0 = id }) (node production children) at refl refl;
  at = at;
  plain = refl;
  read = node_reads id production children forest at read;
}
behind w c id tree (choice_reads _ branches child _ at own one read) =
    let rest = behind w c child.0 tree read in
    record {
      found = rest.found;
      line = rest.line;
      follows = chooses (record { 0 = id }) child branches (rest.found ∷ []) at one rest.follows;
      at = rest.at;
      plain = rest.plain;
      read = rest.read;
    }

-- the walk from the tree to its name, where it is a parameter
pub record Named (w : Tables) (c : List ℕ) (ids : List TreeId) (texts : List (List ℕ)) : Type 0 where
  pub path : List TreeId
  pub walked : Walked declarator_child w.sets w.lines c ids path
  pub spells : Spells w.names (leaf_names w.lines path) texts

no-name : (w : Tables) (c : List ℕ) → Named w c [] []
no-name w c = record { path = []; walked = nowhere; spells = record { same = refl } }

pub named : (w : Tables) (c : List ℕ) (id : TreeId) (line : Line) (tree : Tree) → slice_get w.lines id.0 ≡ Some line → is_choice line ≡ false → Reads w c id.0 tree
    → Named w c (filter (λ (x : TreeId). is_named (slice_get w.lines x.0)) (id ∷ [])) (parameter c11_declarators tree)
named w c id line _ here plain (leaf_reads _ place spelling token at token_at) =
    subst (λ l. Named w c (if is_named l then id ∷ [] else []) []) (sym at) (no-name w c)
named w c id line _ here plain (node_reads _ production children forest at read) =
    subst (λ l. Named w c (if is_named l then id ∷ [] else []) (parameter c11_declarators (trees.node production forest))) (sym at) (by (is_parameter production))
  where
    way : Declares w c id (declared c11_declarators (trees.node production forest))
    way = declares w c id.0 (trees.node production forest) (node_reads id.0 production children forest at read)

    by : (b : Bool) → Named w c (if b then id ∷ [] else []) (if b then declared c11_declarators (trees.node production forest) else [])
    by true = record { path = way.path; walked = from_tree id way.path way.follows; spells = way.spells }
    by false = no-name w c
named w c id line tree here plain (choice_reads _ branches child _ at own one read) =
    absurd (false≢true (sym plain ∙ ap is_choice (sym (same_Some (choice branches) line (sym at ∙ here)))))

-- ---- the names that are found

pub name-at : (old mid new : Sets) (names files : List (List ℕ)) (lines : List Line) (d : List ℕ) (id : TreeId) (tree : Tree) (starts trees named_trees : List (Cond × TreeId)) (found : List (Cond × Name))
    → Keeps old mid → IsConfig old.arities d → items_at old starts d ≡ id ∷ []
    → ((path : List TreeId) → Walked nowhere_on old lines d (items_at old starts d) path → items_at mid trees d ≡ path)
    → named_trees ≡ filter (is_named_at lines) trees
    → ((path : List TreeId) → Walked declarator_child mid lines d (items_at mid named_trees d) path → items_at new found d ≡ leaf_names lines path)
    → Reads (record { sets = old; names = names; files = files; lines = lines }) d id.0 tree → Spells names (items_at new found d) (parameter c11_declarators tree)
name-at old mid new names files lines d id tree starts trees named_trees found keeps is one walks_to filtered names_of read =
    let before : Tables = record { sets = old; names = names; files = files; lines = lines } in
    let after : Tables = record { sets = mid; names = names; files = files; lines = lines } in
    let grows : Grows before after = record { sets = keeps; names = Extends-refl names; files = Extends-refl files; lines = Extends-refl lines } in
    let b = behind before d id.0 tree read in
    let n = named after d b.found b.line tree b.at b.plain (Reads-Grows before after d b.found.0 tree grows is b.read) in
    let test : TreeId → Bool = λ x. is_named (slice_get lines x.0) in
    let at : items_at mid named_trees d ≡ filter test (b.found ∷ []) =
    ap (λ ts. items_at mid ts d) filtered ∙ items_at-filter mid test trees d
    ∙ ap (filter test) (walks_to (b.found ∷ []) (subst (λ ids. Walked nowhere_on old lines d ids (b.found ∷ [])) (sym one) (from_tree id (b.found ∷ []) b.follows))) in
    record { same = ap (map (λ (name : Name). slice_get names name.0)) (names_of n.path (subst (λ ids. Walked declarator_child mid lines d ids n.path) (sym at) n.walked)) ∙ n.spells.same }

pub no-name-at : (old mid new : Sets) (lines : List Line) (d : List ℕ) (starts trees named_trees : List (Cond × TreeId)) (found : List (Cond × Name)) → items_at old starts d ≡ []
    → ((path : List TreeId) → Walked nowhere_on old lines d (items_at old starts d) path → items_at mid trees d ≡ path)
    → named_trees ≡ filter (is_named_at lines) trees
    → ((path : List TreeId) → Walked declarator_child mid lines d (items_at mid named_trees d) path → items_at new found d ≡ leaf_names lines path)
    → items_at new found d ≡ []
no-name-at old mid new lines d starts trees named_trees found none walks_to filtered names_of =
    let test : TreeId → Bool = λ x. is_named (slice_get lines x.0) in
    let at : items_at mid named_trees d ≡ [] =
    ap (λ ts. items_at mid ts d) filtered ∙ items_at-filter mid test trees d
    ∙ ap (filter test) (walks_to [] (subst (λ ids. Walked nowhere_on old lines d ids []) (sym none) nowhere)) in
    names_of [] (subst (λ ids. Walked declarator_child mid lines d ids []) (sym at) nowhere)

pub last-at-name : (w : Tables) (c : List ℕ) (id last : TreeId) (line : Line) (tree : Tree) (found : List Name) → slice_get w.lines id.0 ≡ Some line → last_of line id ≡ Some last → IsNoChoice w.lines id → Reads w c id.0 tree
    → ((part : Tree) → Reads w c last.0 part → Spells w.names found (parameter c11_declarators part)) → Spells w.names found (last_parameter tree)
last-at-name w c id last line tree found here is plain read names_of =
    let r = last-reads w c id last line tree here is plain read in
    subst (λ ts. Spells w.names found ts) r.same (names_of r.tree r.read)

-- one list more
pub names-more : (s0 s1 s2 : Sets) (names files : List (List ℕ)) (lines : List Line) (trees : List (Cond × TreeId)) (i : ℕ) (z : Cond × TreeId) (before found after : List (Cond × Name)) (d : List ℕ) (texts : List (List ℕ))
    → Keeps s0 s1 → Keeps s1 s2 → IsConfig s0.arities d → i < length trees → All (λ (tree : Cond × TreeId). IsCond s0 tree.0.0) trees → All (λ (name : Cond × Name). IsCond s1 name.0.0) before
    → ((ts : List (List ℕ)) → AreParameters (record { sets = s0; names = names; files = files; lines = lines }) d (items_at s0 (take i trees) d) ts → Spells names (items_at s1 before d) ts)
    → ((tree : Tree) → s1.has (get_or trees i z).0.0 d ≡ true → IsNoChoice lines (get_or trees i z).1
    → Reads (record { sets = s1; names = names; files = files; lines = lines }) d (get_or trees i z).1.0 tree → Spells names (items_at s2 found d) (last_parameter tree))
    → (s1.has (get_or trees i z).0.0 d ≡ false → items_at s2 found d ≡ [])
    → after ≡ before ++ found
    → AreParameters (record { sets = s0; names = names; files = files; lines = lines }) d (items_at s0 (take (i + 1) trees) d) texts → Spells names (items_at s2 after d) texts
names-more s0 s1 s2 names files lines trees i z before found after d texts keeps keeps_and is within own owns spelled one none added all = by (s0.has tree.0.0 d) refl
  where
    tree : Cond × TreeId
    tree = get_or trees i z

    w : Tables
    w = record { sets = s0; names = names; files = files; lines = lines }

    now : Tables
    now = record { sets = s1; names = names; files = files; lines = lines }

    grows : Grows w now
    grows = record { sets = keeps; names = Extends-refl names; files = Extends-refl files; lines = Extends-refl lines }

    has-now : s1.has tree.0.0 d ≡ s0.has tree.0.0 d
    has-now = keeps.at tree.0.0 d (own i z within) is

    seen : items_at s2 after d ≡ items_at s1 before d ++ items_at s2 found d
    seen = ap (λ ns. items_at s2 ns d) added ∙ items_at-append s2 before found d ∙ ap (λ ns. ns ++ items_at s2 found d) (items_at-Keeps before d keeps_and owns (IsConfig-Keeps keeps is))

    ids : items_at s0 (take (i + 1) trees) d ≡ items_at s0 (take i trees) d ++ (if s0.has tree.0.0 d then tree.1 ∷ [] else [])
    ids = ap (λ ts. items_at s0 ts d) (take_more trees i z within) ∙ items_at-append s0 (take i trees) (tree ∷ []) d

    last : (ts : List (List ℕ)) → s0.has tree.0.0 d ≡ true → AreParameters w d (tree.1 ∷ []) ts → Spells names (items_at s2 found d) ts
    last _ has (more_parameters _ t _ _ plain read no_parameters) =
        subst (λ ts. Spells names (items_at s2 found d) ts) (sym (append-nil (last_parameter t))) (one t (has-now ∙ has) plain (Reads-Grows w now d tree.1.0 t grows is read))

    no-last : (ts : List (List ℕ)) → s0.has tree.0.0 d ≡ false → AreParameters w d [] ts → Spells names (items_at s2 found d) ts
    no-last _ has no_parameters = record { same = ap (map (λ (name : Name). slice_get names name.0)) (none (has-now ∙ has)) }

    joined : (more : List TreeId) → Split w d (items_at s0 (take i trees) d) more texts → ((ts : List (List ℕ)) → AreParameters w d more ts → Spells names (items_at s2 found d) ts) → Spells names (items_at s2 after d) texts
    joined more s rest =
        subst (λ ts. Spells names (items_at s2 after d) ts) (sym s.joined)
        (subst (λ ns. Spells names ns (s.left ++ s.right)) (sym seen) (Spells-append names (items_at s1 before d) (items_at s2 found d) s.left s.right (spelled s.left s.first) (rest s.right s.second)))

    by : (b : Bool) → s0.has tree.0.0 d ≡ b → Spells names (items_at s2 after d) texts
    by true has =
        joined (tree.1 ∷ []) (split w d (items_at s0 (take i trees) d) (tree.1 ∷ []) texts
        (subst (λ xs. AreParameters w d xs texts) (ids ∙ ap (λ b. items_at s0 (take i trees) d ++ (if b then tree.1 ∷ [] else [])) has) all)) (λ ts. last ts has)
    by false has =
        joined [] (split w d (items_at s0 (take i trees) d) [] texts
        (subst (λ xs. AreParameters w d xs texts) (ids ∙ ap (λ b. items_at s0 (take i trees) d ++ (if b then tree.1 ∷ [] else [])) has) all)) (λ ts. no-last ts has)

-- ---- the whole

pub parameters-at : (s0 s1 s2 s3 s4 : Sets) (names files : List (List ℕ)) (lines : List Line) (d : List ℕ) (id : TreeId) (tree : Tree) (starts way lists_found parts : List (Cond × TreeId)) (found : List (Cond × Name))
    → Keeps s0 s1 → Keeps s1 s2 → Keeps s2 s3 → IsConfig s0.arities d → items_at s0 starts d ≡ id ∷ []
    → ((path : List TreeId) → Walked declarator_child s0 lines d (items_at s0 starts d) path → items_at s1 way d ≡ reverse path)
    → items_at s2 lists_found d ≡ first_list lines (items_at s1 way d) []
    → ((path : List TreeId) → Walked earlier_child s2 lines d (items_at s2 lists_found d) path → items_at s3 parts d ≡ reverse path)
    → ((texts : List (List ℕ)) → AreParameters (record { sets = s3; names = names; files = files; lines = lines }) d (items_at s3 parts d) texts → Spells names (items_at s4 found d) texts)
    → Reads (record { sets = s0; names = names; files = files; lines = lines }) d id.0 tree → Spells names (items_at s4 found d) (parameters_below c11_declarators tree [])
parameters-at s0 s1 s2 s3 s4 names files lines d id tree starts way lists_found parts found k1 k2 k3 is one walks_down listed_at walks_back names_of read =
    let w0 : Tables = record { sets = s0; names = names; files = files; lines = lines } in
    let w2 : Tables = record { sets = s2; names = names; files = files; lines = lines } in
    let w3 : Tables = record { sets = s3; names = names; files = files; lines = lines } in
    let k02 = Keeps-trans k1 k2 in
    let to2 : Grows w0 w2 = record { sets = k02; names = Extends-refl names; files = Extends-refl files; lines = Extends-refl lines } in
    let to3 : Grows w2 w3 = record { sets = k3; names = Extends-refl names; files = Extends-refl files; lines = Extends-refl lines } in
    let down = leads w0 d id.0 tree [] [] read no_list in
    let here = walks w0 w2 d (first_list lines (reverse down.path) []) (parameters_below c11_declarators tree []) to2 is down.list in
    let at : items_at s2 lists_found d ≡ first_list lines (reverse down.path) [] =
    listed_at ∙ ap (λ ids. first_list lines ids []) (walks_down down.path (subst (λ ids. Walked declarator_child s0 lines d ids down.path) (sym one) (from_tree id down.path down.follows))) in
    let back = walks_back here.path (subst (λ ids. Walked earlier_child s2 lines d ids here.path) (sym at) here.walked) in
    names_of (parameters_below c11_declarators tree [])
    (subst (λ ids. AreParameters w3 d ids (parameters_below c11_declarators tree [])) (sym back)
    (AreParameters-Grows w2 w3 d (reverse here.path) (parameters_below c11_declarators tree []) to3 (IsConfig-Keeps k02 is) here.each))
