-- What stands at one configuration, of lists of trees that are turned round, filtered or noted.
use Rattle.std.proofs.Common.{◌≡◌, ℕ, ◌<◌, ◌+◌, ◌&&◌, not, Bool, true, false, cond, List, [], ◌∷◌, ◌++◌, length, map, take, get_or, reverse, All, Option, Some, slice_get, refl, sym, ap, ◌∙◌, subst, if◌then◌else◌}
use Rattle.std.proofs.lemmas.List.{append-nil, reverse-append, take_more}
use Rattle.std.proofs.lemmas.List.Elements.{All-cons, All-nil, All-append, All-filter, filter-append}
use Rattle.std.specs.List.{filter}
use Rattle.c11_parsing.specs.C11.{parameters_child}
use Rattle.sc_base.specs.declared.id.Cond.{Cond}
use Rattle.sc_base.specs.declared.id.Name.{Name}
use Rattle.sc_base.specs.declared.id.TreeId.{TreeId}
use Rattle.sc_guarded.specs.Items.{items_at}
use Rattle.sc_guarded.proofs.ItemLemmas.{items_at-append, items_at-Keeps}
use Rattle.sc_model.specs.Sets.{Sets, IsConfig, IsCond, Denotes, Keeps}
use Rattle.sc_model.proofs.SetLemmas.{Denotes-Keeps, Denotes-self, IsConfig-Keeps, Keeps-trans}
use Rattle.sc_tree.proofs.Steps.{line-at}
use Rattle.sc_tree.proofs.WalkLemmas.{met-has}
use Rattle.sc_tree.specs.declared.line.Line as kept
use Rattle.sc_tree.specs.Lines.{Line, node}
use Rattle.sc_tree.specs.Parameters.{list_at, list_of, first_list, is_named}
use Rattle.sc_tree.specs.Views.{line_of}
use Rattle.sc_tree.specs.Walks.{listed}

module _ {T : Type 0} where
  pub items_at-reverse : (s : Sets) (xs : List (Cond × T)) (c : List ℕ) → items_at s (reverse xs) c ≡ reverse (items_at s xs c)
  items_at-reverse s [] c = refl
  items_at-reverse s (x ∷ xs) c =
      ap (λ ys. items_at s ys c) (reverse-append (x ∷ []) xs) ∙ items_at-append s (reverse xs) (x ∷ []) c
      ∙ ap (λ ys. ys ++ items_at s (x ∷ []) c) (items_at-reverse s xs c) ∙ by (s.has x.0.0 c)
    where
      by : (b : Bool) → reverse (items_at s xs c) ++ (if b then x.1 ∷ [] else []) ≡ reverse (if b then x.1 ∷ items_at s xs c else items_at s xs c)
      by true = sym (reverse-append (x.1 ∷ []) (items_at s xs c))
      by false = append-nil (reverse (items_at s xs c))

  pub items_at-filter : (s : Sets) (p : T → Bool) (xs : List (Cond × T)) (c : List ℕ) → items_at s (filter (λ (x : Cond × T). p x.1) xs) c ≡ filter p (items_at s xs c)
  items_at-filter s p [] c = refl
  items_at-filter s p (x ∷ xs) c = by (p x.1) refl (items_at-filter s p xs c)
    where
      keeps-it : p x.1 ≡ true → (h : Bool) → items_at s (filter (λ (y : Cond × T). p y.1) xs) c ≡ filter p (items_at s xs c)
          → (if h then x.1 ∷ items_at s (filter (λ (y : Cond × T). p y.1) xs) c else items_at s (filter (λ (y : Cond × T). p y.1) xs) c) ≡ filter p (if h then x.1 ∷ items_at s xs c else items_at s xs c)
      keeps-it told true rest = ap (λ ys. x.1 ∷ ys) rest ∙ ap (λ b. cond b (x.1 ∷ filter p (items_at s xs c)) (filter p (items_at s xs c))) (sym told)
      keeps-it told false rest = rest

      drops-it : p x.1 ≡ false → (h : Bool) → items_at s (filter (λ (y : Cond × T). p y.1) xs) c ≡ filter p (items_at s xs c)
          → items_at s (filter (λ (y : Cond × T). p y.1) xs) c ≡ filter p (if h then x.1 ∷ items_at s xs c else items_at s xs c)
      drops-it told true rest = rest ∙ ap (λ b. cond b (x.1 ∷ filter p (items_at s xs c)) (filter p (items_at s xs c))) (sym told)
      drops-it told false rest = rest

      by : (a : Bool) → p x.1 ≡ a → items_at s (filter (λ (y : Cond × T). p y.1) xs) c ≡ filter p (items_at s xs c)
          → items_at s (cond a (x ∷ filter (λ (y : Cond × T). p y.1) xs) (filter (λ (y : Cond × T). p y.1) xs)) c ≡ filter p (items_at s (x ∷ xs) c)
      by true told rest = keeps-it told (s.has x.0.0 c) rest
      by false told rest = drops-it told (s.has x.0.0 c) rest

-- ---- lists are noted

notes-if : (items own met : List TreeId) (l h : Bool) → (items ++ (if l && h then own else [])) ++ (if l && not h then met else []) ≡ items ++ (if l then (if h then own else met) else [])
notes-if items own met true true = append-nil (items ++ own)
notes-if items own met true false = ap (λ xs. xs ++ met) (append-nil items)
notes-if items own met false h = append-nil (items ++ [])

-- the configurations that are left have no list
pub rest-has : (s0 s1 s2 : Sets) (left cond rest : Cond) (d : List ℕ) → Keeps s0 s1 → Keeps s1 s2 → IsConfig s0.arities d → IsCond s0 left.0 → IsCond s0 cond.0
    → ((f g : List ℕ → Bool) → Denotes s1 left.0 f → Denotes s1 cond.0 g → Denotes s2 rest.0 (λ c. f c && not (g c)))
    → s2.has rest.0 d ≡ (s0.has left.0 d && not (s0.has cond.0 d))
rest-has s0 s1 s2 left cond rest d k1 k2 is own_left own_cond leaves =
    (leaves _ _ (Denotes-Keeps k1 (Denotes-self s0 left.0 own_left)) (Denotes-Keeps k1 (Denotes-self s0 cond.0 own_cond))).at d (IsConfig-Keeps (Keeps-trans k1 k2) is)

-- those of the condition have the list
pub part-has : (s0 s1 s3 : Sets) (left cond part : Cond) (d : List ℕ) → Keeps s0 s1 → Keeps s1 s3 → IsConfig s0.arities d → IsCond s0 left.0 → IsCond s0 cond.0 → IsCond s1 part.0
    → ((f g : List ℕ → Bool) → Denotes s0 left.0 f → Denotes s0 cond.0 g → Denotes s1 part.0 (λ c. f c && g c))
    → s3.has part.0 d ≡ (s0.has left.0 d && s0.has cond.0 d)
part-has s0 s1 s3 left cond part d k1 k3 is own_left own_cond own_part meets =
    k3.at part.0 d own_part (IsConfig-Keeps k1 is) ∙ met-has s0 s1 left.0 cond.0 part.0 d meets own_left own_cond k1 is

-- the list of a tree that declares a function
pub list-here : (line : Line) (production place : ℕ) (children own : List TreeId) (child : Option TreeId) → line ≡ node production children → parameters_child production ≡ Some place
    → own ≡ children → child ≡ slice_get own place → (met : List TreeId) → listed child ≡ list_of (Some line) met
list-here line production place children own child is at same told met =
    ap listed (told ∙ ap (λ cs. slice_get cs place) same) ∙ ap (λ n. list_at children n met) (sym at) ∙ ap (λ (l : Line). list_of (Some l) met) (sym is)

-- a list is noted, or the tree has none
pub notes : (old new : Sets) (lists after : List (Cond × TreeId)) (left cond rest : Cond) (own met : List TreeId) (d : List ℕ)
    → items_at new after d ≡ items_at old lists d ++ (if old.has left.0 d && old.has cond.0 d then own else [])
    → new.has rest.0 d ≡ (old.has left.0 d && not (old.has cond.0 d))
    → (line : Line) → own ≡ list_of (Some line) met
    → items_at new after d ++ (if new.has rest.0 d then met else []) ≡ items_at old lists d ++ (if old.has left.0 d then (if old.has cond.0 d then list_of (Some line) met else met) else [])
notes old new lists after left cond rest own met d noted is_left line is_own =
    ap (λ xs. xs ++ (if new.has rest.0 d then met else [])) noted
    ∙ ap (λ b. (items_at old lists d ++ (if old.has left.0 d && old.has cond.0 d then own else [])) ++ (if b then met else [])) is_left
    ∙ notes-if (items_at old lists d) own met (old.has left.0 d) (old.has cond.0 d)
    ∙ ap (λ ids. items_at old lists d ++ (if old.has left.0 d then (if old.has cond.0 d then ids else met) else [])) is_own

pub noted-none : (old new : Sets) (lists : List (Cond × TreeId)) (d : List ℕ) (b : Bool) → Keeps old new → All (λ (list : Cond × TreeId). IsCond old list.0.0) lists → IsConfig old.arities d
    → items_at new lists d ≡ items_at old lists d ++ (if b then [] else [])
noted-none old new lists d b keeps own is = items_at-Keeps lists d keeps own is ∙ nothing b
  where
    nothing : (b : Bool) → items_at old lists d ≡ items_at old lists d ++ (if b then [] else [])
    nothing true = sym (append-nil (items_at old lists d))
    nothing false = sym (append-nil (items_at old lists d))

pub noted-one : (old new : Sets) (lists after : List (Cond × TreeId)) (part : Cond) (id : TreeId) (d : List ℕ) (b : Bool) → Keeps old new → All (λ (list : Cond × TreeId). IsCond old list.0.0) lists
    → IsConfig old.arities d → after ≡ lists ++ (part, id) ∷ [] → new.has part.0 d ≡ b → items_at new after d ≡ items_at old lists d ++ (if b then id ∷ [] else [])
noted-one old new lists after part id d b keeps own is added has =
    ap (λ xs. items_at new xs d) added ∙ items_at-append new lists ((part, id) ∷ []) d
    ∙ ap (λ xs. xs ++ (if new.has part.0 d then id ∷ [] else [])) (items_at-Keeps lists d keeps own is)
    ∙ ap (λ h. items_at old lists d ++ (if h then id ∷ [] else [])) has

pub own-noted : (old new : Sets) (part : Cond) (id : TreeId) (lists after : List (Cond × TreeId)) → after ≡ lists ++ (part, id) ∷ [] → Keeps old new
    → All (λ (list : Cond × TreeId). IsCond old list.0.0) lists → IsCond new part.0 → All (λ (list : Cond × TreeId). IsCond new list.0.0) after
own-noted old new part id lists after added keeps owns own =
    let P : Cond × TreeId → Type 0 = λ list. IsCond new list.0.0 in
    subst (λ (ls : List (Cond × TreeId)). All P ls) (sym added) (All-append P lists ((part, id) ∷ []) (λ k d below. keeps.own _ (owns k d below)) (All-cons P (part, id) [] own (All-nil P)))

pub own-joined : (old new : Sets) (before found after : List (Cond × Name)) → after ≡ before ++ found → Keeps old new → All (λ (name : Cond × Name). IsCond old name.0.0) before
    → All (λ (name : Cond × Name). IsCond new name.0.0) found → All (λ (name : Cond × Name). IsCond new name.0.0) after
own-joined old new before found after added keeps owns own =
    let P : Cond × Name → Type 0 = λ name. IsCond new name.0.0 in
    subst (λ (ns : List (Cond × Name)). All P ns) (sym added) (All-append P before found (λ k d below. keeps.own _ (owns k d below)) own)

-- ---- the first lists

first_list-append : (lines : List Line) (xs ys met : List TreeId) → first_list lines (xs ++ ys) met ≡ first_list lines xs (first_list lines ys met)
first_list-append lines [] ys met = refl
first_list-append lines (x ∷ xs) ys met = ap (λ ids. list_of (slice_get lines x.0) ids) (first_list-append lines xs ys met)

-- one tree more
pub lists-more : (s0 s1 s2 : Sets) (lines : List kept.Line) (trees lists after : List (Cond × TreeId)) (left rest : Cond) (i : ℕ) (z : Cond × TreeId) (x : kept.Line) (d : List ℕ)
    → Keeps s0 s1 → IsConfig s0.arities d → i < length trees → All (λ (tree : Cond × TreeId). IsCond s0 tree.0.0) trees
    → x ≡ get_or lines (get_or trees i z).1.0 x → (get_or trees i z).1.0 < length lines
    → ((met : List TreeId) → items_at s1 lists d ++ (if s1.has left.0 d then met else []) ≡ first_list (map line_of lines) (items_at s0 (take i trees) d) met)
    → ((met : List TreeId) → items_at s2 after d ++ (if s2.has rest.0 d then met else [])
    ≡ items_at s1 lists d ++ (if s1.has left.0 d then (if s1.has (get_or trees i z).0.0 d then list_of (Some (line_of x)) met else met) else []))
    → (met : List TreeId) → items_at s2 after d ++ (if s2.has rest.0 d then met else []) ≡ first_list (map line_of lines) (items_at s0 (take (i + 1) trees) d) met
lists-more s0 s1 s2 lines trees lists after left rest i z x d keeps is within own reads inside before noted met =
    let tree = get_or trees i z in
    let ls = map line_of lines in
    noted met
    ∙ ap (λ b. items_at s1 lists d ++ (if s1.has left.0 d then (if b then list_of (Some (line_of x)) met else met) else [])) (keeps.at tree.0.0 d (own i z within) is)
    ∙ before (if s0.has tree.0.0 d then list_of (Some (line_of x)) met else met)
    ∙ ap (λ l. first_list ls (items_at s0 (take i trees) d) (if s0.has tree.0.0 d then list_of l met else met)) (sym (line-at lines tree.1.0 x reads inside))
    ∙ ap (first_list ls (items_at s0 (take i trees) d)) (one (s0.has tree.0.0 d))
    ∙ sym (first_list-append ls (items_at s0 (take i trees) d) (items_at s0 (tree ∷ []) d) met)
    ∙ ap (λ ids. first_list ls ids met) (sym (items_at-append s0 (take i trees) (tree ∷ []) d) ∙ ap (λ ts. items_at s0 ts d) (sym (take_more trees i z within)))
  where
    one : (b : Bool) → (if b then list_of (slice_get (map line_of lines) (get_or trees i z).1.0) met else met)
        ≡ first_list (map line_of lines) (if b then (get_or trees i z).1 ∷ [] else []) met
    one true = refl
    one false = refl

pub lists-none : (s : Sets) (lists : List (Cond × TreeId)) (left : Cond) (d : List ℕ) (ids : List TreeId) → items_at s lists d ++ (if s.has left.0 d then [] else []) ≡ ids → items_at s lists d ≡ ids
lists-none s lists left d ids all = by (s.has left.0 d) all
  where
    by : (b : Bool) → items_at s lists d ++ (if b then [] else []) ≡ ids → items_at s lists d ≡ ids
    by true e = sym (append-nil (items_at s lists d)) ∙ e
    by false e = sym (append-nil (items_at s lists d)) ∙ e

-- ---- the trees that are parameters

-- the test of a tree
abbrev pub is_named_at : List Line → Cond × TreeId → Bool
is_named_at lines tree = is_named (slice_get lines tree.1.0)

-- one tree more
pub named-more : (lines : List kept.Line) (trees : List (Cond × TreeId)) (i : ℕ) (z : Cond × TreeId) (x : kept.Line) (before after : List (Cond × TreeId)) (b : Bool) → i < length trees
    → x ≡ get_or lines (get_or trees i z).1.0 x → (get_or trees i z).1.0 < length lines → is_named (Some (line_of x)) ≡ b
    → before ≡ filter (is_named_at (map line_of lines)) (take i trees) → after ≡ before ++ (if b then get_or trees i z ∷ [] else [])
    → after ≡ filter (is_named_at (map line_of lines)) (take (i + 1) trees)
named-more lines trees i z x before after b within reads inside told same added =
    let tree = get_or trees i z in
    let test = is_named_at (map line_of lines) in
    added ∙ ap (λ ts. ts ++ (if b then tree ∷ [] else [])) same
    ∙ ap (λ h. filter test (take i trees) ++ (if h then tree ∷ [] else [])) (sym told ∙ ap is_named (sym (line-at lines tree.1.0 x reads inside)))
    ∙ sym (filter-append test (take i trees) (tree ∷ [])) ∙ ap (filter test) (sym (take_more trees i z within))

pub all-named : (P : Cond × TreeId → Type 0) (lines : List Line) (trees passed named found : List (Cond × TreeId)) → found ≡ named → named ≡ filter (is_named_at lines) passed → passed ≡ trees → All P trees → All P found
all-named P lines trees passed named found is filtered same all =
    subst (λ (ts : List (Cond × TreeId)). All P ts) (sym (is ∙ filtered ∙ ap (filter (is_named_at lines)) same)) (All-filter (is_named_at lines) P trees all)
