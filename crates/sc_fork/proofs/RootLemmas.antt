-- The roots of what has ended, one tree after the other.
use Rattle.std.proofs.Common.{◌≡◌, ℕ, zero, suc, ◌+◌, ◌<◌, ◌≤◌, ◌==◌, ◌||◌, Bool, true, false, List, [], ◌∷◌, ◌++◌, All, length, take, get_or, slice_get, Some, None, refl, sym, ap, ◌∙◌, subst, arith, append_assoc, append-nil, if◌then◌else◌, Contains}
use Rattle.std.specs.Prelude.{slice_set}
use Rattle.std.specs.List.{position_or_len}
use Rattle.std.proofs.lemmas.Bool.{true≢false, eqb-true}
use Rattle.std.proofs.lemmas.Bool.Decides.{nat_tests}
use Rattle.std.proofs.lemmas.Grind.{common_steps}
use Rattle.std.proofs.lemmas.List.{length-append, map-append}
use Rattle.std.proofs.lemmas.List.Elements.{All-nil, All-cons, All-head, All-tail, All-set, All-push}
use Rattle.std.proofs.lemmas.List.Quantifiers.{position-Some}
use Rattle.std.proofs.lemmas.List.Sums.{fails_before_first}
use Rattle.std.proofs.Math.Seq.{map-set_same}
use Rattle.lr_tables.proofs.Members.{map_member}
use Rattle.sc_base.specs.declared.fault.Fault.{Fault}
use Rattle.sc_base.specs.declared.id.Cond.{Cond}
use Rattle.sc_base.specs.declared.id.TreeId.{TreeId}
use Rattle.sc_base.specs.declared.place.Place.{Place}
use Rattle.sc_base.proofs.Growth.{IsOneToOne-push}
use Rattle.sc_model.specs.declared.cause.Cause.{Cause}
use Rattle.std.proofs.lemmas.Option.{slice_get-get_or}
use Rattle.sc_fork.specs.declared.piece.Answer.{Answer}
use Rattle.sc_fork.specs.declared.piece.Answer.TheVariants.{Root, Refused}
use Rattle.sc_fork.specs.declared.piece.Ended.{Ended}
use Rattle.sc_fork.specs.Roots.{faults_by, faults_of, trees_by, trees_of, root_at, IsSatisfiable, trees_in, AddsRoot, AreRoots, IsRoot, no_root, only_root}
use Rattle.sc_fork.proofs.SourceLemmas.{take-next}
use Rattle.sc_guarded.specs.Items.{items_at}
use Rattle.sc_guarded.proofs.ItemLemmas.{items_at-append, items_at-Keeps}
use Rattle.sc_model.specs.Growth.{IsOneToOne}
use Rattle.sc_model.specs.Sets.{Sets, IsConfig, IsCond, Denotes, Keeps, IsNever}
use Rattle.sc_model.proofs.SetLemmas.{IsConfig-Keeps}
use Rattle.sc_tree.specs.Lines.{Line}

-- ---- one part more

pub faults-append : (es fs : List Ended) → faults_of (es ++ fs) ≡ faults_of es ++ faults_of fs
faults-append [] fs = refl
faults-append (e ∷ es) fs = ap (λ xs. faults_by e.cond e.answer ++ xs) (faults-append es fs) ∙ sym (append_assoc (faults_by e.cond e.answer) (faults_of es) (faults_of fs))

pub trees-append : (es fs : List Ended) → trees_of (es ++ fs) ≡ trees_of es ++ trees_of fs
trees-append [] fs = refl
trees-append (e ∷ es) fs = ap (λ xs. trees_by e.cond e.answer ++ xs) (trees-append es fs) ∙ sym (append_assoc (trees_by e.cond e.answer) (trees_of es) (trees_of fs))

pub faults-next : (es : List Ended) (i : ℕ) (e : Ended) → slice_get es i ≡ Some e → faults_of (take (i + 1) es) ≡ faults_of (take i es) ++ faults_by e.cond e.answer
faults-next es i e here =
    ap faults_of (take-next es i e here) ∙ faults-append (take i es) (e ∷ []) ∙ ap (λ xs. faults_of (take i es) ++ xs) (append-nil (faults_by e.cond e.answer))

pub trees-next : (es : List Ended) (i : ℕ) (e : Ended) → slice_get es i ≡ Some e → trees_of (take (i + 1) es) ≡ trees_of (take i es) ++ trees_by e.cond e.answer
trees-next es i e here =
    ap trees_of (take-next es i e here) ∙ trees-append (take i es) (e ∷ []) ∙ ap (λ xs. trees_of (take i es) ++ xs) (append-nil (trees_by e.cond e.answer))

module _ (es : List Ended) (i : ℕ) (d : Ended) (within : i < length es) where
  faults-at : (answer : Answer) → (get_or es i d).answer ≡ answer → faults_of (take (i + 1) es) ≡ faults_of (take i es) ++ faults_by (get_or es i d).cond answer
  faults-at answer is = faults-next es i (get_or es i d) (slice_get-get_or es i d within) ∙ ap (λ a. faults_of (take i es) ++ faults_by (get_or es i d).cond a) is

  trees-at : (answer : Answer) → (get_or es i d).answer ≡ answer → trees_of (take (i + 1) es) ≡ trees_of (take i es) ++ trees_by (get_or es i d).cond answer
  trees-at answer is = trees-next es i (get_or es i d) (slice_get-get_or es i d within) ∙ ap (λ a. trees_of (take i es) ++ trees_by (get_or es i d).cond a) is

  pub faults-kept : (id : TreeId) → (get_or es i d).answer ≡ Root id → faults_of (take (i + 1) es) ≡ faults_of (take i es)
  faults-kept id is = faults-at (Root id) is ∙ append-nil (faults_of (take i es))

  pub faults-more : (cause : Cause) (place : Place) (faults after : List Fault) → (get_or es i d).answer ≡ Refused cause place → faults ≡ faults_of (take i es)
      → after ≡ faults ++ record { cond = (get_or es i d).cond; cause = cause; place = place } ∷ [] → after ≡ faults_of (take (i + 1) es)
  faults-more cause place faults after is before pushed =
      pushed ∙ ap (λ (fs : List Fault). fs ++ record { cond = (get_or es i d).cond; cause = cause; place = place } ∷ []) before ∙ sym (faults-at (Refused cause place) is)

  pub trees-kept : (cause : Cause) (place : Place) → (get_or es i d).answer ≡ Refused cause place → trees_of (take (i + 1) es) ≡ trees_of (take i es)
  trees-kept cause place is = trees-at (Refused cause place) is ∙ append-nil (trees_of (take i es))

  pub trees-more : (id : TreeId) → (get_or es i d).answer ≡ Root id → trees_of (take (i + 1) es) ≡ trees_of (take i es) ++ ((get_or es i d).cond, id) ∷ []
  trees-more id is = trees-at (Root id) is

-- ---- a tree more

or_false : (b : Bool) → (b || false) ≡ b
or_false true = refl
or_false false = refl

or_true : (b : Bool) → (b || true) ≡ true
or_true true = refl
or_true false = refl

or-right : (a b : Bool) → (a || b) ≡ false → b ≡ false
or-right true b is = absurd (true≢false is)
or-right false b is = is

none-first : {A : Type 0} (b : Bool) (x : A) (xs : List A) → (if b then x ∷ xs else xs) ≡ [] → (b ≡ false) × (xs ≡ [])
none-first true x xs is = absurd (cc)
none-first false x xs is = (refl, is)

module _ (s : Sets) (c : List ℕ) (p : Cond × TreeId) where
  set-others : (roots : List (Cond × TreeId)) (i : ℕ) → i < length roots → p.1 ≡ (get_or roots i p).1 → s.has p.0.0 c ≡ (s.has (get_or roots i p).0.0 c || false)
      → items_at s (slice_set roots i p) c ≡ items_at s roots c
  set-others [] i within tree has = refl
  set-others (x ∷ xs) zero within tree has =
      ap (λ b. if b then p.1 ∷ items_at s xs c else items_at s xs c) (has ∙ or_false (s.has x.0.0 c)) ∙ ap (λ t. if s.has x.0.0 c then t ∷ items_at s xs c else items_at s xs c) tree
  set-others (x ∷ xs) (suc i) within tree has = ap (λ r. if s.has x.0.0 c then x.1 ∷ r else r) (set-others xs i (omega (arith, within)) tree has)

  set-here : (roots : List (Cond × TreeId)) (i : ℕ) → i < length roots → s.has p.0.0 c ≡ (s.has (get_or roots i p).0.0 c || true) → items_at s roots c ≡ []
      → items_at s (slice_set roots i p) c ≡ p.1 ∷ []
  set-here [] i within has none = absurd (omega (arith, within))
  set-here (x ∷ xs) zero within has none =
      let rest = none-first (s.has x.0.0 c) x.1 (items_at s xs c) none in
      ap (λ b. if b then p.1 ∷ items_at s xs c else items_at s xs c) (has ∙ or_true (s.has x.0.0 c)) ∙ ap (λ r. p.1 ∷ r) rest.1
  set-here (x ∷ xs) (suc i) within has none =
      let rest = none-first (s.has x.0.0 c) x.1 (items_at s xs c) none in
      ap (λ b. if b then x.1 ∷ items_at s (slice_set xs i p) c else items_at s (slice_set xs i p) c) rest.0 ∙ set-here xs i (omega (arith, within)) has rest.1

pub satisfiable-Keeps : {old new : Sets} (a : ℕ) → Keeps old new → IsCond old a → (IsNever old a → ⊥) → IsNever new a → ⊥
satisfiable-Keeps a keeps own some never = some (record { none = λ c listed. sym (keeps.at a c own listed) ∙ never.none c (IsConfig-Keeps keeps listed) })

all-satisfiable : {old new : Sets} (roots : List (Cond × TreeId)) → Keeps old new → All (λ (root : Cond × TreeId). IsCond old root.0.0) roots → All (IsSatisfiable old) roots
    → All (IsSatisfiable new) roots
all-satisfiable roots keeps own some = λ k d below. satisfiable-Keeps (get_or roots k d).0.0 keeps (own k d below) (some k d below)

pub own-found : (s : Sets) (roots : List (Cond × TreeId)) (i : ℕ) (r : Cond × TreeId) (tree : TreeId) → root_at roots tree.0 ≡ Some i → r ≡ get_or roots i r
    → All (λ (x : Cond × TreeId). IsCond s x.0.0) roots → IsCond s r.0.0
own-found s roots i r tree at is own =
    subst (λ (x : Cond × TreeId). IsCond s x.0.0) (sym is) (own i r (position-Some (λ (root : Cond × TreeId). root.1.0 == tree.0) roots i r at).0)

module _ {old new : Sets} (keeps : Keeps old new) (roots : List (Cond × TreeId)) (i : ℕ) (p q r : Cond × TreeId) (cond : Cond) (tree : TreeId) (at : root_at roots tree.0 ≡ Some i)
    (q_is : q ≡ get_or roots i q) (r_is : r ≡ get_or roots i r) (p_tree : p.1 ≡ q.1) (own : All (λ (x : Cond × TreeId). IsCond old x.0.0) roots) (own_cond : IsCond old cond.0)
    (meaning : Denotes new p.0.0 (λ c. old.has r.0.0 c || old.has cond.0 c)) where
  within : i < length roots
  within = (position-Some (λ (root : Cond × TreeId). root.1.0 == tree.0) roots i q at).0

  get-any : (xs : List (Cond × TreeId)) (k : ℕ) (a b : Cond × TreeId) → k < length xs → get_or xs k a ≡ get_or xs k b
  get-any [] k a b h = absurd (omega (arith, h))
  get-any (x ∷ xs) zero a b h = refl
  get-any (x ∷ xs) (suc k) a b h = get-any xs k a b (omega (arith, h))

  tree-is : p.1 ≡ tree
  tree-is =
      let same : q.1.0 ≡ tree.0 = ap (λ (x : Cond × TreeId). x.1.0) q_is ∙ eqb-true (get_or roots i q).1.0 tree.0 (position-Some (λ (root : Cond × TreeId). root.1.0 == tree.0) roots i q at).1 in
      p_tree ∙ ap (λ n. record { 0 = n }) same

  tree-at : p.1 ≡ (get_or roots i p).1
  tree-at = p_tree ∙ ap (λ (x : Cond × TreeId). x.1) (q_is ∙ get-any roots i q p within)

  has-is : (c : List ℕ) → IsConfig old.arities c → new.has p.0.0 c ≡ (new.has (get_or roots i p).0.0 c || old.has cond.0 c)
  has-is c listed =
      let own_r : IsCond old r.0.0 = subst (λ (x : Cond × TreeId). IsCond old x.0.0) (sym r_is) (own i r within) in
      meaning.at c (IsConfig-Keeps keeps listed)
      ∙ (ap (λ b. b || old.has cond.0 c) (sym (keeps.at r.0.0 c own_r listed)) ∙ ap (λ (x : Cond × TreeId). new.has x.0.0 c || old.has cond.0 c) (r_is ∙ get-any roots i r p within))

  joined-satisfiable : (IsNever old cond.0 → ⊥) → IsNever new p.0.0 → ⊥
  joined-satisfiable some never = some (record { none = λ c listed. or-right (old.has r.0.0 c) (old.has cond.0 c) (sym (meaning.at c (IsConfig-Keeps keeps listed)) ∙ never.none c (IsConfig-Keeps keeps listed)) })

  pub adds-joined : AddsRoot old new cond tree roots (slice_set roots i p)
  adds-joined = record {
    own = All-set (λ (x : Cond × TreeId). IsCond new x.0.0) roots i p meaning.own (λ k d below. keeps.own (get_or roots k d).0.0 (own k d below));
    satisfiable = λ all some. All-set (IsSatisfiable new) roots i p (joined-satisfiable some) (all-satisfiable roots keeps own all);
    within = λ count all low. All-set (λ (x : Cond × TreeId). x.1.0 < count) roots i p (subst (λ (t : TreeId). t.0 < count) (sym tree-is) low) all;
    once = λ one. subst IsOneToOne (sym (map-set_same (λ (x : Cond × TreeId). x.1) roots i p p tree-at)) one;
    here = λ c listed has none.
        set-here new c p roots i within (has-is c listed ∙ ap (λ b. new.has (get_or roots i p).0.0 c || b) has) (items_at-Keeps roots c keeps own listed ∙ none) ∙ ap (λ t. t ∷ []) tree-is;
    others = λ c listed has.
        set-others new c p roots i within tree-at (has-is c listed ∙ ap (λ b. new.has (get_or roots i p).0.0 c || b) has) ∙ items_at-Keeps roots c keeps own listed;
  }

lacks : (roots : List (Cond × TreeId)) (tree : TreeId) → root_at roots tree.0 ≡ None → Contains (trees_in roots) tree → ⊥
lacks roots tree none has =
    let found = map_member (λ (root : Cond × TreeId). root.1) tree roots has in
    let test : Cond × TreeId → Bool = λ root. root.1.0 == tree.0 in
    let k = found.1.0 in
    let low : k < length roots = found.1.1 in
    let past : k < position_or_len test roots = grind (arith, common_steps) in
    let fails : (found.0.1.0 == tree.0) ≡ false = ap test (sym found.1.2) ∙ fails_before_first test roots k found.0 past in
    let same : found.0.1.0 ≡ tree.0 = ap (λ (t : TreeId). t.0) found.2 in
    let passes : (found.0.1.0 == tree.0) ≡ true = grind (arith, nat_tests) in
    true≢false (sym passes ∙ fails)

pub adds-pushed : (s : Sets) (roots after : List (Cond × TreeId)) (cond : Cond) (tree : TreeId) → root_at roots tree.0 ≡ None → All (λ (x : Cond × TreeId). IsCond s x.0.0) roots → IsCond s cond.0
    → after ≡ roots ++ (cond, tree) ∷ [] → AddsRoot s s cond tree roots after
adds-pushed s roots after cond tree none own own_cond pushed = subst (AddsRoot s s cond tree roots) (sym pushed) (record {
  own = All-push (λ (x : Cond × TreeId). IsCond s x.0.0) roots (cond, tree) own own_cond;
  satisfiable = λ all some. All-push (IsSatisfiable s) roots (cond, tree) all some;
  within = λ count all low. All-push (λ (x : Cond × TreeId). x.1.0 < count) roots (cond, tree) all low;
  once = λ one. subst IsOneToOne (sym (map-append (λ (x : Cond × TreeId). x.1) roots ((cond, tree) ∷ []))) (IsOneToOne-push (trees_in roots) tree one (lacks roots tree none));
  here = λ c listed has empty.
      items_at-append s roots ((cond, tree) ∷ []) c ∙ ap (λ b. items_at s roots c ++ (if b then tree ∷ [] else [])) has ∙ ap (λ xs. xs ++ tree ∷ []) empty;
  others = λ c listed has.
      items_at-append s roots ((cond, tree) ∷ []) c ∙ ap (λ b. items_at s roots c ++ (if b then tree ∷ [] else [])) has ∙ append-nil (items_at s roots c);
})

-- ---- the trees of all parts

few-push : {A : Type 0} (xs : List A) (x : A) → length (xs ++ x ∷ []) ≤ 1 → xs ≡ []
few-push [] x few = refl
few-push (y ∷ xs) x few = absurd (omega (arith, few, length-append xs (x ∷ [])))

module _ {A : Type 0} (P : A → Type 0) where
  all-front : (xs : List A) (x : A) → All P (xs ++ x ∷ []) → All P xs
  all-front [] x all = All-nil P
  all-front (y ∷ xs) x all = All-cons P y xs (All-head P y (xs ++ x ∷ []) all) (all-front xs x (All-tail P y (xs ++ x ∷ []) all))

  all-last : (xs : List A) (x : A) → All P (xs ++ x ∷ []) → P x
  all-last [] x all = All-head P x [] all
  all-last (y ∷ xs) x all = all-last xs x (All-tail P y (xs ++ x ∷ []) all)

module _ {first old new : Sets} (since : Keeps first old) (cond : Cond) (tree : TreeId) (own : IsCond first cond.0) (parts before after : List (Cond × TreeId)) where
  pub roots-more : AreRoots first old parts before → AddsRoot old new cond tree before after → AreRoots first new (parts ++ (cond, tree) ∷ []) after
  roots-more are adds = record {
    own = adds.own;
    satisfiable = λ all.
        adds.satisfiable (are.satisfiable (all-front (IsSatisfiable first) parts (cond, tree) all)) (satisfiable-Keeps cond.0 since own (all-last (IsSatisfiable first) parts (cond, tree) all));
    within = λ count all.
        let Low : Cond × TreeId → Type 0 = λ part. part.1.0 < count in
        adds.within count (are.within count (all-front Low parts (cond, tree) all)) (all-last Low parts (cond, tree) all);
    once = adds.once are.once;
    same = λ c listed few. by c listed (first.has cond.0 c) refl few;
  }
    where
      by : (c : List ℕ) → IsConfig first.arities c → (b : Bool) → first.has cond.0 c ≡ b → length (items_at first (parts ++ (cond, tree) ∷ []) c) ≤ 1
          → items_at new after c ≡ items_at first (parts ++ (cond, tree) ∷ []) c
      by c listed true has few =
          let split : items_at first (parts ++ (cond, tree) ∷ []) c ≡ items_at first parts c ++ tree ∷ [] =
          items_at-append first parts ((cond, tree) ∷ []) c ∙ ap (λ t. items_at first parts c ++ (if t then tree ∷ [] else [])) has in
          let empty : items_at first parts c ≡ [] = few-push (items_at first parts c) tree (subst (λ (xs : List TreeId). length xs ≤ 1) split few) in
          let fewer : length (items_at first parts c) ≤ 1 = subst (λ (xs : List TreeId). length xs ≤ 1) (sym empty) (omega arith) in
          adds.here c (IsConfig-Keeps since listed) (since.at cond.0 c own listed ∙ has) (are.same c listed fewer ∙ empty) ∙ ap (λ xs. xs ++ tree ∷ []) (sym empty) ∙ sym split
      by c listed false has few =
          let split : items_at first (parts ++ (cond, tree) ∷ []) c ≡ items_at first parts c =
          items_at-append first parts ((cond, tree) ∷ []) c ∙ ap (λ t. items_at first parts c ++ (if t then tree ∷ [] else [])) has ∙ append-nil (items_at first parts c) in
          adds.others c (IsConfig-Keeps since listed) (since.at cond.0 c own listed ∙ has) ∙ are.same c listed (subst (λ (xs : List TreeId). length xs ≤ 1) split few) ∙ sym split

-- ---- the root that stands for them

pub root-none : (lines : List Line) (roots : List (Cond × TreeId)) → length roots ≤ 0 → IsRoot lines roots None
root-none lines [] short = no_root
root-none lines (x ∷ xs) short = absurd (omega (arith, short))

pub root-only : (lines : List Line) (roots : List (Cond × TreeId)) (d : Cond × TreeId) → 1 ≤ length roots → length roots ≤ 1 → IsRoot lines roots (Some (get_or roots 0 d).1)
root-only lines [] d some few = absurd (omega (arith, some))
root-only lines (x ∷ []) d some few = only_root x
root-only lines (x ∷ (y ∷ xs)) d some few = absurd (omega (arith, few))
