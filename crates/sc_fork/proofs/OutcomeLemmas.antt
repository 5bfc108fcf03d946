-- What a finished core has come to.
use Rattle.std.proofs.Common.{◌≡◌, ℕ, zero, suc, ◌+◌, ◌<◌, ◌≤◌, Bool, true, false, List, [], ◌∷◌, ◌++◌, All, length, map, get_or, slice_get, Option, Some, None, Result, Ok, Err, refl, sym, ap, ◌∙◌, subst, inl, inr, arith, if◌then◌else◌}
use Rattle.std.specs.Prelude.{AllPairs, IfSome}
use Rattle.std.specs.List.{Contains}
use Rattle.std.proofs.lemmas.Bool.{true≢false}
use Rattle.std.proofs.lemmas.List.Elements.{All-nil, All-cons, All-head, All-tail, All-append}
use Rattle.std.proofs.lemmas.List.Kept.{AllPairs-cons}
use Rattle.c11_parsing.specs.Classes.{Input}
use Rattle.c11_parsing.specs.Core as core
use Rattle.c11_parsing.specs.Core.{over, filled, count, pieces_of, Stands}
use Rattle.c11_parsing.specs.Trees.{Tree}
use Rattle.lr_tables.proofs.Members.{no_member, cons_cases, cons_head, cons_tail}
use Rattle.sc_base.specs.declared.fault.Fault as declared
use Rattle.sc_base.specs.declared.id.Cond.{Cond}
use Rattle.sc_base.specs.declared.id.TreeId.{TreeId}
use Rattle.sc_base.specs.declared.place.Place.{Place}
use Rattle.sc_base.proofs.Growth.{Extends-refl, push_cases}
use Rattle.sc_fork.proofs.ReduceEvents.{branches-Keeps}
use Rattle.sc_fork.specs.View.{View}
use Rattle.sc_fork.specs.declared.outcome.Outcome.{Outcome}
use Rattle.sc_fork.specs.declared.piece.Answer.{Answer}
use Rattle.sc_fork.specs.declared.piece.Answer.TheVariants.{Root, Refused}
use Rattle.sc_fork.specs.declared.piece.Ended.{Ended}
use Rattle.sc_fork.specs.Choices.{AreDisjoint, IsSoundChoice, AreSound}
use Rattle.sc_fork.specs.Cores.{AreRows, no_rows, empty_row, full_row, AreOver, none_over, more_over, IsCore}
use Rattle.sc_fork.specs.Outcomes.{answers_at, faults_in, RootReads, root_reads, IsOutcome, OwnsOutcome}
use Rattle.sc_fork.specs.declared.source.Source.{Source}
use Rattle.sc_fork.specs.Owns.{IsPlaceOf, OwnsAnswer, OwnsEnded}
use Rattle.sc_fork.specs.Roots.{faults_by, faults_of, trees_by, trees_of, IsSatisfiable, AreRoots, IsRoot, no_root, only_root, chosen_root, AddsChoice, no_choice, one_choice}
use Rattle.sc_fork.specs.Seen.{IsAnswer, is_tree, is_fault}
use Rattle.sc_fork.proofs.Possible.{possible}
use Rattle.sc_fork.proofs.RootLemmas.{satisfiable-Keeps}
use Rattle.sc_guarded.specs.Items.{items_at, faults_at, seen_fault}
use Rattle.sc_guarded.proofs.ItemLemmas.{faults_at-Keeps}
use Rattle.sc_merge.specs.declared.subparser.Subparser.{Subparser}
use Rattle.sc_merge.specs.Merges.{tables_with}
use Rattle.sc_model.specs.declared.cause.Cause.{Cause}
use Rattle.sc_model.specs.Fault.{Fault}
use Rattle.sc_model.specs.Growth.{Extends}
use Rattle.sc_model.specs.Sets.{Sets, IsConfig, IsCond, Keeps, IsNever}
use Rattle.sc_model.proofs.SetLemmas.{IsConfig-kept}
use Rattle.sc_tree.specs.Lines.{Line, branches_of, choice, OwnsBranches}
use Rattle.sc_tree.specs.Reads.{Tables, Reads, choice_reads}
use Rattle.sc_tree.proofs.ReadLemmas.{Reads-Grows}

-- ---- the answers at one configuration

-- The answers are those of the trees and those of the faults.
data Answers (w : Tables) (c : List ℕ) : List TreeId → List declared.Fault → List (Result Tree Fault) → Type 0 where
  no_answers : Answers w c [] [] []
  more_tree : (id : TreeId) (tree : Tree) (ids : List TreeId) (faults : List declared.Fault) (answers : List (Result Tree Fault)) → Reads w c id.0 tree → Answers w c ids faults answers
      → Answers w c (id ∷ ids) faults (Ok tree ∷ answers)
  more_fault : (fault : declared.Fault) (ids : List TreeId) (faults : List declared.Fault) (answers : List (Result Tree Fault)) → Answers w c ids faults answers
      → Answers w c ids (fault ∷ faults) (Err (seen_fault w.files fault) ∷ answers)

module _ (w : Tables) (c : List ℕ) where
  same-faults : (ids : List TreeId) (faults : List declared.Fault) (answers : List (Result Tree Fault)) → Answers w c ids faults answers
      → map (seen_fault w.files) faults ≡ faults_in answers
  same-faults _ _ _ no_answers = refl
  same-faults _ _ _ (more_tree id tree ids faults answers reads rest) = same-faults ids faults answers rest
  same-faults _ _ _ (more_fault fault ids faults answers rest) = ap (λ fs. seen_fault w.files fault ∷ fs) (same-faults ids faults answers rest)

  few-trees : (ids : List TreeId) (faults : List declared.Fault) (answers : List (Result Tree Fault)) → Answers w c ids faults answers → length ids ≤ length answers
  few-trees _ _ _ no_answers = omega arith
  few-trees _ _ _ (more_tree id tree ids faults answers reads rest) = let few = few-trees ids faults answers rest in omega (arith, few)
  few-trees _ _ _ (more_fault fault ids faults answers rest) = let few = few-trees ids faults answers rest in omega (arith, few)

  no-items : {A : Type 0} (xs : List A) → length xs ≤ 0 → xs ≡ []
  no-items [] few = refl
  no-items (x ∷ xs) few = absurd (omega (arith, few))

  abbrev IsOnlyTree : List TreeId → Tree → Type 0
  IsOnlyTree ids tree = (id : TreeId) × ((ids ≡ id ∷ []) × Reads w c id.0 tree)

  -- the one answer is the tree of the one root
  only-tree : (ids : List TreeId) (faults : List declared.Fault) (answers : List (Result Tree Fault)) (tree : Tree) → Answers w c ids faults answers → length answers ≤ 1
      → Contains answers (Ok tree) → IsOnlyTree ids tree
  only-tree _ _ _ tree no_answers few has = absurd (no_member {A = Result Tree Fault} (Ok tree) has)
  only-tree _ _ _ tree (more_tree id first ids faults answers reads rest) few has =
      let none : answers ≡ [] = no-items answers (omega (arith, few)) in
      let short = few-trees ids faults answers rest in
      let empty : ids ≡ [] = no-items ids (omega (arith, few, short)) in
      elim (cons_cases {A = Result Tree Fault} (Ok first) (Ok tree) answers has) [
        | inl same ↦ let e : first ≡ tree = cc in (id, (ap (λ xs. id ∷ xs) empty, subst (Reads w c id.0) e reads))
        | inr later ↦ absurd (no_member {A = Result Tree Fault} (Ok tree) (subst (λ xs. Contains xs (Ok tree)) none later))
      ]
  only-tree _ _ _ tree (more_fault fault ids faults answers rest) few has = elim (cons_cases {A = Result Tree Fault} (Err (seen_fault w.files fault)) (Ok tree) answers has) [
    | inl same ↦ absurd (cc)
    | inr later ↦ only-tree ids faults answers tree rest (omega (arith, few)) later
  ]

  -- where there is a root, there is a tree
  some-tree : (ids : List TreeId) (faults : List declared.Fault) (answers : List (Result Tree Fault)) → Answers w c ids faults answers → 0 < length ids
      → (tree : Tree) × Contains answers (Ok tree)
  some-tree _ _ _ no_answers some = absurd (omega (arith, some))
  some-tree _ _ _ (more_tree id tree ids faults answers reads rest) some = (tree, cons_head (Ok tree) answers)
  some-tree _ _ _ (more_fault fault ids faults answers rest) some =
      let found = some-tree ids faults answers rest some in
      (found.0, cons_tail (Err (seen_fault w.files fault)) (Ok found.0) answers found.1)

  tree-answer : (id : TreeId) (said : Result Tree Fault) (ids : List TreeId) (faults : List declared.Fault) (answers : List (Result Tree Fault)) → IsAnswer w c (Root id) said
      → Answers w c ids faults answers → Answers w c (id ∷ ids) faults (said ∷ answers)
  tree-answer id _ ids faults answers (is_tree _ tree reads) rest = more_tree id tree ids faults answers reads rest

  fault-answer : (cond : Cond) (cause : Cause) (place : Place) (said : Result Tree Fault) (ids : List TreeId) (faults : List declared.Fault) (answers : List (Result Tree Fault))
      → IsAnswer w c (Refused cause place) said → Answers w c ids faults answers → Answers w c ids (record { cond = cond; cause = cause; place = place } ∷ faults) (said ∷ answers)
  fault-answer cond cause place _ ids faults answers (is_fault _ _) rest = more_fault (record { cond = cond; cause = cause; place = place }) ids faults answers rest

  part-answers : (cond : Cond) (answer : Answer) (b : Bool) (said : Result Tree Fault) (trees : List (Cond × TreeId)) (faults : List declared.Fault) (answers : List (Result Tree Fault))
      → w.sets.has cond.0 c ≡ b → (b ≡ true → IsAnswer w c answer said) → Answers w c (items_at w.sets trees c) (faults_at w.sets faults c) answers
      → Answers w c (items_at w.sets (trees_by cond answer ++ trees) c) (faults_at w.sets (faults_by cond answer ++ faults) c) (if b then said ∷ answers else answers)
  part-answers cond (Root id) true said trees faults answers has is rest =
      subst (λ t. Answers w c (if t then id ∷ items_at w.sets trees c else items_at w.sets trees c) (faults_at w.sets faults c) (said ∷ answers)) (sym has)
      (tree-answer id said (items_at w.sets trees c) (faults_at w.sets faults c) answers (is refl) rest)
  part-answers cond (Root id) false said trees faults answers has is rest =
      subst (λ t. Answers w c (if t then id ∷ items_at w.sets trees c else items_at w.sets trees c) (faults_at w.sets faults c) answers) (sym has) rest
  part-answers cond (Refused cause place) true said trees faults answers has is rest =
      let fault : declared.Fault = record { cond = cond; cause = cause; place = place } in
      subst (λ t. Answers w c (items_at w.sets trees c) (if t then fault ∷ faults_at w.sets faults c else faults_at w.sets faults c) (said ∷ answers)) (sym has)
      (fault-answer cond cause place said (items_at w.sets trees c) (faults_at w.sets faults c) answers (is refl) rest)
  part-answers cond (Refused cause place) false said trees faults answers has is rest =
      let fault : declared.Fault = record { cond = cond; cause = cause; place = place } in
      subst (λ t. Answers w c (items_at w.sets trees c) (if t then fault ∷ faults_at w.sets faults c else faults_at w.sets faults c) answers) (sym has) rest

  all-answers : (input : Input) (es : List Ended) (fs : List core.Ended) → IsConfig input.arities c → AreOver w input es fs
      → Answers w c (items_at w.sets (trees_of es) c) (faults_at w.sets (faults_of es) c) (answers_at fs c)
  all-answers input _ _ listed none_over = no_answers
  all-answers input _ _ listed (more_over e f es fs is rest) =
      part-answers e.cond e.answer (f.condition c) (f.answer c) (trees_of es) (faults_of es) (answers_at fs c) (sym (is.has c listed)) (is.each c listed) (all-answers input es fs listed rest)

  count-answers : (fs : List core.Ended) → length (answers_at fs c) ≡ count c (map over fs)
  count-answers [] = refl
  count-answers (f ∷ fs) = by (f.condition c) (count-answers fs)
    where
      by : (b : Bool) → length (answers_at fs c) ≡ count c (map over fs) → length (if b then f.answer c ∷ answers_at fs c else answers_at fs c) ≡ (if b then 1 else 0) + count c (map over fs)
      by true rest = omega (arith, rest)
      by false rest = omega (arith, rest)

-- ---- no row is left

none-filled : (w : Tables) (input : Input) (rows : List (Option Subparser)) (others : List (Option core.Subparser)) → AreRows w input rows others
    → All (λ (row : Option Subparser). row ≡ None) rows → filled others ≡ []
none-filled w input _ _ no_rows none = refl
none-filled w input _ _ (empty_row rows others rest) none = none-filled w input rows others rest (All-tail (λ (row : Option Subparser). row ≡ None) None rows none)
none-filled w input _ _ (full_row s t rows others is rest) none =
    let gone : Some s ≡ None = All-head (λ (row : Option Subparser). row ≡ None) (Some s) rows none in
    absurd (cc)

one-answer : (w : Tables) (input : Input) (finished : View) (seen : core.Core) (c : List ℕ) → IsConfig input.arities c → All (λ (row : Option Subparser). row ≡ None) finished.subparsers
    → IsCore w input finished seen → Stands input seen → length (answers_at seen.ended c) ≤ 1
one-answer w input finished seen c listed none is stands =
    let counted : count c (map over seen.ended) ≡ (if input.live c then 1 else 0) =
    ap (λ ps. count c (ps ++ map over seen.ended)) (sym (none-filled w input finished.subparsers seen.rows is.rows none)) ∙ stands.counted c listed in
    by (input.live c) counted
  where
    by : (b : Bool) → count c (map over seen.ended) ≡ (if b then 1 else 0) → length (answers_at seen.ended c) ≤ 1
    by true e = omega (arith, count-answers w c seen.ended, e)
    by false e = omega (arith, count-answers w c seen.ended, e)

-- ---- what the parts own

parts-satisfiable : (w : Tables) (input : Input) (es : List Ended) (fs : List core.Ended) → input.arities ≡ w.sets.arities → AreOver w input es fs → All (IsSatisfiable w.sets) (trees_of es)
parts-satisfiable w input _ _ arities none_over = All-nil (IsSatisfiable w.sets)
parts-satisfiable w input _ _ arities (more_over e f es fs is rest) =
    All-append (IsSatisfiable w.sets) (trees_by e.cond e.answer) (trees_of es) (by e.answer) (parts-satisfiable w input es fs arities rest)
  where
    some : IsNever w.sets e.cond.0 → ⊥
    some never =
        let p = is.possible in
        true≢false (sym p.has ∙ is.has p.config p.is_config ∙ never.none p.config (subst (λ ns. IsConfig ns p.config) arities p.is_config))

    by : (answer : Answer) → All (IsSatisfiable w.sets) (trees_by e.cond answer)
    by (Root id) = All-cons (IsSatisfiable w.sets) (e.cond, id) [] some (All-nil (IsSatisfiable w.sets))
    by (Refused cause place) = All-nil (IsSatisfiable w.sets)

module _ (sets : Sets) (total : ℕ) (source : Source) where
  abbrev Low : Cond × TreeId → Type 0
  Low part = part.1.0 < total

  abbrev OwnFault : declared.Fault → Type 0
  OwnFault fault = IsCond sets fault.cond.0

  pub parts-within : (es : List Ended) → All (OwnsEnded sets total source) es → All Low (trees_of es)
  parts-within [] own = All-nil Low
  parts-within (e ∷ es) own =
      let first = All-head (OwnsEnded sets total source) e es own in
      All-append Low (trees_by e.cond e.answer) (trees_of es) (by first e.answer refl) (parts-within es (All-tail (OwnsEnded sets total source) e es own))
    where
      by : OwnsEnded sets total source e → (answer : Answer) → e.answer ≡ answer → All Low (trees_by e.cond answer)
      by first (Root id) same =
          let owned = first.answer in
          All-cons Low (e.cond, id) [] (rw same at owned) (All-nil Low)
      by first (Refused cause place) same = All-nil Low

  pub faults-own : (es : List Ended) → All (OwnsEnded sets total source) es → All OwnFault (faults_of es)
  faults-own [] own = All-nil OwnFault
  faults-own (e ∷ es) own =
      All-append OwnFault (faults_by e.cond e.answer) (faults_of es) (by (All-head (OwnsEnded sets total source) e es own) e.answer) (faults-own es (All-tail (OwnsEnded sets total source) e es own))
    where
      by : OwnsEnded sets total source e → (answer : Answer) → All OwnFault (faults_by e.cond answer)
      by first (Root id) = All-nil OwnFault
      by first (Refused cause place) = All-cons OwnFault (record { cond = e.cond; cause = cause; place = place }) [] first.cond (All-nil OwnFault)

  abbrev IsPlaced : declared.Fault → Type 0
  IsPlaced fault = IsPlaceOf source.list.now source.end fault.place

  pub faults-placed : (es : List Ended) → All (OwnsEnded sets total source) es → All IsPlaced (faults_of es)
  faults-placed [] own = All-nil IsPlaced
  faults-placed (e ∷ es) own =
      All-append IsPlaced (faults_by e.cond e.answer) (faults_of es) (by e.answer (All-head (OwnsEnded sets total source) e es own).answer)
      (faults-placed es (All-tail (OwnsEnded sets total source) e es own))
    where
      by : (answer : Answer) → OwnsAnswer total source answer → All IsPlaced (faults_by e.cond answer)
      by (Root id) placed = All-nil IsPlaced
      by (Refused cause place) placed = All-cons IsPlaced (record { cond = e.cond; cause = cause; place = place }) [] placed (All-nil IsPlaced)

-- ---- the outcome

root-tree : (v : Tables) (c : List ℕ) (roots : List (Cond × TreeId)) (root : Option TreeId) (id : TreeId) (tree : Tree) → IsRoot v.lines roots root → All (λ (x : Cond × TreeId). IsCond v.sets x.0.0) roots
    → items_at v.sets roots c ≡ id ∷ [] → Reads v c id.0 tree → RootReads v c root tree
root-tree v c _ _ id tree no_root own one reads = absurd (cc)
root-tree v c _ _ id tree (only_root x) own one reads = by (v.sets.has x.0.0 c) one
  where
    by : (b : Bool) → (if b then x.1 ∷ [] else []) ≡ id ∷ [] → RootReads v c (Some x.1) tree
    by true e = let same : x.1 ≡ id = cc in root_reads x.1 tree (subst (λ (t : TreeId). Reads v c t.0 tree) (sym same) reads)
    by false e = absurd (cc)
root-tree v c _ _ id tree (chosen_root roots chosen several within named) own one reads = root_reads chosen tree (choice_reads chosen.0 roots id tree named own one reads)

first-of : {A : Type 0} (s : Sets) (x : Cond × A) (xs : List (Cond × A)) (c : List ℕ) → s.has x.0.0 c ≡ true → 0 < length (items_at s (x ∷ xs) c)
first-of {A} s x xs c has = subst (λ b. 0 < length {A = A} (if b then x.1 ∷ items_at s xs c else items_at s xs c)) (sym has) (omega arith)

-- a root is one of some configuration
root-has : (s : Sets) (lines : List Line) (roots : List (Cond × TreeId)) (root : Option TreeId) (id : TreeId) → IsRoot lines roots root → root ≡ Some id → All (IsSatisfiable s) roots
    → (c : List ℕ) × (IsConfig s.arities c × (0 < length (items_at s roots c)))
root-has s lines _ _ id no_root is some = absurd (cc)
root-has s lines _ _ id (only_root x) is some =
    let found = possible s x.0.0 (All-head (IsSatisfiable s) x [] some) in
    (found.0, (found.1, first-of s x [] found.0 found.2))
root-has s lines _ _ id (chosen_root roots chosen several within named) is some = by roots several some
  where
    by : (xs : List (Cond × TreeId)) → 1 < length xs → All (IsSatisfiable s) xs → (c : List ℕ) × (IsConfig s.arities c × (0 < length (items_at s xs c)))
    by [] several some = absurd (omega (arith, several))
    by (x ∷ xs) several some = let found = possible s x.0.0 (All-head (IsSatisfiable s) x xs some) in (found.0, (found.1, first-of s x xs found.0 found.2))

module _ (old new : Sets) (lines later : List Line) (names files : List (List ℕ)) (input : Input) (finished : View) (seen : core.Core) (keeps : Keeps old new)
    (none : All (λ (row : Option Subparser). row ≡ None) finished.subparsers) (roots : List (Cond × TreeId)) (are : AreRoots old new (trees_of finished.ended) roots)
    (is : IsCore (tables_with old lines names files) input finished seen) (stands : Stands input seen) where
  abbrev before : Tables
  before = tables_with old lines names files

  abbrev after : Tables
  after = tables_with new later names files

  abbrev es : List Ended
  es = finished.ended

  listed-input : (c : List ℕ) → IsConfig old.arities c → IsConfig input.arities c
  listed-input c listed = subst (λ ns. IsConfig ns c) (sym is.source.arities) listed

  answers : (c : List ℕ) → IsConfig old.arities c → Answers before c (items_at old (trees_of es) c) (faults_at old (faults_of es) c) (answers_at seen.ended c)
  answers c listed = all-answers before c input es seen.ended (listed-input c listed) is.ended

  one : (c : List ℕ) → IsConfig old.arities c → length (answers_at seen.ended c) ≤ 1
  one c listed = one-answer before input finished seen c (listed-input c listed) none is stands

  few : (c : List ℕ) → IsConfig old.arities c → length (items_at old (trees_of es) c) ≤ 1
  few c listed =
      let low = few-trees before c (items_at old (trees_of es) c) (faults_at old (faults_of es) c) (answers_at seen.ended c) (answers c listed) in
      omega (arith, low, one c listed)

  pub few-roots : (c : List ℕ) → IsConfig new.arities c → length (items_at new roots c) ≤ 1
  few-roots c listed = let was = IsConfig-kept keeps listed in subst (λ (xs : List TreeId). length xs ≤ 1) (sym (are.same c was (few c was))) (few c was)

  pub all-satisfiable : All (IsSatisfiable new) roots
  all-satisfiable = are.satisfiable (parts-satisfiable before input es seen.ended is.source.arities is.ended)

  pub outcome : (o : Outcome) → Extends lines later → All (λ (fault : declared.Fault). IsCond old fault.cond.0) (faults_of es) → o.faults.items ≡ faults_of es → IsRoot later roots o.root
      → IsOutcome after seen o
  outcome o grows own faults root = record {
    trees = λ c tree listed has.
        let was = IsConfig-kept keeps listed in
        let found = only-tree before c (items_at old (trees_of es) c) (faults_at old (faults_of es) c) (answers_at seen.ended c) tree (answers c was) (one c was) has.answer in
        root-tree after c roots o.root found.0 tree root are.own (are.same c was (few c was) ∙ found.1.0)
        (Reads-Grows before after c found.0.0 tree (record { sets = keeps; names = Extends-refl names; files = Extends-refl files; lines = grows }) was found.1.1);
    faults = λ c listed.
        let was = IsConfig-kept keeps listed in
        ap (λ fs. map (seen_fault files) (faults_at new fs c)) faults ∙ ap (map (seen_fault files)) (faults_at-Keeps (faults_of es) c keeps own was)
        ∙ same-faults before c (items_at old (trees_of es) c) (faults_at old (faults_of es) c) (answers_at seen.ended c) (answers c was);
    some = λ id root_is.
        let found = root-has new later roots o.root id root root_is all-satisfiable in
        let was = IsConfig-kept keeps found.1.0 in
        let some : 0 < length (items_at old (trees_of es) found.0) = subst (λ (xs : List TreeId). 0 < length xs) (are.same found.0 was (few found.0 was)) found.1.1 in
        let tree = some-tree before found.0 (items_at old (trees_of es) found.0) (faults_at old (faults_of es) found.0) (answers_at seen.ended found.0) (answers found.0 was) some in
        (found.0, (tree.0, (found.1.0, record { answer = tree.1 })));
  }

pub root-owned : (lines : List Line) (roots : List (Cond × TreeId)) (root : Option TreeId) → IsRoot lines roots root → All (λ (x : Cond × TreeId). x.1.0 < length lines) roots
    → IfSome root (λ id. id.0 < length lines)
root-owned lines _ _ no_root low = tt
root-owned lines _ _ (only_root x) low = All-head (λ (y : Cond × TreeId). y.1.0 < length lines) x [] low
root-owned lines _ _ (chosen_root roots chosen several within named) low = within

pub owns-outcome : (old new : Sets) (lines later : List Line) (roots : List (Cond × TreeId)) (es : List Ended) (source : Source) (o : Outcome) → Keeps old new → Extends lines later
    → All (OwnsEnded old (length lines) source) es → AreRoots old new (trees_of es) roots → o.faults.items ≡ faults_of es → IsRoot later roots o.root → OwnsOutcome new (length later) source o
owns-outcome old new lines later roots es source o keeps grows own are faults root = record {
  root = root-owned later roots o.root root
      (λ k d below.
      let low : (get_or roots k d).1.0 < length lines = are.within (length lines) (parts-within old (length lines) source es own) k d below in
      omega (arith, low, grows.longer));
  faults = subst (All (λ (fault : declared.Fault). IsCond new fault.cond.0)) (sym faults) (λ k d below. keeps.own (get_or (faults_of es) k d).cond.0 (faults-own old (length lines) source es own k d below));
  places = subst (All (λ (fault : declared.Fault). IsPlaceOf source.list.now source.end fault.place)) (sym faults) (faults-placed old (length lines) source es own);
}

-- ---- the choices

-- an item that a configuration has is counted
counted : {A : Type 0} (s : Sets) (xs : List (Cond × A)) (c : List ℕ) (k : ℕ) (d : Cond × A) → k < length xs → s.has (get_or xs k d).0.0 c ≡ true → 0 < length (items_at s xs c)
counted s [] c k d below has = absurd (omega (arith, below))
counted s (x ∷ xs) c zero d below has = first-of s x xs c has
counted {A} s (x ∷ xs) c (suc k) d below has = by (s.has x.0.0 c) (counted s xs c k d (omega (arith, below)) has)
  where
    by : (b : Bool) → 0 < length (items_at s xs c) → 0 < length {A = A} (if b then x.1 ∷ items_at s xs c else items_at s xs c)
    by true some = omega arith
    by false some = some

fewer : {A : Type 0} (s : Sets) (x : Cond × A) (xs : List (Cond × A)) (c : List ℕ) → length (items_at s (x ∷ xs) c) ≤ 1 → length (items_at s xs c) ≤ 1
fewer {A} s x xs c few = by (s.has x.0.0 c) few
  where
    by : (b : Bool) → length {A = A} (if b then x.1 ∷ items_at s xs c else items_at s xs c) ≤ 1 → length (items_at s xs c) ≤ 1
    by true e = omega (arith, e)
    by false e = e

-- conditions of which each configuration has one at most are disjoint
all-apart : (s : Sets) (xs : List (Cond × TreeId)) → ((c : List ℕ) → IsConfig s.arities c → length (items_at s xs c) ≤ 1) → AllPairs (λ (a b : Cond × TreeId). AreDisjoint s a.0.0 b.0.0) xs
all-apart s [] few = λ i j d low below. absurd (omega (arith, below))
all-apart s (x ∷ xs) few = AllPairs-cons (λ (a b : Cond × TreeId). AreDisjoint s a.0.0 b.0.0) x xs first (all-apart s xs (λ c listed. fewer s x xs c (few c listed)))
  where
    first : All (λ (b : Cond × TreeId). AreDisjoint s x.0.0 b.0.0) xs
    first = λ k d below c listed here there.
        let split : length {A = TreeId} (if true then x.1 ∷ items_at s xs c else items_at s xs c) ≤ 1 =
        subst (λ b. length {A = TreeId} (if b then x.1 ∷ items_at s xs c else items_at s xs c) ≤ 1) here (few c listed) in
        let some : 0 < length (items_at s xs c) = counted s xs c k d below there in
        omega (arith, split, some)

sound-kept : (old new : Sets) (branches : List (Cond × TreeId)) → Keeps old new → All (λ (branch : Cond × TreeId). IsCond old branch.0.0) branches → IsSoundChoice old branches
    → IsSoundChoice new branches
sound-kept old new branches keeps own sound = record {
  some = sound.some;
  apart = λ i j d low below c listed here there.
      let was = IsConfig-kept keeps listed in
      let a = (get_or branches i d).0.0 in
      let b = (get_or branches j d).0.0 in
      sound.apart i j d low below c was (sym (keeps.at a c (own i d (omega (arith, low, below))) was) ∙ here) (sym (keeps.at b c (own j d below) was) ∙ there);
  possible = λ k d below. satisfiable-Keeps (get_or branches k d).0.0 keeps (own k d below) (sound.possible k d below);
}

pub sound-same : (old new : Sets) (lines : List Line) → Keeps old new → OwnsBranches old lines → AreSound old lines → AreSound new lines
sound-same old new lines keeps own sound = record { each = λ i branches here. sound-kept old new branches keeps (own.each i (choice branches) here) (sound.each i branches here) }

pub sound-choices : (old new : Sets) (lines later : List Line) (roots : List (Cond × TreeId)) → Keeps old new → OwnsBranches old lines → AddsChoice roots lines later
    → ((c : List ℕ) → IsConfig new.arities c → length (items_at new roots c) ≤ 1) → All (IsSatisfiable new) roots → AreSound old lines → AreSound new later
sound-choices old new lines later roots keeps own adds at_most some sound = record { each = by adds }
  where
    kept : AreSound new lines
    kept = sound-same old new lines keeps own sound

    by : AddsChoice roots lines later → (i : ℕ) (branches : List (Cond × TreeId)) → slice_get later i ≡ Some (choice branches) → IsSoundChoice new branches
    by (no_choice same) i branches here = kept.each i branches (ap (λ ls. slice_get ls i) (sym same) ∙ here)
    by (one_choice several same) i branches here = elim (push_cases lines (choice roots) i (choice branches) (ap (λ ls. slice_get ls i) (sym same) ∙ here)) [
      | inl stood ↦ kept.each i branches stood
      | inr last ↦ let e : roots ≡ branches = cc in subst (IsSoundChoice new) e (record { some = several; apart = all-apart new roots at_most; possible = some })
    ]

-- the conditions of the branches are the store's, also of the choice that is added
pub branches-choice : (old new : Sets) (lines later : List Line) (roots : List (Cond × TreeId)) → Keeps old new → OwnsBranches old lines → All (λ (root : Cond × TreeId). IsCond new root.0.0) roots
    → AddsChoice roots lines later → OwnsBranches new later
branches-choice old new lines _ roots keeps own owned (no_choice same) = subst (OwnsBranches new) (sym same) (branches-Keeps old new lines keeps own)
branches-choice old new lines _ roots keeps own owned (one_choice several same) = subst (OwnsBranches new) (sym same) (record {
  each = λ i line here. elim (push_cases lines (choice roots) i line here) [
    | inl stood ↦ (branches-Keeps old new lines keeps own).each i line stood
    | inr last ↦ let e : choice roots ≡ line = cc in subst (λ (l : Line). All (λ (branch : Cond × TreeId). IsCond new branch.0.0) (branches_of l)) e owned
  ];
})
