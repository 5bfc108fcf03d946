-- The different faults of configurations, counted one after the other.
use Rattle.std.proofs.Common.{◌≡◌, ◌<◌, ◌∙◌, ℕ, suc, ◌+◌, Bool, true, false, List, [], ◌∷◌, ◌++◌, All, length, map, slice_get, take, take_all, drop, get_or, Some, refl, sym, ap, subst, arith, add-one, inl, inr}
use Rattle.std.specs.List.{Contains}
use Rattle.std.specs.Cmp.{IsTotalOrder}
use Rattle.std.specs.Cmp.Lexicographic.{slice_cmp}
use Rattle.std.specs.Ordering.{nat_cmp, ordering_reverse, ordering_then}
use Rattle.std.specs.declared.cmp.Ordering.{Ordering}
use Rattle.std.specs.declared.cmp.Ordering.TheVariants.{Less, Equal, Greater}
use Rattle.std.proofs.lemmas.Cmp.{nat_cmp_total, nat_list_cmp_total}
use Rattle.std.proofs.lemmas.List.{map-append, take-append-drop, take_more}
use Rattle.sc_guarded.proofs.ItemLemmas.{faults_at-append}
use Rattle.std.proofs.lemmas.List.Elements.{All-append, All-nil, Contains-append_cases, Contains-append_left, Contains-append_right}
use Rattle.lr_tables.proofs.Members.{cons_cases, cons_head, cons_tail, no_member}
use Rattle.sc_base.proofs.Growth.{IsOneToOne-push}
use Rattle.sc_base.specs.declared.fault.Fault.{Fault}
use Rattle.sc_guarded.specs.Items.{faults_at, seen_fault}
use Rattle.sc_model.specs.Fault as model
use Rattle.sc_model.specs.Growth.{IsOneToOne}
use Rattle.sc_model.specs.Sets.{IsConfig, Sets}
use Rattle.sc_show.proofs.TokensShows.{faults_at-more, when}
use Rattle.sc_model.specs.Cause.{code_of}
use Rattle.sc_text.specs.Layout.{fault_order}
use Rattle.sc_show.specs.FaultCount.{AreFaultsOf, HasFaultAt}
use Rattle.sc_text.proofs.ListLemmas.{All-one}

-- ---- faults that are ordered alike

not-reversed : (o : Ordering) → o ≡ ordering_reverse o → o ≡ Equal
not-reversed Less is = absurd (cc)
not-reversed Equal is = refl
not-reversed Greater is = absurd (cc)

itself : {K : Type 0} (R : K → K → Ordering) → IsTotalOrder R → (x : K) → R x x ≡ Equal
itself R total x = not-reversed (R x x) (total.antisymm x x)

pub fault-itself : (f : model.Fault) → fault_order f f ≡ Equal
fault-itself f =
    let line = nat_cmp f.place.position.line f.place.position.line in
    let column = nat_cmp f.place.position.column f.place.position.column in
    let code = nat_cmp (code_of f.cause) (code_of f.cause) in
    ap (λ o. ordering_then (ordering_then (ordering_then o line) column) code) (itself (slice_cmp nat_cmp) nat_list_cmp_total f.place.file)
    ∙ ap (λ o. ordering_then (ordering_then o column) code) (itself nat_cmp nat_cmp_total f.place.position.line)
    ∙ ap (λ o. ordering_then o code) (itself nat_cmp nat_cmp_total f.place.position.column)
    ∙ itself nat_cmp nat_cmp_total (code_of f.cause)

pub map-has : (files : List (List ℕ)) (fs : List Fault) (fault : Fault) → Contains fs fault → Contains (map (seen_fault files) fs) (seen_fault files fault)
map-has files [] fault has = absurd (no_member fault has)
map-has files (x ∷ fs) fault has = elim (cons_cases x fault fs has) [
  | inl same ↦ subst (Contains (seen_fault files x ∷ map (seen_fault files) fs)) (ap (seen_fault files) same) (cons_head (seen_fault files x) (map (seen_fault files) fs))
  | inr rest ↦ cons_tail (seen_fault files x) (seen_fault files fault) (map (seen_fault files) fs) (map-has files fs fault rest)
]

-- one fault more that is another is not the one that is looked for
pub lacks-more : (files : List (List ℕ)) (fs : List Fault) (i : ℕ) (d fault : Fault) → i < length fs → (Contains (map (seen_fault files) (take i fs)) (seen_fault files fault) → ⊥)
    → (fault_order (seen_fault files (get_or fs i d)) (seen_fault files fault) ≡ Equal → ⊥) → Contains (map (seen_fault files) (take (i + 1) fs)) (seen_fault files fault) → ⊥
lacks-more files fs i d fault below lacks other has =
    let this = seen_fault files fault in
    let whole = ap (map (seen_fault files)) (take_more fs i d below) ∙ map-append (seen_fault files) (take i fs) (get_or fs i d ∷ []) in
    elim (Contains-append_cases (map (seen_fault files) (take i fs)) (seen_fault files (get_or fs i d) ∷ []) this (subst (λ seen. Contains seen this) whole has)) [
      | inl one ↦ lacks one
      | inr one ↦ elim (cons_cases (seen_fault files (get_or fs i d)) this [] one) [
        | inl same ↦ other (ap (λ f. fault_order f this) same ∙ fault-itself this)
        | inr none ↦ absurd (no_member this none)
      ]
    ]

-- ---- counting

-- the fault is one of some configuration
pub record IsOfSome (s : Sets) (files : List (List ℕ)) (faults : List Fault) (fault : model.Fault) : Type 0 where
  pub config : List ℕ
  pub listed : IsConfig s.arities config
  pub has : HasFaultAt s files faults config fault

module _ (s : Sets) (files : List (List ℕ)) (faults : List Fault) where
  -- those of the first faults that are different, each of some configuration
  pub record AreCounted (i : ℕ) (different : List Fault) : Type 0 where
    pub once : IsOneToOne (map (seen_fault files) different)
    pub some : All (IsOfSome s files faults) (map (seen_fault files) different)
    pub all : (c : List ℕ) (fault : model.Fault) → IsConfig s.arities c → HasFaultAt s files (take i faults) c fault → Contains (map (seen_fault files) different) fault
    pub placed : All (λ (fault : Fault). fault.place.file.0 < length files) different

  pub counted-none : AreCounted 0 []
  counted-none = record {
    once = record { same = λ i j x at other. absurd (cc) };
    some = All-nil (IsOfSome s files faults);
    all = λ c fault listed has. has;
    placed = All-nil (λ (fault : Fault). fault.place.file.0 < length files);
  }

  module _ (i : ℕ) (fault : Fault) (at : slice_get faults i ≡ Some fault) where
    here : (c : List ℕ) → map (seen_fault files) (faults_at s (take (i + 1) faults) c) ≡ map (seen_fault files) (faults_at s (take i faults) c) ++ map (seen_fault files) (when (s.has fault.cond.0 c) fault)
    here c =
        ap (λ n. map (seen_fault files) (faults_at s (take n faults) c)) (add-one i)
        ∙ ap (map (seen_fault files)) (faults_at-more s faults i fault c at)
        ∙ map-append (seen_fault files) (faults_at s (take i faults) c) (when (s.has fault.cond.0 c) fault)

    -- a configuration of its condition has it
    has-here : (c : List ℕ) → s.has fault.cond.0 c ≡ true → HasFaultAt s files faults c (seen_fault files fault)
    has-here c holds =
        let whole : faults_at s faults c ≡ faults_at s (take (suc i) faults) c ++ faults_at s (drop (suc i) faults) c =
        ap (λ fs. faults_at s fs c) (sym (take-append-drop (suc i) faults)) ∙ faults_at-append s (take (suc i) faults) (drop (suc i) faults) c in
        let mine : faults_at s (take (suc i) faults) c ≡ faults_at s (take i faults) c ++ fault ∷ [] = faults_at-more s faults i fault c at ∙ ap (λ b. faults_at s (take i faults) c ++ when b fault) holds in
        let has : Contains (faults_at s (take (suc i) faults) c) fault =
        subst (λ fs. Contains fs fault) (sym mine) (Contains-append_right (faults_at s (take i faults) c) (fault ∷ []) fault (cons_head fault [])) in
        map-has files (faults_at s faults c) fault (subst (λ fs. Contains fs fault) (sym whole) (Contains-append_left (faults_at s (take (suc i) faults) c) (faults_at s (drop (suc i) faults) c) fault has))

    -- a configuration has one of the first, or this one
    which : (c : List ℕ) (other : model.Fault) (P : Type 0) → HasFaultAt s files (take (i + 1) faults) c other → (HasFaultAt s files (take i faults) c other → P)
        → (s.has fault.cond.0 c ≡ true → seen_fault files fault ≡ other → P) → P
    which c other P has first this =
        elim (Contains-append_cases (map (seen_fault files) (faults_at s (take i faults) c)) (map (seen_fault files) (when (s.has fault.cond.0 c) fault)) other
        (subst (λ fs. Contains fs other) (here c) has)) [
          | inl one ↦ first one
          | inr one ↦ by (s.has fault.cond.0 c) refl one
        ]
      where
        by : (b : Bool) → s.has fault.cond.0 c ≡ b → Contains (map (seen_fault files) (when b fault)) other → P
        by false lacks one = absurd (no_member other one)
        by true holds one = elim (cons_cases (seen_fault files fault) other [] one) [
          | inl same ↦ this holds same
          | inr none ↦ absurd (no_member other none)
        ]

    -- the fault is there already, or no configuration has it
    pub counted-skip : (different : List Fault) → AreCounted i different
        → ((c : List ℕ) → IsConfig s.arities c → s.has fault.cond.0 c ≡ true → Contains (map (seen_fault files) different) (seen_fault files fault)) → AreCounted (i + 1) different
    counted-skip different was there = record {
      once = was.once;
      some = was.some;
      all = λ c other listed has.
          which c other (Contains (map (seen_fault files) different) other) has (was.all c other listed)
          (λ holds same. subst (Contains (map (seen_fault files) different)) same (there c listed holds));
      placed = was.placed;
    }

    pub counted-push : (different now : List Fault) (c : List ℕ) → now ≡ different ++ fault ∷ [] → AreCounted i different → IsConfig s.arities c → s.has fault.cond.0 c ≡ true
        → (Contains (map (seen_fault files) different) (seen_fault files fault) → ⊥) → fault.place.file.0 < length files → AreCounted (i + 1) now
    counted-push different now c is was listed holds lacks file = subst (AreCounted (i + 1)) (sym is) (record {
      once = subst IsOneToOne (sym whole) (IsOneToOne-push (map (seen_fault files) different) (seen_fault files fault) was.once lacks);
      some = subst (All (IsOfSome s files faults)) (sym whole)
          (All-append (IsOfSome s files faults) (map (seen_fault files) different) (seen_fault files fault ∷ []) was.some
          (All-one (IsOfSome s files faults) (seen_fault files fault) (record { config = c; listed = listed; has = has-here c holds })));
      all = λ d other config has.
          subst (λ fs. Contains fs other) (sym whole)
          (which d other (Contains (map (seen_fault files) different ++ seen_fault files fault ∷ []) other) has
          (λ first. Contains-append_left (map (seen_fault files) different) (seen_fault files fault ∷ []) other (was.all d other config first))
          (λ has_it same. Contains-append_right (map (seen_fault files) different) (seen_fault files fault ∷ []) other (subst (Contains (seen_fault files fault ∷ [])) same (cons_head (seen_fault files fault) []))));
      placed = All-append (λ (f : Fault). f.place.file.0 < length files) different (fault ∷ []) was.placed (All-one (λ (f : Fault). f.place.file.0 < length files) fault file);
    })
      where
        whole : map (seen_fault files) (different ++ fault ∷ []) ≡ map (seen_fault files) different ++ seen_fault files fault ∷ []
        whole = map-append (seen_fault files) different (fault ∷ [])

  pub counted-all : (i : ℕ) (different : List Fault) → length faults ≡ i → AreCounted i different → AreFaultsOf s files faults (map (seen_fault files) different)
  counted-all i different long are = record {
    once = are.once;
    some = λ k d below. let of = are.some k d below in (of.config, of.listed, of.has);
    all = λ c fault listed has. are.all c fault listed (subst (λ fs. HasFaultAt s files fs c fault) (sym (take_all i faults (omega (arith, long)))) has);
  }
