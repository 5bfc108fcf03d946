-- The least cause among faults, as they are taken one by one.
use Rattle.std.proofs.Common.{◌≡◌, ℕ, ◌<◌, ◌≤◌, ◌++◌, ◌⊎◌, inl, inr, Bool, true, false, All, List, [], ◌∷◌, Option, None, Some, refl, sym, ap, ◌∙◌, subst, arith}
use Rattle.std.proofs.lemmas.Bool.Decides.{nat_tests}
use Rattle.std.proofs.lemmas.List.Elements.{Contains-append_cases, Contains-append_left, Contains-append_right}
use Rattle.std.specs.List.{Contains}
use Rattle.std.specs.Prelude.{if◌then◌else◌, nat_lt}
use Rattle.sc_base.specs.declared.fault.Fault as base
use Rattle.sc_model.specs.Cause.{code_of}
use Rattle.sc_prep.proofs.Facts.{All-append, All-cons, All-nil, faults_at-append, map-append, true≢false}
use Rattle.sc_prep.proofs.Terms.{Cause, IsConfig, IsNever, Sets, faults_at}
use Rattle.sc_prep.proofs.ValidMoves.{causes, contains-none, contains-one, never-none, one-contained}
use Rattle.sc_prep.specs.Valid.{FindsLeast, IsCauseAt, is_less}

-- whether a number is lower is told by the test
lower-is : (k n : ℕ) → nat_lt k n ≡ true → k < n
lower-is k n is = grind (arith, nat_tests)

lower-not : (k n : ℕ) → nat_lt k n ≡ false → n ≤ k
lower-not k n is = grind (arith, nat_tests)

module _ (s : Sets) (before : List base.Fault) (f : base.Fault) where
  abbrev more : List base.Fault
  more = before ++ f ∷ []

  -- what one more fault adds at a configuration
  abbrev added : List ℕ → List Cause
  added config = if s.has f.cond.0 config then f.cause ∷ [] else []

  causes-more : (config : List ℕ) → causes (faults_at s more config) ≡ causes (faults_at s before config) ++ added config
  causes-more config =
      ap causes (faults_at-append s before (f ∷ []) config)
      ∙ (map-append (λ (g : base.Fault). g.cause) (faults_at s before config) (faults_at s (f ∷ []) config)
      ∙ ap (λ cs. causes (faults_at s before config) ++ cs) (by (s.has f.cond.0 config)))
    where
      by : (b : Bool) → causes (if b then f ∷ [] else []) ≡ (if b then f.cause ∷ [] else [])
      by true = refl
      by false = refl

  was-cause : {cause : Cause} {config : List ℕ} → IsCauseAt s before cause config → IsCauseAt s more cause config
  was-cause {cause} {config} is = record {
    formed = is.formed;
    among = subst (λ cs. Contains cs cause) (sym (causes-more config))
        (Contains-append_left (causes (faults_at s before config)) (added config) cause is.among);
  }

  new-cause : {config : List ℕ} → IsConfig s.arities config → s.has f.cond.0 config ≡ true → IsCauseAt s more f.cause config
  new-cause {config} formed has = record {
    formed = formed;
    among = subst (λ cs. Contains cs f.cause) (sym (causes-more config)) (Contains-append_right (causes (faults_at s before config)) (added config) f.cause
        (subst (λ b. Contains (if b then f.cause ∷ [] else []) f.cause) (sym has) (one-contained f.cause)));
  }

  cause-cases : {cause : Cause} {config : List ℕ} → IsCauseAt s more cause config
      → IsCauseAt s before cause config ⊎ ((s.has f.cond.0 config ≡ true) × (f.cause ≡ cause))
  cause-cases {cause} {config} is = elim (Contains-append_cases (causes (faults_at s before config)) (added config) cause
      (subst (λ cs. Contains cs cause) (causes-more config) is.among)) [
        | inl was ↦ inl (record { formed = is.formed; among = was })
        | inr new ↦ by (s.has f.cond.0 config) refl new
      ]
    where
      by : (b : Bool) → s.has f.cond.0 config ≡ b → Contains (if b then f.cause ∷ [] else []) cause
          → IsCauseAt s before cause config ⊎ ((s.has f.cond.0 config ≡ true) × (f.cause ≡ cause))
      by true has new = inr (has, contains-one f.cause cause new)
      by false has new = absurd (contains-none new)

  never-cause : {cause : Cause} {config : List ℕ} → All (λ (g : base.Fault). IsNever s g.cond.0) before → IsCauseAt s before cause config → ⊥
  never-cause {cause} {config} never is = contains-none (subst (λ cs. Contains cs cause) (ap causes (never-none s before config is.formed never)) is.among)

  -- no configuration has the fault
  pub least-skips : (least : Option Cause) → IsNever s f.cond.0 → FindsLeast s before least → FindsLeast s more least
  least-skips None none never =
      let P : base.Fault → Type 0 = λ g. IsNever s g.cond.0 in
      All-append P before (f ∷ []) never (All-cons P f [] none (All-nil P))
  least-skips (Some cause) none least = record {
    config = least.config;
    is = was-cause least.is;
    least = λ other lower is below. elim (cause-cases is) [
      | inl was ↦ least.least other lower was below
      | inr new ↦ true≢false (sym new.0 ∙ none.none other is.formed)
    ];
  }

  -- some configuration has it, and its cause has a lower code
  pub least-takes : (least : Option Cause) (config : List ℕ) → IsConfig s.arities config → s.has f.cond.0 config ≡ true → is_less f.cause least ≡ true
      → FindsLeast s before least → FindsLeast s more (Some f.cause)
  least-takes least config formed has less found = record {
    config = config;
    is = new-cause formed has;
    least = λ other lower is below. elim (cause-cases is) [
      | inl was ↦ none-lower least less found other lower was below
      | inr new ↦ omega (arith, below, ap code_of new.1)
    ];
  }
    where
      none-lower : (least : Option Cause) → is_less f.cause least ≡ true → FindsLeast s before least → (other : List ℕ) (lower : Cause)
          → IsCauseAt s before lower other → code_of lower < code_of f.cause → ⊥
      none-lower None less never other lower was below = never-cause never was
      none-lower (Some cause) less found other lower was below =
          let first = lower-is (code_of f.cause) (code_of cause) less in
          found.least other lower was (omega (arith, first, below))

  -- it doesn't
  pub least-stays : (least : Option Cause) → is_less f.cause least ≡ false → FindsLeast s before least → FindsLeast s more least
  least-stays None less found = absurd (true≢false less)
  least-stays (Some cause) less found = record {
    config = found.config;
    is = was-cause found.is;
    least = λ other lower is below. elim (cause-cases is) [
      | inl was ↦ found.least other lower was below
      | inr new ↦ (let last = lower-not (code_of f.cause) (code_of cause) less in omega (arith, last, below, ap code_of new.1))
    ];
  }
