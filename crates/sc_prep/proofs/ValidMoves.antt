-- What the line of a space's text comes to at each configuration.
use Rattle.std.proofs.Common.{◌≡◌, ℕ, zero, suc, ◌&&◌, true, All, List, [], ◌∷◌, map, None, Ok, Err, refl, sym, ap, ◌∙◌, subst, arith, if◌then◌else◌}
use Rattle.std.specs.List.{Contains}
use Rattle.c11_directives.proofs.ListedLaws.{says-unique}
use Rattle.c11_directives.specs.Listed.{IsRefusedBy, IsValidLine, SaysValid, decided}
use Rattle.sc_base.specs.declared.fault.Fault as base
use Rattle.sc_prep.proofs.Facts.{All-head, All-tail, Extends-refl, IsConfig-Keeps, IsConfig-kept, true≢false}
use Rattle.sc_prep.specs.New.{IsNew}
use Rattle.sc_prep.proofs.Terms.{Cause, Context, Decides, DecidesAt, Fault, IsConfig, IsNever, IsOutcomeOf, Keeps, Line, Machine, Sets, Space, State, Walk, arities_of, context_of, deciding_done, deciding_fails, deciding_idle, faults_at, initial_state, seen_fault, start}
use Rattle.sc_prep.specs.Stages.{DecidesTest}
use Rattle.sc_prep.specs.Valid.{FindsLeast, IsCauseAt, IsLeast, IsValidSet}

-- ---- lists of faults

abbrev pub causes : List base.Fault → List Cause
causes faults = map (λ (f : base.Fault). f.cause) faults

causes-none : (files : List (List ℕ)) (faults : List base.Fault) → map (seen_fault files) faults ≡ [] → causes faults ≡ []
causes-none files [] is = refl
causes-none files (f ∷ fs) is = cc

causes-one : (files : List (List ℕ)) (faults : List base.Fault) (fault : Fault) → map (seen_fault files) faults ≡ fault ∷ [] → causes faults ≡ fault.cause ∷ []
causes-one files [] fault is = cc
causes-one files (f ∷ []) fault is = let same : seen_fault files f ≡ fault = cc in ap (λ (g : Fault). g.cause ∷ []) same
causes-one files (f ∷ (g ∷ fs)) fault is = cc

pub contains-none : {A : Type 0} {x : A} → Contains [] x → ⊥
contains-none (k, below, is) = omega (arith, below)

pub contains-one : {A : Type 0} (x y : A) → Contains (x ∷ []) y → x ≡ y
contains-one x y (zero, below, is) = is
contains-one x y (suc k, below, is) = absurd (omega (arith, below))

pub one-contained : {A : Type 0} (x : A) → Contains (x ∷ []) x
one-contained x = (0, omega arith, refl)

pub never-none : (s : Sets) (faults : List base.Fault) (config : List ℕ) → IsConfig s.arities config → All (λ (f : base.Fault). IsNever s f.cond.0) faults → faults_at s faults config ≡ []
never-none s [] config listed never = refl
never-none s (f ∷ fs) config listed never =
    let P : base.Fault → Type 0 = λ f. IsNever s f.cond.0 in
    ap (λ b. if b then f ∷ faults_at s fs config else faults_at s fs config) ((All-head P f fs never).none config listed) ∙ never-none s fs config listed (All-tail P f fs never)

-- ---- the line is decided

module _ {s t : Sets} {space : Space} {names files more : List (List ℕ)} {walk next : Walk} (fresh : IsNew s space names walk) (keeps : Keeps s t)
    (line : Line) (is_line : IsValidLine space line) (all valid : ℕ) (everywhere : (config : List ℕ) → IsConfig s.arities config → s.has all config ≡ true)
    (decides : DecidesTest files names s walk more t next line all valid) where
  abbrev context : Context
  context = context_of space (λ name. None)

  abbrev first : List ℕ → State
  first config = initial_state space [] config

  -- what the line says of a configuration, and the fault that it has then
  data Says (config : List ℕ) : Type 0 where
    answers : Decides context (first config) line (Ok (t.has valid config)) → causes (faults_at t next.prepared.faults.items config) ≡ [] → Says config
    refuses : (fault : Fault) → Decides context (first config) line (Err fault) → causes (faults_at t next.prepared.faults.items config) ≡ fault.cause ∷ [] → Says config

  says : (config : List ℕ) → IsConfig s.arities config → Says config
  says config listed =
      let arrives = (decides.at context).simulates.at config (start (first config)) listed (fresh.starts (Extends-refl _) _ [] config listed) in
      by arrives.machine arrives.done arrives.simulates.prepared
    where
      by : (n : Machine) → DecidesAt context line (s.has all config && true) (start (first config)) (t.has valid config) n → IsOutcomeOf t files next.prepared config n → Says config
      by n (deciding_idle asked none) outcome = absurd (true≢false (sym (ap (λ b. b && true) (everywhere config listed)) ∙ asked))
      by n (deciding_done asked d) outcome = answers d (causes-none files (faults_at t next.prepared.faults.items config) outcome.fault)
      by n (deciding_fails fault asked none d) outcome = refuses fault d (causes-one files (faults_at t next.prepared.faults.items config) fault outcome.fault)

  -- where no configuration has a fault the condition is that of the text
  pub valid-is : FindsLeast t next.prepared.faults.items None → IsValidSet t space valid
  valid-is never = record { own = decides.own; says = λ config listed. by config listed (says config (IsConfig-kept keeps listed)) }
    where
      by : (config : List ℕ) → IsConfig t.arities config → Says config → SaysValid space config (Ok (t.has valid config))
      by config listed (answers d none) = decided line (Ok (t.has valid config)) is_line d
      by config listed (refuses fault d is) =
          let none : fault.cause ∷ [] ≡ [] = sym is ∙ ap causes (never-none t next.prepared.faults.items config listed never) in
          cc

  -- the least cause is the one for which the text says nothing somewhere
  pub refused-by : (cause : Cause) → IsLeast t next.prepared.faults.items cause → IsRefusedBy space cause
  refused-by cause least = record {
    config = least.config;
    formed = formed-at least.config least.is.formed;
    says = by (says least.config (IsConfig-kept keeps least.is.formed)) least.is.among;
    least = λ other lower formed below said.
        let listed = subst (λ arities. IsConfig arities other) (sym fresh.arities) formed in
        least.least other lower (at other lower listed said (says other listed)) below;
  }
    where
      formed-at : (config : List ℕ) → IsConfig t.arities config → IsConfig (arities_of space) config
      formed-at config listed = subst (λ arities. IsConfig arities config) fresh.arities (IsConfig-kept keeps listed)

      by : Says least.config → Contains (causes (faults_at t next.prepared.faults.items least.config)) cause → SaysValid space least.config (Err cause)
      by (answers d none) among = absurd (contains-none (subst (λ cs. Contains cs cause) none among))
      by (refuses fault d is) among =
          subst (λ c. SaysValid space least.config (Err c)) (contains-one fault.cause cause (subst (λ cs. Contains cs cause) is among)) (decided line (Err fault) is_line d)

      at : (other : List ℕ) (lower : Cause) → IsConfig s.arities other → SaysValid space other (Err lower) → Says other → IsCauseAt t next.prepared.faults.items lower other
      at other lower listed said (answers d none) =
          let no = says-unique space said (decided line (Ok (t.has valid other)) is_line d) in
          cc
      at other lower listed said (refuses fault d is) =
          let same : Err fault.cause ≡ Err lower = says-unique space (decided line (Err fault) is_line d) said in
          let cause_is : fault.cause ≡ lower = cc in
          record {
            formed = IsConfig-Keeps keeps listed;
            among = subst (λ cs. Contains cs lower) (sym is) (subst (λ c. Contains (fault.cause ∷ []) c) cause_is (one-contained fault.cause));
          }
