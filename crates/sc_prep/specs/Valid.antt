-- The configurations that a space lists, as a condition.
use Rattle.std.specs.Prelude.{◌≡◌, ℕ, ◌<◌, nat_lt, Bool, true, All, List, map, Option, Some, None, Ok, Err}
use Rattle.std.specs.List.{Contains}
use Rattle.c11_directives.specs.Footprints.{ValidHas}
use Rattle.c11_directives.specs.Listed.{IsRefusedBy, SaysValid, if_bytes}
use Rattle.c11_tokens.specs.Lex.{Lexed}
use Rattle.sc_base.specs.declared.fault.Fault as base
use Rattle.sc_base.specs.declared.stop.Stop.TheVariants.{OutOfMemory}
use Rattle.sc_expand.specs.Stops.{StopsBy}
use Rattle.sc_guarded.specs.Items.{faults_at}
use Rattle.sc_model.specs.declared.cause.Cause.{Cause}
use Rattle.sc_model.specs.declared.cause.Cause.TheVariants.{UnterminatedComment}
use Rattle.sc_model.specs.Cause.{code_of}
use Rattle.sc_model.specs.Sets.{Sets, IsCond, IsConfig, IsNever}
use Rattle.sc_model.specs.Space.{Space, arities_of}
use Rattle.sc_model.specs.Token.{Position}
use Rattle.sc_prep.specs.declared.valid.ValidStop.{ValidStop}
use Rattle.sc_prep.specs.declared.valid.ValidStop.TheVariants.{Fault, Stop}
use Rattle.sc_prep.specs.Footprints.{StopsAtPlace}

-- The condition has a configuration exactly where the text of the space holds there, and the text
-- says of each one whether it does.
pub record IsValidSet (s : Sets) (space : Space) (valid : ℕ) : Type 0 where
  pub own : IsCond s valid
  pub says : (config : List ℕ) → IsConfig s.arities config → SaysValid space config (Ok (s.has valid config))

-- Why there is no such condition: a cause, or more configurations than the limit have footprints of
-- the text at one place, no two the same, or there is no memory.
abbrev pub FailsValid : Space → ℕ → ValidStop → Type 0
FailsValid space limit (Fault cause) = IsRefusedBy space cause
FailsValid space limit (Stop stop) = StopsBy (arities_of space) limit stop × StopsAtPlace (arities_of space) (ValidHas space) limit stop

-- The text has a comment without an end, or there is no memory.
abbrev pub RefusesText : List ℕ → ValidStop → Type 0
RefusesText text (Fault cause) = (cause ≡ UnterminatedComment) × ((place : Position) × Lexed (if_bytes text) (Err place))
RefusesText text (Stop stop) = stop ≡ OutOfMemory

-- this configuration has a fault with the cause
pub record IsCauseAt (s : Sets) (faults : List base.Fault) (cause : Cause) (config : List ℕ) : Type 0 where
  pub formed : IsConfig s.arities config
  pub among : Contains (map (λ (fault : base.Fault). fault.cause) (faults_at s faults config)) cause

-- Some configuration has a fault with the cause, and none has one with a lower code.
pub record IsLeast (s : Sets) (faults : List base.Fault) (cause : Cause) : Type 0 where
  pub config : List ℕ
  pub is : IsCauseAt s faults cause config
  pub least : (other : List ℕ) (lower : Cause) → IsCauseAt s faults lower other → code_of lower < code_of cause → ⊥

-- the least cause, or that no configuration has a fault
abbrev pub FindsLeast : Sets → List base.Fault → Option Cause → Type 0
FindsLeast s faults None = All (λ (fault : base.Fault). IsNever s fault.cond.0) faults
FindsLeast s faults (Some cause) = IsLeast s faults cause

abbrev pub is_less : Cause → Option Cause → Bool
is_less cause None = true
is_less cause (Some other) = nat_lt (code_of cause) (code_of other)

-- a configuration of a condition
pub record IsOf (s : Sets) (live : ℕ) (config : List ℕ) : Type 0 where
  pub formed : IsConfig s.arities config
  pub has : s.has live config ≡ true
