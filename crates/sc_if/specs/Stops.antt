-- What a refusal says.
use Rattle.std.specs.Prelude.{◌≡◌, Option, None}
use Rattle.sc_if.specs.declared.stop.IfStop.{IfStop}
use Rattle.sc_if.specs.declared.stop.IfStop.TheVariants.{Fault, OutOfMemory}
use Rattle.sc_model.specs.declared.cause.Cause.{Cause}
use Rattle.sc_model.specs.declared.cause.Cause.TheVariants.{BadIf}

-- of a fault this is true
abbrev pub OnFault : IfStop → (Cause → Type 0) → Type 0
OnFault (Fault cause) claim = claim cause
OnFault OutOfMemory claim = Unit {0}

-- there is no next state
abbrev pub IsRefusal : {A : Type 0} → IfStop → Option A → Type 0
IsRefusal stop next = OnFault stop (λ cause. (cause ≡ BadIf) × (next ≡ None))
