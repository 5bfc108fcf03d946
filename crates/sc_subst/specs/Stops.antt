-- What a refusal says.
use Rattle.sc_model.specs.declared.cause.Cause.{Cause}
use Rattle.sc_model.specs.declared.cause.Cause.TheVariants.{BadPaste, BadStringize}
use Rattle.sc_subst.specs.declared.stop.SubstStop.{SubstStop}
use Rattle.sc_subst.specs.declared.stop.SubstStop.TheVariants.{Fault, OutOfMemory}

-- of a fault this is true
abbrev pub OnFault : SubstStop → (Cause → Type 0) → Type 0
OnFault (Fault cause) claim = claim cause
OnFault OutOfMemory claim = Unit {0}

-- of a fault of # this is true, and of one of ## that; there is no other
abbrev pub OnOperator : Cause → Type 0 → Type 0 → Type 0
OnOperator BadStringize hash paste = hash
OnOperator BadPaste hash paste = paste
OnOperator other hash paste = ⊥
