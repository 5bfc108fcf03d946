-- Faults: why a configuration is refused, and where.
use Rattle.std.specs.Prelude.{ℕ, List}
use Rattle.sc_model.specs.declared.cause.Cause.{Cause}
use Rattle.sc_model.specs.Token.{Place}

pub record Fault : Type 0 where
  pub cause : Cause
  pub place : Place

abbrev pub fault_at : Cause → Place → Fault
fault_at cause place = record { cause = cause; place = place }

-- where a file begins
abbrev pub first_place : List ℕ → Place
first_place file = record { file = file; position = record { line = 1; column = 1 } }
