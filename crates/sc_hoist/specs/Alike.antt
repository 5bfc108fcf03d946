-- Two configurations that have the same: both have each item, or neither.
use Rattle.std.specs.Prelude.{◌≡◌, ℕ, List, All}
use Rattle.sc_base.specs.declared.fault.Fault.{Fault}
use Rattle.sc_base.specs.declared.id.Cond.{Cond}
use Rattle.sc_model.specs.Sets.{Sets}

-- both have the condition, or neither
abbrev pub IsAlike : Sets → (c d : List ℕ) → Cond → Type 0
IsAlike s c d cond = s.has cond.0 c ≡ s.has cond.0 d

-- each item of a list
abbrev pub AreAlike : {T : Type 0} → Sets → (c d : List ℕ) → List (Cond × T) → Type 0
AreAlike s c d list = All (λ item. IsAlike s c d item.0) list

-- each fault
abbrev pub AreAlikeFaults : Sets → (c d : List ℕ) → List Fault → Type 0
AreAlikeFaults s c d faults = All (λ fault. IsAlike s c d fault.cond) faults
