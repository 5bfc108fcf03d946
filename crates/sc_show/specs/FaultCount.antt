-- The different faults of configurations.
use Rattle.std.specs.Prelude.{ℕ, List, map, All}
use Rattle.std.specs.List.{Contains}
use Rattle.sc_base.specs.declared.fault.Fault as base
use Rattle.sc_guarded.specs.Items.{faults_at, seen_fault}
use Rattle.sc_model.specs.Fault.{Fault}
use Rattle.sc_model.specs.Growth.{IsOneToOne}
use Rattle.sc_model.specs.Sets.{Sets, IsConfig}

-- the configuration has the fault
abbrev pub HasFaultAt : Sets → List (List ℕ) → List base.Fault → List ℕ → Fault → Type 0
HasFaultAt s files faults c fault = Contains (map (seen_fault files) (faults_at s faults c)) fault

-- the faults that configurations have, each once
pub record AreFaultsOf (s : Sets) (files : List (List ℕ)) (faults : List base.Fault) (different : List Fault) : Type 0 where
  pub once : IsOneToOne different
  pub some : All (λ fault. (c : List ℕ) × IsConfig s.arities c × HasFaultAt s files faults c fault) different
  pub all : (c : List ℕ) (fault : Fault) → IsConfig s.arities c → HasFaultAt s files faults c fault → Contains different fault
