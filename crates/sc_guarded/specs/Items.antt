-- What stands at one configuration.
use Rattle.std.specs.Prelude.{ℕ, List, [], ◌∷◌, if◌then◌else◌}
use Rattle.sc_base.specs.declared.fault.Fault.{Fault}
use Rattle.sc_base.specs.declared.id.Cond.{Cond}
use Rattle.sc_base.specs.Seen.{seen_place}
use Rattle.sc_model.specs.Fault as model
use Rattle.sc_model.specs.Sets.{Sets}

-- the items whose condition has the configuration, in order
abbrev pub items_at : {T : Type 0} → Sets → List (Cond × T) → List ℕ → List T
items_at s [] config = []
items_at s (item ∷ items) config = if s.has item.0.0 config then item.1 ∷ items_at s items config else items_at s items config

-- the faults whose condition has the configuration, in order
abbrev pub faults_at : Sets → List Fault → List ℕ → List Fault
faults_at s [] config = []
faults_at s (fault ∷ faults) config = if s.has fault.cond.0 config then fault ∷ faults_at s faults config else faults_at s faults config

-- a fault, through the table of the names of files
abbrev pub seen_fault : List (List ℕ) → Fault → model.Fault
seen_fault files f = record { cause = f.cause; place = seen_place files f.place }
