-- A walk before its first line.
use Rattle.std.specs.Prelude.{◌≡◌, ℕ, List, []}
use Rattle.c11_directives.specs.Pre.{initial_state}
use Rattle.sc_model.specs.Growth.{Extends}
use Rattle.sc_model.specs.Sets.{IsConfig, Sets}
use Rattle.sc_model.specs.Space.{Space, arities_of}
use Rattle.sc_prep.specs.declared.walk.Walk.{Walk}
use Rattle.sc_prep.specs.Machine.{start}
use Rattle.sc_prep.specs.Pragmas.{HasNoPragma}
use Rattle.sc_prep.specs.Simulates.{Owns, Simulates}
use Rattle.sc_table.specs.Table.{IsTable}

-- Nothing was read, put out or refused, and each configuration starts with the first macros, also
-- where the tables hold more.
pub record IsNew (s : Sets) (space : Space) (names : List (List ℕ)) (walk : Walk) : Type 0 where
  pub arities : s.arities ≡ arities_of space
  pub owns : Owns s walk
  pub table : IsTable s names walk.table
  pub gathered : walk.runs.gathered ≡ []
  pub held : walk.runs.held.items ≡ []
  pub pragmas : HasNoPragma s walk.runs.pragmas
  pub read : walk.runs.read ≡ []
  pub once : walk.once.items ≡ []
  pub list : walk.prepared.list ≡ []
  pub faults : walk.prepared.faults.items ≡ []
  pub starts : {more : List (List ℕ)} → Extends names more → (files : List (List ℕ)) (main config : List ℕ) → IsConfig s.arities config
      → Simulates s more files walk config (start (initial_state space main config))
