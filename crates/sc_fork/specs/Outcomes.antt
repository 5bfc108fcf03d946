-- What a finished core has come to.
use Rattle.std.specs.Prelude.{◌≡◌, ℕ, ◌<◌, List, [], ◌∷◌, map, Option, Some, Result, Ok, Err, All, IfSome, if◌then◌else◌}
use Rattle.std.specs.List.{Contains}
use Rattle.c11_parsing.specs.Core as core
use Rattle.c11_parsing.specs.Trees.{Tree}
use Rattle.sc_base.specs.declared.fault.Fault as declared
use Rattle.sc_base.specs.declared.id.TreeId.{TreeId}
use Rattle.sc_fork.specs.declared.outcome.Outcome.{Outcome}
use Rattle.sc_fork.specs.declared.source.Source.{Source}
use Rattle.sc_fork.specs.Owns.{IsPlaceOf}
use Rattle.sc_guarded.specs.Items.{faults_at, seen_fault}
use Rattle.sc_model.specs.Fault.{Fault}
use Rattle.sc_model.specs.Sets.{Sets, IsCond, IsConfig}
use Rattle.sc_tree.specs.Reads.{Tables, Reads}

-- the answers at the configuration
abbrev pub answers_at : List core.Ended → List ℕ → List (Result Tree Fault)
answers_at [] c = []
answers_at (e ∷ es) c = if e.condition c then e.answer c ∷ answers_at es c else answers_at es c

-- of these the faults
abbrev pub faults_in : List (Result Tree Fault) → List Fault
faults_in [] = []
faults_in (Ok tree ∷ answers) = faults_in answers
faults_in (Err fault ∷ answers) = fault ∷ faults_in answers

pub data RootReads (w : Tables) (c : List ℕ) : Option TreeId → Tree → Type 0 where
  root_reads : (id : TreeId) (tree : Tree) → Reads w c id.0 tree → RootReads w c (Some id) tree

-- the configuration has a tree for an answer
pub record HasTree (seen : core.Core) (c : List ℕ) (tree : Tree) : Type 0 where
  pub answer : Contains (answers_at seen.ended c) (Ok tree)

-- The root stands for each configuration's tree, and the faults are those of each configuration.
-- There is no root exactly where no configuration has a tree.
pub record IsOutcome (w : Tables) (seen : core.Core) (o : Outcome) : Type 0 where
  pub trees : (c : List ℕ) (tree : Tree) → IsConfig w.sets.arities c → HasTree seen c tree → RootReads w c o.root tree
  pub faults : (c : List ℕ) → IsConfig w.sets.arities c → map (seen_fault w.files) (faults_at w.sets o.faults.items c) ≡ faults_in (answers_at seen.ended c)
  pub some : (id : TreeId) → o.root ≡ Some id → (c : List ℕ) × ((tree : Tree) × (IsConfig w.sets.arities c × HasTree seen c tree))

-- the outcome's conditions and its root are those of the stores, its places those of the source
pub record OwnsOutcome (sets : Sets) (count : ℕ) (source : Source) (o : Outcome) : Type 0 where
  pub root : IfSome o.root (λ id. id.0 < count)
  pub faults : All (λ (fault : declared.Fault). IsCond sets fault.cond.0) o.faults.items
  pub places : All (λ (fault : declared.Fault). IsPlaceOf source.list.now source.end fault.place) o.faults.items
