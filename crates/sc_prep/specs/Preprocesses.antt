-- What a file gives under all configurations, seen at one.
use Rattle.std.specs.Prelude.{◌≡◌, ℕ, ◌+◌, Bool, true, false, List, [], ◌∷◌, map, All, Option, Some, Result, Ok, Err}
use Rattle.c11_directives.specs.Pre.{Pre}
use Rattle.c11_directives.specs.PutOut.{FilesPutOut}
use Rattle.sc_base.specs.declared.fault.Fault as base
use Rattle.sc_base.specs.declared.id.Cond.{Cond}
use Rattle.sc_base.specs.declared.stop.Stop.{Stop}
use Rattle.sc_base.specs.declared.stop.Stop.TheVariants.{BranchesFull, ReadFault, OutOfMemory}
use Rattle.sc_expand.specs.Stops.{HasConfigs, StopsBy}
use Rattle.sc_prep.specs.Contents.{end_of_file}
use Rattle.sc_prep.specs.OneElement.{IsThin}
use Rattle.sc_prep.specs.declared.prepared.Prepared.{Prepared}
use Rattle.sc_guarded.specs.Items.{items_at, faults_at, seen_fault}
use Rattle.sc_base.specs.declared.token.Token as base_token
use Rattle.sc_base.specs.Seen.{seen, seen_place}
use Rattle.sc_model.specs.Outside.{Files, Rose}
use Rattle.sc_model.specs.Fault.{Fault}
use Rattle.sc_model.specs.Sets.{Sets, IsCond, IsConfig}
use Rattle.sc_model.specs.Space.{Space}
use Rattle.sc_model.specs.Token.{Token}

-- An ordinary answer stands in the lists of its configuration: its tokens and no fault, or its
-- fault alone.
abbrev pub Stands : Result (List Token) Fault → List Token → List Fault → Type 0
Stands (Ok tokens) items faults = (items ≡ tokens) × (faults ≡ [])
Stands (Err fault) items faults = faults ≡ fault ∷ []

abbrev pub is_accepted : Result (List Token) Fault → Bool
is_accepted (Ok tokens) = true
is_accepted (Err fault) = false

-- At the configuration the lists are what ordinary preprocessing gives there, and it is live just
-- if that has no fault.
pub record IsOrdinary (s : Sets) (names files : List (List ℕ)) (p : Prepared) (preprocesses : Result (List Token) Fault → Type 0) (config : List ℕ) : Type 0 where
  pub answer : Result (List Token) Fault
  pub preprocessed : preprocesses answer
  pub stands : Stands answer (map (seen names files) (items_at s p.list config)) (map (seen_fault files) (faults_at s p.faults.items config))
  pub live : s.has p.live.0 config ≡ is_accepted answer

-- the configuration is left out: it has no fault, and it is not live
pub record IsLeftOut (s : Sets) (p : Prepared) (config : List ℕ) : Type 0 where
  pub faults : faults_at s p.faults.items config ≡ []
  pub live : s.has p.live.0 config ≡ false

-- At each configuration that was live the lists are what ordinary preprocessing gives there, of
-- files that the source may hold: where it tells what it holds, of these. The others are left out.
-- Where a configuration is live the end is that of the main file. Where there are no more
-- configurations than the limit, the list is thin.
pub record IsPreparedFrom (old : Sets) (live : ℕ) (s : Sets) (names files : List (List ℕ)) (p : Prepared) (space : Space) (holds : Option Files) (main : List ℕ) : Type 0 where
  pub outside : Files
  pub held : (told : Files) → holds ≡ Some told → outside ≡ told
  pub ordinary : (config : List ℕ) → IsConfig old.arities config → old.has live config ≡ true → IsOrdinary s names files p (Pre space outside main config) config
  pub others : (config : List ℕ) → IsConfig old.arities config → old.has live config ≡ false → IsLeftOut s p config
  pub thin : (HasConfigs old.arities (space.branches + 1) → ⊥) → IsThin s p.list p.live.0 (FilesPutOut space outside main)
  pub ends : (bytes : List ℕ) (config : List ℕ) → outside main ≡ Some bytes → IsConfig old.arities config → s.has p.live.0 config ≡ true → seen_place files p.end ≡ end_of_file main bytes

-- the configuration has this fault alone
pub record IsRefused (s : Sets) (names files : List (List ℕ)) (p : Prepared) (fault : Fault) (config : List ℕ) : Type 0 where
  pub items : map (seen names files) (items_at s p.list config) ≡ []
  pub faults : map (seen_fault files) (faults_at s p.faults.items config) ≡ fault ∷ []
  pub live : s.has p.live.0 config ≡ false

-- the store made all conditions
pub record OwnsList (s : Sets) (p : Prepared) : Type 0 where
  pub list : All (λ (item : Cond × base_token.Token). IsCond s item.0.0) p.list
  pub faults : All (λ (f : base.Fault). IsCond s f.cond.0) p.faults.items
  pub live : IsCond s p.live.0

-- why there is no answer, by the configurations, the limit of branches, and the count of reads that
-- failed
abbrev pub Stops : List ℕ → ℕ → ℕ → ℕ → Stop → Type 0
Stops arities limit old new (BranchesFull count) = StopsBy arities limit (BranchesFull count)
Stops arities limit old new ReadFault = Rose old new
Stops arities limit old new OutOfMemory = Unit {0}

-- why a file gives nothing, by the count of reads that failed
abbrev pub ReadsNothing : ℕ → ℕ → Stop → Type 0
ReadsNothing old new (BranchesFull count) = ⊥
ReadsNothing old new ReadFault = Rose old new
ReadsNothing old new OutOfMemory = Unit {0}
