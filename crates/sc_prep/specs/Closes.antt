-- What closing the runs does to the lists of a walk.
use Rattle.std.specs.Prelude.{◌≡◌, ℕ, ◌&&◌, ◌++◌, Bool, true, false, List, [], ◌∷◌, All, map, if◌then◌else◌}
use Rattle.std.specs.List.{Contains}
use Rattle.sc_base.specs.declared.fault.Fault.{Fault}
use Rattle.sc_base.specs.declared.id.Cond.{Cond}
use Rattle.sc_guarded.specs.Items.{faults_at, items_at}
use Rattle.sc_model.specs.Sets.{Sets, IsConfig, IsCond, IsNever, Denotes}
use Rattle.sc_prep.specs.declared.walk.Walk.{Walk}

-- items of a list, each of which some configuration has
pub record IsPart {T : Type 0} (items : List (Cond × T)) (s : Sets) (kept : List (Cond × T)) : Type 0 where
  pub own : All (λ item. IsCond s item.0.0) kept
  pub some : All (λ item. IsNever s item.0.0 → ⊥) kept
  pub from : All (λ item. Contains (map (λ i. i.1) items) item.1) kept

-- Each item stands there in its configurations of a test, in the same order. Where it has none of
-- them it may be left out.
pub data KeepsEach {T : Type 0} (old : Sets) (test : List ℕ → Bool) (new : Sets) : (items kept : List (Cond × T)) → Type 0 where
  no_items : KeepsEach old test new [] []
  keeps_item : {cond part : Cond} {x : T} {items kept : List (Cond × T)}
      → ((c : List ℕ) → IsConfig old.arities c → new.has part.0 c ≡ (old.has cond.0 c && test c))
      → KeepsEach old test new items kept → KeepsEach old test new ((cond, x) ∷ items) ((part, x) ∷ kept)
  leaves_item : {cond : Cond} {x : T} {items kept : List (Cond × T)} → ((c : List ℕ) → IsConfig old.arities c → (old.has cond.0 c && test c) ≡ false)
      → KeepsEach old test new items kept → KeepsEach old test new ((cond, x) ∷ items) kept

-- the items of a list in the configurations of a test
pub record IsWithin {T : Type 0} (old : Sets) (items : List (Cond × T)) (test : List ℕ → Bool) (new : Sets) (kept : List (Cond × T)) : Type 0 where
  pub part : IsPart items new kept
  pub each : KeepsEach old test new items kept
  pub at : (c : List ℕ) → IsConfig old.arities c → items_at new kept c ≡ (if test c then items_at old items c else [])

abbrev pub is_empty : {A : Type 0} → List A → Bool
is_empty [] = true
is_empty (x ∷ xs) = false

-- the configuration has none of the faults
abbrev pub has_none : Sets → List Fault → List ℕ → Bool
has_none s faults c = is_empty (faults_at s faults c)

-- the configurations of the faults are refused
pub record RefusesEach (old : Sets) (walk : Walk) (refused : List Fault) (new : Sets) (next : Walk) : Type 0 where
  pub same : next ≡ record walk { acting = next.acting; prepared = record walk.prepared { faults = next.prepared.faults; live = next.prepared.live } }
  pub faults : next.prepared.faults.items ≡ walk.prepared.faults.items ++ refused
  pub live : Denotes new next.prepared.live.0 (λ c. old.has walk.prepared.live.0 c && has_none old refused c)
  pub acting : Denotes new next.acting.0 (λ c. old.has walk.acting.0 c && has_none old refused c)
