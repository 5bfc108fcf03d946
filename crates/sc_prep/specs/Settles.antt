-- What settling a list leaves of it, and what ends runs that have settled.
use Rattle.std.specs.Prelude.{◌≡◌, ◌⊎◌, ℕ, ◌&&◌, ◌++◌, not, true, List, [], All, map}
use Rattle.c11_macros.specs.Hidden.{Failure}
use Rattle.sc_base.specs.declared.fault.Fault.{Fault}
use Rattle.sc_base.specs.declared.id.Cond.{Cond}
use Rattle.sc_base.specs.declared.place.Place.{Place}
use Rattle.sc_base.specs.Seen.{IsHeld}
use Rattle.sc_expand.specs.Closing.{IsClosed}
use Rattle.sc_expand.specs.Seen.{provenance_of, seen_at, seen_failure, stores}
use Rattle.sc_expand.specs.declared.settling.Settled.{Settled}
use Rattle.sc_guarded.specs.declared.expanded.Expanded.{Expanded}
use Rattle.sc_model.specs.Sets.{Sets, Denotes, IsCond, IsConfig, Keeps}
use Rattle.sc_prep.specs.Closes.{IsWithin, has_none}
use Rattle.sc_prep.specs.Gathered.{StillWaits, held_at, hidden_at}
use Rattle.sc_prep.specs.Pragmas.{EndsPragmas, PutsOutside}
use Rattle.sc_prep.specs.Read.{EndsRead}
use Rattle.sc_prep.specs.declared.walk.Walk.{Walk}
use Rattle.sc_subst.specs.declared.hidden.Hidden.{Hidden}
use Rattle.sc_table.specs.Table.{macros_at}

-- configurations without a fault, those of the first condition, that are asked for, as all that act
pub record IsAsked (s : Sets) (walk : Walk) (free asked : ℕ) : Type 0 where
  pub live : Denotes s free (λ c. s.has walk.prepared.live.0 c && has_none s walk.runs.held.items c)
  pub own : IsCond s asked
  pub within : (c : List ℕ) → IsConfig s.arities c → s.has asked c ≡ true → s.has free c ≡ true
  pub acting : (c : List ℕ) → IsConfig s.arities c → s.has free c ≡ true → s.has walk.acting.0 c ≡ true → s.has asked c ≡ true

-- What a list of the configurations that are asked for settled to is put out, waits and holds them.
-- The others without a fault keep what they have gathered.
pub record KeepsSettled (names : List (List ℕ)) (old : Sets) (walk : Walk) (live asked : ℕ) (settled : Settled) (new : Sets) (next : Walk) : Type 0 where
  pub same : next ≡ record walk { runs = record walk.runs { gathered = next.runs.gathered; held = next.runs.held; pragmas = next.runs.pragmas }; prepared = record walk.prepared { list = next.prepared.list } }
  pub middle : Sets
  pub until : Keeps old middle
  pub later : Keeps middle new
  pub free : ℕ
  pub left : List (Cond × Hidden)
  pub gathered : next.runs.gathered ≡ settled.rest ++ left
  pub held : next.runs.held.items ≡ walk.runs.held.items ++ settled.held.items
  pub is_free : Denotes middle free (λ c. old.has asked c && has_none old settled.held.items c)
  pub puts : PutsOutside names middle walk.runs.pragmas settled.done free walk.prepared.list new next.runs.pragmas next.prepared.list
  pub stays : IsWithin old walk.runs.gathered (λ c. old.has live c && not (old.has asked c)) new left

-- faults as items of a list
abbrev pub fault_items : List Fault → List (Cond × Failure Place)
fault_items faults = map (λ fault. (fault.cond, seen_failure fault)) faults

-- the store made what the list settled to, and the table of texts has its tokens
pub record OwnsSettled (s : Sets) (names : List (List ℕ)) (settled : Settled) : Type 0 where
  pub done : All (λ item. IsCond s item.0.0) settled.done
  pub held : All (λ item. IsHeld names item.1) settled.done
  pub faults : All (λ fault. IsCond s fault.cond.0) settled.held.items

-- The text of the configurations that act is taken out, as what it becomes where nothing follows
-- it, with the faults that hold them. What is gathered, and held, stays for the others.
pub record TakesEnded (old : Sets) (walk : Walk) (new : Sets) (next : Walk) (taken : Expanded) : Type 0 where
  pub e : Expanded
  pub closed : IsClosed old new walk.runs.gathered walk.acting.0 e
  pub ended : List Fault
  pub ends : IsWithin old (fault_items walk.runs.held.items) (old.has walk.acting.0) new (fault_items ended)
  pub list : taken.list ≡ e.list
  pub faults : taken.faults.items ≡ e.faults.items ++ ended
  pub same : next ≡ record walk { runs = record walk.runs { gathered = next.runs.gathered; held = next.runs.held; read = next.runs.read } }
  pub gathered : IsWithin old walk.runs.gathered (λ c. not (old.has walk.acting.0 c)) new next.runs.gathered
  pub held : IsWithin old (fault_items walk.runs.held.items) (λ c. not (old.has walk.acting.0 c)) new (fault_items next.runs.held.items)
  pub read : EndsRead old walk.runs.read walk.acting.0 walk.prepared.live.0 new next.runs.read

-- The runs of the configurations that act end: what waits there is closed, and what holds them is
-- their fault. What is gathered, and held, stays for the others.
pub record EndsRuns (names : List (List ℕ)) (old : Sets) (walk : Walk) (new : Sets) (next : Walk) : Type 0 where
  pub middle : Sets
  pub until : Keeps old middle
  pub e : Expanded
  pub closed : IsClosed old middle walk.runs.gathered walk.acting.0 e
  pub ended : List Fault
  pub ends : IsWithin old (fault_items walk.runs.held.items) (old.has walk.acting.0) middle (fault_items ended)
  pub last : Sets
  pub faults : List Fault
  pub pragmas : EndsPragmas names middle walk.runs.pragmas e.list walk.acting.0 walk.prepared.list (e.faults.items ++ ended) last next.runs.pragmas next.prepared.list faults
  pub until_last : Keeps middle last
  pub later : Keeps last new
  pub same : next ≡ record walk {
    acting = next.acting;
    runs = record walk.runs { gathered = next.runs.gathered; held = next.runs.held; pragmas = next.runs.pragmas; read = next.runs.read };
    prepared = record walk.prepared { list = next.prepared.list; faults = next.prepared.faults; live = next.prepared.live };
  }
  pub gathered : IsWithin old walk.runs.gathered (λ c. not (old.has walk.acting.0 c)) new next.runs.gathered
  pub held : IsWithin old (fault_items walk.runs.held.items) (λ c. not (old.has walk.acting.0 c)) new (fault_items next.runs.held.items)
  pub read : EndsRead old walk.runs.read walk.acting.0 walk.prepared.live.0 new next.runs.read
  pub told : next.prepared.faults.items ≡ walk.prepared.faults.items ++ faults
  pub live : Denotes new next.prepared.live.0 (λ c. old.has walk.prepared.live.0 c && has_none last faults c)
  pub acting : Denotes new next.acting.0 (λ c. old.has walk.acting.0 c && has_none last faults c)

-- of what the configuration has gathered nothing is left, or it still waits and nothing holds it
abbrev pub IsSettledAt : Sets → (names files : List (List ℕ)) → Walk → List ℕ → Type 0
IsSettledAt s names files w c = (hidden_at s names files w.runs.sets w.runs.gathered c ≡ [])
    ⊎ ((held_at s files w.runs.held.items c ≡ [])
    × StillWaits (provenance_of files) (macros_at s names w.table c) (seen_at (stores s names w.runs.sets) w.runs.gathered c))

-- so is the text of each that acts
abbrev pub HasSettled : Sets → (names files : List (List ℕ)) → Walk → Type 0
HasSettled s names files w = (c : List ℕ) → IsConfig s.arities c → s.has w.acting.0 c ≡ true → IsSettledAt s names files w c

-- so is the text of each that has no fault, whether it acts or not
abbrev pub AllHaveSettled : Sets → (names files : List (List ℕ)) → Walk → Type 0
AllHaveSettled s names files w = (c : List ℕ) → IsConfig s.arities c → (s.has w.prepared.live.0 c && has_none s w.runs.held.items c) ≡ true
    → IsSettledAt s names files w c
