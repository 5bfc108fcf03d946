-- Configurations that expand one name of a list with different footprints.
use Rattle.std.specs.Prelude.{◌≡◌, ℕ, ◌+◌, ◌-◌, ◌≤◌, true, List, ◌∷◌, All, AllPairs, Result, Some, drop, length, map, slice_get, take}
use Rattle.c11_macros.specs.Expansion.{Expands, case_of, stays}
use Rattle.c11_macros.specs.Footprint.{Arrives, Footprint, footprint}
use Rattle.c11_macros.specs.Hidden.{Failure, Hidden, Provenance}
use Rattle.c11_macros.specs.Macros.{Macros}
use Rattle.c11_macros.specs.Trace.{Agree}
use Rattle.sc_base.specs.declared.id.Cond.{Cond}
use Rattle.sc_base.specs.declared.stop.Stop.{Stop}
use Rattle.sc_base.specs.declared.stop.Stop.TheVariants.{BranchesFull, ReadFault, OutOfMemory}
use Rattle.sc_expand.specs.Having.{behind_at}
use Rattle.sc_guarded.specs.Items.{items_at}
use Rattle.sc_model.specs.Sets.{Sets, IsConfig}

-- The configuration's expansion of the list comes to the token at this index, and goes on with it
-- and what follows.
pub record UsesAt {T P : Type 0} (see : T → Hidden P) (provenance : Provenance P) (macros : Macros) (s : Sets) (list : List (Cond × T)) (at : ℕ) (c : List ℕ) : Type 0 where
  pub item : Cond × T
  pub is : slice_get list at ≡ Some item
  pub has : s.has item.0.0 c ≡ true
  pub answer : Result (List (Hidden P)) (Failure P)
  pub expands : Expands provenance macros (see item.1 ∷ map see (items_at s (drop (at + 1) list) c)) answer
  pub arrives : Arrives provenance macros (map see (items_at s list c)) (see item.1 ∷ map see (items_at s (drop (at + 1) list) c))

-- It is replaced there, or called.
pub record ReplacesAt {T P : Type 0} (see : T → Hidden P) (provenance : Provenance P) (macros : Macros) (s : Sets) (list : List (Cond × T)) (at : ℕ) (c : List ℕ) : Type 0 where
  pub uses : UsesAt see provenance macros s list at c
  pub replaces : case_of macros (see uses.item.1) (map see (items_at s (drop (at + 1) list) c)) ≡ stays → ⊥

-- The tokens that a name at this index took behind it, each as how many items of the list stand
-- behind that token.
abbrev pub taken_behind : {T : Type 0} → Sets → List (Cond × T) → ℕ → Footprint → List ℕ → List ℕ
taken_behind s list at f c = take (length (behind_at s (drop (at + 1) list) c) - f.left) (behind_at s (drop (at + 1) list) c)

-- both come to the name, it takes the same tokens, and what the one looks up both define alike
pub record IsSameUse {T P : Type 0} (see : T → Hidden P) (provenance : Provenance P) (macros : List ℕ → Macros) (s : Sets) (list : List (Cond × T)) (at : ℕ) (c d : List ℕ) : Type 0 where
  pub one : UsesAt see provenance (macros c) s list at c
  pub other : UsesAt see provenance (macros d) s list at d
  pub taken : taken_behind s list at (footprint one.expands) c ≡ taken_behind s list at (footprint other.expands) d
  pub agree : Agree (macros c) (macros d) (footprint one.expands).looked_up

-- at least so many configurations of a condition come to one name of the list, which each of them
-- replaces or calls, with different footprints
pub record HasFootprints {T P : Type 0} (see : T → Hidden P) (provenance : Provenance P) (macros : List ℕ → Macros) (s : Sets) (cond : ℕ) (list : List (Cond × T)) (count : ℕ) : Type 0 where
  pub at : ℕ
  pub configs : List (List ℕ)
  pub many : count ≤ length configs
  pub listed : All (IsConfig s.arities) configs
  pub has : All (λ c. s.has cond c ≡ true) configs
  pub come : All (λ c. ReplacesAt see provenance (macros c) s list at c) configs
  pub apart : AllPairs (λ c d. IsSameUse see provenance macros s list at c d → ⊥) configs

-- one name has more different footprints than the limit, or there is no memory
abbrev pub StopsAtName : {T P : Type 0} → (T → Hidden P) → Provenance P → (List ℕ → Macros) → Sets → ℕ → List (Cond × T) → ℕ → Stop → Type 0
StopsAtName see provenance macros s cond list limit (BranchesFull count) = (count ≡ limit + 1) × HasFootprints see provenance macros s cond list (limit + 1)
StopsAtName see provenance macros s cond list limit ReadFault = ⊥
StopsAtName see provenance macros s cond list limit OutOfMemory = Unit {0}
