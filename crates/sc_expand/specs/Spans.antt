-- What becomes of each item of a list that settles, at each configuration, and which configurations
-- expand an item alike.
use Rattle.std.specs.Prelude.{◌≡◌, ℕ, ◌+◌, ◌<◌, ◌≤◌, ◌-◌, ◌⊎◌, suc, true, nat_eq, List, [], ◌∷◌, ◌++◌, All, AllPairs, drop, flat_map, length, map, slice_get, take, Some, if◌then◌else◌}
use Rattle.c11_macros.specs.Expansion.{case_of, stays}
use Rattle.c11_macros.specs.Hidden.{Hidden, Provenance}
use Rattle.c11_macros.specs.Macros.{Macros}
use Rattle.c11_macros.specs.Runs.{End, waits, Passes, Runs, Settles, Uses}
use Rattle.c11_macros.specs.Trace.{Agree}
use Rattle.sc_base.specs.declared.id.Cond.{Cond}
use Rattle.sc_base.specs.declared.stop.Stop.{Stop}
use Rattle.sc_base.specs.declared.stop.Stop.TheVariants.{BranchesFull, ReadFault, OutOfMemory}
use Rattle.sc_expand.specs.Having.{behind_at}
use Rattle.sc_expand.specs.Open.{Waits}
use Rattle.sc_expand.specs.Plain.{scanning}
use Rattle.sc_guarded.specs.Items.{items_at}
use Rattle.sc_hoist.specs.Alike.{AreAlike}
use Rattle.sc_model.specs.Sets.{IsConfig, IsNever, Sets}

-- of elements that are told by the index of an item those of this one
abbrev pub of_item : {A : Type 0} → ℕ → List (ℕ × A) → List A
of_item at [] = []
of_item at (x ∷ xs) = if nat_eq x.0 at then x.1 ∷ of_item at xs else of_item at xs

-- so many last elements
abbrev pub last_ones : {A : Type 0} → ℕ → List A → List A
last_ones n xs = drop (length xs - n) xs

-- the indexes by which the elements are told that the configuration has
abbrev pub indexes_in : {A : Type 0} → Sets → List (ℕ × (Cond × A)) → List ℕ → List ℕ
indexes_in s kept c = items_at s (map (λ x. (x.1.0, x.0)) kept) c

-- the indexes of the items of a list that it has
abbrev pub indexes_at : {A : Type 0} → Sets → List (Cond × A) → List ℕ → List ℕ
indexes_at s list c = map (λ n. length list - suc n) (behind_at s list c)

-- The one has put out a last token of an item that the other keeps: what follows decides whether it
-- is called.
pub record IsAhead {T : Type 0} (later : Sets) (done of : List (Cond × T)) (c d : List ℕ) : Type 0 where
  pub first : List (Cond × T)
  pub last : List (Cond × T)
  pub name : T
  pub is : done ≡ first ++ last
  pub alike : AreAlike later c d first
  pub one : items_at later last c ≡ name ∷ []
  pub other : items_at later last d ≡ []
  pub nothing : items_at later of c ≡ []
  pub waits : items_at later of d ≡ name ∷ []

-- the same is put out for an item, and the same of it waits, but that the one may be ahead
pub data IsSameName {T : Type 0} (later : Sets) (done of : List (Cond × T)) (c d : List ℕ) : Type 0 where
  same : AreAlike later c d done → AreAlike later c d of → IsSameName later done of c d
  one_ahead : IsAhead later done of c d → IsSameName later done of c d
  other_ahead : IsAhead later done of d c → IsSameName later done of c d

module _ {T P : Type 0} (see : T → Hidden P) (provenance : Provenance P) (macros : List ℕ → Macros) (s : Sets) where
  -- the configuration's items behind the one at this index
  abbrev pub behind : List (Cond × T) → ℕ → List ℕ → List (Hidden P)
  behind list at c = map see (items_at s (drop (at + 1) list) c)

  -- The configuration's expansion of the list comes to the item at this index, which becomes these
  -- tokens and ends so.
  pub record ComesAt (list : List (Cond × T)) (at : ℕ) (c : List ℕ) : Type 0 where
    pub item : Cond × T
    pub is : slice_get list at ≡ Some item
    pub has : s.has item.0.0 c ≡ true
    pub before : List (Hidden P)
    pub passes : Passes provenance (macros c) (map see (items_at s list c)) before (see item.1 ∷ behind list at c)
    pub done : List (Hidden P)
    pub end : End P
    pub uses : Uses P
    pub runs : Runs provenance (macros c) (see item.1 ∷ []) (behind list at c) done end uses

  -- Both come to the item, have the same of so many items behind it, take none but these, and
  -- define the names alike that the one looks up.
  pub record IsSpan (list : List (Cond × T)) (at size : ℕ) (c d : List ℕ) : Type 0 where
    pub one : ComesAt list at c
    pub other : ComesAt list at d
    pub alike : AreAlike s c d (take size (drop (at + 1) list))
    pub one_within : length one.uses.taken ≤ length (items_at s (take size (drop (at + 1) list)) c)
    pub other_within : length other.uses.taken ≤ length (items_at s (take size (drop (at + 1) list)) d)
    pub agree : Agree (macros c) (macros d) one.uses.looked_up

  -- at least so many configurations of a condition come to one item of the list, which each of them
  -- replaces or calls, and no two of them expand it alike
  pub record HasSpansApart (cond : ℕ) (list : List (Cond × T)) (count : ℕ) : Type 0 where
    pub at : ℕ
    pub configs : List (List ℕ)
    pub many : count ≤ length configs
    pub listed : All (IsConfig s.arities) configs
    pub has : All (λ c. s.has cond c ≡ true) configs
    pub come : All (λ c. (x : ComesAt list at c) × (case_of (macros c) (see x.item.1) (behind list at c) ≡ stays → ⊥)) configs
    pub apart : AllPairs (λ c d. (size : ℕ) → IsSpan list at size c d → ⊥) configs

  -- ---- what an item becomes, by later stores

  -- what is put out for it, where the configuration comes to it
  pub data PutsOutAt (list : List (Cond × T)) (at : ℕ) (later : Sets) (look : T → Hidden P) (out : List (Cond × T)) (c : List ℕ) : Type 0 where
    comes : (x : ComesAt list at c) → map look (items_at later out c) ≡ x.done → PutsOutAt list at later look out c
    passed : (ComesAt list at c → ⊥) → items_at later out c ≡ [] → PutsOutAt list at later look out c

  -- The configuration waits at an item, and these are the indexes of what waits: this one for the
  -- name and for each token that was made, and those of the items behind it that it didn't take.
  pub record WaitsAs (list : List (Cond × T)) (indexes : List ℕ) (c : List ℕ) : Type 0 where
    pub at : ℕ
    pub comes : ComesAt list at c
    pub name : Hidden P
    pub made : List (Hidden P)
    pub left : List (Hidden P)
    pub ends : comes.end ≡ waits name (made ++ left)
    pub takes : behind list at c ≡ comes.uses.taken ++ left
    pub is : indexes ≡ map (λ t. at) (name ∷ made) ++ last_ones (length left) (indexes_at s list c)

  -- It doesn't come to the item, or what follows the list may call the item or close its call. What
  -- waits of the item at this configuration, if anything does, is the item itself.
  abbrev pub IsItself : List (Cond × T) → ℕ → List ℕ → Type 0
  IsItself list at c = (ComesAt list at c → ⊥) ⊎ ((x : ComesAt list at c) × Waits (macros c) (scanning [] (see x.item.1 ∷ behind list at c)))

  -- the configuration isn't refused
  abbrev pub IsSettling : List (Cond × T) → List ℕ → Type 0
  IsSettling list c = (done : List (Hidden P)) × (rest : List (Hidden P)) × Settles provenance (macros c) (map see (items_at s list c)) done rest

  -- What is put out is what each of so many first items became, one after the other. What
  -- configurations have of an item that they expand alike, of what is put out and of what waits, is
  -- the same, but that the one may be ahead. Of what waits of an item only the first element may be
  -- the item itself.
  pub record InSegments (list : List (Cond × T)) (cond : ℕ) (later : Sets) (look : T → Hidden P) (count : ℕ) (out : List (Cond × T)) (kept : List (ℕ × (Cond × T))) : Type 0 where
    pub segments : List (List (Cond × T))
    pub many : length segments ≡ count
    pub is : out ≡ flat_map (λ segment. segment) segments
    pub each : (at : ℕ) (x : List (Cond × T)) → slice_get segments at ≡ Some x → (c : List ℕ) → IsConfig s.arities c → s.has cond c ≡ true → IsSettling list c → PutsOutAt list at later look x c
    pub names : (at : ℕ) (x : List (Cond × T)) → slice_get segments at ≡ Some x → (size : ℕ) (c d : List ℕ) → IsConfig s.arities c → IsConfig s.arities d → s.has cond c ≡ true → s.has cond d ≡ true
        → IsSettling list c → IsSettling list d → IsSpan list at size c d → IsSameName later x (of_item at kept) c d
    pub itself : (at : ℕ) → at < count → (c : List ℕ) → IsConfig s.arities c → s.has cond c ≡ true → IsSettling list c → IsItself list at c
        → items_at later (drop 1 (of_item at kept)) c ≡ []

  -- All of its items have become this. Each element that waits is some configuration's, and is told
  -- by the index of an item: at each configuration all that waits is.
  pub record Becomes (list : List (Cond × T)) (cond : ℕ) (later : Sets) (look : T → Hidden P) (out rest : List (Cond × T)) : Type 0 where
    pub kept : List (ℕ × (Cond × T))
    pub is : rest ≡ map (λ x. x.1) kept
    pub within : All (λ x. x.0 < length list) kept
    pub some : All (λ x. IsNever later x.0.0 → ⊥) rest
    pub segments : InSegments list cond later look (length list) out kept
    pub waits : (c : List ℕ) → IsConfig s.arities c → s.has cond c ≡ true → IsSettling list c
        → (indexes_in later kept c ≡ []) ⊎ WaitsAs list (indexes_in later kept c) c

-- more configurations than the limit expand one item differently, or there is no memory
abbrev pub StopsApart : {T P : Type 0} → (T → Hidden P) → Provenance P → (List ℕ → Macros) → Sets → ℕ → List (Cond × T) → ℕ → Stop → Type 0
StopsApart see provenance macros s cond list limit (BranchesFull count) = (count ≡ limit + 1) × HasSpansApart see provenance macros s cond list (limit + 1)
StopsApart see provenance macros s cond list limit ReadFault = ⊥
StopsApart see provenance macros s cond list limit OutOfMemory = Unit {0}
