-- The expansion of a list under all configurations at once, seen at one.
use Rattle.std.specs.Prelude.{◌≡◌, ℕ, ◌≤◌, Bool, true, false, List, [], ◌∷◌, ◌++◌, All, length, map, slice_set, if◌then◌else◌}
use Rattle.c11_macros.specs.Hidden.{Provenance}
use Rattle.c11_macros.specs.Macros.{Macros}
use Rattle.sc_base.specs.declared.id.Cond.{Cond}
use Rattle.sc_base.specs.declared.place.Place.{Place}
use Rattle.sc_expand.specs.declared.call.Call.{Call}
use Rattle.sc_expand.specs.declared.call.Wanted.{Wanted}
use Rattle.sc_expand.specs.declared.expansion.Expansion.{Expansion}
use Rattle.sc_expand.specs.declared.frame.Enclosing.{Enclosing}
use Rattle.sc_expand.specs.declared.refusals.Refusals.{Refusals}
use Rattle.sc_expand.specs.Open.{Waits}
use Rattle.sc_expand.specs.Plain.{Moves, State, Waiting, expanding}
use Rattle.sc_expand.specs.Seen.{AreHeld, IsHeldEnclosing, IsHeldFrame, IsHeldRefusals, Stores, View, calls_at, failures_at, seen_at, state_of, view_at, waiting_at}
use Rattle.sc_expand.specs.Turn.{At, End, Ends, EndsBy, with_end}
use Rattle.sc_model.specs.Sets.{Sets, IsConfig}
use Rattle.sc_subst.specs.declared.hidden.Hidden.{Hidden}

-- the stores hold all of it, and the table of file names its files
pub record IsHeldExpansion (st : Stores) (files : ℕ) (e : Expansion) : Type 0 where
  pub refusals : IsHeldRefusals st.sets files e.refusals
  pub rest : AreHeld st files e.rest
  pub top : IsHeldFrame st files e.top
  pub below : All (IsHeldEnclosing st files) e.below.items

-- the lists below, what was put out or waits, and the tokens of the list on top are as they were
pub record KeepsLists (was now : Expansion) : Type 0 where
  pub below : now.below ≡ was.below
  pub rest : now.rest ≡ was.rest
  pub out : now.top.out ≡ was.top.out
  pub tokens : map (λ item. item.1) now.top.work ≡ map (λ item. item.1) was.top.work

-- how the configuration ended
abbrev pub ends_at : Sets → Refusals → List ℕ → Ends
ends_at s r c = record { failures = failures_at s r.faults.items c; waiting = s.has r.waiting.0 c }

-- no list is below that on top, which is the whole list
abbrev pub is_whole : List Enclosing → Bool
is_whole [] = true
is_whole (e ∷ es) = false

-- what the configuration has on top
abbrev pub at : Stores → Expansion → List ℕ → At
at st e c = record { live = st.sets.has e.refusals.live.0 c; whole = is_whole e.below.items; view = view_at st e.top c; ends = ends_at st.sets e.refusals c }

-- what the configuration has of a list, with one call more
abbrev pub with_call : View → Waiting Place → View
with_call v w = record v { calls = v.calls ++ w ∷ [] }

-- what it has on top, with a call that was taken from there
abbrev pub at_call : Stores → Expansion → Call → List ℕ → At
at_call st e call c = record (at st e c) { view = if st.sets.has call.cond.0 c then with_call (view_at st e.top c) (waiting_at st call c) else view_at st e.top c }

-- nothing of the frame is the configuration's
abbrev pub no_view : View
no_view = record { out = []; work = []; calls = [] }

-- the configuration has nothing of the list
pub record IsAbsent (st : Stores) (c : List ℕ) (e : Enclosing) : Type 0 where
  pub view : view_at st e.frame c ≡ no_view
  pub call : st.sets.has e.call.cond.0 c ≡ false

-- The configuration has one call at most, in the frame where it stands, and nothing of the frames
-- above it.
pub data Stands (st : Stores) (c : List ℕ) : List Enclosing → View → Type 0 where
  on_top : {v : View} → length v.calls ≤ 1 → Stands st c [] v
  inside : {e : Enclosing} {es : List Enclosing} {v : View} → st.sets.has e.call.cond.0 c ≡ true → calls_at st e.frame.calls.items c ≡ [] → Stands st c es v → Stands st c (e ∷ es) v
  here : {e : Enclosing} {es : List Enclosing} {v : View} → st.sets.has e.call.cond.0 c ≡ false → length (calls_at st e.frame.calls.items c) ≤ 1
      → All (IsAbsent st c) es → v ≡ no_view → Stands st c (e ∷ es) v

-- the state of a configuration, by what it has on top
abbrev pub state_in : Stores → List Enclosing → View → List ℕ → State Place
state_in st [] v c = state_of v
state_in st (e ∷ es) v c =
    if st.sets.has e.call.cond.0 c
    then expanding (seen_at st e.frame.out c) (seen_at st e.frame.work c) (waiting_at st e.call c) e.parameter (state_in st es v c)
    else state_of (view_at st e.frame c)

-- What a turn of the loop does at a configuration, with the lists below before it and after it: one
-- that takes part makes one step or ends; another stays as it is.
pub data Progress (provenance : Provenance Place) (macros : Macros) (old new : Stores) (c : List ℕ) (below later : List Enclosing) (a b : At) : Bool → Type 0 where
  rests : b.live ≡ a.live → b.ends ≡ a.ends
      → (a.live ≡ true → Stands old c below a.view → Stands new c later b.view × (state_in old below a.view c ≡ state_in new later b.view c)) → Progress provenance macros old new c below later a b false
  gone : {takes : Bool} → a.live ≡ false → b.live ≡ false → b.ends ≡ a.ends → Progress provenance macros old new c below later a b takes
  steps : a.live ≡ true → b.live ≡ true → b.ends ≡ a.ends → (Stands old c below a.view → Waits macros (state_in old below a.view c) → ⊥)
      → (Stands old c below a.view → Stands new c later b.view × Moves provenance macros (state_in old below a.view c) (state_in new later b.view c)) → Progress provenance macros old new c below later a b true
  ends : (end : End) → a.live ≡ true → b.live ≡ false → b.ends ≡ with_end a.ends end
      → (Stands old c below a.view → EndsBy provenance macros true (state_in old below a.view c) end) → Progress provenance macros old new c below later a b true

-- each configuration that was not refused stands in one frame
pub record IsExpansion (st : Stores) (files : ℕ) (e : Expansion) : Type 0 where
  pub held : IsHeldExpansion st files e
  pub stands : (c : List ℕ) → IsConfig st.sets.arities c → st.sets.has e.refusals.live.0 c ≡ true → Stands st c e.below.items (view_at st e.top c)

-- a call has left the list on top, and one of its arguments is on top alone
pub record HasEntered (was now : Expansion) (call : Call) (wanted : Wanted) : Type 0 where
  pub below : now.below.items ≡ was.below.items ++ record { frame = was.top; call = call; parameter = wanted.parameter } ∷ []
  pub work : now.top.work ≡ map (λ token. (call.cond, token)) wanted.tokens
  pub out : now.top.out ≡ []
  pub calls : now.top.calls.items ≡ []
  pub rest : now.rest ≡ was.rest

-- the call of the enclosing list waits again, behind the others, and its argument expanded to this
pub record IsResumed (e : Enclosing) (list : List (Cond × Hidden)) (calls : List Call) : Type 0 where
  pub call : Call
  pub is : calls ≡ e.frame.calls.items ++ call ∷ []
  pub cond : call.cond ≡ e.call.cond
  pub head : call.head ≡ e.call.head
  pub hide : call.hide ≡ e.call.hide
  pub template : call.template ≡ e.call.template
  pub wanted : call.wanted ≡ e.call.wanted
  pub expanded : call.expanded.items ≡ slice_set e.call.expanded.items e.parameter list
