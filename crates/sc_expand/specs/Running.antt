-- The turns of an expansion, from the first to the last.
use Rattle.std.specs.Prelude.{◌≡◌, ℕ, ◌+◌, ◌-◌, ◌&&◌, ◌++◌, Bool, true, false, List, [], ◌∷◌, All, Option, Some, None, length, slice_get, sum_by, ◌≤◌, suc}
use Rattle.c11_macros.specs.Hidden as model
use Rattle.c11_macros.specs.Hidden.{Failure, Provenance}
use Rattle.c11_macros.specs.Macros.{Macros}
use Rattle.c11_macros.specs.Runs.{IsHeld, Settles}
use Rattle.sc_base.specs.declared.id.Cond.{Cond}
use Rattle.sc_base.specs.declared.place.Place.{Place}
use Rattle.sc_expand.specs.declared.call.Call.{Call}
use Rattle.sc_expand.specs.declared.expansion.Expansion.{Expansion}
use Rattle.sc_expand.specs.declared.frame.Enclosing.{Enclosing}
use Rattle.sc_expand.specs.declared.frame.Frame.{Frame}
use Rattle.sc_expand.specs.Alike.{CallNextAlike, DefineNextAlike, IsAlikeCall, IsAlikeExpansion, IsFirstIn, Others}
use Rattle.sc_expand.specs.Having.{HasLast, HasMore, behind_at}
use Rattle.sc_expand.specs.Machine.{IsHeldExpansion, Progress, at, at_call}
use Rattle.sc_expand.specs.Seen.{Grows, IsHeldCall, Stores, provenance_of, seen_at}
use Rattle.sc_expand.specs.Restricted.{IsPushed, IsRestricted}
use Rattle.sc_expand.specs.Turn.{Turn}
use Rattle.sc_expand.specs.Waiting.{KeepsFirst}
use Rattle.sc_model.specs.Sets.{Sets, IsConfig, IsNever}
use Rattle.sc_subst.specs.declared.hidden.Hidden.{Hidden}

-- ---- what is next

abbrev pub last_of : {A : Type 0} → List A → Option A
last_of xs = slice_get xs (length xs - 1)

-- a call that waits comes before the first token, and the call of the list below after all
abbrev pub next_by : Option Call → Option (Cond × Hidden) → Option Enclosing → Option Cond
next_by (Some call) first enclosing = Some call.cond
next_by None (Some item) enclosing = Some item.0
next_by None None (Some e) = Some e.call.cond
next_by None None None = None

-- the configurations that have what the next turn takes
abbrev pub next_of : Expansion → Option Cond
next_of e = next_by (last_of e.top.calls.items) (slice_get e.top.work 0) (last_of e.below.items)

-- not all configurations that have what is next were refused
pub record IsReady (s : Sets) (e : Expansion) : Type 0 where
  pub some : (cond : Cond) → next_of e ≡ Some cond → ((c : List ℕ) → IsConfig s.arities c → s.has cond.0 c ≡ true → s.has e.refusals.live.0 c ≡ true → ⊥) → ⊥

-- the tokens, calls and lists that are left
abbrev pub frame_weight : Frame → ℕ
frame_weight frame = length frame.work + length frame.calls.items + 1

abbrev pub weight : Expansion → ℕ
weight e = frame_weight e.top + sum_by (λ o. frame_weight o.frame) e.below.items

-- The call, the token or the argument that is next is gone.
pub data IsDropped (old new : Sets) (e after : Expansion) : Type 0 where
  call : (k : Call) → e.top.calls.items ≡ after.top.calls.items ++ k ∷ [] → after.top.work ≡ e.top.work → after.top.out ≡ e.top.out → after.below ≡ e.below → after.rest ≡ e.rest → IsDropped old new e after
  token : (item : Cond × Hidden) → e.top.calls.items ≡ [] → after.top.calls.items ≡ [] → e.top.work ≡ item ∷ after.top.work → after.top.out ≡ e.top.out → after.below ≡ e.below
      → KeepsFirst old new e.refusals.waiting.0 e.below.items e.top.work e.rest after.rest → IsDropped old new e after
  argument : (o : Enclosing) → e.top.calls.items ≡ [] → e.top.work ≡ [] → e.below.items ≡ after.below.items ++ o ∷ [] → after.top ≡ o.frame → after.rest ≡ e.rest → IsDropped old new e after

-- ---- what was put out

-- the list below all others
abbrev pub bottom_by : List Enclosing → Frame → Frame
bottom_by [] top = top
bottom_by (e ∷ es) top = e.frame

abbrev pub bottom : Expansion → Frame
bottom e = bottom_by e.below.items e.top

-- what it was expanded to
abbrev pub put_by : List Enclosing → Frame → List (Cond × Hidden)
put_by below top = (bottom_by below top).out

abbrev pub put_out : Expansion → List (Cond × Hidden)
put_out e = put_by e.below.items e.top

-- A refused configuration has no more than it had, and each token is some configuration's.
pub record PutsOut (old new : Stores) (live : ℕ) (before after : List (Cond × Hidden)) : Type 0 where
  pub apart : (c : List ℕ) → IsConfig old.sets.arities c → old.sets.has live c ≡ false → seen_at new after c ≡ seen_at old before c
  pub some : All (λ item. IsNever old.sets item.0.0 → ⊥) before → All (λ item. IsNever new.sets item.0.0 → ⊥) after

-- A turn puts nothing out of the whole list, or the token that stands first there.
pub data Pushes (s : Sets) (e after : Expansion) : Bool → Type 0 where
  nothing : {went : Bool} → put_out after ≡ put_out e → Pushes s e after went
  first : (item : Cond × Hidden) (cond : Cond) → e.below.items ≡ [] → e.top.calls.items ≡ [] → slice_get e.top.work 0 ≡ Some item
      → IsPushed s cond item.1 (put_out e) (put_out after) → Pushes s e after true

-- ---- what waits

-- what a configuration that waits has left of the whole list
abbrev pub left_at : Stores → Expansion → List ℕ → List (model.Hidden Place)
left_at st e c = seen_at st e.rest c ++ seen_at st (bottom e).work c

-- one that goes on doesn't wait
abbrev pub IsApart : Sets → Expansion → List ℕ → Type 0
IsApart s e c = s.has e.refusals.live.0 c ≡ true → s.has e.refusals.waiting.0 c ≡ false

-- A configuration that waits has left what it had and has put out what it had; another has nothing
-- new that waits.
pub record KeepsLeft (old new : Stores) (was now : Expansion) : Type 0 where
  pub left : (c : List ℕ) → IsConfig old.sets.arities c → IsApart old.sets was c → new.sets.has now.refusals.waiting.0 c ≡ true → left_at new now c ≡ left_at old was c
  pub put : (c : List ℕ) → IsConfig old.sets.arities c → IsApart old.sets was c → new.sets.has now.refusals.waiting.0 c ≡ true → seen_at new (put_out now) c ≡ seen_at old (put_out was) c
  pub others : (c : List ℕ) → IsConfig old.sets.arities c → new.sets.has now.refusals.waiting.0 c ≡ false → seen_at new now.rest c ≡ seen_at old was.rest c
  pub some : All (λ item. IsNever old.sets item.0.0 → ⊥) was.rest → All (λ item. IsNever new.sets item.0.0 → ⊥) now.rest

-- A turn keeps nothing, or the first token of the whole list: those that wait then have it there.
pub data KeepsNext (old new : Sets) (e after : Expansion) : Bool → Type 0 where
  nothing_kept : {went : Bool} → (e.below.items ≡ [] → e.top.calls.items ≡ [] → e.top.work ≡ []) → after.rest ≡ e.rest → KeepsNext old new e after went
  first_kept : (item : Cond × Hidden) (cond : Cond) → e.below.items ≡ [] → e.top.calls.items ≡ [] → slice_get e.top.work 0 ≡ Some item → IsPushed new cond item.1 e.rest after.rest
      → ((c : List ℕ) → IsConfig old.arities c → IsApart old e c → new.has cond.0 c ≡ (old.has item.0.0 c && new.has after.refusals.waiting.0 c)) → KeepsNext old new e after true

-- First tokens of the whole list are gone, and those that wait keep them.
pub record KeepsGone (s : Sets) (e after : Expansion) : Type 0 where
  pub gone : List (Cond × Hidden)
  pub kept : List (Cond × Hidden)
  pub work : (bottom e).work ≡ gone ++ (bottom after).work
  pub rest : after.rest ≡ e.rest ++ kept
  pub is : IsRestricted s e.refusals.waiting.0 gone kept

-- ---- turns

-- no call was met
pub record IsUncalled (e : Expansion) : Type 0 where
  pub below : e.below.items ≡ []
  pub calls : e.top.calls.items ≡ []

-- each configuration that was not refused is where it was, and so is what was put out
pub record IsRested (old new : Stores) (e after : Expansion) : Type 0 where
  pub grows : Grows old new
  pub refusals : after.refusals ≡ e.refusals
  pub sets : after.sets ≡ e.sets
  pub out : put_out after ≡ put_out e
  pub held : (files : ℕ) → IsHeldExpansion old files e → IsHeldExpansion new files after
  pub progress : (files : ℕ) (provenance : Provenance Place) (macros : Macros) (c : List ℕ) → IsHeldExpansion old files e → IsConfig old.sets.arities c
      → Progress provenance macros old new c e.below.items after.below.items (at old e c) (at new after c) false
  pub keeps : (files : ℕ) → IsHeldExpansion old files e → KeepsGone new.sets e after
  pub uncalled : IsUncalled e → IsUncalled after
  pub alike : (files : ℕ) (c d : List ℕ) (others : Others) → IsHeldExpansion old files e → IsConfig old.sets.arities c → IsConfig old.sets.arities d
      → IsAlikeExpansion old.sets c d others e → IsAlikeExpansion new.sets c d others after
  pub rest : (files : ℕ) (c : List ℕ) → IsHeldExpansion old files e → IsConfig old.sets.arities c → old.sets.has e.refusals.live.0 c ≡ true
      → behind_at new.sets (bottom after).work c ≡ behind_at old.sets (bottom e).work c

-- nothing is left to be expanded
pub record HasEnded (e : Expansion) : Type 0 where
  pub below : e.below.items ≡ []
  pub work : e.top.work ≡ []
  pub calls : e.top.calls.items ≡ []

-- The list below all others has more before it, or its first token was taken.
pub data Rest (old new : Stores) (e after : Expansion) (c : List ℕ) : Type 0 where
  put : HasMore old.sets new.sets (bottom e).work (bottom after).work c → Rest old new e after c
  took : (item : Cond × Hidden) → e.below.items ≡ [] → e.top.calls.items ≡ [] → slice_get e.top.work 0 ≡ Some item
      → HasLast old.sets new.sets (bottom e).work (bottom after).work c → Rest old new e after c

-- The list below all others is no shorter, but for its first token where that was taken.
pub data IsAsLong (e after : Expansion) : Type 0 where
  all : length (bottom e).work ≤ length (bottom after).work → IsAsLong e after
  but_first : (item : Cond × Hidden) → e.below.items ≡ [] → e.top.calls.items ≡ [] → slice_get e.top.work 0 ≡ Some item
      → length (bottom e).work ≤ suc (length (bottom after).work) → IsAsLong e after

-- What a turn does at each configuration. There was one if some configuration took part that was
-- not refused.
pub record IsTurned (files : List (List ℕ)) (macros : List ℕ → Macros) (old new : Stores) (e after : Expansion) (went : Bool) : Type 0 where
  pub grows : Grows old new
  pub held : IsHeldExpansion new (length files) after
  pub out : PutsOut old new e.refusals.live.0 (put_out e) (put_out after)
  pub pushes : Pushes new.sets e after went
  pub takes : List ℕ → Bool
  pub progress : (c : List ℕ) → IsConfig old.sets.arities c
      → Progress (provenance_of files) (macros c) old new c e.below.items after.below.items (at old e c) (at new after c) (takes c)
  pub left : KeepsLeft old new e after
  pub keeps : KeepsNext old.sets new.sets e after went
  pub long : IsAsLong e after
  pub which : (cond : Cond) → next_of e ≡ Some cond → (c : List ℕ) → takes c ≡ old.sets.has cond.0 c
  pub some : went ≡ true → ((c : List ℕ) → IsConfig old.sets.arities c → takes c ≡ true → old.sets.has e.refusals.live.0 c ≡ true → ⊥) → ⊥
  pub ended : went ≡ false → HasEnded after
  pub alike : (c d : List ℕ) (others : Others) → IsConfig old.sets.arities c → IsConfig old.sets.arities d → DefineNextAlike old (macros c) (macros d) c e
      → CallNextAlike old (macros c) c d e → IsFirstIn others e → IsAlikeExpansion old.sets c d others e → IsAlikeExpansion new.sets c d others after
  pub rest : (c : List ℕ) → IsConfig old.sets.arities c → Rest old new e after c

-- ---- a call that goes on

-- a call that was taken from the list on top was replaced there, or refused
pub record IsReplaced (old new : Stores) (was now : Expansion) (call : Call) : Type 0 where
  pub held : (files : ℕ) → IsHeldExpansion old files was → IsHeldCall old files call → IsHeldExpansion new files now
  pub left : (files : ℕ) → IsHeldExpansion old files was → IsHeldCall old files call → KeepsLeft old new was now
  pub waits : now.rest ≡ was.rest
  pub below : now.below ≡ was.below
  pub out : now.top.out ≡ was.top.out
  pub turns : (files : List (List ℕ)) (macros : Macros) (c : List ℕ) → IsConfig old.sets.arities c → Turn (provenance_of files) macros (at_call old was call c) (at new now c) (old.sets.has call.cond.0 c)
  pub alike : (c d : List ℕ) (others : Others) → IsConfig old.sets.arities c → IsConfig old.sets.arities d → IsAlikeCall old.sets c d call
      → IsAlikeExpansion old.sets c d others was → IsAlikeExpansion new.sets c d others now
  pub long : length (bottom was).work ≤ length (bottom now).work
  pub rest : (c : List ℕ) → IsConfig old.sets.arities c → HasMore old.sets new.sets (bottom was).work (bottom now).work c

-- a call that was taken from the list on top has made its step
pub record GoesOn (old new : Stores) (was now : Expansion) (call : Call) : Type 0 where
  pub held : (files : ℕ) → IsHeldExpansion old files was → IsHeldCall old files call → IsHeldExpansion new files now
  pub left : (files : ℕ) → IsHeldExpansion old files was → IsHeldCall old files call → KeepsLeft old new was now
  pub waits : now.rest ≡ was.rest
  pub progress : (files : List (List ℕ)) (macros : Macros) (c : List ℕ) → IsConfig old.sets.arities c
      → Progress (provenance_of files) macros old new c was.below.items now.below.items (at_call old was call c) (at new now c) (old.sets.has call.cond.0 c)
  pub out : put_out now ≡ put_out was
  pub alike : (c d : List ℕ) (others : Others) → IsConfig old.sets.arities c → IsConfig old.sets.arities d → IsAlikeCall old.sets c d call
      → IsAlikeExpansion old.sets c d others was → IsAlikeExpansion new.sets c d others now
  pub long : length (bottom was).work ≤ length (bottom now).work
  pub rest : (c : List ℕ) → IsConfig old.sets.arities c → HasMore old.sets new.sets (bottom was).work (bottom now).work c

-- ---- a token that is taken

-- the first token of the list on top was taken in the configurations of a condition
pub record TakesFirst (files : List (List ℕ)) (macros : List ℕ → Macros) (old new : Stores) (was now : Expansion) (has : ℕ) : Type 0 where
  pub held : IsHeldExpansion new (length files) now
  pub below : now.below ≡ was.below
  pub turns : (c : List ℕ) → IsConfig old.sets.arities c → Turn (provenance_of files) (macros c) (at old was c) (at new now c) (old.sets.has has c)
  pub out : PutsOut old new was.refusals.live.0 was.top.out now.top.out
  pub pushes : (item : Cond × Hidden) → slice_get was.top.work 0 ≡ Some item → (cond : Cond) × IsPushed new.sets cond item.1 was.top.out now.top.out
  pub left : KeepsLeft old new was now
  pub keeps : KeepsNext old.sets new.sets was now true
  pub alike : (c d : List ℕ) (others : Others) → IsConfig old.sets.arities c → IsConfig old.sets.arities d → DefineNextAlike old (macros c) (macros d) c was
      → CallNextAlike old (macros c) c d was → IsFirstIn others was → IsAlikeExpansion old.sets c d others was → IsAlikeExpansion new.sets c d others now
  pub long : length was.top.work ≤ suc (length now.top.work)
  pub rest : (c : List ℕ) → IsConfig old.sets.arities c → HasLast old.sets new.sets was.top.work now.top.work c

-- ---- whole runs

-- nothing was expanded yet, and no configuration waits
pub record IsUntouched (s : Sets) (e : Expansion) : Type 0 where
  pub below : e.below.items ≡ []
  pub out : e.top.out ≡ []
  pub calls : e.top.calls.items ≡ []
  pub faults : e.refusals.faults.items ≡ []
  pub rest : e.rest ≡ []
  pub waiting : IsNever s e.refusals.waiting.0

-- A configuration that takes part has what the list settles to, or its failure alone; another has
-- no failure and nothing that waits.
pub data IsDone (provenance : Provenance Place) (macros : Macros) (source out rest : List (model.Hidden Place)) (failures : List (Failure Place)) : Bool → Type 0 where
  unasked : failures ≡ [] → rest ≡ [] → IsDone provenance macros source out rest failures false
  settled : failures ≡ [] → Settles provenance macros source out rest → IsDone provenance macros source out rest failures true
  refused : (failure : Failure Place) → failures ≡ failure ∷ [] → rest ≡ [] → IsHeld provenance macros source failure → IsDone provenance macros source out rest failures true
