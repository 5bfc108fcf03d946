-- Configurations that are refused, or wait.
use Rattle.std.specs.Prelude.{◌≡◌, ℕ, ◌<◌, ◌&&◌, ◌||◌, ◌++◌, ◌∷◌, [], not, Bool, true, false, List, All, if◌then◌else◌}
use Rattle.c11_macros.specs.Hidden.{Failure}
use Rattle.sc_base.specs.declared.place.Place.{Place}
use Rattle.sc_expand.specs.Alike.{AreAlikeRefusals}
use Rattle.sc_expand.specs.declared.refusals.Refusals.{Refusals}
use Rattle.sc_expand.specs.Machine.{ends_at}
use Rattle.sc_expand.specs.Seen.{IsHeldRefusals, failures_at}
use Rattle.sc_expand.specs.Turn.{End, fails, waits, with_end}
use Rattle.sc_model.specs.Sets.{Sets, IsCond, IsConfig, Denotes}

-- those of a condition were refused for a failure, and no others
pub record Refuses (old new : Sets) (cond : ℕ) (failure : Failure Place) (was now : Refusals) : Type 0 where
  pub live : Denotes new now.live.0 (λ c. old.has was.live.0 c && not (old.has cond c))
  pub waiting : now.waiting ≡ was.waiting
  pub failures : (c : List ℕ) → IsConfig old.arities c → All (λ f. IsCond old f.cond.0) was.faults.items
      → failures_at new now.faults.items c ≡ failures_at old was.faults.items c ++ (if old.has cond c then failure ∷ [] else [])
  pub held : (files : ℕ) → failure.place.file.0 < files → IsHeldRefusals old files was → IsHeldRefusals new files now
  pub alike : (c d : List ℕ) (others : ℕ) → IsConfig old.arities c → IsConfig old.arities d → All (λ f. IsCond old f.cond.0) was.faults.items → IsCond old was.waiting.0
      → old.has cond c ≡ old.has cond d → AreAlikeRefusals old c d others was → AreAlikeRefusals new c d others now

-- those of a condition began to wait, and no others
pub record BeginsToWait (old new : Sets) (cond : ℕ) (was now : Refusals) : Type 0 where
  pub live : Denotes new now.live.0 (λ c. old.has was.live.0 c && not (old.has cond c))
  pub waiting : Denotes new now.waiting.0 (λ c. old.has was.waiting.0 c || old.has cond c)
  pub faults : now.faults ≡ was.faults

-- Who ends where a call is not closed, or a name stands alone: in the whole list it waits for what
-- follows, and in an argument an open call is refused and a name alone is none.
abbrev pub is_left : Bool → Bool → Bool → Bool
is_left whole still alone = still || (whole && alone)

abbrev pub left_end : Bool → Failure Place → End
left_end true failure = waits
left_end false failure = fails failure

-- those whose call is not closed, or that have the name alone, were left so, and no others
pub record LeavesOpen (old new : Sets) (whole : Bool) (still bare alone uncalled : ℕ) (failure : Failure Place) (was now : Refusals) : Type 0 where
  pub live : Denotes new now.live.0 (λ c. old.has was.live.0 c && not (is_left whole (old.has still c) (old.has alone c)))
  pub ends : (c : List ℕ) → IsConfig old.arities c → All (λ f. IsCond old f.cond.0) was.faults.items → IsCond old was.waiting.0
      → ends_at new now c ≡ (if is_left whole (old.has still c) (old.has alone c) then with_end (ends_at old was c) (left_end whole failure) else ends_at old was c)
  pub uncalled_is : Denotes new uncalled (λ c. old.has bare c || (not whole && old.has alone c))
  pub held : (files : ℕ) → failure.place.file.0 < files → IsHeldRefusals old files was → IsHeldRefusals new files now
  pub alike : (c d : List ℕ) (others : ℕ) → IsConfig old.arities c → IsConfig old.arities d → All (λ f. IsCond old f.cond.0) was.faults.items → IsCond old was.waiting.0
      → old.has still c ≡ old.has still d → old.has alone c ≡ old.has alone d → AreAlikeRefusals old c d others was → AreAlikeRefusals new c d others now
