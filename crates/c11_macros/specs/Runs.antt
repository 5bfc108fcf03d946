-- The expansion of what stands before a list, a name of it or what replaced one, up to where
-- nothing of it is left (C11 6.10.3.4). More may follow the list than is known so far: it may call
-- the last name, or end an open call (6.10.3p10, p11).
use Rattle.std.specs.Prelude.{◌≡◌, ℕ, ◌&&◌, Bool, true, false, List, [], ◌∷◌, ◌++◌, map, Option, Some, None, Result, Ok, Err}
use Rattle.c11_macros.specs.Defines.{is_function_like}
use Rattle.c11_macros.specs.Expansion.{stays, replaced, unclosed, misfit, called, case_of, is_looked_up, asked, object_result, call_result, Each}
use Rattle.c11_macros.specs.Hidden.{Hidden, Provenance, Failure, failure_at}
use Rattle.c11_macros.specs.Macros.{Definition, Macros}
use Rattle.c11_macros.specs.Results.{result_map}
use Rattle.c11_macros.specs.Trace.{looked_up_at, trace_each}
use Rattle.sc_model.specs.declared.cause.Cause.TheVariants.{WrongArguments}

-- ---- what is used, and how it ends

-- what was used: tokens of the list, in order, and names that were looked up
pub record Uses (P : Type 0) : Type 0 where
  pub taken : List (Hidden P)
  pub looked_up : List (List ℕ)

abbrev pub no_uses : {P : Type 0} → Uses P
no_uses = record { taken = []; looked_up = [] }

abbrev pub using : {P : Type 0} → List (Hidden P) → List (List ℕ) → Uses P
using taken looked_up = record { taken = taken; looked_up = looked_up }

-- the one, and then the other
abbrev pub then_uses : {P : Type 0} → Uses P → Uses P → Uses P
then_uses x y = using (x.taken ++ y.taken) (x.looked_up ++ y.looked_up)

pub data End (P : Type 0) : Type 0 where
  -- nothing is left of it, and these tokens of the list are
  over : (after : List (Hidden P)) → End P
  -- this name and the rest are left: what follows the list may call it, or close its call
  waits : (name : Hidden P) (rest : List (Hidden P)) → End P
  fails : Failure P → End P

abbrev pub is_function_named : Option Definition → Bool
is_function_named None = false
is_function_named (Some d) = is_function_like d.form

-- a function-like macro's name stands last: what follows the list may call it
abbrev pub is_last_name : {P : Type 0} → Macros → Hidden P → List (Hidden P) → Bool
is_last_name macros t [] = is_looked_up t && is_function_named (macros t.spelling)
is_last_name macros t (u ∷ us) = false

-- The tokens behind a call, where it ends: some of what stands in front and the whole list, or a
-- part of the list alone, of which these were taken.
pub data Leaves {P : Type 0} (source after : List (Hidden P)) : (front rest taken : List (Hidden P)) → Type 0 where
  within : {front : List (Hidden P)} → after ≡ front ++ source → Leaves source after front source []
  beyond : {taken : List (Hidden P)} → source ≡ taken ++ after → (taken ≡ [] → ⊥) → Leaves source after [] after taken

-- ---- one name

-- What stands in front of the list becomes these tokens and ends so.
pub data Runs {P : Type 0} (provenance : Provenance P) (macros : Macros) : (front source done : List (Hidden P)) → End P → Uses P → Type 0 where
  used_up : {source : List (Hidden P)} → Runs provenance macros [] source [] (over source) no_uses
  stay : {t : Hidden P} {front source done : List (Hidden P)} {end : End P} {u : Uses P} → case_of macros t (front ++ source) ≡ stays
      → is_last_name macros t (front ++ source) ≡ false → Runs provenance macros front source done end u
      → Runs provenance macros (t ∷ front) source (t ∷ done) end (then_uses (using [] (looked_up_at t)) u)
  alone : {t : Hidden P} {front source : List (Hidden P)} → is_last_name macros t (front ++ source) ≡ true
      → Runs provenance macros (t ∷ front) source [] (waits t (front ++ source)) (using [] (looked_up_at t))
  open_call : {t : Hidden P} {front source : List (Hidden P)} → case_of macros t (front ++ source) ≡ unclosed
      → Runs provenance macros (t ∷ front) source [] (waits t (front ++ source)) (using [] (looked_up_at t))
  object : {t : Hidden P} {front source done : List (Hidden P)} {end : End P} {u : Uses P} (d : Definition) (body : List (Hidden P))
      → case_of macros t (front ++ source) ≡ replaced d → object_result provenance d t ≡ Ok body → Runs provenance macros (body ++ front) source done end u
      → Runs provenance macros (t ∷ front) source done end (then_uses (using [] (looked_up_at t)) u)
  call : {t : Hidden P} {front source done : List (Hidden P)} {end : End P} {u : Uses P} (d : Definition) (arguments : List (List (Hidden P))) (close : Hidden P)
      (after left rest taken body : List (Hidden P)) (results : Result (List (List (Hidden P))) (Failure P))
      → case_of macros t (front ++ source) ≡ called d arguments close after → Leaves source after left rest taken
      → (each : Each provenance macros (asked provenance d t arguments) (map (λ a. []) arguments) results) → call_result provenance d t arguments close results ≡ Ok body
      → Runs provenance macros (body ++ left) rest done end u
      → Runs provenance macros (t ∷ front) source done end (then_uses (using taken (looked_up_at t ++ (trace_each each).looked_up)) u)
  bad_object : {t : Hidden P} {front source : List (Hidden P)} (d : Definition) (failure : Failure P) → case_of macros t (front ++ source) ≡ replaced d
      → object_result provenance d t ≡ Err failure → Runs provenance macros (t ∷ front) source [] (fails failure) (using [] (looked_up_at t))
  -- a closed call that is refused took its tokens too
  bad_count : {t : Hidden P} {front source : List (Hidden P)} (after left rest taken : List (Hidden P)) → case_of macros t (front ++ source) ≡ misfit after
      → Leaves source after left rest taken
      → Runs provenance macros (t ∷ front) source [] (fails (failure_at WrongArguments t)) (using taken (looked_up_at t))
  bad_call : {t : Hidden P} {front source : List (Hidden P)} (d : Definition) (arguments : List (List (Hidden P))) (close : Hidden P)
      (after left rest taken : List (Hidden P)) (results : Result (List (List (Hidden P))) (Failure P)) (failure : Failure P)
      → case_of macros t (front ++ source) ≡ called d arguments close after → Leaves source after left rest taken
      → (each : Each provenance macros (asked provenance d t arguments) (map (λ a. []) arguments) results) → call_result provenance d t arguments close results ≡ Err failure
      → Runs provenance macros (t ∷ front) source [] (fails failure) (using taken (looked_up_at t ++ (trace_each each).looked_up))

-- ---- the names of a list

-- these tokens before what an expansion gives
abbrev pub after_these : {P : Type 0} → List (Hidden P) → Result (List (Hidden P)) (Failure P) → Result (List (Hidden P)) (Failure P)
after_these done r = result_map (λ ts. done ++ ts) r

-- The names that stand first in a list are expanded one after the other: they have become these
-- tokens, and this is left.
pub data Passes {P : Type 0} (provenance : Provenance P) (macros : Macros) (ts : List (Hidden P)) : (done left : List (Hidden P)) → Type 0 where
  begins : Passes provenance macros ts [] ts
  goes_on : {out done after rest : List (Hidden P)} {t : Hidden P} (u : Uses P) → Passes provenance macros ts out (t ∷ rest)
      → Runs provenance macros (t ∷ []) rest done (over after) u → Passes provenance macros ts (out ++ done) after

-- what a list becomes whatever follows it, and what is left until more is known
pub data Settles {P : Type 0} (provenance : Provenance P) (macros : Macros) (ts : List (Hidden P)) : (done rest : List (Hidden P)) → Type 0 where
  whole : {done : List (Hidden P)} → Passes provenance macros ts done [] → Settles provenance macros ts done []
  open_end : {out done behind rest : List (Hidden P)} {t name : Hidden P} (u : Uses P) → Passes provenance macros ts out (t ∷ behind)
      → Runs provenance macros (t ∷ []) behind done (waits name rest) u → Settles provenance macros ts (out ++ done) (name ∷ rest)

-- the list is refused whatever follows it
pub data IsHeld {P : Type 0} (provenance : Provenance P) (macros : Macros) (ts : List (Hidden P)) (failure : Failure P) : Type 0 where
  held : {out done behind : List (Hidden P)} {t : Hidden P} (u : Uses P) → Passes provenance macros ts out (t ∷ behind)
      → Runs provenance macros (t ∷ []) behind done (fails failure) u → IsHeld provenance macros ts failure

-- what a list becomes whatever follows it and what is left, or its failure
abbrev pub SettlesTo : {P : Type 0} → Provenance P → Macros → List (Hidden P) → Result (List (Hidden P) × List (Hidden P)) (Failure P) → Type 0
SettlesTo provenance macros ts (Ok settled) = Settles provenance macros ts settled.0 settled.1
SettlesTo provenance macros ts (Err failure) = IsHeld provenance macros ts failure
