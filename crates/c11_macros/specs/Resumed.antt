-- What a run says of the expansion of its list, and of the run where more follows the list
-- (C11 6.10.3p10, 6.10.3.4).
use Rattle.std.specs.Prelude.{◌≡◌, List, [], ◌∷◌, ◌++◌, Result, Err}
use Rattle.c11_macros.specs.Expansion.{Expands}
use Rattle.c11_macros.specs.Hidden.{Hidden, Provenance, Failure}
use Rattle.c11_macros.specs.Macros.{Macros}
use Rattle.c11_macros.specs.Runs.{Uses, no_uses, End, over, waits, fails, Runs, after_these}
use Rattle.c11_macros.specs.Trace.{Agree}

-- what is left at the end of a run expands to this where nothing more follows
abbrev pub EndExpands : {P : Type 0} → Provenance P → Macros → End P → Result (List (Hidden P)) (Failure P) → Type 0
EndExpands provenance macros (over after) r = Expands provenance macros after r
EndExpands provenance macros (waits name rest) r = Expands provenance macros (name ∷ rest) r
EndExpands provenance macros (fails failure) r = r ≡ Err failure

-- an expansion as a run of what stands in front, and what is left at its end
pub record BeginsWithRun {P : Type 0} (provenance : Provenance P) (macros : Macros) (front source : List (Hidden P)) (r : Result (List (Hidden P)) (Failure P)) : Type 0 where
  pub done : List (Hidden P)
  pub end : End P
  pub uses : Uses P
  pub runs : Runs provenance macros front source done end uses
  pub behind : Result (List (Hidden P)) (Failure P)
  pub left : EndExpands provenance macros end behind
  pub is : r ≡ after_these done behind

-- How a run goes on from its end where more follows: there is nothing to be done, or the name that
-- waits runs, with all that is left behind it as its list.
pub data Continues {P : Type 0} (provenance : Provenance P) (macros : Macros) (more : List (Hidden P)) : End P → (done : List (Hidden P)) → End P → Uses P → Type 0 where
  from_over : {after : List (Hidden P)} → Continues provenance macros more (over after) [] (over (after ++ more)) no_uses
  from_failure : {failure : Failure P} → Continues provenance macros more (fails failure) [] (fails failure) no_uses
  from_waiting : {t : Hidden P} {rest done : List (Hidden P)} {end : End P} {u : Uses P} → Runs provenance macros (t ∷ []) (rest ++ more) done end u
      → Continues provenance macros more (waits t rest) done end u

-- Behind a name that waits are left these tokens, which are made or stood in front, and then all of
-- the list that was not taken.
abbrev pub StandBehind : {P : Type 0} → End P → (source taken made : List (Hidden P)) → Type 0
StandBehind (over after) source taken made = made ≡ []
StandBehind {P} (waits name rest) source taken made = (left : List (Hidden P)) × (source ≡ taken ++ left) × (rest ≡ made ++ left)
StandBehind (fails failure) source taken made = made ≡ []

-- what was taken of a list that begins with these tokens, and which of it is behind them
pub data TakesBehind {P : Type 0} (made : List (Hidden P)) : (taken own : List (Hidden P)) → Type 0 where
  nothing : TakesBehind made [] []
  all_made : {own : List (Hidden P)} → TakesBehind made (made ++ own) own

-- A run that ended so, and what continued it, are one run of the longer list. It took what the
-- first did and then what the second did, without the tokens that the first had left in front of
-- the list, and looked up the names that both did.
pub record Resumed {P : Type 0} (provenance : Provenance P) (macros : Macros) (more front source done : List (Hidden P)) (first last : End P) (u v : Uses P) : Type 0 where
  pub uses : Uses P
  pub runs : Runs provenance macros front (source ++ more) done last uses
  pub made : List (Hidden P)
  pub own : List (Hidden P)
  pub stand : StandBehind first source u.taken made
  pub behind : TakesBehind made v.taken own
  pub taken : uses.taken ≡ u.taken ++ own
  pub looked_up : (one two : Macros) → Agree one two uses.looked_up → Agree one two u.looked_up × Agree one two v.looked_up
