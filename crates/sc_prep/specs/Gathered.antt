-- The text of a run of which a first part has settled: what waits of it is gathered with the names
-- that it hides, or a fault holds it.
use Rattle.std.specs.Prelude.{◌≡◌, ℕ, List, [], ◌∷◌, ◌++◌, map}
use Rattle.c11_directives.specs.Pre.{State}
use Rattle.c11_macros.specs.Hidden.{Failure, Hidden, Provenance}
use Rattle.c11_macros.specs.Macros.{Macros}
use Rattle.c11_macros.specs.Runs.{IsHeld, Runs, Settles, Uses, waits}
use Rattle.c11_macros.specs.Text.{place_alone, token_of, unhidden}
use Rattle.sc_base.specs.declared.fault.Fault as base
use Rattle.sc_base.specs.declared.id.Cond.{Cond}
use Rattle.sc_base.specs.declared.id.Name.{Name}
use Rattle.sc_base.specs.Seen.{seen_place}
use Rattle.sc_expand.specs.Moved.{moved, moved_failure}
use Rattle.sc_expand.specs.Seen.{failures_at, seen_at, stores}
use Rattle.sc_model.specs.Sets.{Sets}
use Rattle.sc_model.specs.Token.{Place, Token}
use Rattle.sc_prep.specs.Pragmas.{Awaited, awaits, no_operator, outside}
use Rattle.sc_prep.specs.declared.open_runs.OpenRuns.{OpenRuns}
use Rattle.sc_subst.specs.declared.hidden.Hidden as base_hidden

-- What a first part of the run became stands behind the output, without operators and as far as one
-- awaits this, and what is left of that part is gathered before the rest of the run. What one has
-- gathered that is refused, whatever follows, doesn't count.
pub data HasText (s : State) (gathered : List (Hidden Place)) (list : List Token) (awaited : Awaited) : List (Failure Place) → Type 0 where
  settling : (before new : List Token) (out left : List (Hidden Place)) → s.run ≡ before ++ new → Settles place_alone s.macros (map unhidden before) out left
      → gathered ≡ left ++ map unhidden new → list ≡ s.output ++ outside no_operator (map token_of out) → awaited ≡ awaits no_operator (map token_of out)
      → HasText s gathered list awaited []
  refused : (before new : List Token) (failure : Failure Place) → s.run ≡ before ++ new → IsHeld place_alone s.macros (map unhidden before) failure
      → HasText s gathered list awaited (failure ∷ [])

-- a first part of a run has settled to its end, whatever follows, and these tokens are left
pub record IsLeft (macros : Macros) (run left : List Token) : Type 0 where
  pub before : List Token
  pub done : List (Hidden Place)
  pub is : run ≡ before ++ left
  pub settles : Settles place_alone macros (map unhidden before) done []

-- the first of these tokens waits for what follows them, with all behind it
pub record StillWaits {P : Type 0} (provenance : Provenance P) (macros : Macros) (ts : List (Hidden P)) : Type 0 where
  pub name : Hidden P
  pub rest : List (Hidden P)
  pub is : ts ≡ name ∷ rest
  pub uses : Uses P
  pub runs : Runs provenance macros (name ∷ []) rest [] (waits name rest) uses

-- What was read of runs is kept, or it is forgotten where all of them has settled and no fault
-- holds one.
pub data Forgets (runs : OpenRuns) : OpenRuns → Type 0 where
  keeps_all : Forgets runs runs
  forgets : runs.gathered ≡ [] → runs.held.items ≡ [] → Forgets runs (record runs { read = [] })

-- what a configuration has of a list of tokens that hide names, and of faults
abbrev pub hidden_at : Sets → (names files : List (List ℕ)) → List (List Name) → List (Cond × base_hidden.Hidden) → List ℕ → List (Hidden Place)
hidden_at s names files hides list c = map (moved (seen_place files)) (seen_at (stores s names hides) list c)

abbrev pub held_at : Sets → (files : List (List ℕ)) → List base.Fault → List ℕ → List (Failure Place)
held_at s files faults c = map (moved_failure (seen_place files)) (failures_at s faults c)
