-- Where the expansion of a list waits for what follows it (C11 6.10.3p10, p11).
use Rattle.std.specs.Prelude.{◌≡◌, true, List, [], ◌∷◌, Result, Ok, Err}
use Rattle.c11_macros.specs.Expansion.{case_of, unclosed}
use Rattle.c11_macros.specs.Hidden.{Failure, Hidden, Provenance, failure_at}
use Rattle.c11_macros.specs.Macros.{Macros}
use Rattle.c11_macros.specs.Runs.{is_last_name}
use Rattle.sc_expand.specs.Plain.{Moves, State, scanning}
use Rattle.sc_model.specs.declared.cause.Cause.TheVariants.{UnterminatedCall}

-- What follows the list may call the name that is next, or close its call. In an argument nothing
-- waits: its end is the argument's (6.10.3.1).
pub data Waits {P : Type 0} (macros : Macros) : State P → Type 0 where
  alone : (out rest : List (Hidden P)) (t : Hidden P) → is_last_name macros t rest ≡ true → Waits macros (scanning out (t ∷ rest))
  open_call : (out rest : List (Hidden P)) (t : Hidden P) → case_of macros t rest ≡ unclosed → Waits macros (scanning out (t ∷ rest))

-- steps from one state to another, each of which is one whatever follows the list
pub data LeadsOn {P : Type 0} (provenance : Provenance P) (macros : Macros) : State P → State P → Type 0 where
  no_step : {s : State P} → LeadsOn provenance macros s s
  step : {s t u : State P} → (Waits macros s → ⊥) → Moves provenance macros s t → LeadsOn provenance macros t u → LeadsOn provenance macros s u

-- what is left of a list becomes this where nothing follows: a name alone stays
abbrev pub closed : {P : Type 0} → List (Hidden P) → Result (List (Hidden P)) (Failure P)
closed [] = Ok []
closed (t ∷ []) = Ok (t ∷ [])
closed (t ∷ (u ∷ us)) = Err (failure_at UnterminatedCall t)
