-- What taking a call out of its list does at a configuration.
use Rattle.std.specs.Prelude.{◌≡◌, Bool, true, false, List, [], ◌∷◌, Result}
use Rattle.c11_macros.specs.Expansion.{called, case_of, stays}
use Rattle.c11_macros.specs.Hidden.{Failure, Hidden, Provenance}
use Rattle.c11_macros.specs.Macros.{Definition, Macros}
use Rattle.c11_macros.specs.Runs.{is_last_name}
use Rattle.c11_macros.specs.Substitution.{Slot}
use Rattle.sc_base.specs.declared.place.Place.{Place}
use Rattle.sc_expand.specs.Plain.{IsTemplate, Waiting, gathered}
use Rattle.sc_expand.specs.Seen.{state_of}
use Rattle.sc_expand.specs.Turn.{At, End, EndsBy, waits, with_end}

-- a call has left the list, and this follows it
abbrev pub without_call : At → Waiting Place → List (Hidden Place) → At
without_call a w after = record a { view = record a.view { work = after; calls = w ∷ [] } }

-- it goes on no longer, and where it waits it has what it had
pub record IsEnded (a b : At) (end : End) : Type 0 where
  pub live : b.live ≡ false
  pub ends : b.ends ≡ with_end a.ends end
  pub view : end ≡ waits → b.view ≡ a.view

-- The name of a function-like macro stands first, with this behind it. It is no call, or is taken
-- out as one, or is refused or waits. The last argument tells whether it is no call.
pub data Gathers (provenance : Provenance Place) (macros : Macros) (t : Hidden Place) (rest : List (Hidden Place)) (a b : At) : Bool → Type 0 where
  uncalled : case_of macros t rest ≡ stays → (a.whole ≡ true → is_last_name macros t rest ≡ false) → b ≡ a → Gathers provenance macros t rest a b true
  taken_out : (d : Definition) (arguments : List (List (Hidden Place))) (close : Hidden Place) (after : List (Hidden Place)) (template : Result (List (Slot Place)) (Failure Place))
      → case_of macros t rest ≡ called d arguments close after → IsTemplate provenance d t arguments template
      → b ≡ without_call a (gathered provenance d t arguments close template) after → Gathers provenance macros t rest a b false
  ended : (end : End) → EndsBy provenance macros a.whole (state_of a.view) end → IsEnded a b end → Gathers provenance macros t rest a b false
