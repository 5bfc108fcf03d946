-- What a line's expression makes of the machine of one configuration, stage by stage (C11 6.10.1).
use Rattle.std.specs.Prelude.{◌≡◌, Bool, true, false, List, [], map, Some, Ok, Err}
use Rattle.c11_directives.specs.Lines.{Line}
use Rattle.c11_directives.specs.Pre.{Context, Decides}
use Rattle.c11_expressions.specs.Lines.{Comes, failure, without_defined}
use Rattle.c11_macros.specs.Hidden.{Failure}
use Rattle.c11_macros.specs.Text.{TextExpands, fault_of, unhidden}
use Rattle.sc_model.specs.declared.cause.Cause.{Cause}
use Rattle.sc_model.specs.declared.standard.Standard.{Standard}
use Rattle.sc_model.specs.Fault.{Fault}
use Rattle.sc_model.specs.Token.{Place, Token}
use Rattle.sc_prep.specs.Machine.{Machine}

-- the machine with this fault
abbrev pub failed : Machine → Fault → Machine
failed m fault = record m { fault = Some fault }

-- The text of a line becomes these tokens, each `defined` replaced, or the line is refused at its
-- #.
pub data ReplacesAt (text : List Token) (hash : Place) (asked : Bool) (m : Machine) (ts : List Token) : Machine → Type 0 where
  replacing_idle : asked ≡ false → ts ≡ [] → ReplacesAt text hash asked m ts m
  replacing_done : asked ≡ true → without_defined m.state.macros (map unhidden text) ≡ Ok (map unhidden ts) → ReplacesAt text hash asked m ts m
  replacing_fails : (cause : Cause) → asked ≡ true → without_defined m.state.macros (map unhidden text) ≡ Err cause
      → ReplacesAt text hash asked m ts (failed m (fault_of (failure cause hash)))

-- A text expands to these tokens, or that fails.
pub data ExpandsAt (text : List Token) (asked : Bool) (m : Machine) (ts : List Token) : Machine → Type 0 where
  expanding_idle : asked ≡ false → ts ≡ [] → ExpandsAt text asked m ts m
  expanding_done : asked ≡ true → TextExpands m.state.macros text (Ok ts) → ExpandsAt text asked m ts m
  expanding_fails : (fault : Fault) → asked ≡ true → TextExpands m.state.macros text (Err fault) → ExpandsAt text asked m ts (failed m fault)

-- The tokens that an expansion leaves come to this, or are refused at the # of the line.
pub data EvaluatesAt (standard : Standard) (hash : Place) (ts : List Token) (asked : Bool) (m : Machine) (is_taken : Bool) : Machine → Type 0 where
  evaluating_idle : asked ≡ false → is_taken ≡ false → EvaluatesAt standard hash ts asked m is_taken m
  evaluating_done : asked ≡ true → Comes standard hash (Ok (map unhidden ts)) (Ok is_taken) → EvaluatesAt standard hash ts asked m is_taken m
  evaluating_fails : (why : Failure Place) → asked ≡ true → is_taken ≡ false → Comes standard hash (Ok (map unhidden ts)) (Err why)
      → EvaluatesAt standard hash ts asked m is_taken (failed m (fault_of why))

-- The line takes its group or not, or is refused. Where it isn't asked it takes nothing.
pub data DecidesAt (x : Context) (l : Line) (asked : Bool) (m : Machine) (is_taken : Bool) : Machine → Type 0 where
  deciding_idle : asked ≡ false → is_taken ≡ false → DecidesAt x l asked m is_taken m
  deciding_done : asked ≡ true → Decides x m.state l (Ok is_taken) → DecidesAt x l asked m is_taken m
  deciding_fails : (fault : Fault) → asked ≡ true → is_taken ≡ false → Decides x m.state l (Err fault) → DecidesAt x l asked m is_taken (failed m fault)
