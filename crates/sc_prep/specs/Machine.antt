-- The walk of one configuration over the lines of a file as they come.
use Rattle.std.specs.Prelude.{◌≡◌, ℕ, ◌&&◌, not, Bool, true, false, List, [], ◌∷◌, Option, Some, None, is_some, is_none, unwrap_or, Result, Ok, Err, if◌then◌else◌}
use Rattle.std.specs.Option.{option_map}
use Rattle.sc_model.specs.declared.cause.Cause.{Cause}
use Rattle.sc_model.specs.declared.cause.Cause.TheVariants.{BadDirective, ErrorDirective, Redefined}
use Rattle.c11_directives.specs.declared.directive.Conditional.{Conditional}
use Rattle.c11_directives.specs.declared.directive.Conditional.TheVariants.{Opening, Alternative, Else, Endif}
use Rattle.c11_directives.specs.declared.directive.Directive.{Directive}
use Rattle.c11_directives.specs.declared.directive.Test.{Test}
use Rattle.c11_directives.specs.declared.directive.Test.TheVariants as tests
use Rattle.c11_directives.specs.declared.directive.Directive.TheVariants as directive
use Rattle.c11_directives.specs.Lines.{Line, conditional_of, hash_of}
use Rattle.sc_model.specs.Fault.{Fault, fault_at, first_place}
use Rattle.c11_directives.specs.Behind.{behind_name, Says}
use Rattle.c11_directives.specs.Pragmas.{RunBecomes}
use Rattle.c11_directives.specs.Pre.{Context, State, Carries, Decides, place_in, with_text, put_out, operand_of, with_macro, undefined, is_barrier, is_said, state_behind}
use Rattle.c11_macros.specs.Defines.{Defined, reads}
use Rattle.c11_macros.specs.Macros.{Definition, Macros}
use Rattle.c11_macros.specs.Same.{same_definition}
use Rattle.sc_model.specs.Token.{Place, Token}

-- Whether the lines are taken, for each open section whether it stands in lines that are taken and
-- whether none of its branches was taken yet, the state of the walk, and its first fault.
pub record Machine : Type 0 where
  pub active : Bool
  pub sections : List (Bool × Bool)
  pub state : State
  pub fault : Option Fault

-- the line does something
abbrev pub acts : Machine → Bool
acts m = m.active && is_none m.fault

-- the place of the line's #
abbrev pub place_at : State → Line → Place
place_at s l = unwrap_or (option_map (place_in s) (hash_of l)) (first_place [])

abbrev pub refusal : State → Line → Cause → Fault
refusal s l cause = fault_at cause (place_at s l)

-- the line is refused where the test holds and it does something
abbrev pub refusing_if : Bool → Machine → Line → Cause → Machine
refusing_if test m l cause = record m { fault = if test && acts m then Some (refusal m.state l cause) else m.fault }

abbrev pub refusing : Machine → Line → Cause → Machine
refusing = refusing_if true

-- the state becomes another where the line does something
abbrev pub acting : Machine → (State → State) → Machine
acting m next = record m { state = if acts m then next m.state else m.state }

-- the same, unless the test holds
abbrev pub acting_unless : Bool → Machine → (State → State) → Machine
acting_unless test m next = record m { state = if not test && acts m then next m.state else m.state }

-- lines of this group are taken from here on
abbrev pub turned : Machine → Bool → List (Bool × Bool) → Machine
turned m active sections = record m { active = active; sections = sections }

-- a section begins, and its first branch is taken where the test holds
abbrev pub opened : Machine → Bool → Machine
opened m test = turned m (m.active && test) ((m.active, m.active && not test) ∷ m.sections)

-- a section begins with this decision
abbrev pub opened_as : Machine → Result Bool Fault → Machine
opened_as m (Ok test) = opened m test
opened_as m (Err fault) = opened (record m { fault = Some fault }) false

-- The next branch of the innermost section is taken, if none was taken yet, or passed over.
abbrev pub next_branch : Machine → Bool → List (Bool × Bool) → Machine
next_branch m test [] = m
next_branch m true (s ∷ ss) = turned m s.1 ((s.0, false) ∷ ss)
next_branch m false (s ∷ ss) = turned m false (s ∷ ss)

-- the next branch comes with this decision
abbrev pub branched_as : Machine → Result Bool Fault → Machine
branched_as m (Ok test) = next_branch m test m.sections
branched_as m (Err fault) = next_branch (record m { fault = Some fault }) false m.sections

-- the innermost section ends
abbrev pub ended : Machine → List (Bool × Bool) → Machine
ended m [] = m
ended m (s ∷ ss) = turned m s.0 ss

-- a barrier closes the run, which is put out as what it becomes, or its fault is the machine's
abbrev pub closing_run : Machine → Result (List Token) Fault → Machine
closing_run m (Ok output) = acting m (λ s. put_out s output)
closing_run m (Err fault) = record m { fault = if acts m then Some fault else m.fault }

-- what a definition makes of the macros, where its name was defined as this or not at all
abbrev pub defined_over : Macros → Defined → Option Definition → Result Macros Cause
defined_over macros d None = Ok (with_macro macros d)
defined_over macros d (Some other) = if same_definition other d.definition then Ok (with_macro macros d) else Err Redefined

abbrev pub defined_as : Macros → Result Defined Cause → Result Macros Cause
defined_as macros (Ok d) = defined_over macros d (macros d.name)
defined_as macros (Err cause) = Err cause

-- why a directive is refused that changes no macro
abbrev pub refusal_of : Directive → Option Cause
refusal_of directive.Error = Some ErrorDirective
refusal_of directive.Unknown = Some BadDirective
refusal_of directive.Include = Some BadDirective
refusal_of directive.Line = Some BadDirective
refusal_of _ = None

abbrev pub refused_by : Macros → Option Cause → Result Macros Cause
refused_by macros None = Ok macros
refused_by macros (Some cause) = Err cause

-- what a directive makes of the macros, or why it is refused
abbrev pub changed_by : Macros → Line → Directive → Result Macros Cause
changed_by macros l directive.Define = defined_as macros (reads l.standard (behind_name l))
changed_by macros l directive.Undef = undefined macros (operand_of l)
changed_by macros l d = refused_by macros (refusal_of d)

-- the directive leaves these macros, or the line is refused
abbrev pub changing : Machine → Line → Directive → Result Macros Cause → Machine
changing m l d (Ok macros) = acting m (λ s. state_behind s l d macros)
changing m l d (Err cause) = refusing m l cause

-- a line that is no conditional directive
abbrev pub plain_by : Machine → Line → Option Directive → Machine
plain_by m l None = acting m (λ s. with_text s l)
plain_by m l (Some d) = if is_barrier d then changing m l d (changed_by m.state.macros l d) else m

abbrev pub plain_step : Machine → Line → Machine
plain_step m l = plain_by m l l.directive

-- the test that wants the name defined, or undefined
abbrev pub name_test : Bool → Test
name_test wanted = if wanted then tests.Defined else tests.Undefined

-- whether a branch is taken by such a test
abbrev pub is_taken : Macros → Bool → List ℕ → Bool
is_taken macros wanted name = if wanted then is_some (macros name) else not (is_some (macros name))

-- what a line does whose decision is this, where it has one
abbrev pub step_by : Machine → Line → Result Bool Fault → Option Conditional → Machine
step_by m l r None = plain_step m l
step_by m l r (Some (Opening test)) = opened_as m r
step_by m l r (Some (Alternative test)) = branched_as m r
step_by m l r (Some Else) = next_branch m true m.sections
step_by m l r (Some Endif) = ended m m.sections

abbrev pub step : Machine → Line → Result Bool Fault → Machine
step m l r = step_by m l r (conditional_of l)

-- The test of a line is decided: that of an alternative only where its section took no branch.
abbrev pub asks_by : Machine → Option Conditional → Bool
asks_by m (Some (Opening test)) = acts m
asks_by m (Some (Alternative test)) = acts (next_branch m true m.sections)
asks_by m _ = false

-- what the line decides where its test is; elsewhere it takes nothing
pub record Answers (x : Context) (m : Machine) (l : Line) (r : Result Bool Fault) : Type 0 where
  pub asked : asks_by m (conditional_of l) ≡ true → Decides x m.state l r
  pub not_asked : asks_by m (conditional_of l) ≡ false → r ≡ Ok false

-- the line ends the run that stands before it
abbrev pub ends_run : Option Directive → Bool
ends_run None = false
ends_run (Some d) = is_barrier d

-- a run of the machine becomes this, where it has one to be closed
abbrev pub RunExpands : Machine → Result (List Token) Fault → Type 0
RunExpands m r = acts m ≡ true → RunBecomes m.state.macros m.state.run r

-- what a directive comes to, where the machine does something
abbrev pub arriving : Machine → Result State Fault → Machine
arriving m (Ok s) = acting m (λ _. s)
arriving m (Err fault) = record m { fault = if acts m then Some fault else m.fault }

-- the directive is carried out by what it says, where the machine does something
abbrev pub CarriesOut : Context → Machine → Line → Directive → Result State Fault → Type 0
CarriesOut x m l d e = acts m ≡ true → Carries x l m.state d e

-- what the line decides was done
pub record Decided (x : Context) (m : Machine) (l : Line) (n : Machine) : Type 0 where
  pub decision : Result Bool Fault
  pub answers : Answers x m l decision
  pub is : n ≡ step m l decision

-- what the directive comes to was done
pub record Carried (x : Context) (l : Line) (d : Directive) (m n : Machine) : Type 0 where
  pub end : Result State Fault
  pub carries : CarriesOut x m l d end
  pub is : n ≡ arriving m end

-- The line says these tokens behind its name where the machine does something, or is refused.
pub data SaysAt (l : Line) (m : Machine) (ts : List Token) : Machine → Type 0 where
  inert : acts m ≡ false → ts ≡ [] → SaysAt l m ts m
  said : acts m ≡ true → Says m.state.macros l (Ok ts) → SaysAt l m ts m
  refused : (fault : Fault) → acts m ≡ true → Says m.state.macros l (Err fault) → SaysAt l m ts (arriving m (Err fault))

-- what a line makes of the machine: a barrier closes the run first
pub data Takes (x : Context) (m : Machine) (l : Line) : Machine → Type 0 where
  takes : (r : Result Bool Fault) → ends_run l.directive ≡ false → Answers x m l r → Takes x m l (step m l r)
  closes : (d : Directive) (r : Result (List Token) Fault) → l.directive ≡ Some d → is_barrier d ≡ true → is_said d ≡ false → RunExpands m r
      → Takes x m l (step (closing_run m r) l (Ok false))
  carries : (d : Directive) (r : Result (List Token) Fault) (e : Result State Fault) → l.directive ≡ Some d → is_said d ≡ true → RunExpands m r
      → CarriesOut x (closing_run m r) l d e → Takes x m l (arriving (closing_run m r) e)

-- the lines in order
pub data Runs (x : Context) : Machine → List Line → Machine → Type 0 where
  no_line : {m : Machine} → Runs x m [] m
  line : {l : Line} {ls : List Line} {m n o : Machine} → Takes x m l n → Runs x n ls o → Runs x m (l ∷ ls) o

-- the machine before the first line
abbrev pub start : State → Machine
start s = record { active = true; sections = []; state = s; fault = None }
