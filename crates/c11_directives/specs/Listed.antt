-- Which configurations of a space are listed: those for which its text `valid` holds (6.10.1).
use Rattle.std.specs.Prelude.{◌≡◌, ℕ, ◌<◌, ◌++◌, Bool, true, List, [], ◌∷◌, map, codes, Option, Some, None, Result, Ok, Err, if◌then◌else◌}
use Rattle.c11_directives.specs.Lines.{Line, line_of}
use Rattle.c11_directives.specs.Pre.{Decides, context_of, initial_state}
use Rattle.c11_tokens.specs.Lex.{Lexed, is_newline}
use Rattle.sc_model.specs.declared.cause.Cause.{Cause}
use Rattle.sc_model.specs.declared.cause.Cause.TheVariants.{UnterminatedComment}
use Rattle.sc_model.specs.declared.standard.Standard.{Standard}
use Rattle.sc_model.specs.Cause.{code_of}
use Rattle.sc_model.specs.Fault.{Fault}
use Rattle.sc_model.specs.Sets.{IsConfig}
use Rattle.sc_model.specs.Space.{Space, arities_of}
use Rattle.sc_model.specs.Token.{Lexeme, Position, in_file}

-- A text is read as the line of an `#if`, the first of a file. That the file has no name is told by
-- nothing: `__FILE__` is a string literal, which is part of no expression.
abbrev pub if_bytes : List ℕ → List ℕ
if_bytes text = codes "#if " ++ text ++ codes "\n"

-- what stands before the first that passes
abbrev pub up_to : {T : Type 0} → (T → Bool) → List T → List T
up_to test [] = []
up_to test (t ∷ ts) = if test t then [] else t ∷ up_to test ts

-- the first line of these tokens
abbrev pub if_line : Standard → List Lexeme → Line
if_line standard ts = line_of standard (map (in_file []) (up_to (λ (t : Lexeme). is_newline t.kind) ts))

-- the text of the space is this line
pub record IsValidLine (space : Space) (line : Line) : Type 0 where
  pub text : List ℕ
  pub tokens : List Lexeme
  pub present : space.valid ≡ Some text
  pub lexed : Lexed (if_bytes text) (Ok tokens)
  pub is : line ≡ if_line space.standard tokens

-- the text of the space has a comment without an end
pub record HasOpenComment (space : Space) : Type 0 where
  pub text : List ℕ
  pub place : Position
  pub present : space.valid ≡ Some text
  pub refused : Lexed (if_bytes text) (Err place)

abbrev pub cause_alone : Result Bool Fault → Result Bool Cause
cause_alone (Ok holds) = Ok holds
cause_alone (Err fault) = Err fault.cause

-- What the text says of a configuration, with the macros with which that starts and no other:
-- whether it holds there, or why it says nothing. Where there is none, it holds.
pub data SaysValid (space : Space) (config : List ℕ) : Result Bool Cause → Type 0 where
  absent : space.valid ≡ None → SaysValid space config (Ok true)
  unread : HasOpenComment space → SaysValid space config (Err UnterminatedComment)
  decided : (line : Line) (answer : Result Bool Fault) → IsValidLine space line
      → Decides (context_of space (λ name. None)) (initial_state space [] config) line answer → SaysValid space config (cause_alone answer)

-- One option index for each variable, and the text holds there. These are the configurations of
-- which the main theorem speaks.
pub record IsListed (space : Space) (config : List ℕ) : Type 0 where
  pub formed : IsConfig (arities_of space) config
  pub valid : SaysValid space config (Ok true)

-- The text says nothing of some configuration for this cause, and of none for one of a lower code.
pub record IsRefusedBy (space : Space) (cause : Cause) : Type 0 where
  pub config : List ℕ
  pub formed : IsConfig (arities_of space) config
  pub says : SaysValid space config (Err cause)
  pub least : (other : List ℕ) (lower : Cause) → IsConfig (arities_of space) other → code_of lower < code_of cause → SaysValid space other (Err lower) → ⊥

-- The text says of each configuration whether it holds there, and not that it holds nowhere.
pub record HasListed (space : Space) : Type 0 where
  pub each : (config : List ℕ) → IsConfig (arities_of space) config → (holds : Bool) × SaysValid space config (Ok holds)
  pub some : ((config : List ℕ) → IsListed space config → ⊥) → ⊥
