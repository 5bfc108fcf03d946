-- What a configuration uses of the source at one name or one line, and what waits at a place of an
-- expression: its footprint there (6.10.1 to 6.10.4).
use Rattle.std.specs.Prelude.{◌≡◌, ℕ, ◌-◌, ◌≤◌, true, false, List, [], ◌∷◌, ◌++◌, All, AllPairs, length, map, take, Option, Some, Result, Ok}
use Rattle.c11_directives.specs.declared.directive.Directive.{Directive}
use Rattle.c11_directives.specs.declared.directive.Test.TheVariants.{Expression}
use Rattle.c11_directives.specs.Behind.{begins_with_header, behind_name}
use Rattle.c11_directives.specs.Lines.{Line, hash_of, test_of}
use Rattle.c11_directives.specs.Listed.{IsListed, IsValidLine}
use Rattle.c11_directives.specs.Pre.{Closes, State, initial_state, is_barrier, is_said}
use Rattle.c11_directives.specs.Reaches.{Moment, Reaches, at_end, at_head, at_line}
use Rattle.c11_expressions.specs.Grammar.{Symbol}
use Rattle.c11_expressions.specs.Lines.{without_defined}
use Rattle.c11_expressions.specs.Parts.{IsPart, Part}
use Rattle.c11_expressions.specs.Symbols.{symbol_of}
use Rattle.c11_macros.specs.Expansion.{Expands, case_of, stays}
use Rattle.c11_macros.specs.Footprint.{Arrives, footprint}
use Rattle.c11_macros.specs.Hidden.{Failure, Hidden}
use Rattle.c11_macros.specs.Macros.{Definition, Macros}
use Rattle.c11_macros.specs.Text.{TextExpands, place_alone, unhidden}
use Rattle.c11_macros.specs.Trace.{trace}
use Rattle.sc_model.specs.Outside.{Files}
use Rattle.sc_model.specs.Space.{Space}
use Rattle.sc_model.specs.Token.{Place, Token}
use Rattle.sc_model.specs.declared.standard.Standard.{Standard}

-- a name or the # of a line, or the place before a token of what an expression expands to
pub data Spot : Type 0 where
  token_itself : Token → Spot
  before_token : Token → Spot

-- behind which #includes it is, the outermost first
pub record Origin : Type 0 where
  pub chain : List Place
  pub spot : Spot

-- What is used: tokens, and of each name that was looked up the definition, or none. Of an
-- expression it is what waits.
pub data Used : Type 0 where
  source : List Token → List (List ℕ × Option Definition) → Used
  waiting : Part → Used

abbrev pub tokens_used : Used → List Token
tokens_used (source tokens definitions) = tokens
tokens_used (waiting part) = []

abbrev pub looked_up_in : Used → List (List ℕ × Option Definition)
looked_up_in (source tokens definitions) = definitions
looked_up_in (waiting part) = []

abbrev pub SourceFootprint : Type 0
SourceFootprint = Origin × Used

-- in the file itself
abbrev pub footprint_at : Token → List Token → List (List ℕ × Option Definition) → Spot × Used
footprint_at token tokens definitions = (token_itself token, source tokens definitions)

abbrev pub definitions_of : Macros → List (List ℕ) → List (List ℕ × Option Definition)
definitions_of macros names = map (λ name. (name, macros name)) names

-- The expansion of a text comes to a name that it replaces, or whose call it replaces. The name
-- has this footprint: it and what it takes behind it.
pub record NameHas (macros : Macros) (text : List Token) (f : Spot × Used) : Type 0 where
  pub name : Token
  pub behind : List Token
  pub answer : Result (List (Hidden Place)) (Failure Place)
  pub expands : Expands place_alone macros (map unhidden (name ∷ behind)) answer
  pub arrives : Arrives place_alone macros (map unhidden text) (map unhidden (name ∷ behind))
  pub replaces : case_of macros (unhidden name) (map unhidden behind) ≡ stays → ⊥
  pub is : f ≡ footprint_at name (name ∷ take (length behind - (footprint expands).left) behind) (definitions_of macros (footprint expands).looked_up)

-- The expansion of a whole text for the line with this # has this footprint.
pub record TextHas (macros : Macros) (text : List Token) (hash : Token) (f : Spot × Used) : Type 0 where
  pub answer : Result (List (Hidden Place)) (Failure Place)
  pub expands : Expands place_alone macros (map unhidden text) answer
  pub is : f ≡ footprint_at hash text (definitions_of macros (trace expands).looked_up)

-- the symbol of an expression that a token is, if it is one
abbrev pub symbol_at : Standard → Token → Option Symbol
symbol_at standard t = symbol_of standard t.kind t.spelling

-- A text expands, and before a token of what it comes to this waits (6.10.1p4).
pub record PartHas (standard : Standard) (macros : Macros) (text : List Token) (f : Spot × Used) : Type 0 where
  pub before : List Token
  pub next : Token
  pub rest : List Token
  pub part : Part
  pub expands : TextExpands macros text (Ok (before ++ next ∷ rest))
  pub waits : IsPart (symbol_at standard next) (map (symbol_at standard) before) part
  pub is : f ≡ (before_token next, waiting part)

-- the expression that a line asks about, each `defined` replaced (6.10.1p4)
pub record IsExpressionOf (macros : Macros) (line : Line) (text : List Token) : Type 0 where
  pub asks : test_of line ≡ Some Expression
  pub replaced : without_defined macros (map unhidden (behind_name line)) ≡ Ok (map unhidden text)

-- the line says something without a header name (6.10.2p4, 6.10.4p5)
pub record IsSaid (line : Line) : Type 0 where
  pub directive : Directive
  pub is : line.directive ≡ Some directive
  pub says : is_said directive ≡ true
  pub other : begins_with_header (behind_name line) ≡ false

-- the text that is expanded for a line
pub data IsExpandedFor (macros : Macros) (line : Line) : List Token → Type 0 where
  expression : (text : List Token) → IsExpressionOf macros line text → IsExpandedFor macros line text
  said : IsSaid line → IsExpandedFor macros line (behind_name line)

-- A name in a line has this footprint, or a place of its expression, or the line. One with a header
-- name looks nothing up.
pub data DirectiveHas (macros : Macros) (line : Line) (f : Spot × Used) : Type 0 where
  of_name : (text : List Token) → IsExpandedFor macros line text → NameHas macros text f → DirectiveHas macros line f
  of_part : (text : List Token) → IsExpressionOf macros line text → PartHas line.standard macros text f → DirectiveHas macros line f
  of_line : (hash : Token) → IsSaid line → hash_of line ≡ Some hash → TextHas macros (behind_name line) hash f → DirectiveHas macros line f
  of_header : (d : Directive) (hash : Token) → line.directive ≡ Some d → is_said d ≡ true → begins_with_header (behind_name line) ≡ true → hash_of line ≡ Some hash
      → f ≡ footprint_at hash (behind_name line) [] → DirectiveHas macros line f

-- What is had at a moment: the footprint of a name in the run that ends there, or one of the line.
pub data MomentHas : Moment → Spot × Used → Type 0 where
  of_run : {line : Line} {s : State} {f : Spot × Used} (d : Directive) → line.directive ≡ Some d → is_barrier d ≡ true → NameHas s.macros s.run f
      → MomentHas (at_line line s) f
  of_last_run : {s : State} {f : Spot × Used} → NameHas s.macros s.run f → MomentHas (at_end s) f
  of_directive : {line : Line} {s : State} {f : Spot × Used} (d : Directive) (t : State) → line.directive ≡ Some d → is_said d ≡ true → Closes s (Ok t)
      → DirectiveHas t.macros line f → MomentHas (at_line line s) f
  of_head : {head : Line} {s : State} {f : Spot × Used} → DirectiveHas s.macros head f → MomentHas (at_head head s) f

-- one of these moments, told behind which #includes, has this footprint
pub record MomentsHave (reaches : List Place → Moment → Type 0) (f : SourceFootprint) : Type 0 where
  pub moment : Moment
  pub comes : reaches f.0.chain moment
  pub has : MomentHas moment (f.0.spot, f.1)

-- a configuration has this footprint somewhere in what is preprocessed
abbrev pub FilesHave : Space → Files → (main config : List ℕ) → SourceFootprint → Type 0
FilesHave space files main config f = MomentsHave (Reaches space files main config) f

-- it has it in the line that says whether it is valid, before any file
pub record ValidHas (space : Space) (config : List ℕ) (f : SourceFootprint) : Type 0 where
  pub line : Line
  pub is_line : IsValidLine space line
  pub outside : f.0.chain ≡ []
  pub has : MomentHas (at_head line (initial_state space [] config)) (f.0.spot, f.1)

-- All configurations come to the line that says which are valid, and those that are listed to what
-- is preprocessed.
pub data Has (space : Space) (files : Files) (main config : List ℕ) (f : SourceFootprint) : Type 0 where
  of_valid : ValidHas space config f → Has space files main config f
  of_files : IsListed space config → FilesHave space files main config f → Has space files main config f

-- At least so many of these configurations have something each at one place, no two the same.
pub record HasFootprints {K V : Type 0} (is_listed : List ℕ → Type 0) (has : List ℕ → K × V → Type 0) (count : ℕ) : Type 0 where
  pub at : K
  pub footprints : List (List ℕ × V)
  pub many : count ≤ length footprints
  pub listed : All (λ p. is_listed p.0) footprints
  pub each : All (λ p. has p.0 (at, p.1)) footprints
  pub apart : AllPairs (λ p q. (p.0 ≡ q.0 → ⊥) × (p.1 ≡ q.1 → ⊥)) footprints
