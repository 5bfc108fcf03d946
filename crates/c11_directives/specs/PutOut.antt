-- Where a configuration puts out what a token of its text became (C11 6.10.3).
use Rattle.std.specs.Prelude.{◌≡◌, ℕ, ◌+◌, false, List, [], ◌∷◌, ◌++◌, length, map, slice_get, take, None, Ok, Some}
use Rattle.c11_directives.specs.Footprints.{SourceFootprint, Spot, Used, definitions_of, footprint_at}
use Rattle.c11_directives.specs.Lines.{Line}
use Rattle.c11_directives.specs.Pragmas.{CarriesOutPragmas, is_pragma}
use Rattle.c11_directives.specs.Pre.{State}
use Rattle.c11_directives.specs.Reaches.{Reaches, at_line}
use Rattle.c11_macros.specs.Hidden.{Hidden}
use Rattle.c11_macros.specs.Runs.{Runs, Settles, Uses, over}
use Rattle.c11_macros.specs.Text.{place_alone, token_of, unhidden}
use Rattle.sc_model.specs.Outside.{Files}
use Rattle.sc_model.specs.Space.{Space}
use Rattle.sc_model.specs.Token.{Place, Token}

-- Nothing before a token of a line of text waits for what follows the line, nor does the token. It
-- has this footprint and becomes tokens, of which the one with this index is put out as the one
-- with this number.
pub record PutsOut (s : State) (line : Line) (f : Spot × Used) (index number : ℕ) : Type 0 where
  pub is_text : line.directive ≡ None
  pub before : List Token
  pub token : Token
  pub behind : List Token
  pub is : line.tokens ≡ before ++ token ∷ behind
  pub out : List (Hidden Place)
  pub settles : Settles place_alone s.macros (map unhidden (s.run ++ before)) out []
  pub done : List (Hidden Place)
  pub after : List (Hidden Place)
  pub uses : Uses Place
  pub runs : Runs place_alone s.macros (unhidden token ∷ []) (map unhidden behind) done (over after) uses
  pub footprint : f ≡ footprint_at token (token ∷ map token_of uses.taken) (definitions_of s.macros uses.looked_up)
  pub made : Hidden Place
  pub stands : slice_get done index ≡ Some made
  pub outside : is_pragma (token_of made) ≡ false
  pub earlier : List Token
  pub carried : CarriesOutPragmas (map token_of (out ++ take index done)) (Ok earlier)
  pub number_is : number ≡ length s.output + length earlier

-- in a file of what is preprocessed
pub record FilesPutOut (space : Space) (files : Files) (main config : List ℕ) (f : SourceFootprint) (index number : ℕ) : Type 0 where
  pub line : Line
  pub state : State
  pub reaches : Reaches space files main config f.0.chain (at_line line state)
  pub puts : PutsOut state line (f.0.spot, f.1) index number
