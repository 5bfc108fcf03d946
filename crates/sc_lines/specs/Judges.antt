-- Which line a file's nesting fails at.
use Rattle.std.specs.Prelude.{◌≡◌, ℕ, ◌<◌, false, List, [], length, Option, Some, None, Err, slice_index_or}
use Rattle.c11_directives.specs.Lines.{Line, IsTree, Group, conditional_of, hash_place, Tree}
use Rattle.sc_model.specs.declared.kind.Kind.TheVariants.{Newline}
use Rattle.sc_model.specs.Token.{Place}
use Rattle.sc_model.specs.declared.standard.Standard.TheVariants.{C11}
use Rattle.sc_base.specs.declared.token.Token as declared_token

-- what stands past the end of a file's tokens
abbrev pub no_token : declared_token.Token
no_token = record { kind = Newline; name = record { 0 = 0 }; spelling = record { 0 = 0 }; space = false; place = record { file = record { 0 = 0 }; line = 0; column = 0 } }

abbrev pub no_line : Line
no_line = record { tokens = []; directive = None; standard = C11 }

-- the line of a number
abbrev pub line_at : List Line → ℕ → Line
line_at lines i = slice_index_or lines i no_line

-- the lines are at fault at this one, which is a directive
pub record FailsAt (lines : List Line) (i : ℕ) : Type 0 where
  pub within : i < length lines
  pub directive : conditional_of (line_at lines i) ≡ None → ⊥
  pub fault : (place : Place) → hash_place (line_at lines i) ≡ Some place → Tree lines (Err place)

abbrev pub Judges : List Line → Option ℕ → Type 0
Judges lines None = (group : Group) × IsTree lines group
Judges lines (Some i) = FailsAt lines i
