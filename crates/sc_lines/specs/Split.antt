-- The lines of a file's tokens.
use Rattle.std.specs.Prelude.{◌≡◌, ℕ, ◌+◌, ◌≤◌, List, [], ◌∷◌, map, Option, slice_range, All, length}
use Rattle.sc_base.specs.declared.token.Token.{Token}
use Rattle.sc_base.specs.Seen.{seen}
use Rattle.sc_lines.specs.declared.line.Line.{Line}
use Rattle.c11_directives.specs.declared.directive.Directive.{Directive}
use Rattle.c11_tokens.specs.Lex.{is_newline}
use Rattle.c11_directives.specs.Lines.{split_lines, directive_of, directives_of}
use Rattle.sc_model.specs.declared.standard.Standard.{Standard}

-- the tokens of a line
abbrev pub tokens_of : List Token → Line → List Token
tokens_of tokens line = slice_range tokens line.first line.end

abbrev pub token_lines : List Token → List (List Token)
token_lines tokens = split_lines (λ t. is_newline t.kind) tokens

-- what directive the tokens of a line are
abbrev pub directive_at : Standard → List (List ℕ) → List Token → Option Directive
directive_at standard names line = directive_of (directives_of standard) (map (seen names []) line)

-- the first of the lines begins at this token, and each other one behind the newline that ends the
-- one before
abbrev pub FollowFrom : ℕ → List Line → Type 0
FollowFrom first [] = Unit {0}
FollowFrom first (line ∷ lines) = (line.first ≡ first) × FollowFrom (line.end + 1) lines

-- the lines of a file, each with its tokens, its place among them, and what directive it is
pub record AreLines (standard : Standard) (names : List (List ℕ)) (tokens : List Token) (lines : List Line) : Type 0 where
  pub tokens_are : map (tokens_of tokens) lines ≡ token_lines tokens
  pub directives : map (λ l. l.directive) lines ≡ map (directive_at standard names) (token_lines tokens)
  pub within : All (λ l. (l.first ≤ l.end) × (l.end ≤ length tokens)) lines
  pub follow : FollowFrom 0 lines
