-- The line of one step: its directive, and its tokens as the table of texts grows.
use Rattle.std.proofs.Common.{◌≡◌, ℕ, ◌-◌, take, drop, ◌<◌, ◌≤◌, Bool, List, [], ◌∷◌, length, map, Option, None, Result, get_or, refl, sym, ap, ◌∙◌, arith, All}
use Rattle.sc_lines.specs.declared.line.Line as declared
use Rattle.sc_prep.proofs.Facts.{All-drop, All-head, All-tail, All-take, conditionals-seen, directive-files, directive-own, length-map, lines-seen, take_all}
use Rattle.sc_prep.proofs.Terms.{AreLines, Conditional, Directive, Extends, Fault, HasBranches, IsHeld, Line, Machine, StandFor, Standard, Token, conditional_in, directive_at, directive_of, directives_of, line_of, plain_by, seen, seen_line, seen_lines, seen_place, step, step_by, tokens_of, unwrap_or}

-- a directive has a first token
pub directive-long : (standard : Standard) (names : List (List ℕ)) (line : List Token) (d : Option Directive) → d ≡ directive_at standard names line → (d ≡ None → ⊥) → 0 < length line
directive-long standard names [] d e some = absurd (some e)
directive-long standard names (t ∷ ts) d e some = omega arith

-- a line of this conditional directive, or of none
pub step-is : (standard : Standard) (names files : List (List ℕ)) (line : List Token) (m : Machine) (r : Result Bool Fault) (c : Option Conditional) → c ≡ conditional_in (directive_at standard names line)
    → step_by m (seen_line standard names files line) r c ≡ step m (seen_line standard names files line) r
step-is standard names files line m r c at = ap (step_by m (seen_line standard names files line) r) (at ∙ ap conditional_in (sym (directive-files standard names files line)))

pub plain-is : (standard : Standard) (names files : List (List ℕ)) (line : List Token) (m : Machine) (r : Result Bool Fault) (d : Option Directive) → d ≡ directive_at standard names line → conditional_in d ≡ None
    → plain_by m (seen_line standard names files line) d ≡ step m (seen_line standard names files line) r
plain-is standard names files line m r d at none =
    ap (plain_by m (seen_line standard names files line)) (at ∙ sym (directive-files standard names files line)) ∙ step-is standard names files line m r None (sym none ∙ ap conditional_in at)

-- ---- one line more

pub lines-long : (standard : Standard) (names : List (List ℕ)) (tokens : List Token) (lines : List declared.Line) → AreLines standard names tokens lines → (files : List (List ℕ)) → length (seen_lines standard names files tokens) ≡ length lines
lines-long standard names tokens lines are files =
    ap (length {A = Line}) (lines-seen standard names tokens lines are files) ∙ length-map lines (λ l. seen_line standard names files (tokens_of tokens l))

-- tokens that the table of texts held look the same when it has more
module _ {names more : List (List ℕ)} (files : List (List ℕ)) (grows : Extends names more) where
  pub tokens-grown : (ts : List Token) → All (IsHeld names) ts → map (seen more files) ts ≡ map (seen names files) ts
  tokens-grown [] held = refl
  tokens-grown (t ∷ ts) held =
      let first : seen more files t ≡ seen names files t =
      ap (λ s. record { kind = t.kind; spelling = unwrap_or s []; space = t.space; place = seen_place files t.place }) (grows.kept t.spelling.0 (All-head (IsHeld names) t ts held).spelling) in
      ap (λ s. s ∷ map (seen more files) ts) first ∙ ap (λ ss. seen names files t ∷ ss) (tokens-grown ts (All-tail (IsHeld names) t ts held))

  pub line-grown : (standard : Standard) (line : List Token) → All (IsHeld names) line → seen_line standard more files line ≡ seen_line standard names files line
  line-grown standard line held = ap (line_of standard) (tokens-grown line held)

pub directive-grown : (standard : Standard) {names more : List (List ℕ)} → Extends names more → (line : List Token) → All (IsHeld names) line → directive_at standard more line ≡ directive_at standard names line
directive-grown standard grows line held = ap (directive_of (directives_of standard)) (tokens-grown [] grows line held)

-- the tokens of a line are of its file
pub line-of_file : (P : Token → Type 0) (tokens : List Token) (line : declared.Line) → All P tokens → All P (tokens_of tokens line)
line-of_file P tokens line all = All-take P (line.end - line.first) (drop line.first tokens) (All-drop P line.first tokens all)

-- the directive of a line, which the table of texts showed before it grew
pub directive-now : (standard : Standard) (names : List (List ℕ)) (tokens : List Token) (lines : List declared.Line) → AreLines standard names tokens lines → (i : ℕ) (d : declared.Line) → i < length lines
    → All (IsHeld names) tokens → {now : List (List ℕ)} → Extends names now → (get_or lines i d).directive ≡ directive_at standard now (tokens_of tokens (get_or lines i d))
directive-now standard names tokens lines are i d h held grows =
    directive-own standard names tokens lines are i d h
    ∙ sym (directive-grown standard grows (tokens_of tokens (get_or lines i d)) (line-of_file (IsHeld names) tokens (get_or lines i d) held))

-- the lines of a file stand for its lines seen
pub lines-stand : (standard : Standard) (names : List (List ℕ)) (tokens : List Token) (lines : List declared.Line) → AreLines standard names tokens lines
    → ((files : List (List ℕ)) → HasBranches (seen_lines standard names files tokens) lines) → (files : List (List ℕ)) → StandFor (seen_lines standard names files tokens) lines
lines-stand standard names tokens lines are have files = record { conditionals = conditionals-seen standard names tokens lines are files; branches = have files }

-- the lines of a file are as many as its lines seen
pub lines-all : (standard : Standard) (names files : List (List ℕ)) (tokens : List Token) (lines : List declared.Line) → AreLines standard names tokens lines → (i : ℕ) → length lines ≤ i
    → take i (seen_lines standard names files tokens) ≡ seen_lines standard names files tokens
lines-all standard names files tokens lines are i h = take_all i (seen_lines standard names files tokens) (omega (arith, h, lines-long standard names tokens lines are files))
