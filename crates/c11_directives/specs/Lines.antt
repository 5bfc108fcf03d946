-- The lines of a file, the directives that they are, and the groups that its conditional directives
-- make of them (C11 6.10).
use Rattle.std.specs.Prelude.{◌≡◌, ℕ, Bool, true, false, List, [], ◌∷◌, ◌++◌, map, codes, Option, Some, None, Result, Ok, Err, if◌then◌else◌}
use Rattle.std.specs.Option.{option_map}
use Rattle.c11_directives.specs.declared.directive.Conditional.{Conditional}
use Rattle.c11_directives.specs.declared.directive.Conditional.TheVariants.{Opening, Alternative, Else, Endif}
use Rattle.c11_directives.specs.declared.directive.Directive.{Directive}
use Rattle.c11_directives.specs.declared.directive.Directive.TheVariants as directive
use Rattle.c11_directives.specs.declared.directive.Test.{Test}
use Rattle.c11_directives.specs.declared.directive.Test.TheVariants.{Expression, Defined, Undefined}
use Rattle.sc_model.specs.Bytes.{same_bytes}
use Rattle.c11_tokens.specs.Lex.{is_newline}
use Rattle.sc_model.specs.Token.{Place, Token, name_of}
use Rattle.sc_model.specs.declared.standard.Standard.{Standard}
use Rattle.sc_model.specs.declared.standard.Standard.TheVariants.{C11, C23, Gnu11}

-- names of directives, and what each is
abbrev pub DirectiveNames : Type 0
DirectiveNames = List (List ℕ × Directive)

-- those of C11, and #warning, which is none of them
abbrev pub c11_directive_names : DirectiveNames
c11_directive_names =
    (codes "if", directive.Conditional (Opening Expression))
    ∷ (codes "ifdef", directive.Conditional (Opening Defined))
    ∷ (codes "ifndef", directive.Conditional (Opening Undefined))
    ∷ (codes "elif", directive.Conditional (Alternative Expression))
    ∷ (codes "else", directive.Conditional Else)
    ∷ (codes "endif", directive.Conditional Endif)
    ∷ (codes "include", directive.Include)
    ∷ (codes "define", directive.Define)
    ∷ (codes "undef", directive.Undef)
    ∷ (codes "line", directive.Line)
    ∷ (codes "error", directive.Error)
    ∷ (codes "pragma", directive.Pragma)
    ∷ (codes "warning", directive.Warning)
    ∷ []

-- those of C23 with them
abbrev pub c23_directive_names : DirectiveNames
c23_directive_names =
    (codes "elifdef", directive.Conditional (Alternative Defined))
    ∷ (codes "elifndef", directive.Conditional (Alternative Undefined))
    ∷ c11_directive_names

abbrev pub directives_of : Standard → DirectiveNames
directives_of C11 = c11_directive_names
directives_of C23 = c23_directive_names
directives_of Gnu11 = c11_directive_names

abbrev pub directive_named : DirectiveNames → List ℕ → Directive
directive_named [] word = directive.Unknown
directive_named (n ∷ ns) word = if same_bytes word n.0 then n.1 else directive_named ns word

abbrev pub is_hash : Token → Bool
is_hash t = same_bytes (name_of t.spelling) (codes "#")

-- # alone does nothing (6.10.7)
abbrev pub directive_after_hash : DirectiveNames → List Token → Directive
directive_after_hash names [] = directive.Null
directive_after_hash names (word ∷ rest) = directive_named names word.spelling

-- what directive the tokens of a line are: one whose first token is #
abbrev pub directive_of : DirectiveNames → List Token → Option Directive
directive_of names [] = None
directive_of names (t ∷ ts) = if is_hash t then Some (directive_after_hash names ts) else None

-- a line's tokens, without its newline, the directive that it is, and the standard by which it is
-- read
pub record Line : Type 0 where
  pub tokens : List Token
  pub directive : Option Directive
  pub standard : Standard

abbrev pub line_of : Standard → List Token → Line
line_of standard ts = record { tokens = ts; directive = directive_of (directives_of standard) ts; standard = standard }

abbrev pub onto_first : {T : Type 0} → T → List (List T) → List (List T)
onto_first t [] = (t ∷ []) ∷ []
onto_first t (line ∷ lines) = (t ∷ line) ∷ lines

-- the items up to each one that ends a line, without it
abbrev pub split_lines : {T : Type 0} → (T → Bool) → List T → List (List T)
split_lines ends [] = []
split_lines ends (t ∷ ts) = if ends t then [] ∷ split_lines ends ts else onto_first t (split_lines ends ts)

-- the tokens up to each newline
abbrev pub lines_of : Standard → List Token → List Line
lines_of standard ts = map (line_of standard) (split_lines (λ t. is_newline t.kind) ts)

abbrev pub conditional_in : Option Directive → Option Conditional
conditional_in (Some (directive.Conditional c)) = Some c
conditional_in _ = None

-- which conditional directive the line is
abbrev pub conditional_of : Line → Option Conditional
conditional_of line = conditional_in line.directive

-- what a directive asks, to take its group or to pass it over
abbrev pub test_in : Option Conditional → Option Test
test_in (Some (Opening test)) = Some test
test_in (Some (Alternative test)) = Some test
test_in _ = None

abbrev pub test_of : Line → Option Test
test_of line = test_in (conditional_of line)

-- A group: lines that are no conditional directives, and sections.
mutual
  pub data Group : Type 0 where
    empty : Group
    plain : Line → Group → Group
    -- a section's first line, its first group, its other branches, and what follows the section
    section : Line → Group → Branches → Group → Group

  pub data Branches : Type 0 where
    -- the line of #endif
    closing : Line → Branches
    -- the line of #else, its group, and the line of #endif
    otherwise : Line → Group → Line → Branches
    -- a line that asks whether its group is taken, the group, and what follows them
    alternative : Line → Group → Branches → Branches

-- the lines, in order
abbrev mutual
  pub group_lines : Group → List Line
  group_lines empty = []
  group_lines (plain line rest) = line ∷ group_lines rest
  group_lines (section head group branches rest) = head ∷ group_lines group ++ branch_lines branches ++ group_lines rest

  pub branch_lines : Branches → List Line
  branch_lines (closing line) = line ∷ []
  branch_lines (otherwise head group line) = head ∷ group_lines group ++ line ∷ []
  branch_lines (alternative head group branches) = head ∷ group_lines group ++ branch_lines branches

-- the line opens a section
pub record Opens (line : Line) : Type 0 where
  pub test : Test
  pub named : conditional_of line ≡ Some (Opening test)

-- the line begins a later group of a section, and asks whether it is taken
pub record Alternates (line : Line) : Type 0 where
  pub test : Test
  pub named : conditional_of line ≡ Some (Alternative test)

-- each line stands where its directive may stand
abbrev mutual
  pub IsGroup : Group → Type 0
  IsGroup empty = Unit {0}
  IsGroup (plain line rest) = (conditional_of line ≡ None) × IsGroup rest
  IsGroup (section head group branches rest) = Opens head × IsGroup group × AreBranches branches × IsGroup rest

  pub AreBranches : Branches → Type 0
  AreBranches (closing line) = conditional_of line ≡ Some Endif
  AreBranches (otherwise head group line) = (conditional_of head ≡ Some Else) × IsGroup group × (conditional_of line ≡ Some Endif)
  AreBranches (alternative head group branches) = Alternates head × IsGroup group × AreBranches branches

-- the group has exactly these lines
pub record IsTree (lines : List Line) (group : Group) : Type 0 where
  pub grouped : IsGroup group
  pub whole : group_lines group ≡ lines

-- the lines begin a group, if only others follow
pub record GoesOn (lines : List Line) : Type 0 where
  pub group : Group
  pub more : List Line
  pub grouped : IsGroup group
  pub begins : group_lines group ≡ lines ++ more

abbrev pub first_of : List Token → Option Token
first_of [] = None
first_of (t ∷ ts) = Some t

-- the # of a directive
abbrev pub hash_of : Line → Option Token
hash_of line = first_of line.tokens

abbrev pub hash_place : Line → Option Place
hash_place line = option_map (λ t. t.place) (hash_of line)

-- the first line after which nothing makes a group
pub record IsMisplaced (lines : List Line) (place : Place) : Type 0 where
  pub before : List Line
  pub line : Line
  pub after : List Line
  pub whole : lines ≡ before ++ line ∷ after
  pub fine : GoesOn before
  pub stuck : GoesOn (before ++ line ∷ []) → ⊥
  pub at : hash_place line ≡ Some place

-- What follows the first line of a section that isn't closed: its groups, parted by the lines of
-- its alternatives and its #else. Whether that has come is told.
pub data Unclosed : Bool → List Line → Type 0 where
  first : (group : Group) → IsGroup group → Unclosed false (group_lines group)
  more : {lines : List Line} (head : Line) (group : Group) → Unclosed false lines → Alternates head → IsGroup group
      → Unclosed false (lines ++ head ∷ group_lines group)
  last : {lines : List Line} (head : Line) (group : Group) → Unclosed false lines → conditional_of head ≡ Some Else → IsGroup group
      → Unclosed true (lines ++ head ∷ group_lines group)

-- the innermost section that is open at the end
pub record IsOpenAtEnd (lines : List Line) (place : Place) : Type 0 where
  pub before : List Line
  pub head : Line
  pub after : List Line
  pub whole : lines ≡ before ++ head ∷ after
  pub fine : GoesOn lines
  pub opens : Opens head
  pub has_else : Bool
  pub unclosed : Unclosed has_else after
  pub at : hash_place head ≡ Some place

-- the group of a whole file, or the place of the first fault in its nesting
pub data Tree (lines : List Line) : Result Group Place → Type 0 where
  nested : (group : Group) → IsTree lines group → Tree lines (Ok group)
  misplaced : (place : Place) → IsMisplaced lines place → Tree lines (Err place)
  unclosed : (place : Place) → IsOpenAtEnd lines place → Tree lines (Err place)
