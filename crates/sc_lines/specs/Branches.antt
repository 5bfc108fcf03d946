-- Which line ends a branch, and which line ends its section (C11 6.10.1).
use Rattle.std.specs.Prelude.{◌≡◌, ℕ, ◌+◌, ◌<◌, Bool, true, false, List, Option, Some, None, slice_range, slice_get}
use Rattle.sc_lines.specs.declared.line.Branch.{Branch}
use Rattle.sc_lines.specs.declared.line.Line.{Line}
use Rattle.sc_lines.specs.Judges.{line_at}
use Rattle.c11_directives.specs.declared.directive.Conditional.{Conditional}
use Rattle.c11_directives.specs.declared.directive.Conditional.TheVariants.{Opening, Alternative, Else, Endif}
use Rattle.c11_directives.specs.Lines as model

-- the line of this directive begins a branch
abbrev pub begins_branch : Option Conditional → Bool
begins_branch (Some (Opening test)) = true
begins_branch (Some (Alternative test)) = true
begins_branch (Some Else) = true
begins_branch _ = false

-- the line of this directive ends a branch
abbrev pub ends_branch : Option Conditional → Bool
ends_branch (Some (Alternative test)) = true
ends_branch (Some Else) = true
ends_branch (Some Endif) = true
ends_branch _ = false

-- line j ends the branch that line i begins: the lines between them are a group
pub record IsNextBranch (lines : List model.Line) (i j : ℕ) : Type 0 where
  pub after : i < j
  pub begins : begins_branch (model.conditional_of (line_at lines i)) ≡ true
  pub between : (group : model.Group) × model.IsTree (slice_range lines (i + 1) j) group
  pub ends : ends_branch (model.conditional_of (line_at lines j)) ≡ true

-- line e is the #endif of the section in which line i begins a branch
pub data ClosesAt (lines : List model.Line) : ℕ → ℕ → Type 0 where
  last_branch : {i e : ℕ} → IsNextBranch lines i e → model.conditional_of (line_at lines e) ≡ Some Endif → ClosesAt lines i e
  more_branches : {i j e : ℕ} → IsNextBranch lines i j → ClosesAt lines j e → ClosesAt lines i e

pub record IsBranchOf (lines : List model.Line) (i : ℕ) (branch : Branch) : Type 0 where
  pub next : IsNextBranch lines i branch.next
  pub close : ClosesAt lines i branch.close

-- a line has a branch just if it begins one
abbrev pub HasBranch : List model.Line → ℕ → Option Branch → Type 0
HasBranch lines i (Some branch) = IsBranchOf lines i branch
HasBranch lines i None = begins_branch (model.conditional_of (line_at lines i)) ≡ false

-- what each line's branch is
pub record HasBranches (lines : List model.Line) (found : List Line) : Type 0 where
  pub each : (i : ℕ) (line : Line) → slice_get found i ≡ Some line → HasBranch lines i line.branch

-- a line but for its branch
abbrev pub without_branch : Line → Line
without_branch line = record line { branch = None }
