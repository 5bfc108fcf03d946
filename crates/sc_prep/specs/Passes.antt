-- Which lines are passed over where no configuration takes them.
use Rattle.std.specs.Prelude.{◌≡◌, ℕ, ◌+◌, ◌<◌, ◌≤◌, true, List, None, map, length, slice_range}
use Rattle.sc_lines.specs.Branches.{HasBranches, ClosesAt, ends_branch}
use Rattle.sc_lines.specs.Judges.{line_at}
use Rattle.sc_lines.specs.declared.line.Line as declared
use Rattle.c11_directives.specs.Lines.{Line, conditional_in, conditional_of, Opens, Group, IsTree}

-- the lines of the program have the conditional directives and the branches of these
pub record StandFor (lines : List Line) (found : List declared.Line) : Type 0 where
  pub conditionals : map conditional_of lines ≡ map (λ l. conditional_in l.directive) found
  pub branches : HasBranches lines found

-- The lines from number i up to another are groups, lines that are no conditional directives, and
-- whole sections.
pub data PassesOver (lines : List Line) (i : ℕ) : ℕ → Type 0 where
  nothing : PassesOver lines i i
  whole_group : {j : ℕ} (group : Group) → i ≤ j → IsTree (slice_range lines i j) group → PassesOver lines i j
  plain_line : {j : ℕ} → PassesOver lines i j → j < length lines → conditional_of (line_at lines j) ≡ None → PassesOver lines i (j + 1)
  whole_section : {j e : ℕ} → PassesOver lines i j → j < length lines → Opens (line_at lines j) → ClosesAt lines j e → PassesOver lines i (e + 1)

-- the lines from number i up to j are passed over, and line j ends the branch in which they stand
pub record EndsAt (lines : List Line) (i j : ℕ) : Type 0 where
  pub over : PassesOver lines i j
  pub ends : j < length lines → ends_branch (conditional_of (line_at lines j)) ≡ true
