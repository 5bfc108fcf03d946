-- The subparsers by the element that comes next for them.
use Rattle.std.specs.Prelude.{◌≡◌, ◌<◌, ◌≤◌, ◌+◌, ℕ, List, [], length, slice_get, Option, Some}
use Rattle.std.specs.Global.{Vec}
use Rattle.std.specs.List.{flat_map}
use Rattle.sc_fork.specs.View.{View}
use Rattle.sc_merge.specs.declared.subparser.Subparser.{Subparser}
use Rattle.sc_parse.specs.declared.rows.Rows.{Rows}
use Rattle.sc_parse.specs.Numbers.{AreApart, Each, filled_at, IsAt, times}

-- the numbers of all rows, one row after the other
abbrev pub numbers_in : Rows → List ℕ
numbers_in r = flat_map (λ (row : Vec ℕ). row.items) r.rows.items

-- Each number is in the row of the element that comes next for its subparser. No two of one row are
-- alike, and there are no more of all than there may be.
pub record AreFiled (subparsers : List (Option Subparser)) (r : Rows) : Type 0 where
  pub at : (k : ℕ) (row : Vec ℕ) → slice_get r.rows.items k ≡ Some row → Each (IsAt k) subparsers row.items
  pub apart : (k : ℕ) (row : Vec ℕ) → slice_get r.rows.items k ≡ Some row → AreApart subparsers row.items
  pub count : r.count ≡ length (numbers_in r)
  pub few : r.count ≤ r.branches

-- there are none for which an element before this one comes next
pub record HasNoneBefore (r : Rows) (i : ℕ) : Type 0 where
  pub empty : (k : ℕ) (row : Vec ℕ) → k < i → slice_get r.rows.items k ≡ Some row → row.items ≡ []

-- All subparsers of the core are in the rows, where elements before this one are done. There is a
-- row for each element, and one for the end.
pub record AreAllFiled (core : View) (r : Rows) (i : ℕ) : Type 0 where
  pub filed : AreFiled core.subparsers r
  pub all : (n : ℕ) → times n (numbers_in r) ≡ filled_at core.subparsers n
  pub done : HasNoneBefore r i
  pub long : length r.rows.items ≡ length core.source.list.now + 1
