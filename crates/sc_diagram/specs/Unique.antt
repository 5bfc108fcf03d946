-- Branches as rows of numbers, and the hash of a branch.
use Rattle.std.specs.Prelude.{◌≡◌, ℕ, ◌+◌, ◌*◌, ◌/◌, ◌%◌, ◌^◌, ◌≤◌, List, All, length, map, slice_range}
use Rattle.std.specs.List.{fold}
use Rattle.sc_diagram.specs.Diagram.{Branch, branch}
use Rattle.sc_diagram.specs.declared.unique.Kept.{Kept}
use Rattle.sc_diagram.specs.declared.unique.Kept.TheVariants.{Pair, Range}
use Rattle.sc_diagram.specs.declared.unique.Row.{Row}

-- the children that a row keeps, or those that it has among the children of all
abbrev pub kept_in : List ℕ → Kept → List ℕ
kept_in children (Pair pair) = pair
kept_in children (Range first end) = slice_range children first end

-- the branch of a row
abbrev pub branch_at : List ℕ → Row → Branch
branch_at children r = branch r.variable (kept_in children r.kept)

abbrev pub branches_of : List ℕ → List Row → List Branch
branches_of children rows = map (branch_at children) rows

-- 2^64 by the golden ratio
abbrev pub factor : ℕ
factor = 11400714819323198485

-- a number more in a hash
abbrev pub mixed : ℕ → ℕ → ℕ
mixed hash n = ((hash * factor) % 2 ^ 64 + n) % 2 ^ 64

-- the upper half of the product is the hash
abbrev pub hash_of : Branch → ℕ
hash_of b = (fold mixed b.variable b.children * factor) % 2 ^ 64 / 2 ^ 32

-- the row's children are all there, of so many
abbrev pub IsKept : ℕ → Kept → Type 0
IsKept count (Pair pair) = Unit {0}
IsKept count (Range first end) = (first ≤ end) × (end ≤ count)

pub record IsRow (count : ℕ) (r : Row) : Type 0 where
  pub kept : IsKept count r.kept

-- each row's children stand there, and each branch has its hash
pub record AreRows (children : List ℕ) (rows : List Row) (hashes : List ℕ) : Type 0 where
  pub within : All (IsRow (length children)) rows
  pub hashed : hashes ≡ map hash_of (branches_of children rows)
