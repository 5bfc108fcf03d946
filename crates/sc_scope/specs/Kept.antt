-- What the code keeps, as bindings of names.
use Rattle.std.specs.Prelude.{ℕ, zero, suc, ◌==◌, ◌/◌, ◌%◌, List, [], ◌∷◌, Option, Some, None, if◌then◌else◌}
use Rattle.sc_base.specs.declared.id.Cond.{Cond}
use Rattle.sc_scope.specs.declared.kind.NameKind.{NameKind}
use Rattle.sc_scope.specs.declared.bindings.Bindings.{Bindings}
use Rattle.sc_scope.specs.declared.bindings.Bindings.TheVariants.{Unbound, Bound'}
use Rattle.sc_scope.specs.declared.levels.Levels as declared
use Rattle.sc_scope.specs.declared.levels.Levels.TheVariants.{Bottom, Level'}
use Rattle.sc_scope.specs.declared.trie.Trie.{Trie}
use Rattle.sc_scope.specs.declared.trie.Trie.TheVariants.{Empty, Full'}
use Rattle.sc_scope.specs.Levels.{Level}

abbrev pub bindings_of : Bindings → List (Cond × NameKind)
bindings_of Unbound = []
bindings_of (Bound' p older cond kind) = (cond, kind) ∷ bindings_of older

-- what stands for a name, by what stands at a root and on both sides of it
abbrev pub at_branch : (ℕ → List (Cond × NameKind)) → List (Cond × NameKind) → (ℕ → List (Cond × NameKind)) → ℕ → List (Cond × NameKind)
at_branch left here right zero = here
at_branch left here right (suc n) = if n % 2 == 0 then left (n / 2) else right (n / 2)

abbrev pub bindings_at : Trie → ℕ → List (Cond × NameKind)
bindings_at Empty = λ n. []
bindings_at (Full' number p left here q right) = at_branch (bindings_at left) (bindings_of here) (bindings_at right)

abbrev pub levels_of : declared.Levels → List Level
levels_of Bottom = []
levels_of (Level' p below top) = bindings_at top ∷ levels_of below

-- what a name has after a change of its bindings, if there was one
abbrev pub bindings_after : Option Bindings → List (Cond × NameKind) → List (Cond × NameKind)
bindings_after None bindings = bindings
bindings_after (Some changed) bindings = bindings_of changed

-- what a level is after a change, if there was one
abbrev pub level_after : Option Trie → Level → Level
level_after None level = level
level_after (Some changed) level = bindings_at changed
