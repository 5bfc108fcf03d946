-- Numbers of tries: equal ones are of equal bindings.
use Rattle.std.specs.Prelude.{◌≡◌, ℕ, List, map, slice_get, Option, Some, IfSome}
use Rattle.sc_scope.specs.declared.levels.Levels as declared
use Rattle.sc_scope.specs.declared.levels.Levels.TheVariants.{Bottom, Level'}
use Rattle.sc_scope.specs.declared.numbers.Numbers.{Numbers}
use Rattle.sc_scope.specs.declared.scopes.Scopes.{Scopes}
use Rattle.sc_scope.specs.declared.trie.Trie.{Trie}
use Rattle.sc_scope.specs.declared.trie.Trie.TheVariants.{Empty, Full'}
use Rattle.sc_scope.specs.Kept.{at_branch, bindings_at, bindings_of}
use Rattle.sc_scope.specs.Levels.{Level}

-- what each number is of
abbrev pub levels_made : Numbers → List Level
levels_made numbers = map bindings_at numbers.history.tries

-- each part that is not empty has a number that is of its bindings
abbrev pub IsNumbered : List Level → Trie → Type 0
IsNumbered made Empty = Unit {0}
IsNumbered made (Full' n p left here q right) =
    (slice_get made n ≡ Some (at_branch (bindings_at left) (bindings_of here) (bindings_at right))) × (IsNumbered made left × IsNumbered made right)

-- the trie has such numbers, if there is one
abbrev pub IsNumberedIfSome : List Level → Option Trie → Type 0
IsNumberedIfSome made trie = IfSome trie (IsNumbered made)

-- each level has such numbers
abbrev pub AreNumbered : List Level → declared.Levels → Type 0
AreNumbered made Bottom = Unit {0}
AreNumbered made (Level' p below top) = IsNumbered made top × AreNumbered made below

-- the scopes have numbers from these
abbrev pub HasNumbers : Numbers → Scopes → Type 0
HasNumbers numbers scopes = AreNumbered (levels_made numbers) scopes.top
