-- Where the first binding of a name, from the top level down, is a typedef.
use Rattle.std.specs.Prelude.{◌≡◌, ℕ, ◌&&◌, ◌||◌, Bool, true, false, List, [], ◌∷◌, ◌++◌, All}
use Rattle.sc_base.specs.declared.id.Cond.{Cond}
use Rattle.sc_guarded.specs.Items.{items_at}
use Rattle.sc_model.specs.Sets.{Sets, IsConfig, IsCond, Keeps}
use Rattle.sc_scope.specs.declared.kind.NameKind.{NameKind}
use Rattle.sc_scope.specs.declared.kind.NameKind.TheVariants.{Variable, Typedef}
use Rattle.sc_scope.specs.declared.search.Search.{Search}
use Rattle.sc_scope.specs.Levels.{Level}

-- the bindings of a name, the innermost first
abbrev pub bindings_in : ℕ → List Level → List (Cond × NameKind)
bindings_in name [] = []
bindings_in name (level ∷ levels) = level name ++ bindings_in name levels

-- the first of the kinds is a typedef
abbrev pub is_typedef : List NameKind → Bool
is_typedef [] = false
is_typedef (Typedef ∷ kinds) = true
is_typedef (Variable ∷ kinds) = false

-- the name is a typedef at the configuration
abbrev pub is_typedef_at : Sets → List Level → ℕ → List ℕ → Bool
is_typedef_at sets levels name c = is_typedef (items_at sets (bindings_in name levels) c)

-- the conditions of the bindings are the store's
pub record AreOwn (sets : Sets) (bindings : List (Cond × NameKind)) : Type 0 where
  pub each : All (λ (binding : Cond × NameKind). IsCond sets binding.0.0) bindings

-- the conditions of all bindings are the store's
pub record OwnsLevels (sets : Sets) (levels : List Level) : Type 0 where
  pub each : (name : ℕ) → AreOwn sets (bindings_in name levels)

-- a typedef was found, or the bindings that are left decide
abbrev pub found : Sets → Search → List (Cond × NameKind) → List ℕ → Bool
found sets search bindings c = sets.has search.types.0 c || (sets.has search.left.0 c && is_typedef (items_at sets bindings c))

-- the search went on over some of the bindings, and leaves others
pub record GoesOn (old new : Sets) (before after : Search) (bindings others : List (Cond × NameKind)) : Type 0 where
  pub keeps : Keeps old new
  pub left : IsCond new after.left.0
  pub types : IsCond new after.types.0
  pub same : (rest : List (Cond × NameKind)) → AreOwn old rest → (c : List ℕ) → IsConfig old.arities c
      → found new after (others ++ rest) c ≡ found old before (bindings ++ rest) c
