-- What names are at a configuration, and bindings of two subparsers that are made one.
use Rattle.std.specs.Prelude.{◌≡◌, ℕ, ◌&&◌, ◌||◌, Bool, true, false, List, [], ◌∷◌, ◌++◌, length, Option, Some, None, if◌then◌else◌}
use Rattle.c11_parsing.specs.Bindings as plain
use Rattle.sc_base.specs.declared.id.Cond.{Cond}
use Rattle.sc_guarded.specs.Items.{items_at}
use Rattle.sc_model.specs.Sets.{Sets, IsConfig, IsCond, Denotes}
use Rattle.sc_scope.specs.declared.kind.NameKind.{NameKind}
use Rattle.sc_scope.specs.declared.kind.NameKind.TheVariants.{Variable, Typedef}
use Rattle.sc_scope.specs.declared.merge.Kinds.{Kinds}
use Rattle.sc_scope.specs.Levels.{Level}
use Rattle.sc_scope.specs.Search.{is_typedef, AreOwn, OwnsLevels}
use Rattle.sc_scope.specs.Shows.{first_kind}

-- what the first binding at the configuration is
abbrev pub first_at : Sets → List (Cond × NameKind) → List ℕ → Option plain.NameKind
first_at sets bindings c = first_kind (items_at sets bindings c)

-- what the name is in each level, where it is bound there
abbrev pub kinds_at : Sets → List Level → ℕ → List ℕ → List (Option plain.NameKind)
kinds_at sets [] name c = []
kinds_at sets (level ∷ levels) name c = first_at sets (level name) c ∷ kinds_at sets levels name c

-- the configuration has the first condition and not the second
pub record IsOnlyIn (sets : Sets) (cond other : Cond) (c : List ℕ) : Type 0 where
  pub listed : IsConfig sets.arities c
  pub inside : sets.has cond.0 c ≡ true
  pub outside : sets.has other.0 c ≡ false

-- where only the first condition holds, each name is in each level what it was
pub record KeepsKinds (old new : Sets) (cond other : Cond) (levels others : List Level) : Type 0 where
  pub same : (name : ℕ) (c : List ℕ) → IsOnlyIn old cond other c → kinds_at new others name c ≡ kinds_at old levels name c

-- the conditions of the bindings in the level are the store's
pub record OwnsLevel (sets : Sets) (level : Level) : Type 0 where
  pub each : (name : ℕ) → AreOwn sets (level name)

-- where only the first condition holds, the name is what it was
pub record KeepsKind (old new : Sets) (cond other : Cond) (bindings others : List (Cond × NameKind)) : Type 0 where
  pub same : (c : List ℕ) → IsOnlyIn old cond other c → first_at new others c ≡ first_at old bindings c

-- the name is on each side what it was there
pub record MergesBindings (old new : Sets) (here there : Cond) (left right merged : List (Cond × NameKind)) : Type 0 where
  pub own : AreOwn new merged
  pub on_left : KeepsKind old new here there left merged
  pub on_right : KeepsKind old new there here right merged

-- each name is on each side what it was there
pub record MergesLevel (old new : Sets) (here there : Cond) (left right merged : Level) : Type 0 where
  pub each : (name : ℕ) → MergesBindings old new here there (left name) (right name) (merged name)

-- the first is a variable
abbrev pub is_variable : List NameKind → Bool
is_variable [] = false
is_variable (Variable ∷ kinds) = true
is_variable (Typedef ∷ kinds) = false

-- the parts of the condition where the first of the bindings is of one kind and of the other
pub record ArePartsOf (old new : Sets) (cond : Cond) (bindings : List (Cond × NameKind)) (kinds : Kinds) : Type 0 where
  pub variables : Denotes new kinds.variables.0 (λ c. old.has cond.0 c && is_variable (items_at old bindings c))
  pub types : Denotes new kinds.types.0 (λ c. old.has cond.0 c && is_typedef (items_at old bindings c))

-- the conditions are the store's
pub record AreKinds (sets : Sets) (kinds : Kinds) : Type 0 where
  pub variables : IsCond sets kinds.variables.0
  pub types : IsCond sets kinds.types.0

-- the configurations of either
pub record AreEither (old new : Sets) (a b both : Kinds) : Type 0 where
  pub variables : Denotes new both.variables.0 (λ c. old.has a.variables.0 c || old.has b.variables.0 c)
  pub types : Denotes new both.types.0 (λ c. old.has a.types.0 c || old.has b.types.0 c)

-- at each configuration there is one more binding, if it has the condition
pub record AddsKind (sets : Sets) (cond : Cond) (kind : NameKind) (older bindings : List (Cond × NameKind)) : Type 0 where
  pub own : AreOwn sets bindings
  pub items : (c : List ℕ) → IsConfig sets.arities c → items_at sets bindings c ≡ items_at sets ((cond, kind) ∷ older) c

-- the kind that the conditions give the name at a configuration
abbrev pub kind_in : Sets → Kinds → List ℕ → Option plain.NameKind
kind_in sets kinds c =
    if sets.has kinds.variables.0 c then Some plain.variable else (if sets.has kinds.types.0 c then Some plain.typedef else None)

-- the bindings give the name these kinds
pub record AreOfKinds (sets : Sets) (kinds : Kinds) (bindings : List (Cond × NameKind)) : Type 0 where
  pub own : AreOwn sets bindings
  pub first : (c : List ℕ) → IsConfig sets.arities c → first_at sets bindings c ≡ kind_in sets kinds c

-- what the name is in the configurations of the condition; it is nothing in any other
pub record NarrowsBindings (old new : Sets) (cond : Cond) (bindings narrowed : List (Cond × NameKind)) : Type 0 where
  pub own : AreOwn new narrowed
  pub first : (c : List ℕ) → IsConfig old.arities c → first_at new narrowed c ≡ (if old.has cond.0 c then first_at old bindings c else None)

pub record NarrowsLevel (old new : Sets) (cond : Cond) (level narrowed : Level) : Type 0 where
  pub each : (name : ℕ) → NarrowsBindings old new cond (level name) (narrowed name)

-- each name is in each level on each side what it was there
pub record MergesLevels (old new : Sets) (here there : Cond) (left right merged : List Level) : Type 0 where
  pub owned : OwnsLevels new merged
  pub count : length merged ≡ length left
  pub on_left : KeepsKinds old new here there left merged
  pub on_right : KeepsKinds old new there here right merged

-- some of the levels are kept, and others are left
pub record KeepsSome (old new : Sets) (cond other : Cond) (levels kept rest : List Level) : Type 0 where
  pub same : (name : ℕ) (c : List ℕ) → IsOnlyIn old cond other c → kinds_at new kept name c ++ kinds_at old rest name c ≡ kinds_at old levels name c
