-- The conditions of bindings stay the store's.
use Rattle.std.proofs.Common.{ℕ, ◌==◌, Bool, true, false, List, [], ◌∷◌, ◌++◌, drop, subst, sym, append_assoc, if◌then◌else◌}
use Rattle.std.proofs.lemmas.List.Elements.{All-nil, All-cons}
use Rattle.sc_base.specs.declared.id.Cond.{Cond}
use Rattle.sc_model.specs.Sets.{Sets, IsCond, Keeps}
use Rattle.sc_scope.specs.declared.kind.NameKind.{NameKind}
use Rattle.sc_scope.specs.Levels.{Level, no_bindings, bound, joined}
use Rattle.sc_scope.specs.Search.{bindings_in, AreOwn, OwnsLevels}
use Rattle.sc_scope.proofs.SearchLemmas.{AreOwn-Keeps, AreOwn-back}

pub none-own : (sets : Sets) → OwnsLevels sets []
none-own sets = record { each = λ name. record { each = All-nil (λ (b : Cond × NameKind). IsCond sets b.0.0) } }

pub push-own : (sets : Sets) (levels : List Level) → OwnsLevels sets levels → OwnsLevels sets (no_bindings ∷ levels)
push-own sets levels own = record { each = λ name. own.each name }

pub pop-own : (sets : Sets) (levels : List Level) → OwnsLevels sets levels → OwnsLevels sets (drop 1 levels)
pop-own sets [] own = own
pop-own sets (level ∷ levels) own = record { each = λ name. AreOwn-back sets (level name) (bindings_in name levels) (own.each name) }

pub join-own : (sets : Sets) (levels : List Level) → OwnsLevels sets levels → OwnsLevels sets (joined levels)
join-own sets [] own = own
join-own sets (top ∷ []) own = own
join-own sets (top ∷ (below ∷ levels)) own = record {
  each = λ name. subst (AreOwn sets) (sym (append_assoc (top name) (below name) (bindings_in name levels))) (own.each name);
}

own_more : (sets : Sets) (cond : Cond) (kind : NameKind) (older others : List (Cond × NameKind)) (b : Bool) → IsCond sets cond.0 → AreOwn sets (older ++ others)
    → AreOwn sets ((if b then (cond, kind) ∷ older else older) ++ others)
own_more sets cond kind older others true is own =
    record { each = All-cons (λ (b : Cond × NameKind). IsCond sets b.0.0) (cond, kind) (older ++ others) is own.each }
own_more sets cond kind older others false is own = own

pub bind-own : (sets : Sets) (name : ℕ) (cond : Cond) (kind : NameKind) (levels : List Level) → IsCond sets cond.0 → OwnsLevels sets levels
    → OwnsLevels sets (bound name (cond, kind) levels)
bind-own sets name cond kind [] is own = own
bind-own sets name cond kind (level ∷ levels) is own =
    record { each = λ n. own_more sets cond kind (level n) (bindings_in n levels) (n == name) is (own.each n) }

pub own-Keeps : (old new : Sets) (levels : List Level) → Keeps old new → OwnsLevels old levels → OwnsLevels new levels
own-Keeps old new levels keeps own = record { each = λ name. AreOwn-Keeps (bindings_in name levels) keeps (own.each name) }
