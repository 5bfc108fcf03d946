-- Nested scopes under conditions: in each level the bindings of a name, the newest first.
use Rattle.std.specs.Prelude.{ℕ, ◌==◌, List, [], ◌∷◌, ◌++◌, if◌then◌else◌}
use Rattle.sc_base.specs.declared.id.Cond.{Cond}
use Rattle.sc_scope.specs.declared.kind.NameKind.{NameKind}

-- the bindings of each name
abbrev pub Level : Type 0
Level = ℕ → List (Cond × NameKind)

abbrev pub no_bindings : Level
no_bindings name = []

-- the name has one more binding, the newest
abbrev pub with_binding : ℕ → Cond × NameKind → Level → Level
with_binding name binding level = λ n. if n == name then binding ∷ level n else level n

abbrev pub bound : ℕ → Cond × NameKind → List Level → List Level
bound name binding [] = []
bound name binding (level ∷ levels) = with_binding name binding level ∷ levels

-- the bindings of the top level are put before those of the level below, where there is one
abbrev pub joined : List Level → List Level
joined [] = []
joined (top ∷ []) = top ∷ []
joined (top ∷ (below ∷ levels)) = (λ n. top n ++ below n) ∷ levels
