-- Scopes as levels.
use Rattle.std.specs.Prelude.{List}
use Rattle.sc_scope.specs.declared.scopes.Scopes.{Scopes}
use Rattle.sc_scope.specs.Kept.{levels_of}
use Rattle.sc_scope.specs.Levels.{Level}

-- the innermost first
abbrev pub levels_in : Scopes → List Level
levels_in scopes = levels_of scopes.top
