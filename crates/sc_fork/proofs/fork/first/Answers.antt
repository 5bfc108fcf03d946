use Rattle.std.proofs.Common.{refl, ap, ◌∙◌, ◌∷◌}
use Rattle.sc_scope.specs.Levels.{no_bindings}
use Rattle.sc_fork.proofs.fork.first.Goals as goal

pub returns : goal.returns
returns c = record {
  cond = refl;
  stack = c.new.ensures;
  levels = c.in_ok-push.ensures.ok ∙ ap (λ levels. no_bindings ∷ levels) c.new-scopes.ensures.levels;
  numbered = λ numbers. c.push.ensures.numbered numbers (c.new-scopes.ensures.numbered numbers);
  phase = refl;
}
