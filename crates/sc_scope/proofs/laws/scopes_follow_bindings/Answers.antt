use Rattle.sc_scope.proofs.LevelLemmas.{keeps-show}
use Rattle.sc_scope.proofs.ShowLemmas.{push-shows, pop-shows, join-shows, bind-shows, bind-outside, typedef-shown}
use Rattle.sc_scope.proofs.laws.scopes_follow_bindings.Goals as goal

pub returns : goal.returns
returns c = record {
  push = push-shows;
  pop = pop-shows;
  join = join-shows;
  bind = bind-shows;
  elsewhere = bind-outside;
  typedef = typedef-shown;
  merge = keeps-show;
}
