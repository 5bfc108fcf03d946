use Rattle.sc_scope.proofs.OwnLemmas.{none-own, push-own, pop-own, join-own, bind-own, own-Keeps}
use Rattle.sc_scope.proofs.laws.scopes_own_their_conditions.Goals as goal

pub returns : goal.returns
returns c = record { new = none-own; push = push-own; pop = pop-own; join = join-own; bind = bind-own; grows = own-Keeps }
