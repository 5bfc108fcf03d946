use Rattle.std.proofs.Common.{refl}
use Rattle.sc_if.proofs.EnteringLemmas.{entered-refused}
use Rattle.sc_if.proofs.deciding.Decided.refuse.Goals as goal

pub returns : goal.returns
returns c = λ s own cond_own. entered-refused s c.args.cond c.args.cause c.args.place c.args.self.now (record c.args.self.now { faults = c.push.new.self }) own cond_own refl c.in_ok-push.ensures.items
