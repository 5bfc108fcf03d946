use Rattle.std.proofs.Common.{rules}
use Rattle.sc_fork.proofs.PassLemmas.{renumbered}
use Rattle.sc_fork.proofs.passing.renumber.Goals as goal

pub returns-clause-rows : goal.returns-clause-rows
returns-clause-rows c = λ next s is has.
    renumbered c.args.rows.now.items c.args.number c.args.state s c.index_mut.result.now c.set_state.new.self c.index_mut-2.result.now c.gone.result
    c.push.new.self.items c.requires c.index_mut.ensures.value (search rules) c.index_mut-2.ensures.value c.gone.ensures (search rules) has
