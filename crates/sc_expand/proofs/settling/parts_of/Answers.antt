use Rattle.std.proofs.Common.{ap, map, ◌∙◌}
use Rattle.sc_expand.proofs.Ending.{bared}
use Rattle.sc_expand.proofs.settling.parts_of.Goals as goal

pub returns-clause-done : goal.returns-clause-done
returns-clause-done c = c.in_ok-done.ensures ∙ ap (map bared) c.into_out-out.ensures
