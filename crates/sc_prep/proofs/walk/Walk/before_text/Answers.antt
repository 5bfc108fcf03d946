use Rattle.sc_prep.proofs.MainFile.{begins-new}
use Rattle.sc_prep.proofs.Terms.{seen_space}
use Rattle.sc_prep.proofs.walk.Walk.before_text.Goals as goal

pub returns-clause-begins : goal.returns-clause-begins
returns-clause-begins g c =
    let walk = c.in_ok-walk.ensures in
    let table = c.in_ok-table.ensures in
    begins-new (seen_space c.args.space.now) c.requires.space walk.owns walk.empty walk.table table.table table.initial walk.starts
