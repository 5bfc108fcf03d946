use Rattle.std.proofs.Common.{◌∙◌, ◌+◌, ap, drop, get_or}
use Rattle.sc_expand.proofs.Facts.{blank, drop_more, slice_get-get_or}
use Rattle.sc_expand.proofs.Parting.{group_parted}
use Rattle.sc_expand.proofs.Terms.{parted_with, seen_list}
use Rattle.sc_expand.proofs.arguments.Parting.go_on.Goals as goal

pub returns-in-Some-clause-is : goal.returns-in-Some-clause-is
returns-in-Some-clause-is c = λ sets.
    group_parted c.args.names.now sets c.args.between.now c.args.index c.in-Some.close c.args.self.now c.requires.begin c.requires.index c.if-self-eq0.true c.in-Some.ensures.1

pub returns-clause-is : goal.returns-clause-is
returns-clause-is c = λ sets.
    let names = c.args.names.now in
    let between = c.args.between.now in
    let index = c.args.index in
    ap (λ l. parted_with names sets between index c.args.self.now (seen_list names sets l)) (drop_more between index blank c.requires.index)
    ∙ c.in_ok-take.ensures.is sets (get_or between index blank) (seen_list names sets (drop (index + 1) between)) (slice_get-get_or between index blank c.requires.index)
