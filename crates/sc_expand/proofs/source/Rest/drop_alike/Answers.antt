use Rattle.std.proofs.Common.{◌<◌, ◌≤◌, arith, length}
use Rattle.sc_expand.proofs.Facts.{common_steps}
use Rattle.sc_expand.proofs.RestrictLemmas.{drops-restricted}
use Rattle.sc_expand.proofs.Terms.{items_of}
use Rattle.sc_expand.proofs.source.Rest.drop_alike.Goals as goal

pub returns-then-self-gt0 : goal.returns-then-self-gt0
returns-then-self-gt0 c =
    let rest = c.args.self.now in
    let low : c.min-count.result ≤ rest.restricted = grind (arith, common_steps) in
    let more : 0 < length (items_of rest) → 0 < c.min-count.result = λ long. grind (arith, common_steps) in
    drops-restricted rest c.min-count.result c.drop_first.new.self c.if-self-gt0.true low more c.drop_first.ensures.is
