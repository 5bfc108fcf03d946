use Rattle.std.proofs.Common.{◌∙◌}
use Rattle.sc_expand.proofs.RestrictLemmas.{drop-items_of}
use Rattle.sc_expand.proofs.Terms.{items_of}
use Rattle.sc_expand.proofs.source.Rest.drop_first.Goals as goal

pub returns-clause-is : goal.returns-clause-is
returns-clause-is c =
    let rest = c.args.self.now in
    (λ i. items_of (record rest { tokens = c.drop_first.ensures i; restricted = c.saturating_sub-self.ensures i })) ∙ drop-items_of rest c.args.count
