use Rattle.sc_expand.proofs.RestrictLemmas.{other-items_of, restricted-items_of}
use Rattle.sc_expand.proofs.source.Rest.item.Goals as goal

pub returns-then-index-self : goal.returns-then-index-self
returns-then-index-self c = restricted-items_of c.args.self.now c.args.index c.get-token.result c.if-index-self.true c.get-token.ensures

pub returns : goal.returns
returns c = other-items_of c.args.self.now c.args.index c.get-token.result c.if-index-self.false c.get-token.ensures
