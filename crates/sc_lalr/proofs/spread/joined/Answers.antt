use Rattle.std.proofs.lemmas.Nat.{or_lt}
use Rattle.sc_lalr.proofs.spread.joined.Goals as goal

pub returns-clause-small : goal.returns-clause-small
returns-clause-small c = or_lt 64 c.args.a c.args.b c.ranges.a.fits c.ranges.b.fits
