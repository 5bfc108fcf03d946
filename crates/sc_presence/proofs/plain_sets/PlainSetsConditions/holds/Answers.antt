use Rattle.std.proofs.Common.{subst, arith}
use Rattle.sc_presence.specs.Plain.{IsKept}
use Rattle.sc_presence.proofs.SetsLemmas.{long-IsKept, rank-IsKept}
use Rattle.sc_presence.proofs.plain_sets.PlainSetsConditions.holds.Goals as goal

pub rank_of-requires-clause-long : goal.rank_of-requires-clause-long
rank_of-requires-clause-long c =
    let kept = subst (IsKept c.self.inside.strides.items c.self.inside.count) c.self.view_is c.self.invariant in
    rw c.deref.ensures.value (long-IsKept c.args.config.now kept c.requires.config)

pub rank_of-requires-clause-fits : goal.rank_of-requires-clause-fits
rank_of-requires-clause-fits c =
    let kept = subst (IsKept c.self.inside.strides.items c.self.inside.count) c.self.view_is c.self.invariant in
    rw c.deref.ensures.value (omega (arith, rank-IsKept c.args.config.now kept c.requires.config, kept.whole, kept.small))

pub bounds-row-rank_of : goal.bounds-row-rank_of
bounds-row-rank_of c =
    let kept = subst (IsKept c.self.inside.strides.items c.self.inside.count) c.self.view_is c.self.invariant in
    rw (c.rank_of.ensures, c.deref.ensures.value, c.row.ensures.long) (rank-IsKept c.args.config.now kept c.requires.config)
