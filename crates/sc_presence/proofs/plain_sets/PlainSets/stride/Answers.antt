use Rattle.std.proofs.Common.{subst, arith}
use Rattle.sc_presence.specs.Plain.{IsKept}
use Rattle.sc_presence.proofs.PlainLemmas.{lt-IsKept, stride-IsKept, stride_pos-IsKept}
use Rattle.sc_presence.proofs.plain_sets.PlainSets.stride.Goals as goal

pub index-requires : goal.index-requires
index-requires c =
    omega (arith, c.self.inside.strides.ok.0, lt-IsKept (subst (IsKept c.self.inside.strides.items c.self.inside.count) c.self.view_is c.self.invariant) c.requires)

pub returns-clause-stride : goal.returns-clause-stride
returns-clause-stride c =
    stride-IsKept _ _ (subst (IsKept c.self.inside.strides.items c.self.inside.count) c.self.view_is c.self.invariant) c.requires c.index.ensures

pub returns-clause-some : goal.returns-clause-some
returns-clause-some c =
    stride_pos-IsKept _ _ (subst (IsKept c.self.inside.strides.items c.self.inside.count) c.self.view_is c.self.invariant) c.requires c.index.ensures
