use Rattle.std.proofs.Common.{◌<◌, [], length, sym, subst, ◌∙◌}
use Rattle.sc_subst.specs.Rising.{IsRising}
use Rattle.sc_subst.proofs.Store.{set_read}
use Rattle.sc_subst.proofs.hide_sets.HideSets.set.Goals as goal

pub returns-clause-rising : goal.returns-clause-rising
returns-clause-rising c =
    let within = subst (λ s. c.args.set.0 < length s) (sym c.self.view_is) c.requires in
    let row = set_read (λ t. t.items) c.self.inside.sets.keys c.as_slice.result.now c.args.set.0 c.index-as_slice-set.result c.as_slice.ensures.keys within c.index-as_slice-set.is
    ∙ sym c.as_slice-2.ensures.value in
    subst IsRising row (c.self.invariant.0.rising c.args.set.0 [] within)
