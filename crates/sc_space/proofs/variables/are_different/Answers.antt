use Rattle.std.proofs.Common.{◌∙◌, sym}
use Rattle.sc_space.proofs.Reading.{are_different-step}
use Rattle.sc_space.proofs.variables.are_different.Goals as goal

pub returns-then-is_among : goal.returns-then-is_among
returns-then-is_among c =
    let among = rw c.split_at.ensures.back at c.is_among.ensures in
    let step = are_different-step c.args.options.now c.loop-i.i c.index-options-i.result c.is_among.result c.loop-i-test.true c.index-options-i.is among in
    sym (c.loop-i.invariant ∙ rw c.if-is_among.true at step)

pub loop-i-preserved : goal.loop-i-preserved
loop-i-preserved c =
    let among = rw c.split_at.ensures.back at c.is_among.ensures in
    let step = are_different-step c.args.options.now c.loop-i.i c.index-options-i.result c.is_among.result c.loop-i-test.true c.index-options-i.is among in
    c.loop-i.invariant ∙ rw c.if-is_among.false at step
