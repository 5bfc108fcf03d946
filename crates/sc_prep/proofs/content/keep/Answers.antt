use Rattle.std.proofs.Common.{arith}
use Rattle.sc_prep.proofs.Contents.{set-kept}
use Rattle.sc_prep.proofs.content.keep.Goals as goal

pub returns : goal.returns
returns c = set-kept c.args.file.0 _ _ c.loop-readings.invariant (omega (arith, c.loop-readings-test.false)) c.in_ok-readings.ensures
