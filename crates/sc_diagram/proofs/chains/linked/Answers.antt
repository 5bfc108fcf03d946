use Rattle.std.proofs.Common.{◌<◌, length, ◌∙◌, arith}
use Rattle.std.proofs.lemmas.List.{length-take-le}
use Rattle.std.proofs.lemmas.Grind.{take_at_read}
use Rattle.sc_diagram.proofs.chains.linked.Goals as goal

pub loop-number-preserved : goal.loop-number-preserved
loop-number-preserved c =
    let n = c.loop-number.number in
    let within : n < length c.args.hashes.now = omega (arith, c.loop-number-test.true, c.loop-number.auto.number-end) in
    record {
      linked = rw (take_at_read c.args.hashes.now n 0 within).1 (c.in_ok-link.ensures.linked _ (length-take-le n c.args.hashes.now (omega (arith, within))) c.loop-number.invariant.linked);
      slots = c.link.ensures.slots ∙ c.loop-number.invariant.slots;
    }
