use Rattle.std.proofs.Common.{refl, arith}
use Rattle.std.proofs.lemmas.List.{ext_get_or}
use Rattle.sc_if.specs.declared.frame.Frame.TheVariants.{Parenthesis}
use Rattle.sc_if.proofs.reading.same_frames.Goals as goal

pub returns : goal.returns
returns c =
    let was = c.loop-count.invariant in
    (λ t. ext_get_or Parenthesis c.args.a.now c.args.b.now was.long (λ i below. was.same i Parenthesis (omega (arith, c.loop-count-test.false)) below), λ e. refl)
