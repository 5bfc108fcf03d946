use Rattle.std.proofs.Common.{◌≡◌, ◌∷◌, ◌∙◌, ap, sym, drop, arith}
use Rattle.sc_core.proofs.Writing.{line-written}
use Rattle.sc_core.proofs.program.write_lines.Goals as goal
use Rattle.sc_show.specs.Pieces.{split_lines_after}

pub loop-rest-preserved : goal.loop-rest-preserved
loop-rest-preserved g c =
    let rest = c.loop-rest.rest.now in
    let line = c.split_at.result.0.now in
    let after = c.split_at.result.1.now in
    let first : split_lines_after rest ≡ line ∷ split_lines_after after =
    c.line_length.ensures.line
    ∙ (ap (λ l. l ∷ split_lines_after (drop c.line_length.result rest)) (sym c.split_at.ensures.front) ∙ ap (λ r. line ∷ split_lines_after r) (sym c.split_at.ensures.back)) in
    record {
      written = line-written c.args.text.now rest line after (g.K.Sink.log c.args.out.now) (g.K.Sink.log c.loop-rest.out) (g.K.Sink.log c.write.new.self) c.loop-rest.invariant.written first c.in_ok-write.ensures.ok;
      counted = omega (arith, c.loop-rest.invariant.counted, c.in_ok-write.ensures.counted);
    }
