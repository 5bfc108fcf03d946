use Rattle.std.proofs.Common.{◌≡◌, ◌∷◌, ◌+◌, ◌∙◌, suc, ap, sym, length, [], take, arith}
use Rattle.std.proofs.Math.Seq.{take-length, drop-length}
use Rattle.sc_core.proofs.Writing.{split-first, split-last}
use Rattle.sc_core.proofs.program.line_length.Goals as goal
use Rattle.sc_show.specs.Pieces.{split_lines_after}

pub returns-then-byte-eq10-clause-line : goal.returns-then-byte-eq10-clause-line
returns-then-byte-eq10-clause-line c =
    let more : c.loop-index.index + 1 ≡ suc c.loop-index.index = omega arith in
    rw more (split-first c.args.text.now c.loop-index.index c.loop-index-test.true c.if-byte-eq10.true c.loop-index.invariant)

pub returns-clause-line : goal.returns-clause-line
returns-clause-line c =
    let text = c.args.text.now in
    split-last text c.requires (λ k below. c.loop-index.invariant k (omega arith))
    ∙ (ap (λ line. line ∷ []) (sym (take-length text)) ∙ ap (λ rest. take (length text) text ∷ split_lines_after rest) (sym (drop-length text)))
