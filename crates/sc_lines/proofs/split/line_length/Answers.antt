use Rattle.std.proofs.Common.{◌≡◌, ◌∙◌, sym, subst, true, take, length, arith}
use Rattle.c11_tokens.specs.Lex.{is_newline}
use Rattle.sc_lines.proofs.Splits.{is_open, split-at_end, split-last}
use Rattle.sc_lines.proofs.split.line_length.Goals as goal

pub returns-then-ends_line-clause-splits : goal.returns-then-ends_line-clause-splits
returns-then-ends_line-clause-splits c =
    split-at_end (λ t. is_newline t.kind) c.args.tokens.now c.loop-i.i _ c.loop-i-test.true c.loop-i.invariant (sym c.ends_line.ensures ∙ c.if-ends_line.true)

pub returns-clause-splits : goal.returns-clause-splits
returns-clause-splits c =
    let whole : c.loop-i.i ≡ length c.args.tokens.now = omega arith in
    split-last (λ t. is_newline t.kind) c.args.tokens.now c.requires
    (subst (λ n. is_open (λ t. is_newline t.kind) (take n c.args.tokens.now) ≡ true) whole c.loop-i.invariant)
