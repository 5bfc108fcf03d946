use Rattle.std.proofs.Common.{◌+◌, cond, ap, sym, ◌∙◌, arith}
use Rattle.sc_lex.proofs.Newlines.{all_counted}
use Rattle.sc_lex.proofs.cursor.Cursor.newlines.Goals as goal

pub returns-then-wanted-clause-all : goal.returns-then-wanted-clause-all
returns-then-wanted-clause-all c =
    let s = c.args.self in
    ap (λ t. c.loop-b.newlines + cond t 1 0) (sym c.if-wanted.true)
    ∙ all_counted s.wanted c.loop-b.wanted s.line s.column s.rest.now c.loop-b.b-index c.loop-b.newlines c.loop-b-test.false c.loop-b.invariant.counted

pub returns-else-wanted-clause-all : goal.returns-else-wanted-clause-all
returns-else-wanted-clause-all c =
    let s = c.args.self in
    let all = ap (λ t. c.loop-b.newlines + cond t 1 0) (sym c.if-wanted.false)
    ∙ all_counted s.wanted c.loop-b.wanted s.line s.column s.rest.now c.loop-b.b-index c.loop-b.newlines c.loop-b-test.false c.loop-b.invariant.counted in
    omega (arith, all)
