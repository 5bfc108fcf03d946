use Rattle.std.proofs.Common.{sym, arith}
use Rattle.std.proofs.lemmas.List.{length-take-le}
use Rattle.sc_presence.proofs.RankLemmas.{length-strides_of, lt-strides_of, strides_of_pos}
use Rattle.sc_presence.proofs.VariableLemmas.{stride_times_le, DependsFrom-Repeats, IsTop-Varies, constant-IsRowOf}
use Rattle.sc_presence.proofs.rows.first_variable.Goals as goal

pub bounds-arities-variable : goal.bounds-arities-variable
bounds-arities-variable c = lt-strides_of c.args.arities.now c.requires.strides c.loop-variable-test.true

pub overflow_mul-stride : goal.overflow_mul-stride
overflow_mul-stride c =
    let block = stride_times_le c.args.arities.now c.loop-variable.variable c.requires.options (lt-strides_of c.args.arities.now c.requires.strides c.loop-variable-test.true) in
    rw c.requires.strides (omega (arith, block))

pub slice_bounds-varies-end : goal.slice_bounds-varies-end
slice_bounds-varies-end c =
    let block = stride_times_le c.args.arities.now c.loop-variable.variable c.requires.options (lt-strides_of c.args.arities.now c.requires.strides c.loop-variable-test.true) in
    sym (length-take-le _ c.args.row.now (rw c.requires.strides (omega (arith, block))))

pub varies-requires : goal.varies-requires
varies-requires c = rw c.requires.strides (strides_of_pos c.args.arities.now c.loop-variable.variable c.requires.options (lt-strides_of c.args.arities.now c.requires.strides c.loop-variable-test.true))

pub returns-then-varies-clause-some : goal.returns-then-varies-clause-some
returns-then-varies-clause-some c s a is =
    IsTop-Varies c.loop-variable.variable is c.requires.options c.requires.long (lt-strides_of c.args.arities.now c.requires.strides c.loop-variable-test.true)
    (rw c.requires.strides at c.if-varies.ensures.differs) (c.loop-variable.invariant s a is)

pub loop-variable-preserved : goal.loop-variable-preserved
loop-variable-preserved c s a is =
    DependsFrom-Repeats c.loop-variable.variable is c.requires.options c.requires.long (lt-strides_of c.args.arities.now c.requires.strides c.loop-variable-test.true)
    (rw c.requires.strides at c.if-varies.ensures.alike) (c.loop-variable.invariant s a is)

pub returns-clause-none : goal.returns-clause-none
returns-clause-none c s a is =
    constant-IsRowOf c.loop-variable.variable is c.requires.options (rw (c.requires.strides, length-strides_of c.args.arities.now) at c.loop-variable-test.false) (c.loop-variable.invariant s a is)
