use Rattle.std.proofs.Common.{◌≡◌, vec_len}
use Rattle.c11_expressions.proofs.Reader.{settled}
use Rattle.sc_if.proofs.frame.settle.Given as goal
use Rattle.sc_if.specs.Frames.{stack_of}
use Rattle.sc_if.specs.Operands.{seen_operand}

abbrev pub decreases-loop-frame : goal.decreases-loop-frame
decreases-loop-frame l = vec_len l.frames

abbrev pub invariant-loop-frame : goal.invariant-loop-frame
invariant-loop-frame l = settled l.level (stack_of l.frames.items) (seen_operand l.operand) ≡ settled l.level (stack_of l.initial.frames.items) (seen_operand l.fn.last)
