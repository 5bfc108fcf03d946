use Rattle.std.proofs.Common.{◌≡◌, ◌≤◌, length, take}
use Rattle.c11_expressions.specs.Waiting.{is_evaluated}
use Rattle.sc_if.proofs.frame.is_evaluated.Given as goal
use Rattle.sc_if.specs.Frames.{stack_of}

abbrev pub decreases-loop-count : goal.decreases-loop-count
decreases-loop-count l = l.count

-- the frames behind do not tell
abbrev pub invariant-loop-count : goal.invariant-loop-count
invariant-loop-count l = record {
  within : l.count ≤ length l.frames;
  same : is_evaluated (stack_of l.frames) ≡ is_evaluated (stack_of (take l.count l.frames));
}
