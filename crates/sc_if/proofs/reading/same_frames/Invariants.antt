use Rattle.std.proofs.Common.{◌≡◌, ℕ, ◌<◌, ◌≤◌, get_or, length}
use Rattle.sc_if.specs.declared.frame.Frame.{Frame}
use Rattle.sc_if.proofs.reading.same_frames.Given as goal

abbrev pub decreases-loop-count : goal.decreases-loop-count
decreases-loop-count l = l.count

-- those behind are the same
abbrev pub invariant-loop-count : goal.invariant-loop-count
invariant-loop-count l = record {
  within : l.count ≤ length l.a;
  long : length l.a ≡ length l.b;
  same : (k : ℕ) (d : Frame) → l.count ≤ k → k < length l.a → get_or l.a k d ≡ get_or l.b k d;
}
