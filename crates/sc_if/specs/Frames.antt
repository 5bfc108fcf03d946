-- What waits while an expression is read, as the definitions see it.
use Rattle.std.specs.Prelude.{◌≡◌, ℕ, true, List, [], ◌∷◌, map, reverse, Bool, false, Option, Some, None}
use Rattle.c11_expressions.proofs.Reader as reader
use Rattle.c11_expressions.specs.Waiting as waiting
use Rattle.sc_if.specs.declared.frame.Frame.{Frame}
use Rattle.sc_if.specs.declared.frame.Frame.TheVariants.{Parenthesis, Prefix, Left, Condition, Branch}
use Rattle.sc_if.specs.declared.operand.Operand.{Operand}
use Rattle.sc_if.specs.Operands.{seen_operand}

abbrev pub seen_frame : Frame → waiting.Waiting
seen_frame Parenthesis = waiting.parenthesis
seen_frame (Prefix op) = waiting.prefix op
seen_frame (Left op x) = waiting.left op (seen_operand x)
seen_frame (Condition c) = waiting.condition (seen_operand c)
seen_frame (Branch c x) = waiting.branch (seen_operand c) (seen_operand x)

-- the innermost frame first
abbrev pub stack_of : List Frame → List waiting.Waiting
stack_of frames = reverse (map seen_frame frames)

abbrev pub top_binds : ℕ → List waiting.Waiting → Bool
top_binds level [] = false
top_binds level (f ∷ fs) = reader.binds level f

-- the frame was the innermost, and binds at the level
pub record Pops (level : ℕ) (old new : List Frame) (f : Frame) : Type 0 where
  pub stack : stack_of old ≡ seen_frame f ∷ stack_of new
  pub binds : reader.binds level (seen_frame f) ≡ true

-- nothing changed, and the innermost frame does not bind at the level
pub record IsLeft (level : ℕ) (old new : List Frame) : Type 0 where
  pub same : new ≡ old
  pub unbound : top_binds level (stack_of old) ≡ false

-- what was read: what waits, and the operand behind it
abbrev pub state_of : List Frame → Option Operand → reader.State
state_of frames None = reader.wanting (stack_of frames)
state_of frames (Some x) = reader.having (stack_of frames) (seen_operand x)
