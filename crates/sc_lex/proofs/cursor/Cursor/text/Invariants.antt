use Rattle.std.proofs.Common.{◌≡◌, ◌++◌, length}
use Rattle.c11_tokens.specs.Lex.{bytes_of}
use Rattle.sc_lex.specs.Logical.{logical_of}
use Rattle.sc_lex.proofs.cursor.Cursor.text.Given as goal

abbrev pub invariant-loop-b : goal.invariant-loop-b
invariant-loop-b l = l.text.items ++ bytes_of (logical_of l.self) ≡ bytes_of (logical_of l.fn.self)

abbrev pub decreases-loop-b : goal.decreases-loop-b
decreases-loop-b l = length (logical_of l.self)
