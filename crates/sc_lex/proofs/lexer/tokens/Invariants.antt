use Rattle.std.proofs.Common.{length, drop, ◌-◌}
use Rattle.sc_model.specs.Growth.{Extends, IsOneToOne}
use Rattle.sc_lex.specs.Logical.{logical_of}
use Rattle.sc_lex.specs.Unclosed.{AreUnclosed}
use Rattle.sc_lex.proofs.Lexing.{LexedSoFar}
use Rattle.sc_lex.proofs.lexer.tokens.Given as goal

abbrev pub invariant-loop-offset : goal.invariant-loop-offset
invariant-loop-offset l = record {
  so_far : LexedSoFar l.names l.file l.bytes l.text.items l.so_far l.space (logical_of l.cursor) l.offset l.tokens.items;
  unclosed : AreUnclosed (drop l.offset l.text.items) l.unclosed;
  grows : Extends l.fn.names l.names;
  one_to_one : IsOneToOne l.fn.names → IsOneToOne l.names;
}

abbrev pub decreases-loop-offset : goal.decreases-loop-offset
decreases-loop-offset l = length l.text.items - l.offset
