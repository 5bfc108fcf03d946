use Rattle.std.proofs.Common.{false}
use Rattle.sc_lex.proofs.Fronts.{Unmet}
use Rattle.sc_lex.proofs.Quotes.{closes_after}
use Rattle.sc_lex.proofs.scan.comment_end.Given as goal

abbrev pub invariant-loop-i : goal.invariant-loop-i
invariant-loop-i l = Unmet (closes_after false) (closes_after l.star) l.text l.i
