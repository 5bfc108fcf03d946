use Rattle.std.proofs.Common.{◌≡◌, length}
use Rattle.sc_lex.specs.Logical.{replaced_of, logical_of}
use Rattle.sc_lex.proofs.cursor.Cursor.skip_splices.Given as goal

abbrev pub invariant-loop-next : goal.invariant-loop-next
invariant-loop-next l = logical_of l.self ≡ logical_of l.initial.self

abbrev pub decreases-loop-next : goal.decreases-loop-next
decreases-loop-next l = length (replaced_of l.self)
