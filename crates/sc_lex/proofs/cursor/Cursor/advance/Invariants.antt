use Rattle.std.proofs.Common.{◌≡◌, drop}
use Rattle.sc_lex.specs.Logical.{logical_of}
use Rattle.sc_lex.proofs.cursor.Cursor.advance.Given as goal

abbrev pub invariant-loop : goal.invariant-loop
invariant-loop l = logical_of l.self ≡ drop l.counter (logical_of l.initial.self)
