use Rattle.std.proofs.Common.{◌≤◌, drop}
use Rattle.sc_prep.proofs.LineNumbers.{IsRead}
use Rattle.sc_prep.proofs.Terms.{greatest_line}
use Rattle.sc_prep.proofs.numbering.is_line_number.Given as goal

abbrev pub invariant-loop-byte : goal.invariant-loop-byte
invariant-loop-byte l = IsRead l.bytes l.number (drop l.byte-index l.bytes) × (l.number ≤ greatest_line)
