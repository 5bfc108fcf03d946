use Rattle.std.proofs.Common.{◌≡◌, ◌+◌, ◌≤◌, drop}
use Rattle.sc_lex.proofs.Newlines.{newlines}
use Rattle.sc_lex.proofs.cursor.Cursor.newlines.Given as goal

abbrev pub invariant-loop-b : goal.invariant-loop-b
invariant-loop-b l = record {
  few : l.newlines ≤ l.b-index;
  counted : l.newlines + newlines l.wanted (drop l.b-index l.self.rest.now) ≡ newlines l.self.wanted l.self.rest.now;
}
