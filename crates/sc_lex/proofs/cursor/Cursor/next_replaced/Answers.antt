use Rattle.std.proofs.Common.{subst, sym, ◌∙◌}
use Rattle.sc_lex.specs.Cursor.{Takes}
use Rattle.sc_lex.specs.Logical.{stored_of, replaced_of}
use Rattle.sc_lex.proofs.Splices.{sequence-next, that_byte}
use Rattle.sc_lex.proofs.cursor.Cursor.next_replaced.Goals as goal

pub returns-in-Some : goal.returns-in-Some
returns-in-Some c =
    sequence-next (stored_of c.args.self.now) (stored_of c.next_stored-first.new.self) (replaced_of c.in-Some.rest) c.in-Some.byte
    (subst (λ r. Takes (stored_of c.args.self.now) r (stored_of c.next_stored-first.new.self)) (that_byte _ 63 (sym c.ne.ensures ∙ c.if-ne.false)) c.next_stored-first.ensures)
    c.in-Some.ensures.some
