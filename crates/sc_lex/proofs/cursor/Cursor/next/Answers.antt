use Rattle.std.proofs.Common.{◌==◌, sym, ◌∙◌, ap}
use Rattle.sc_lex.specs.Logical.{stored_of}
use Rattle.sc_lex.proofs.Splices.{plain_next, plain_byte}
use Rattle.sc_lex.proofs.cursor.Cursor.next.Goals as goal

pub returns-then-is_plain : goal.returns-then-is_plain
returns-then-is_plain c =
    let plain = plain_byte c.args.self.now.rest.now (sym c.is_plain.ensures ∙ c.if-is_plain.true) in
    let is = c.take_first.ensures.first in
    plain_next (stored_of c.args.self.now) (stored_of c.take_first.new.self) c.take_first.result c.take_first.ensures.takes
    (ap (λ k. k == 63) is ∙ plain.mark) (ap (λ k. k == 92) is ∙ plain.backslash)
