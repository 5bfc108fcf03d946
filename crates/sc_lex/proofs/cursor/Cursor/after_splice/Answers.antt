use Rattle.std.proofs.Common.{◌∙◌, sym}
use Rattle.sc_lex.proofs.Splices.{other_byte, no_backslash}
use Rattle.sc_lex.proofs.cursor.Cursor.after_splice.Goals as goal

pub returns-then-ne-clause-none : goal.returns-then-ne-clause-none
returns-then-ne-clause-none c =
    no_backslash _ _ _ c.next_replaced.ensures (other_byte _ 92 (sym c.ne.ensures ∙ c.if-ne.true))
