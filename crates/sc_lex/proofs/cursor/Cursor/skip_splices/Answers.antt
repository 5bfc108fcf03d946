use Rattle.std.proofs.Common.{sym, ◌∙◌}
use Rattle.sc_lex.proofs.Splices.{plain_first}
use Rattle.sc_lex.proofs.cursor.Cursor.skip_splices.Goals as goal

pub returns-then-is_plain-clause-first : goal.returns-then-is_plain-clause-first
returns-then-is_plain-clause-first c =
    let s = c.args.self.now in
    plain_first s.wanted s.line s.column s.rest.now (sym c.is_plain.ensures ∙ c.if-is_plain.true)
