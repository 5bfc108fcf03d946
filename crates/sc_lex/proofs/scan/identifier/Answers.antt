use Rattle.std.proofs.Common.{sym, ◌∙◌}
use Rattle.sc_lex.proofs.Names.{identifier-front, identifier-none}
use Rattle.sc_lex.proofs.scan.identifier.Goals as goal

pub returns-then-begins_name : goal.returns-then-begins_name
returns-then-begins_name c = identifier-front _ _ (sym c.begins_name.ensures ∙ c.if-begins_name.true) c.letters.ensures

pub returns-else-begins_name : goal.returns-else-begins_name
returns-else-begins_name c = identifier-none _ (sym c.begins_name.ensures ∙ c.if-begins_name.false)
