use Rattle.std.proofs.Common.{sym, ◌∙◌, arith}
use Rattle.sc_lex.proofs.FirstBytes.{identifier_begins, number_begins, punctuator_begins}
use Rattle.sc_lex.proofs.piece.piece_of_one_kind.Goals as goal

pub returns-then-begins_identifier-clause-only : goal.returns-then-begins_identifier-clause-only
returns-then-begins_identifier-clause-only c = identifier_begins _ (omega (arith, c.type_inv.text 0)) (sym c.begins_identifier.ensures ∙ c.if-begins_identifier.true)

pub returns-then-begins_punctuator-clause-only : goal.returns-then-begins_punctuator-clause-only
returns-then-begins_punctuator-clause-only c = punctuator_begins _ (omega (arith, c.type_inv.text 0)) (sym c.begins_punctuator.ensures ∙ c.if-begins_punctuator.true)

pub returns-then-is_digit-clause-only : goal.returns-then-is_digit-clause-only
returns-then-is_digit-clause-only c = number_begins _ (omega (arith, c.type_inv.text 0)) (sym c.is_digit.ensures ∙ c.if-is_digit.true)
