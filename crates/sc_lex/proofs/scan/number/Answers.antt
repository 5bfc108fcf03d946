use Rattle.std.proofs.Common.{false, sym, subst, ◌∙◌}
use Rattle.std.proofs.lemmas.List.{take_rest}
use Rattle.c11_tokens.specs.Lex.{number_goes_on}
use Rattle.sc_lex.specs.Scan.{IsLongestFront}
use Rattle.sc_lex.proofs.Names.{number-front, number-none}
use Rattle.sc_lex.proofs.scan.number.Goals as goal

pub returns-then-begins_number : goal.returns-then-begins_number
returns-then-begins_number c =
    number-front _ _ (sym c.begins_number.ensures ∙ c.if-begins_number.true)
    (subst (λ bs. IsLongestFront (number_goes_on false 0) bs c.number_letters.result) (take_rest c.args.text.now 1) c.number_letters.ensures)

pub returns-else-begins_number : goal.returns-else-begins_number
returns-else-begins_number c = number-none _ (sym c.begins_number.ensures ∙ c.if-begins_number.false)
