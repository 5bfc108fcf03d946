use Rattle.std.proofs.Common.{◌≡◌, ◌≤◌, ◌+◌, length, drop, get_or, refl, arith, sym, ap, subst, ◌∙◌, length-drop, get_or-drop, add-zero}
use Rattle.std.proofs.lemmas.List.{take_rest}
use Rattle.c11_tokens.specs.Lex.{number_goes_on, is_exponent}
use Rattle.sc_lex.specs.Scan.{number_letter_length}
use Rattle.sc_lex.proofs.Fronts.{Becomes, longest_where_stuck, IsStuck-end}
use Rattle.sc_lex.proofs.Names.{Steps, number-steps, more_parts, last_part}
use Rattle.sc_lex.proofs.scan.number_letters.Goals as goal
use Rattle.sc_lex.proofs.scan.number_letters.Goals.{After-number_letter-part}

part_is : (c : After-number_letter-part) → c.number_letter-part.result ≡ number_letter_length c.loop-length.exponent (drop c.loop-length.length c.args.text.now)
part_is c = c.number_letter-part.ensures ∙ ap (number_letter_length c.loop-length.exponent) (take_rest c.args.text.now c.loop-length.length)

steps : (c : After-number_letter-part) → Steps (number_goes_on c.loop-length.exponent 0) (number_goes_on (is_exponent (get_or c.args.text.now c.loop-length.length 0)) 0)
    (drop c.loop-length.length c.args.text.now) (number_letter_length c.loop-length.exponent (drop c.loop-length.length c.args.text.now))
steps c =
    let first = get_or-drop c.loop-length.length c.args.text.now 0 0 ∙ ap (λ i. get_or c.args.text.now i 0) (add-zero c.loop-length.length) in
    subst (λ b. Steps (number_goes_on c.loop-length.exponent 0) (number_goes_on (is_exponent b) 0) (drop c.loop-length.length c.args.text.now) (number_letter_length c.loop-length.exponent (drop c.loop-length.length c.args.text.now))) first
    (number-steps c.loop-length.exponent _ (omega (arith, length-drop c.loop-length.length c.args.text.now)))

pub returns-then-part-eq0 : goal.returns-then-part-eq0
returns-then-part-eq0 c =
    let d = (goal.at.returns-then-part-eq0 c).After-number_letter-part in
    last_part _ _ c.loop-length.invariant refl (steps d) (part_is d) c.if-part-eq0.true

pub loop-length-preserved : goal.loop-length-preserved
loop-length-preserved c =
    let d = (goal.at.loop-length-preserved c).After-number_letter-part in
    subst (λ e. Becomes _ (number_goes_on e 0) c.args.text.now (c.loop-length.length + c.number_letter-part.result)) (sym c.is_exponent-exponent.ensures)
    (more_parts _ _ c.loop-length.invariant (steps d) (part_is d) c.if-part-eq0.false)

pub overflow_add-length : goal.overflow_add-length
overflow_add-length c =
    let d = (goal.at.overflow_add-length c).After-number_letter-part in
    let more = more_parts _ _ c.loop-length.invariant (steps d) (part_is d) c.if-part-eq0.false in
    let within : c.loop-length.length + c.number_letter-part.result ≤ length c.args.text.now = more.within in
    omega arith

pub returns : goal.returns
returns c = longest_where_stuck c.loop-length.invariant refl (IsStuck-end (number_goes_on c.loop-length.exponent 0) _ (omega (arith, length-drop c.loop-length.length c.args.text.now)))
