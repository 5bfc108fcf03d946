use Rattle.std.proofs.Common.{◌≡◌, ◌<◌, ◌≤◌, ◌*◌, ◌+◌, true, false, length, get_or, drop, sym, ap, ◌∙◌, arith, rules}
use Rattle.c11_expressions.specs.Constants.{digit_value, number_behind, radix}
use Rattle.c11_tokens.specs.Constants.{is_digit_in}
use Rattle.sc_if.proofs.Numbers.{at_digit, at_end, at_other, behind_more}
use Rattle.sc_if.proofs.integer.number.Goals as goal

pub loop-byte-preserved : goal.loop-byte-preserved
loop-byte-preserved c =
    let within : c.loop-byte.byte-index < length c.args.bytes.now = omega arith in
    let digit : is_digit_in c.args.base (get_or c.args.bytes.now c.loop-byte.byte-index 0) ≡ true = search rules in (
      c.loop-byte.invariant.0 ∙ at_digit c.args.base c.loop-byte.number c.args.bytes.now c.loop-byte.byte-index within digit
          ∙ ap (λ n. number_behind c.args.base n (drop (c.loop-byte.byte-index + 1) c.args.bytes.now)) (sym c.in_ok-number.ensures.1),
      omega (arith, c.in_ok-number.ensures.0, c.in_ok-number.ensures.1),
    )

pub returns-in_err-number : goal.returns-in_err-number
returns-in_err-number c =
    let within : c.loop-byte.byte-index < length c.args.bytes.now = omega arith in
    let digit : is_digit_in c.args.base (get_or c.args.bytes.now c.loop-byte.byte-index 0) ≡ true = search rules in
    let same = c.loop-byte.invariant.0 ∙ at_digit c.args.base c.loop-byte.number c.args.bytes.now c.loop-byte.byte-index within digit in
    rw c.from_residual.ensures (λ fits. c.in_err-number.ensures (omega (arith, fits, same, behind_more c.args.base (c.loop-byte.number * radix c.args.base + digit_value (get_or c.args.bytes.now c.loop-byte.byte-index 0)) (drop (c.loop-byte.byte-index + 1) c.args.bytes.now))))

pub returns-after-loop-byte : goal.returns-after-loop-byte
returns-after-loop-byte c =
    let end : length c.args.bytes.now ≤ c.loop-byte.byte-index = omega arith in
    let same = c.loop-byte.invariant.0 ∙ at_end c.args.base c.loop-byte.number c.args.bytes.now c.loop-byte.byte-index end in
    (omega (arith, same), sym same)

pub returns-then-not-is_digit : goal.returns-then-not-is_digit
returns-then-not-is_digit c =
    let within : c.loop-byte.byte-index < length c.args.bytes.now = omega arith in
    let other : is_digit_in c.args.base (get_or c.args.bytes.now c.loop-byte.byte-index 0) ≡ false = search rules in
    let same = c.loop-byte.invariant.0 ∙ at_other c.args.base c.loop-byte.number c.args.bytes.now c.loop-byte.byte-index within other in
    (omega (arith, same), sym same)
