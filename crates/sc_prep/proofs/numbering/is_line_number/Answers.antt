use Rattle.std.proofs.Common.{◌≡◌, ◌<◌, ◌≤◌, ◌+◌, ◌*◌, ◌-◌, true, drop, get_or, length, subst, sym, arith, rules}
use Rattle.sc_prep.proofs.LineNumbers.{IsRead, all-read, great-read, one-read}
use Rattle.sc_prep.proofs.Terms.{greatest_line, is_digit}
use Rattle.sc_prep.proofs.numbering.is_line_number.Goals as goal

pub returns-then-number-gt-GREATEST_LINE : goal.returns-then-number-gt-GREATEST_LINE
returns-then-number-gt-GREATEST_LINE c =
    let bs = c.args.bytes.now in
    let i = c.loop-byte.byte-index in
    let within : i < length bs = omega arith in
    let digit : is_digit (get_or bs i 0) ≡ true = search rules in
    let value : c.from.result ≡ get_or bs i 0 - 48 = search rules in
    let great : greatest_line < c.loop-byte.number * 10 + (get_or bs i 0 - 48) = omega (arith, value) in
    sym (great-read bs (c.loop-byte.number * 10 + (get_or bs i 0 - 48)) (drop (i + 1) bs) great (one-read bs c.loop-byte.number i within digit c.loop-byte.invariant.0))

pub loop-byte-preserved : goal.loop-byte-preserved
loop-byte-preserved c =
    let bs = c.args.bytes.now in
    let i = c.loop-byte.byte-index in
    let within : i < length bs = omega arith in
    let digit : is_digit (get_or bs i 0) ≡ true = search rules in
    let value : c.from.result ≡ get_or bs i 0 - 48 = search rules in (
      subst (λ d. IsRead bs (c.loop-byte.number * 10 + d) (drop (i + 1) bs)) (sym value) (one-read bs c.loop-byte.number i within digit c.loop-byte.invariant.0),
      omega arith,
    )

pub returns : goal.returns
returns c =
    let end : length c.args.bytes.now ≤ c.loop-byte.byte-index = omega arith in
    sym (all-read c.args.bytes.now c.loop-byte.number c.loop-byte.byte-index end c.loop-byte.invariant.1 c.loop-byte.invariant.0)
