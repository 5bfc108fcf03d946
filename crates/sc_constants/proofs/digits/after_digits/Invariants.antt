use Rattle.std.proofs.Common.{◌≡◌, drop}
use Rattle.c11_tokens.specs.Constants.{after_digits}
use Rattle.sc_constants.proofs.digits.after_digits.Given as goal

abbrev pub invariant-loop-i : goal.invariant-loop-i
invariant-loop-i l = after_digits l.base l.bytes ≡ after_digits l.base (drop l.i l.bytes)
