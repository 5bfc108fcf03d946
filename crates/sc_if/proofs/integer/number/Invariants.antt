use Rattle.std.proofs.Common.{◌≡◌, ◌<◌, ◌^◌, drop}
use Rattle.c11_expressions.specs.Constants.{number_behind, number_of}
use Rattle.sc_if.proofs.integer.number.Given as goal

abbrev pub invariant-loop-byte : goal.invariant-loop-byte
invariant-loop-byte l = (number_of l.base l.bytes ≡ number_behind l.base l.number (drop l.byte-index l.bytes)) × (l.number < 2 ^ 64)
