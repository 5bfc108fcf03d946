use Rattle.std.proofs.Common.{◌≡◌, ◌++◌, drop}
use Rattle.c11_macros.specs.Macros.{escaped}
use Rattle.sc_subst.proofs.literal.push_escaped.Given as goal

-- what was written, and the rest escaped
abbrev pub invariant-loop-b : goal.invariant-loop-b
invariant-loop-b l = l.bytes.items ++ escaped (drop l.b-index l.text) ≡ l.fn.bytes.items ++ escaped l.text
