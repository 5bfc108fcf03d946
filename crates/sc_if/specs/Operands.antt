-- Operands as the definitions see them.
use Rattle.c11_expressions.specs.Waiting as waiting
use Rattle.sc_if.specs.declared.operand.Operand.{Operand}
use Rattle.sc_if.specs.declared.operand.Operand.TheVariants.{Value, Fault, Unevaluated}
use Rattle.sc_if.specs.Seen.{seen_value}

abbrev pub seen_operand : Operand → waiting.Operand
seen_operand (Value v) = waiting.value (seen_value v)
seen_operand (Fault cause) = waiting.fault cause
seen_operand (Unevaluated unsigned) = waiting.unevaluated unsigned
