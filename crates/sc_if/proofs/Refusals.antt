-- What a refusal says of the tokens.
use Rattle.std.proofs.Common.{Err, sym, subst}
use Rattle.c11_expressions.proofs.Evaluating.{evaluates_err}
use Rattle.c11_expressions.proofs.Reader.{reading_tokens}
use Rattle.c11_expressions.specs.Evaluates.{Evaluates, Symbols}
use Rattle.sc_if.specs.declared.stop.IfStop.{IfStop}
use Rattle.sc_if.specs.declared.stop.IfStop.TheVariants.{Fault, OutOfMemory}
use Rattle.sc_if.specs.Stops.{IsRefusal, OnFault}

pub refusal : (stop : IfStop) (ts : Symbols) → IsRefusal stop (reading_tokens ts) → OnFault stop (λ cause. Evaluates ts (Err cause))
refusal (Fault cause) ts h = subst (λ k. Evaluates ts (Err k)) (sym h.0) (evaluates_err ts h.1)
refusal OutOfMemory ts h = tt
