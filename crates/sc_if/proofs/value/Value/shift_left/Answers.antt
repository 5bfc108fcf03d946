use Rattle.std.proofs.Common.{◌∙◌, sym, ap, ◌*ℤ◌, ◌^◌, pos, ℕ, ℤ, Result}
use Rattle.c11_expressions.specs.Arithmetic.{Typed, fitted, typed}
use Rattle.c11_macros.specs.Results.{result_map}
use Rattle.sc_if.specs.Seen.{seen_value}
use Rattle.sc_if.proofs.value.Value.shift_left.Goals as goal
use Rattle.sc_model.specs.declared.cause.Cause.{Cause}

abbrev step : Typed → ℕ → Result ℤ Cause
step x k = fitted x.unsigned (x.number *ℤ pos (2 ^ k))

pub returns-in-Ok : goal.returns-in-Ok
returns-in-Ok c = c.times_power.ensures ∙ ap (result_map (typed (seen_value c.args.self).unsigned)) (sym (c.in-Ok.ensures.count (step (seen_value c.args.self))))

pub returns-in-Err : goal.returns-in-Err
returns-in-Err c = ap (result_map (typed (seen_value c.args.self).unsigned)) (sym (c.in-Err.ensures.count (step (seen_value c.args.self))))
