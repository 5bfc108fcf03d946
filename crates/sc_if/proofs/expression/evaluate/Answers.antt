use Rattle.std.proofs.Common.{sym, subst, map}
use Rattle.std.proofs.lemmas.Result.{err_from_is_err_and}
use Rattle.c11_expressions.proofs.Evaluating.{evaluates_ok}
use Rattle.c11_expressions.specs.Evaluates.{Evaluates}
use Rattle.sc_if.proofs.Refusals.{refusal}
use Rattle.sc_if.proofs.expression.evaluate.Goals as goal
use Rattle.sc_if.specs.Operands.{seen_operand}
use Rattle.sc_if.specs.Symbols.{symbol_at}

pub returns-in_err-operand-clause-err : goal.returns-in_err-operand-clause-err
returns-in_err-operand-clause-err c =
    let p = err_from_is_err_and c.from_residual.result c.from_residual.ensures.1 in
    rw (p.1, p.2) (refusal _ (map (symbol_at c.args.standard c.args.names.now) c.args.tokens.now) c.in_err-operand.ensures.err)

pub returns-in-Ok-clause-ok : goal.returns-in-Ok-clause-ok
returns-in-Ok-clause-ok c =
    subst (λ r. Evaluates (map (symbol_at c.args.standard c.args.names.now) c.args.tokens.now) r) (sym c.in-Ok.ensures)
    (evaluates_ok (map (symbol_at c.args.standard c.args.names.now) c.args.tokens.now) (seen_operand c.in_ok-operand.field-0) c.in_ok-operand.ensures.ok)

pub returns-in-Err-clause-err : goal.returns-in-Err-clause-err
returns-in-Err-clause-err c =
    subst (λ r. Evaluates (map (symbol_at c.args.standard c.args.names.now) c.args.tokens.now) r) (sym c.in-Err.ensures)
    (evaluates_ok (map (symbol_at c.args.standard c.args.names.now) c.args.tokens.now) (seen_operand c.in_ok-operand.field-0) c.in_ok-operand.ensures.ok)
