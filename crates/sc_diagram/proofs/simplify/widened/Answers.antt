use Rattle.std.proofs.Common.{◌<◌, ◌≤◌, length, ap, arith}
use Rattle.std.specs.Prelude.{slice_index}
use Rattle.sc_diagram.specs.Diagram.{variable_of}
use Rattle.sc_diagram.proofs.GrownLemmas.{Grows-refl, Grows-trans, own-Grows, variable_of-Grows}
use Rattle.sc_diagram.proofs.SimplifiedLemmas.{or-asked, widens-all, widens-more, widens-none}
use Rattle.sc_diagram.proofs.simplify.widened.Goals as goal

pub loop-option-init : goal.loop-option-init
loop-option-init c = record {
  grows = Grows-refl c.args.table.now c.count-count.ensures.valid;
  known = c.requires.known;
  widens = widens-none c.count-count.ensures.valid (omega (arith, c.variable-variable.ensures.variable, c.requires.inner));
}

pub cofactor-requires-clause-own : goal.cofactor-requires-clause-own
cofactor-requires-clause-own c = own-Grows c.loop-option.invariant.grows c.args.node c.requires.own

pub apply-requires : goal.apply-requires
apply-requires c =
    let i = c.loop-option.invariant in
    let within : c.variable-variable.result < length c.loop-option.table.arities = omega (arith, c.variable-variable.ensures.variable, c.requires.inner, ap length i.grows.arities) in
    let in_range : c.loop-option.option < slice_index c.loop-option.table.arities c.variable-variable.result =
    omega (arith, c.loop-option-test.true, c.arity-option-end.ensures, ap (λ ns. slice_index ns c.variable-variable.result) i.grows.arities) in
    let low : c.variable-variable.result ≤ variable_of c.loop-option.table c.args.node = omega (arith, c.variable-variable.ensures.variable, variable_of-Grows i.grows c.args.node c.requires.own) in
    record {
      application = rw c.cofactor.ensures (or-asked i.grows.valid (own-Grows i.grows c.args.node c.requires.own) within in_range low i.widens);
      known = i.known;
    }

pub loop-option-preserved : goal.loop-option-preserved
loop-option-preserved c =
    let i = c.loop-option.invariant in
    let within : c.variable-variable.result < length c.loop-option.table.arities = omega (arith, c.variable-variable.ensures.variable, c.requires.inner, ap length i.grows.arities) in
    let in_range : c.loop-option.option < slice_index c.loop-option.table.arities c.variable-variable.result =
    omega (arith, c.loop-option-test.true, c.arity-option-end.ensures, ap (λ ns. slice_index ns c.variable-variable.result) i.grows.arities) in
    let low : c.variable-variable.result ≤ variable_of c.loop-option.table c.args.node = omega (arith, c.variable-variable.ensures.variable, variable_of-Grows i.grows c.args.node c.requires.own) in
    let grows = c.apply.ensures.grows in
    record {
      grows = Grows-trans i.grows grows;
      known = c.apply.ensures.known;
      widens = widens-more i.grows.valid (own-Grows i.grows c.args.node c.requires.own) within in_range low i.widens grows
          (rw (← c.cofactor.ensures) c.in_ok-wider.ensures.applies);
    }

pub returns-clause-wider : goal.returns-clause-wider
returns-clause-wider c =
    let i = c.loop-option.invariant in
    let same = ap (λ ns. slice_index ns c.variable-variable.result) i.grows.arities in
    widens-all i.grows c.requires.own c.variable-variable.ensures.variable (omega (arith, c.variable-variable.ensures.variable, c.requires.inner, ap length i.grows.arities))
    (omega (arith, c.loop-option-test.false, c.loop-option.auto.option-end, c.arity-option-end.ensures, same)) i.widens
