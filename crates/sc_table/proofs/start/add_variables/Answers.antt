use Rattle.std.proofs.Common.{◌≡◌, ◌-◌, ◌<◌, ℕ, map, length, drop, sym, subst, arith}
use Rattle.std.proofs.lemmas.List.{length-map}
use Rattle.std.proofs.lemmas.List.Elements.{All-get_or}
use Rattle.std.specs.Map.{update}
use Rattle.std.specs.Option.{option_and_then}
use Rattle.std.specs.Prelude.{slice_get, slice_index}
use Rattle.c11_macros.specs.Macros.{definition_of, variable_definition}
use Rattle.sc_base.proofs.Growth.{Extends-refl, Extends-trans}
use Rattle.sc_model.specs.Bytes.{same_bytes}
use Rattle.sc_model.specs.Space.{Variable}
use Rattle.sc_space.specs.Seen.{seen_variable}
use Rattle.sc_space.specs.Sound.{IsSoundVariable}
use Rattle.sc_table.specs.Start.{IsStarted}
use Rattle.sc_table.proofs.Starting.{no_variable, seen-at, variables-step, variables-none, wide-at}
use Rattle.sc_table.proofs.start.add_variables.Goals as goal

pub loop-left-init : goal.loop-left-init
loop-left-init c = record {
  within = omega arith;
  grows = Extends-refl c.args.names.now;
  started = variables-none (map seen_variable c.args.variables.now) c.args.names.now c.args.table.now (length c.args.variables.now) (length-map c.args.variables.now seen_variable) c.requires.empty;
}

pub loop-left-preserved : goal.loop-left-preserved
loop-left-preserved c =
    let vs = map seen_variable c.args.variables.now in
    let i = c.loop-left.left - 1 in
    let x = c.index-variables-left.result in
    let test = c.loop-left-test.true in
    let within : i < length c.args.variables.now = omega (arith, test, c.loop-left.invariant.within) in
    let seen = seen-at c.args.variables.now i x within c.index-variables-left.is in
    record {
      within = omega (arith, c.loop-left.invariant.within);
      grows = Extends-trans c.loop-left.invariant.grows c.in_ok-add_variable.ensures.grows;
      started =
          variables-step vs c.add_variable.new.names c.add_variable.new.table c.loop-left.left i (omega (arith, test)) (omega (arith, within, length-map c.args.variables.now seen_variable))
          (subst (λ (v : Variable). IsStarted (map (λ v. length v.options) vs) c.add_variable.new.names c.add_variable.new.table
          (λ config. update same_bytes (variable_definition (drop c.loop-left.left vs) (drop c.loop-left.left config)) v.name (option_and_then definition_of (slice_get v.options (slice_index config i))))) seen
          (c.in_ok-add_variable.ensures.added (map (λ v. length v.options) vs) (λ config. variable_definition (drop c.loop-left.left vs) (drop c.loop-left.left config)) c.loop-left.invariant.started
          (omega (arith, within, length-map vs (λ (v : Variable). length v.options), length-map c.args.variables.now seen_variable))
          (wide-at c.args.variables.now i x within c.index-variables-left.is)));
    }

pub returns-clause-started : goal.returns-clause-started
returns-clause-started c =
    let vs = map seen_variable c.args.variables.now in
    let none : c.loop-left.left ≡ 0 = omega (arith, c.loop-left-test.false) in
    subst (λ (n : ℕ). IsStarted (map (λ v. length v.options) vs) c.loop-left.names c.loop-left.table (λ config. variable_definition (drop n vs) (drop n config))) none c.loop-left.invariant.started
