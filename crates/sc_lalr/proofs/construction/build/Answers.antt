use Rattle.std.proofs.Common.{◌≡◌, length, arith, subst}
use Rattle.sc_items.specs.States.{kernels_of}
use Rattle.sc_lalr.proofs.Tabling.{TablesSoFar, TablesSoFar-none, TablesSoFar-step, AreTables-done}
use Rattle.sc_lalr.proofs.construction.build.Goals as goal

pub loop-state-init : goal.loop-state-init
loop-state-init c = rw (c.new-actions.ensures.items, c.new-gotos.ensures.items, c.new-conflicts.ensures.items) (TablesSoFar-none c.args.grammar.now (kernels_of c.args.states.now))

pub loop-state-preserved : goal.loop-state-preserved
loop-state-preserved c = rw (c.in_ok-push.ensures.items, c.in_ok-push-2.ensures.items) (TablesSoFar-step c.args.grammar.now (kernels_of c.args.states.now) c.loop-state.state c.loop-state.actions.items c.loop-state.gotos.items c.loop-state.conflicts.items c.action_row.new.conflicts.items c.in_ok-action_row.field-0 c.in_ok-goto_row.field-0 c.loop-state.invariant c.in_ok-action_row.ensures.actions c.in_ok-goto_row.ensures c.in_ok-action_row.ensures.conflicts)

pub returns : goal.returns
returns c =
    let e : c.loop-state.state ≡ length (kernels_of c.args.states.now) = omega (arith, c.len-state-end.ensures) in
    AreTables-done c.args.grammar.now (kernels_of c.args.states.now) (record { actions = c.loop-state.actions; gotos = c.loop-state.gotos; conflicts = c.loop-state.conflicts }) c.requires.states.exact (subst (λ n. TablesSoFar c.args.grammar.now (kernels_of c.args.states.now) n c.loop-state.actions.items c.loop-state.gotos.items c.loop-state.conflicts.items) e c.loop-state.invariant)
