use Rattle.std.proofs.Common.{◌≡◌, refl, sym, ◌∙◌, rules}
use Rattle.std.proofs.lemmas.Result.{err_from_is_err_and}
use Rattle.sc_fork.proofs.EnabledLemmas.{merge_missing, merge_missing_other, merge_same, not_true}
use Rattle.sc_fork.specs.Enabled.{can_merge, other_phase, other_states, other_levels}
use Rattle.sc_fork.proofs.enabled.mergeable.Goals as goal

pub returns-in_err-left-clause-err : goal.returns-in_err-left-clause-err
returns-in_err-left-clause-err c = λ source.
    let p = err_from_is_err_and c.from_residual.result c.from_residual.ensures.1 in
    rw (p.1, p.2) (merge_missing source c.args.rows.now c.args.number c.args.other c.in_err-left.field-0.0 c.in_err-left.ensures.err)

pub returns-in_err-right-clause-err : goal.returns-in_err-right-clause-err
returns-in_err-right-clause-err c = λ source.
    let p = err_from_is_err_and c.from_residual-in_err-right.result c.from_residual-in_err-right.ensures.1 in
    rw (p.1, p.2) (merge_missing_other source c.args.rows.now c.args.number c.args.other c.in_err-right.field-0.0 c.in_err-right.ensures.err)

pub returns-then-number-other-clause-err : goal.returns-then-number-other-clause-err
returns-then-number-other-clause-err c = λ source. merge_same source c.args.rows.now c.args.number c.args.other c.in_ok-left.left c.if-number-other.true c.in_ok-left.ensures.ok

pub returns-then-ne-clause-err : goal.returns-then-ne-clause-err
returns-then-ne-clause-err c = λ source.
    let has = rw (← c.left.view_is) at c.in_ok-left.ensures.ok in
    let other = rw (← c.right.view_is) at c.in_ok-right.ensures.ok in
    let ne : c.right.inside.phase ≡ c.left.inside.phase → ⊥ = search rules in
    other_phase c.args.number c.args.other _ _ has other c.if-number-other.false ne

pub returns-then-not-same_states-clause-err : goal.returns-then-not-same_states-clause-err
returns-then-not-same_states-clause-err c = λ source.
    let has = rw (← c.left.view_is) at c.in_ok-left.ensures.ok in
    let other = rw (← c.right.view_is) at c.in_ok-right.ensures.ok in
    let phase : c.right.inside.phase ≡ c.left.inside.phase = search rules in
    other_states c.args.number c.args.other _ _ has other c.if-number-other.false phase (λ e. not_true (c.if-not-same_states.ensures.1 (sym e)))

pub returns-then-levels-clause-err : goal.returns-then-levels-clause-err
returns-then-levels-clause-err c = λ source.
    let has = rw (← c.left.view_is) at c.in_ok-left.ensures.ok in
    let other = rw (← c.right.view_is) at c.in_ok-right.ensures.ok in
    let phase : c.right.inside.phase ≡ c.left.inside.phase = search rules in
    other_levels c.args.number c.args.other _ _ has other c.if-number-other.false phase (sym (c.if-not-same_states.ensures.0 refl))
    (λ e. c.if-levels.true (c.levels.ensures ∙ sym e ∙ sym c.levels-2.ensures))

pub returns-clause-ok : goal.returns-clause-ok
returns-clause-ok c = λ source.
    let has = rw (← c.left.view_is) at c.in_ok-left.ensures.ok in
    let other = rw (← c.right.view_is) at c.in_ok-right.ensures.ok in
    let phase : c.right.inside.phase ≡ c.left.inside.phase = search rules in
    rw (← c.left.view_is, ← c.right.view_is)
    (can_merge c.args.number c.args.other _ _ has other c.if-number-other.false
    (record { phase = phase; states = sym (c.if-not-same_states.ensures.0 refl); levels = sym c.levels-2.ensures ∙ sym c.if-levels.false ∙ c.levels.ensures }))
