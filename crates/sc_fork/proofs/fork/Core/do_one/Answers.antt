use Rattle.std.proofs.Common.{Err, inl, subst, ap, sym, ◌∙◌}
use Rattle.std.proofs.lemmas.Bool.{true≢false}
use Rattle.sc_fork.proofs.BundleLemmas.{is-memory, not-refused, still-usable}
use Rattle.sc_fork.specs.Bundles.{IsDone, event_by}
use Rattle.sc_fork.proofs.fork.Core.do_one.Goals as goal

pub returns-in-Ok-clause-done : goal.returns-in-Ok-clause-done
returns-in-Ok-clause-done g c =
    let s = g.C.Conditions.sets in
    subst (λ e. IsDone (s c.args.conds.now) (s c.apply.new.conds) c.args.trees.now c.apply.new.trees c.args.self.now e c.apply.new.self c.in-Ok.applied.made.items) c.event.ensures
    (record {
      applied = c.in-Ok.ensures.applied;
      rows = c.in-Ok.ensures.rows;
      choices = c.apply.ensures.choices;
      adds = c.apply.ensures.adds;
      leads = record { leaves = c.apply.ensures.leaves; source = c.apply.ensures.source; keeps = c.apply.ensures.keeps; grows = c.apply.ensures.grows };
      own = c.apply.ensures.own;
      branches = c.apply.ensures.branches;
      usable = still-usable c.args.self.now.is_given_up c.apply.new.self.is_given_up _ c.in-Ok.ensures.memory.0 (λ e. (cc)) c.requires.usable;
    })

pub returns-in-Err-clause-given_up : goal.returns-in-Err-clause-given_up
returns-in-Err-clause-given_up g c =
    let core = c.args.self.now in
    let can = c.requires.can in
    c.in-Err.ensures.memory.1
    (inl (ap Err (is-memory c.in-Err.field-0
    (λ fact is. not-refused core.source core.subparsers c.args.kind c.args.number can.0 fact can.1 (rw c.event.ensures at (c.in-Err.ensures.not_enabled fact (ap Err is))))
    (λ is. true≢false (sym (c.in-Err.ensures.given_up.0 (ap Err is)) ∙ c.requires.usable)))))

pub returns-in-Ok-clause-adds : goal.returns-in-Ok-clause-adds
returns-in-Ok-clause-adds g c = λ is. c.apply.ensures.adds c.args.number (c.event.ensures ∙ ap (λ kind. event_by kind c.args.number) is)

pub returns-in-Err-clause-adds : goal.returns-in-Err-clause-adds
returns-in-Err-clause-adds g c = λ is. c.apply.ensures.adds c.args.number (c.event.ensures ∙ ap (λ kind. event_by kind c.args.number) is)
