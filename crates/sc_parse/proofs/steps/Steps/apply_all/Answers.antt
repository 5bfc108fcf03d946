use Rattle.std.proofs.Common.{map, refl}
use Rattle.sc_fork.specs.Bundles.{events_of}
use Rattle.sc_fork.specs.Cores.{event_of}
use Rattle.sc_merge.specs.Merges.{tables_with}
use Rattle.sc_fork.proofs.BundleLemmas.{still-usable}
use Rattle.sc_parse.proofs.DoneLemmas.{done-ended, not-first-refused}
use Rattle.sc_parse.proofs.EventLemmas.{all-run, events-append, run-stands-seen}
use Rattle.sc_parse.specs.declared.steps.Steps.{Steps}
use Rattle.sc_parse.proofs.steps.Steps.apply_all.Goals as goal

pub unreachable-requires : goal.unreachable-requires
unreachable-requires g c =
    not-first-refused c.args.self.now.core.source c.args.self.now.core.subparsers c.args.kind c.args.members.now c.in-Err-NotEnabled.field-0-0
    (c.in-Err-NotEnabled.ensures.not_enabled c.in-Err-NotEnabled.field-0-0 (cc)) c.requires.enabled

pub returns-in_ok-push_events-in-Ok-clause-goes_on : goal.returns-in_ok-push_events-in-Ok-clause-goes_on
returns-in_ok-push_events-in-Ok-clause-goes_on g c = λ place numbers before.
    let s = g.C.Conditions.sets in
    let old = c.args.self.now in
    let events = events_of c.args.kind c.args.members.now in
    let after : Steps = record { core = c.apply_all.new.self; events = c.push_events.new.events } in
    record {
      keeps = c.apply_all.ensures.leads.keeps;
      grows = c.apply_all.ensures.leads.grows;
      branches = c.apply_all.ensures.branches;
      own = record { core = c.apply_all.ensures.own; usable = still-usable old.core.is_given_up c.apply_all.new.self.is_given_up _ c.in-Ok.ensures.memory.0 (λ e. (cc)) c.requires.own.usable };
      source = c.apply_all.ensures.leads.source;
      leaves = c.apply_all.ensures.leads.leaves;
      run = λ names files input first run.
          let w = tables_with (s c.args.conds.now) c.args.trees.now names files in
          let v = tables_with (s c.apply_all.new.conds) c.apply_all.new.trees names files in
          all-run w v input first old events after c.in-Ok.applied.made.items run (c.in-Ok.ensures.applied names files input run.last run.is (run-stands-seen w input first old run))
          c.in_ok-push_events-in-Ok.ensures;
      ended = λ names files input first run within ended.
          done-ended c.args.kind old.core names files input place within run.last (s c.args.conds.now) c.args.trees.now events (s c.apply_all.new.conds) c.apply_all.new.trees c.apply_all.new.self
          c.in-Ok.applied.made.items c.in-Ok.ensures.each c.args.members.now refl numbers before run.is
          (run-stands-seen (tables_with (s c.args.conds.now) c.args.trees.now names files) input first old run) ended;
      sound = λ names files input first run sound.
          c.apply_all.ensures.choices names files input run.last run.is (run-stands-seen (tables_with (s c.args.conds.now) c.args.trees.now names files) input first old run) sound;
      more = map event_of events;
      events = events-append old.events.items events c.push_events.new.events.items c.in_ok-push_events-in-Ok.ensures;
    }
