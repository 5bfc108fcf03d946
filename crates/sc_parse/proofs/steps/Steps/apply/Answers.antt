use Rattle.std.proofs.Common.{◌≡◌, ◌⊎◌, Bool, true, false, [], ◌∷◌, ◌++◌, inl, inr, ap, ◌∙◌, sym, refl}
use Rattle.std.proofs.lemmas.Bool.{true≢false}
use Rattle.sc_parse.proofs.EventLemmas.{event-ended, event-run, event-step, events-more, run-stands-seen}
use Rattle.sc_fork.specs.Cores.{event_of}
use Rattle.sc_merge.specs.Merges.{tables_with}
use Rattle.sc_parse.proofs.steps.Steps.apply.Goals as goal

still-usable : (old new : Bool) (stops : Type 0) → (new ≡ true → stops ⊎ (old ≡ true)) → (stops → ⊥) → old ≡ false → new ≡ false
still-usable old true stops why goes was = elim (why refl) [ inl h ↦ absurd (goes h) | inr h ↦ absurd (true≢false (sym h ∙ was)) ]
still-usable old false stops why goes was = refl

pub unreachable-requires : goal.unreachable-requires
unreachable-requires g c = c.requires.enabled c.in-Err-NotEnabled.field-0-0 (c.in-Err-NotEnabled.ensures.not_enabled c.in-Err-NotEnabled.field-0-0 (cc))

pub returns-in_ok-push-in-Ok-clause-step : goal.returns-in_ok-push-in-Ok-clause-step
returns-in_ok-push-in-Ok-clause-step g c = λ names files input first run.
    let s = g.C.Conditions.sets in
    let w = tables_with (s c.args.conds.now) c.args.trees.now names files in
    let v = tables_with (s c.apply.new.conds) c.apply.new.trees names files in
    let applied = c.in-Ok.ensures.applied names files input run.last run.is (run-stands-seen w input first c.args.self.now run) in
    event-step w v input first c.args.self.now c.args.event (record { core = c.apply.new.self; events = c.push.new.self }) c.in-Ok.applied.made.items run applied

pub returns-in_ok-push-in-Ok-clause-goes_on : goal.returns-in_ok-push-in-Ok-clause-goes_on
returns-in_ok-push-in-Ok-clause-goes_on g c = λ place before.
    let s = g.C.Conditions.sets in
    let old = c.args.self.now in
    let added = c.in_ok-push-in-Ok.ensures.items ∙ ap (λ event. old.events.items ++ event ∷ []) c.in_ok-packed-in-Ok.ensures in
    record {
      keeps = c.apply.ensures.keeps;
      grows = c.apply.ensures.grows;
      branches = c.apply.ensures.branches;
      own = record { core = c.apply.ensures.own; usable = still-usable old.core.is_given_up c.apply.new.self.is_given_up _ c.in-Ok.ensures.memory.0 (λ e. (cc)) c.requires.own.usable };
      source = c.apply.ensures.source;
      leaves = c.apply.ensures.leaves;
      run = λ names files input first run.
          let w = tables_with (s c.args.conds.now) c.args.trees.now names files in
          let v = tables_with (s c.apply.new.conds) c.apply.new.trees names files in
          let applied = c.in-Ok.ensures.applied names files input run.last run.is (run-stands-seen w input first old run) in
          event-run w v input first old c.args.event (record { core = c.apply.new.self; events = c.push.new.self }) c.in-Ok.applied.made.items run applied added;
      ended = λ names files input first run within ended.
          let w = tables_with (s c.args.conds.now) c.args.trees.now names files in
          let v = tables_with (s c.apply.new.conds) c.apply.new.trees names files in
          let applied = c.in-Ok.ensures.applied names files input run.last run.is (run-stands-seen w input first old run) in
          event-ended w v input first old c.args.event (record { core = c.apply.new.self; events = c.push.new.self }) c.in-Ok.applied.made.items run applied place before within ended;
      sound = λ names files input first run sound.
          let w = tables_with (s c.args.conds.now) c.args.trees.now names files in
          c.apply.ensures.choices names files input run.last run.is (run-stands-seen w input first old run) sound;
      more = event_of c.args.event ∷ [];
      events = events-more old.events.items c.args.event c.push.new.self.items added;
    }
