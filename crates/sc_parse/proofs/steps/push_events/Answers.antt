use Rattle.std.proofs.Common.{◌++◌, ◌∷◌, [], ap, sym, ◌∙◌, append-nil}
use Rattle.std.proofs.lemmas.List.{take_all}
use Rattle.sc_fork.specs.Bundles.{events_of}
use Rattle.sc_parse.proofs.EventLemmas.{event-pushed}
use Rattle.sc_parse.proofs.steps.push_events.Goals as goal

pub loop-number-init : goal.loop-number-init
loop-number-init c = sym (append-nil _)

pub loop-number-preserved : goal.loop-number-preserved
loop-number-preserved c =
    event-pushed c.args.kind c.args.events.now.items c.loop-number.events.items c.push.new.self.items c.args.members.now c.loop-number.number-index c.event_of.result c.loop-number-test.true
    c.loop-number.invariant c.event_of.ensures (c.in_ok-push.ensures.items ∙ ap (λ event. c.loop-number.events.items ++ event ∷ []) c.in_ok-packed.ensures)

pub returns : goal.returns
returns c = c.loop-number.invariant ∙ ap (λ ms. c.args.events.now.items ++ events_of c.args.kind ms) (take_all c.loop-number.number-index c.args.members.now c.loop-number-test.false)
