-- A reduction that the core did in place is an event of the run.
use Rattle.std.proofs.Common.{◌≡◌, ℕ, List, [], ◌∷◌, ◌++◌, Option, slice_get, ap, ◌∙◌, subst, sym}
use Rattle.sc_fork.specs.declared.event.Event.{Event}
use Rattle.sc_fork.specs.declared.event.Event.TheVariants.{Reduce}
use Rattle.sc_fork.specs.Bundles.{IsDone}
use Rattle.sc_fork.specs.Cores.{event_of}
use Rattle.sc_fork.specs.Enabled.{Has}
use Rattle.sc_fork.specs.Pieces.{HasMade}
use Rattle.sc_fork.specs.View.{View}
use Rattle.sc_merge.specs.declared.subparser.Subparser.{Subparser}
use Rattle.sc_merge.specs.Merges.{tables_with}
use Rattle.sc_model.specs.Sets.{Sets}
use Rattle.sc_parse.proofs.EventLemmas.{event-ended, event-run, events-more, run-stands-seen}
use Rattle.sc_parse.proofs.WeightLemmas.{given-first, made-few}
use Rattle.sc_parse.specs.declared.steps.Steps.{Steps}
use Rattle.sc_parse.specs.Numbers.{given}
use Rattle.sc_parse.specs.Runs.{GoesOn, IsBefore}
use Rattle.sc_tree.specs.Lines.{Line}

-- the event is the last one of the run
pub done-goes-on : (sets new : Sets) (lines added : List Line) (before after : Steps) (event : Event) (made : List ℕ) (place : ℕ)
    → IsDone sets new lines added before.core event after.core made
    → after.events.items ≡ before.events.items ++ event ∷ [] → IsBefore before.core.subparsers place event → GoesOn sets new lines added place before after
done-goes-on sets new lines added before after event made place done pushed stands = record {
  keeps = done.leads.keeps;
  grows = done.leads.grows;
  branches = done.branches;
  own = record { core = done.own; usable = done.usable };
  source = done.leads.source;
  leaves = done.leads.leaves;
  run = λ names files input first run.
      let w = tables_with sets lines names files in
      let applied = done.applied names files input run.last run.is (run-stands-seen w input first before run) in
      event-run w (tables_with new added names files) input first before event after made run applied pushed;
  ended = λ names files input first run within ended.
      let w = tables_with sets lines names files in
      let applied = done.applied names files input run.last run.is (run-stands-seen w input first before run) in
      event-ended w (tables_with new added names files) input first before event after made run applied place stands within ended;
  sound = λ names files input first run sound.
      let w = tables_with sets lines names files in
      done.choices names files input run.last run.is (run-stands-seen w input first before run) sound;
  more = event_of event ∷ [];
  events = events-more before.events.items event after.events.items pushed;
}

-- the first of the numbers is all that a reduction makes
pub made-first : (before after : View) (n : ℕ) (made : List ℕ) (found : Option ℕ) (s : Subparser)
    → HasMade before (Reduce n) after made → Has before.subparsers n s → found ≡ slice_get made 0 → HasMade before (Reduce n) after (given found)
made-first before after n made found s has there first =
    subst (HasMade before (Reduce n) after) (sym (ap given first ∙ given-first made (made-few before after n made s has there))) has
