use Rattle.std.proofs.Common.{◌<◌}
use Rattle.std.specs.BTreeMap.{get}
use Rattle.std.specs.Ordering.{nat_cmp}
use Rattle.std.proofs.lemmas.Map.Views.{All-keys-insert_entry}
use Rattle.sc_tree.proofs.WalkLemmas.{waits-more, waits-own}
use Rattle.sc_tree.proofs.walk.open_tree.Goals as goal

pub returns-clause-opens : goal.returns-clause-opens
returns-clause-opens g c = λ d is.
    waits-more _ _ (get nat_cmp c.args.waiting.now) (get nat_cmp c.insert.new.self) c.args.id.0 c.args.cond c.in_ok-all.all d c.in_ok-insert.ensures.updates.0 c.requires.waiting
    c.joined.ensures.keeps is (rw (← c.get.ensures.value, ← c.copied-others.ensures) (c.in_ok-all.ensures.has d is))

pub returns-clause-own : goal.returns-clause-own
returns-clause-own g c =
    waits-own _ _ (get nat_cmp c.args.waiting.now) (get nat_cmp c.insert.new.self) c.args.id.0 c.in_ok-all.all c.in_ok-insert.ensures.updates.0 c.requires.waiting
    c.joined.ensures.keeps c.in_ok-all.ensures.own

pub returns-clause-below : goal.returns-clause-below
returns-clause-below g c = λ bound below within. rw (c.in_ok-insert.ensures.entries) (All-keys-insert_entry nat_cmp c.args.id.0 c.in_ok-all.all (λ n. n < bound) c.args.waiting.now.entries below within)
