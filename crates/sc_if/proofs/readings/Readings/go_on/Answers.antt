use Rattle.std.proofs.Common.{◌∙◌, sym}
use Rattle.std.proofs.lemmas.Result.{on_ok_weaker}
use Rattle.sc_if.proofs.PutLemmas.{Entry, HaveRead-Keeps, all-parts, put-back, put-front, some-seen}
use Rattle.sc_model.specs.Sets.{IsCond}
use Rattle.sc_if.proofs.readings.Readings.go_on.Goals as goal

pub put-requires-clause-own : goal.put-requires-clause-own
put-requires-clause-own g c =
    let Own : Entry → Type 0 = λ x. IsCond (g.C.Conditions.sets c.args.conds.now) x.0.0 in
    (all-parts Own c.args.self.now.left.items c.args.self.now.moved.items c.requires.own).1

pub put-requires-else-is_some-clause-own : goal.put-requires-else-is_some-clause-own
put-requires-else-is_some-clause-own g c =
    let Own : Entry → Type 0 = λ x. IsCond (g.C.Conditions.sets c.args.conds.now) x.0.0 in
    (all-parts Own c.args.self.now.left.items c.args.self.now.moved.items c.requires.own).0

pub returns-then-is_some : goal.returns-then-is_some
returns-then-is_some g c =
    let left = c.args.self.now.left.items in
    let moved = c.args.self.now.moved.items in
    let Own : Entry → Type 0 = λ x. IsCond (g.C.Conditions.sets c.args.conds.now) x.0.0 in
    let own = all-parts Own left moved c.requires.own in
    record {
      put = on_ok_weaker c.put.result (put-back c.put.ensures.keeps moved c.put.new.readings.items left own.0) c.put.ensures.put;
      read = on_ok_weaker c.put.result (λ f item within. f item within c.requires.some (some-seen c.args.reading (sym c.is_some.ensures ∙ c.if-is_some.true))) c.put.ensures.read;
      keeps = c.put.ensures.keeps;
    }

pub returns-else-is_some : goal.returns-else-is_some
returns-else-is_some g c =
    let left = c.args.self.now.left.items in
    let moved = c.args.self.now.moved.items in
    let Own : Entry → Type 0 = λ x. IsCond (g.C.Conditions.sets c.args.conds.now) x.0.0 in
    let own = all-parts Own left moved c.requires.own in
    record {
      put = on_ok_weaker c.put-else-is_some.result (put-front c.put-else-is_some.ensures.keeps left c.put-else-is_some.new.readings.items moved own.1) c.put-else-is_some.ensures.put;
      read = on_ok_weaker c.put-else-is_some.result (λ p item within were. HaveRead-Keeps c.put-else-is_some.ensures.keeps moved own.1 were) c.put-else-is_some.ensures.put;
      keeps = c.put-else-is_some.ensures.keeps;
    }
