use Rattle.std.proofs.Common.{subst, sym, option_map}
use Rattle.std.proofs.lemmas.Result.{on_ok_weaker}
use Rattle.sc_if.proofs.PutLemmas.{Entry, all-parts, HaveRead-Keeps, moved-none, parted-one, put-front}
use Rattle.sc_if.specs.Readings.{ArePartedBy, seen_reading}
use Rattle.sc_if.specs.Symbols.{seen_symbol}
use Rattle.sc_model.specs.Sets.{IsCond}
use Rattle.sc_if.proofs.readings.Readings.part.Goals as goal

pub put-requires-clause-own : goal.put-requires-clause-own
put-requires-clause-own g c =
    let Own : Entry → Type 0 = λ x. IsCond (g.C.Conditions.sets c.args.conds.now) x.0.0 in
    (all-parts Own c.args.self.now.left.items c.args.self.now.moved.items c.requires.own).0

pub returns-in-Some : goal.returns-in-Some
returns-in-Some g c =
    let s = g.C.Conditions.sets c.args.conds.now in
    let now = g.C.Conditions.sets c.divide.new.conds in
    record {
      parted = on_ok_weaker c.divide.result
          (λ p. subst (λ r. ArePartedBy s now c.args.item.0 (option_map seen_symbol c.args.symbol) c.args.cond.0 (seen_reading r) c.args.self.now c.divide.new.self) (sym c.in-Some.is) p) c.divide.ensures.parted;
      keeps = c.divide.ensures.keeps;
    }

pub returns-in-None : goal.returns-in-None
returns-in-None g c =
    let s = g.C.Conditions.sets c.args.conds.now in
    let now = g.C.Conditions.sets c.put.new.conds in
    let left = c.args.self.now.left.items in
    let moved = c.args.self.now.moved.items in
    let Own : Entry → Type 0 = λ x. IsCond s x.0.0 in
    let own = all-parts Own left moved c.requires.own in
    let symbol = option_map seen_symbol c.args.symbol in
    record {
      parted = on_ok_weaker c.put.result
          (λ p. subst (λ r. ArePartedBy s now c.args.item.0 symbol c.args.cond.0 (seen_reading r) c.args.self.now (record c.args.self.now { left = c.put.new.readings })) (sym c.in-None.is)
          (parted-one (λ x listed has. moved-none (s.has c.args.item.0 x) symbol) (λ were. HaveRead-Keeps c.put.ensures.keeps moved own.1 were) (put-front c.put.ensures.keeps left c.put.new.readings.items moved own.1 p))) c.put.ensures.put;
      keeps = c.put.ensures.keeps;
    }
