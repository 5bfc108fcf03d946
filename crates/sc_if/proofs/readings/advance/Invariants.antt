use Rattle.std.proofs.Common.{◌≡◌, ℕ, ◌≤◌, ◌++◌, All, List, Option, map, length, option_map}
use Rattle.std.specs.Vec.Iter.{into_iter_items, into_iter_len}
use Rattle.sc_base.specs.declared.id.Cond.{Cond}
use Rattle.sc_hoist.specs.Alike.{AreAlike}
use Rattle.sc_if.specs.declared.reading.Reading.{Reading}
use Rattle.sc_if.specs.Readings.{HaveRead, all_of, moved, readings_at}
use Rattle.sc_if.specs.Symbols.{seen_symbol}
use Rattle.sc_model.specs.Sets.{IsCond, IsConfig, Keeps}
use Rattle.sc_if.proofs.readings.advance.Given as goal

abbrev pub invariant-loop-reading : goal.invariant-loop-reading
invariant-loop-reading g l =
    let old = g.C.Conditions.sets l.fn.conds in
    let now = g.C.Conditions.sets l.conds in
    let symbol = option_map seen_symbol l.symbol in
    record {
      can : (goal.iterator-loop-reading g).can_next l.reading-iterator;
      finite : (goal.iterator-loop-reading g).is_finite l.reading-iterator;
      long : into_iter_len l.reading-iterator ≡ length (into_iter_items l.reading-iterator);
      keeps : Keeps old now;
      own : All (λ (x : Cond × Option Reading). IsCond now x.0.0) (all_of l.next);
      read : HaveRead now l.item.0 l.next.moved.items;
      rest : All (λ (x : Cond × Option Reading). IsCond old x.0.0) (into_iter_items l.reading-iterator);
      at : (c : List ℕ) → IsConfig old.arities c → length (readings_at old l.fn.readings.items c) ≤ 1
          → readings_at now (all_of l.next) c ++ map (moved (old.has l.item.0 c) symbol) (readings_at old (into_iter_items l.reading-iterator) c)
          ≡ map (moved (old.has l.item.0 c) symbol) (readings_at old l.fn.readings.items c);
      alike : (a b : List ℕ) → IsConfig old.arities a → IsConfig old.arities b → old.has l.item.0 a ≡ old.has l.item.0 b
          → AreAlike old a b l.fn.readings.items → AreAlike now a b (all_of l.next) × AreAlike old a b (into_iter_items l.reading-iterator);
    }
