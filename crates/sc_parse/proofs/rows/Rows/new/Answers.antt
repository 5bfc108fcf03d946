use Rattle.std.proofs.Common.{[], refl, All, ap, arith, length, length-append, subst, sym, ◌∷◌}
use Rattle.std.proofs.lemmas.List.Elements.{All-push}
use Rattle.sc_parse.proofs.RowLemmas.{IsEmpty, no-numbers, empty-filed}
use Rattle.sc_parse.proofs.rows.Rows.new.Goals as goal

pub loop-preserved : goal.loop-preserved
loop-preserved c = record {
  empty = subst (All IsEmpty) (sym c.in_ok-push.ensures.items) (All-push IsEmpty c.loop.rows.items c.new.result c.loop.invariant.empty c.new.ensures.items);
  long = omega (arith, ap length c.in_ok-push.ensures.items, length-append c.loop.rows.items (c.new.result ∷ []), c.loop.invariant.long);
}

all-empty : (c : goal.In_ok-push-2) → All IsEmpty c.push-2.new.self.items
all-empty c = subst (All IsEmpty) (sym c.in_ok-push-2.ensures.items) (All-push IsEmpty c.loop.rows.items c.new-2.result c.loop.invariant.empty c.new-2.ensures.items)

pub returns-clause-numbers : goal.returns-clause-numbers
returns-clause-numbers c = no-numbers c.push-2.new.self.items (all-empty c)

pub returns-clause-filed : goal.returns-clause-filed
returns-clause-filed c = λ subparsers. empty-filed subparsers (record { rows = c.push-2.new.self; count = 0; branches = c.args.branches }) (all-empty c) refl

pub returns-clause-long : goal.returns-clause-long
returns-clause-long c =
    omega (arith, ap length c.in_ok-push-2.ensures.items, length-append c.loop.rows.items (c.new-2.result ∷ []), c.loop.invariant.long, c.loop-test.false, c.loop.auto.counter-end)
