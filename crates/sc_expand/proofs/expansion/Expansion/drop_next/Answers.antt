use Rattle.std.proofs.Common.{vec_len, ap, refl, sym, ◌∙◌}
use Rattle.sc_expand.proofs.Rests.{dropped-argument, dropped-call, dropped-token, none-popped}
use Rattle.sc_expand.proofs.TakingSteps.{on-ok}
use Rattle.sc_expand.proofs.expansion.Expansion.drop_next.Goals as goal

pub returns-then-is_some-clause-dropped : goal.returns-then-is_some-clause-dropped
returns-then-is_some-clause-dropped g c = dropped-call c.args.self.now _ c.pop.result c.pop.ensures.items (sym c.is_some.ensures ∙ c.if-is_some.true) refl refl refl refl

pub returns-then-is_some-2-clause-dropped : goal.returns-then-is_some-2-clause-dropped
returns-then-is_some-2-clause-dropped g c = on-ok c.drop_first.result (λ drops.
    let none = none-popped c.args.self.now.top.calls.items c.pop.new.self.items (vec_len c.args.self.now.top.calls) (vec_len c.pop.new.self) c.pop.result c.pop.ensures.items c.pop.ensures.rest c.pop.ensures.cases (sym c.is_some.ensures ∙ c.if-is_some.false) in
    dropped-token c.args.self.now _ c.first.result (record { before = none.before; after = ap (λ v. v.items) drops.calls ∙ none.after }) c.first.ensures (sym c.is_some-2.ensures ∙ c.if-is_some-2.true) drops.work drops.out drops.below drops.rest)
    c.drop_first.ensures.drops

pub returns-in-Some-clause-dropped : goal.returns-in-Some-clause-dropped
returns-in-Some-clause-dropped g c =
    let none = none-popped c.args.self.now.top.calls.items c.pop.new.self.items (vec_len c.args.self.now.top.calls) (vec_len c.pop.new.self) c.pop.result c.pop.ensures.items c.pop.ensures.rest c.pop.ensures.cases (sym c.is_some.ensures ∙ c.if-is_some.false) in
    dropped-argument c.args.self.now _ c.pop.new.self.items c.first.result c.in-Some.enclosing none c.first.ensures (sym c.is_some-2.ensures ∙ c.if-is_some-2.false) c.in-Some.ensures.items refl refl
