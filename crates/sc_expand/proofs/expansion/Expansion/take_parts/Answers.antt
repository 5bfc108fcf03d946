use Rattle.std.proofs.Common.{◌≡◌, ◌∙◌, ℕ, List, Some, ap, true, sym, subst, IfSome, slice_get}
use Rattle.sc_expand.proofs.AlikeTaking.{function-earlier}
use Rattle.sc_expand.proofs.Facts.{IfSome_then, IsConfig-kept, IsHeldDefinition-Extends, Keeps-trans, err_from_is_err_and, slice_get-get_or, take_all}
use Rattle.sc_expand.proofs.SeenLemmas.{Grows-refl, Grows-trans, seen_hidden-Grows, token-Grows}
use Rattle.sc_expand.proofs.GatherEnds.{stops-earlier}
use Rattle.sc_expand.proofs.TakingParts.{none-taken, part-taken}
use Rattle.sc_expand.proofs.TakingSteps.{none-before}
use Rattle.sc_expand.proofs.Terms.{AreTaken, Grows, IsBegun, IsCond, IsFunction, IsHeldDefinition, TakesPart, is_looked_up, seen_hidden, step_at, stores}
use Rattle.sc_expand.proofs.expansion.Expansion.take_parts.Goals as goal

pub take_part-requires-clause-name : goal.take_part-requires-clause-name
take_part-requires-clause-name g c = subst (λ t. is_looked_up t ≡ true) (sym (seen_hidden-Grows c.loop-part.invariant.grows c.args.head c.requires.head)) c.requires.name

pub take_part-requires-clause-begun : goal.take_part-requires-clause-begun
take_part-requires-clause-begun g c = λ x listed has.
    let s = g.C.Conditions.sets c.args.conds.now in
    let part = c.part-item.result in
    let was = c.loop-part.invariant in
    let first = IsConfig-kept was.grows.sets listed in
    let own : IsCond s part.0.0 = subst (λ p. IsCond s p.0.0) (sym c.part-item.is) (c.requires.own c.loop-part.part-index part c.loop-part-test.true) in
    let none = none-before s c.args.parts.now c.loop-part.part-index part x c.loop-part-test.true c.part-item.is (sym (was.grows.sets.at part.0.0 x own first) ∙ has) (c.requires.one x first) in
    let t = seen_hidden c.args.names.now c.args.self.now.sets c.args.head in
    subst (IsBegun (seen_hidden c.loop-part.names c.loop-part.self.sets c.args.head)) (sym (was.done.others x first none.0))
    (subst (λ u. IsBegun u (step_at (stores s c.args.names.now c.args.self.now.sets) c.args.self.now c.args.taken.now x)) (sym (seen_hidden-Grows was.grows c.args.head c.requires.head)) (c.requires.begun x first none.1))

pub take_part-requires-clause-first : goal.take_part-requires-clause-first
take_part-requires-clause-first g c = ap (λ l. slice_get l 0) c.loop-part.invariant.done.lists.tokens ∙ c.requires.first

pub take_part-requires-clause-head : goal.take_part-requires-clause-head
take_part-requires-clause-head g c = token-Grows c.loop-part.invariant.grows c.args.head c.requires.head

pub loop-part-preserved : goal.loop-part-preserved
loop-part-preserved g c =
    let s0 = g.C.Conditions.sets c.args.conds.now in
    let was = c.loop-part.invariant in
    let ensures = c.in_ok-take_part.ensures in
    let step : Grows (stores (g.C.Conditions.sets c.loop-part.conds) c.loop-part.names c.loop-part.self.sets) (stores (g.C.Conditions.sets c.take_part.new.conds) c.take_part.new.names c.take_part.new.self.sets) =
    record { sets = ensures.keeps; names = ensures.names; hides = ensures.sets } in
    record {
      grows = Grows-trans was.grows step;
      done = part-taken c.args.parts.now c.loop-part.part-index c.part-item.result c.loop-part-test.true c.part-item.is was.grows c.requires.head c.requires.held.top.work
          (subst (λ p. IsCond s0 p.0.0) (sym c.part-item.is) (c.requires.own c.loop-part.part-index c.part-item.result c.loop-part-test.true))
          (subst (λ p. IfSome p.1 (λ shared. IsHeldDefinition c.args.names.now shared.value)) (sym c.part-item.is) (c.requires.definitions c.loop-part.part-index c.part-item.result c.loop-part-test.true))
          c.requires.one was.done ensures.taken;
    }

pub take_part-requires-clause-definition : goal.take_part-requires-clause-definition
take_part-requires-clause-definition g c =
    let named = c.requires.definitions c.loop-part.part-index c.part-item.result c.loop-part-test.true in
    IfSome_then c.part-item.result.1 (subst (λ p. IfSome p.1 (λ shared. IsHeldDefinition c.args.names.now shared.value)) (sym c.part-item.is) named)
    (λ shared held. IsHeldDefinition-Extends c.loop-part.invariant.grows.names shared.value held)

pub loop-part-init : goal.loop-part-init
loop-part-init g c =
    let st = stores (g.C.Conditions.sets c.args.conds.now) c.args.names.now c.args.self.now.sets in
    record { grows = Grows-refl st; done = none-taken c.args.self.now c.args.taken.now c.args.head c.requires.held c.requires.taken }

pub returns-in_err-take_part-clause-stops : goal.returns-in_err-take_part-clause-stops
returns-in_err-take_part-clause-stops g c =
    let p = err_from_is_err_and c.from_residual.result c.from_residual.ensures.1 in
    let s = g.C.Conditions.sets c.args.conds.now in
    let mid = g.C.Conditions.sets c.loop-part.conds in
    let parts = c.args.parts.now in
    let part = c.part-item.result in
    let was = c.loop-part.invariant in
    let within = c.loop-part-test.true in
    let own : IsCond s part.0.0 = subst (λ p. IsCond s p.0.0) (sym c.part-item.is) (c.requires.own c.loop-part.part-index part within) in
    let definition = subst (λ p. IfSome p.1 (λ shared. IsHeldDefinition c.args.names.now shared.value)) (sym c.part-item.is) (c.requires.definitions c.loop-part.part-index part within) in
    let One : List ℕ → Type 0 = λ x. (mid.has part.0.0 x ≡ true) × IsFunction c.loop-part.names part.1 in
    let All : List ℕ → Type 0 = λ x. TakesPart s c.args.names.now parts x in
    rw (p.1, p.2) (stops-earlier One All c.args.self.now.top.work c.loop-part.self.top.work c.args.limit _ was.grows c.requires.held.top.work was.done.lists.tokens
    (λ x listed takes.
    let first = IsConfig-kept was.grows.sets listed in
    let here : s.has part.0.0 x ≡ true = sym (was.grows.sets.at part.0.0 x own first) ∙ takes.0 in
    let none = none-before s parts c.loop-part.part-index part x within c.part-item.is here (c.requires.one x first) in (
      record {
        part = part;
        among = (c.loop-part.part-index, slice_get-get_or parts c.loop-part.part-index part within ∙ ap (λ p. Some p) (sym c.part-item.is));
        has = here;
        function = function-earlier was.grows.names part.1 definition takes.1;
      },
      was.done.others_each x first none.0,
    )) c.in_err-take_part.ensures.stops)

pub returns-clause-done : goal.returns-clause-done
returns-clause-done g c =
    let old = stores (g.C.Conditions.sets c.args.conds.now) c.args.names.now c.args.self.now.sets in
    let st = stores (g.C.Conditions.sets c.loop-part.conds) c.loop-part.names c.loop-part.self.sets in
    subst (AreTaken c.args.files.now old st c.args.self.now c.loop-part.self c.args.taken.now c.loop-part.taken c.args.head) (take_all c.loop-part.part-index c.args.parts.now c.loop-part-test.false) c.loop-part.invariant.done

pub returns-in_err-take_part-clause-keeps : goal.returns-in_err-take_part-clause-keeps
returns-in_err-take_part-clause-keeps g c = Keeps-trans c.loop-part.invariant.grows.sets c.take_part.ensures.keeps
