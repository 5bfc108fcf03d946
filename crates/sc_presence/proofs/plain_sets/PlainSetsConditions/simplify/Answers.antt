use Rattle.std.proofs.Common.{◌≡◌, ◌&&◌, ◌∙◌, not, Bool, List, ap, false, true, sym, subst}
use Rattle.sc_model.specs.Sets.{IsConfig}
use Rattle.sc_presence.specs.Plain.{IsPlain, sets_of}
use Rattle.sc_presence.proofs.SetsLemmas.{Denotes-always, Denotes-never, none-pass, not-inside, not-outside, says-either, some-passes}
use Rattle.sc_presence.proofs.plain_sets.PlainSetsConditions.simplify.Goals as goal

abbrev but : Bool → Bool → Bool
but x y = x && not y

pub returns-then-is_none-clause-meaning : goal.returns-then-is_none-clause-meaning
returns-then-is_none-clause-meaning c = λ x listed has.
    let plain = subst IsPlain c.self.view_is c.self.invariant.plain in
    let none = none-pass plain c.args.within.0 c.args.a.0 c.requires.within_own c.requires.a_own but c.deref.result.now (c.deref.ensures.value ∙ (rw (c.row.ensures.row, c.row-2.ensures.row) at c.in_ok-outside.ensures))
    c.first.result (c.is_none.ensures ∙ ap not c.if-is_none.true) c.first.ensures.none in
    (Denotes-always plain).at x listed ∙ sym (not-outside _ _ (none x listed) has)

pub returns-then-is_none-clause-said : goal.returns-then-is_none-clause-said
returns-then-is_none-clause-said c = λ b x at held listed.
    let plain = subst IsPlain c.self.view_is c.self.invariant.plain in
    let all = Denotes-always plain in
    record { config = b; listed = at; held = held; is = sym (returns-then-is_none-clause-meaning c b at held) ∙ all.at b at ∙ sym (all.at x listed) }

pub returns-then-is_none-2-clause-meaning : goal.returns-then-is_none-2-clause-meaning
returns-then-is_none-2-clause-meaning c = λ x listed has.
    let plain = subst IsPlain c.self.view_is c.self.invariant.plain in
    let none = none-pass plain c.args.within.0 c.args.a.0 c.requires.within_own c.requires.a_own ◌&&◌ c.deref-2.result.now (c.deref-2.ensures.value ∙ (rw (c.row-3.ensures.row, c.row-4.ensures.row) at c.in_ok-inside.ensures))
    c.first-2.result (c.is_none-2.ensures ∙ ap not c.if-is_none-2.true) c.first-2.ensures.none in
    (Denotes-never plain).at x listed ∙ sym (not-inside _ _ (none x listed) has)

pub returns-then-is_none-2-clause-said : goal.returns-then-is_none-2-clause-said
returns-then-is_none-2-clause-said c = λ b x at held listed.
    let plain = subst IsPlain c.self.view_is c.self.invariant.plain in
    let none = Denotes-never plain in
    record { config = b; listed = at; held = held; is = sym (returns-then-is_none-2-clause-meaning c b at held) ∙ none.at b at ∙ sym (none.at x listed) }

pub returns-clause-said : goal.returns-clause-said
returns-clause-said c = λ b x at held listed.
    let plain = subst IsPlain c.self.view_is c.self.invariant.plain in
    says-either {s = sets_of c.args.self.now} {a = c.args.a.0} {within = c.args.within.0}
    (some-passes plain c.args.within.0 c.args.a.0 c.requires.within_own c.requires.a_own but c.deref.result.now (c.deref.ensures.value ∙ (rw (c.row.ensures.row, c.row-2.ensures.row) at c.in_ok-outside.ensures))
    c.first.result (c.is_none.ensures ∙ ap not c.if-is_none.false) c.first.ensures.some)
    (some-passes plain c.args.within.0 c.args.a.0 c.requires.within_own c.requires.a_own ◌&&◌ c.deref-2.result.now (c.deref-2.ensures.value ∙ (rw (c.row-3.ensures.row, c.row-4.ensures.row) at c.in_ok-inside.ensures))
    c.first-2.result (c.is_none-2.ensures ∙ ap not c.if-is_none-2.false) c.first-2.ensures.some) _
