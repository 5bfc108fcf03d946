use Rattle.std.proofs.Common.{true≢false, sym, subst, ◌∙◌}
use Rattle.sc_expand.proofs.Facts.{Denotes-Keeps, Denotes-self, Extends-refl, Keeps-trans}
use Rattle.sc_expand.proofs.Rests.{never-next, next-own, ready-some, dropped-later, never-Keeps, rested-dropped, rested-Grows, rested-then}
use Rattle.sc_expand.proofs.SeenLemmas.{Grows-refl, IsHeldExpansion-Grows}
use Rattle.sc_expand.proofs.Terms.{Grows, IsRested, stores}
use Rattle.sc_expand.proofs.expansion.Expansion.drop_one.Goals as goal

pub returns-in-None-clause-rested : goal.returns-in-None-clause-rested
returns-in-None-clause-rested g c = λ names. rested-Grows (Grows-refl (stores (g.C.Conditions.sets c.args.conds.now) names c.args.self.now.sets)) c.args.self.now

pub apply_and-requires-clause-a_own : goal.apply_and-requires-clause-a_own
apply_and-requires-clause-a_own g c = next-own c.args.self.now c.requires.held.1.1 c.in-Some.cond (sym c.next_cond.ensures ∙ c.in-Some.is)

pub returns-then-not-is_never-clause-rested : goal.returns-then-not-is_never-clause-rested
returns-then-not-is_never-clause-rested g c = λ names.
    let old = stores (g.C.Conditions.sets c.args.conds.now) names c.args.self.now.sets in
    let mid = stores (g.C.Conditions.sets c.apply_and.new.self) names c.args.self.now.sets in
    let grows : Grows old mid = record { sets = c.apply_and.ensures.keeps; names = Extends-refl names; hides = Extends-refl c.args.self.now.sets } in
    rested-Grows grows c.args.self.now

pub returns-then-not-is_never-clause-ready : goal.returns-then-not-is_never-clause-ready
returns-then-not-is_never-clause-ready g c =
    let was = g.C.Conditions.sets c.args.conds.now in
    let held = c.requires.held.1.1 in
    let is = sym c.next_cond.ensures ∙ c.in-Some.is in
    let own = next-own c.args.self.now held c.in-Some.cond is in
    let both = c.in_ok-cond.ensures.meaning (was.has c.in-Some.cond.0) (was.has c.args.self.now.refusals.live.0) (Denotes-self was c.in-Some.cond.0 own) (Denotes-self was c.args.self.now.refusals.live.0 held.refusals.live) in
    ready-some c.apply_and.ensures.keeps c.args.self.now c.in-Some.cond c.in_ok-cond.cond is own held.refusals.live both (λ never. true≢false (sym (c.is_never.ensures.1 never) ∙ c.if-not-is_never.true))

pub returns-clause-rested : goal.returns-clause-rested
returns-clause-rested g c = λ names.
    let was = g.C.Conditions.sets c.args.conds.now in
    let first = g.C.Conditions.sets c.apply_and.new.self in
    let now = g.C.Conditions.sets c.drop_next.new.conds in
    let e = c.args.self.now in
    let old = stores was names e.sets in
    let mid = stores first names e.sets in
    let new = stores now names e.sets in
    let grows : Grows old mid = record { sets = c.apply_and.ensures.keeps; names = Extends-refl names; hides = Extends-refl e.sets } in
    let later : Grows mid new = record { sets = c.drop_next.ensures.keeps; names = Extends-refl names; hides = Extends-refl e.sets } in
    let held = c.requires.held.1.1 in
    let wide : Grows (stores was c.requires.held.0 e.sets) (stores first c.requires.held.0 e.sets) = record { sets = c.apply_and.ensures.keeps; names = Extends-refl c.requires.held.0; hides = Extends-refl e.sets } in
    let held_mid = IsHeldExpansion-Grows wide e held in
    let is = sym c.next_cond.ensures ∙ c.in-Some.is in
    let own = next-own e held c.in-Some.cond is in
    let both = c.in_ok-cond.ensures.meaning (was.has c.in-Some.cond.0) (was.has e.refusals.live.0) (Denotes-self was c.in-Some.cond.0 own) (Denotes-self was e.refusals.live.0 held.refusals.live) in
    let never = never-next (Keeps-trans c.apply_and.ensures.keeps c.drop_next.ensures.keeps) e c.in-Some.cond c.in_ok-cond.cond is own held.refusals.live (Denotes-Keeps c.drop_next.ensures.keeps both)
    (never-Keeps c.drop_next.ensures.keeps both.own (c.is_never.ensures.0 c.if-not-is_never.false)) in
    subst (λ h. IsRested old (stores now names h) e c.drop_next.new.self) (sym c.drop_next.ensures.sets)
    (rested-then (rested-then (rested-Grows grows e) (rested-Grows later e))
    (rested-dropped new e c.drop_next.new.self c.in_ok-drop_next.ensures.refusals c.drop_next.ensures.sets never (dropped-later new c.drop_next.ensures.keeps held_mid c.in_ok-drop_next.ensures.dropped)))
