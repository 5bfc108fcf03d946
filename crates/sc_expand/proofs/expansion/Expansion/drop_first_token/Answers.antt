use Rattle.std.proofs.Common.{◌∷◌, ap, arith, length, subst, sum_by, sym, ◌∙◌}
use Rattle.sc_expand.proofs.AlikeLemmas.{All-at}
use Rattle.sc_expand.proofs.Facts.{Denotes-Keeps, Denotes-self, Extends-refl, Keeps-trans}
use Rattle.sc_expand.proofs.Rests.{first-is, never-Keeps, never-at, rested-Grows, rested-then, rested-token, rested-tokens}
use Rattle.sc_expand.proofs.SeenLemmas.{Grows-refl}
use Rattle.sc_expand.proofs.Terms.{Cond, Grows, Hidden, IsCond, IsRested, frame_weight, is_whole, stores}
use Rattle.sc_expand.proofs.WaitingLemmas.{below-some, kept-later}
use Rattle.sc_expand.proofs.expansion.Expansion.drop_first_token.Goals as goal

pub returns-in-None-clause-rested : goal.returns-in-None-clause-rested
returns-in-None-clause-rested g c = λ names. rested-Grows (Grows-refl (stores (g.C.Conditions.sets c.args.conds.now) names c.args.self.now.sets)) c.args.self.now

pub apply_and-requires-clause-a_own : goal.apply_and-requires-clause-a_own
apply_and-requires-clause-a_own g c =
    All-at (λ (item : Cond × Hidden). IsCond (g.C.Conditions.sets c.args.conds.now) item.0.0) c.args.self.now.top.work 0 c.in-Some.first (sym c.first.ensures ∙ c.in-Some.is) c.requires.held.1.1.top.work.own

pub returns-then-not-is_never-clause-rested : goal.returns-then-not-is_never-clause-rested
returns-then-not-is_never-clause-rested g c = λ names.
    let old = stores (g.C.Conditions.sets c.args.conds.now) names c.args.self.now.sets in
    let mid = stores (g.C.Conditions.sets c.apply_and.new.self) names c.args.self.now.sets in
    let grows : Grows old mid = record { sets = c.apply_and.ensures.keeps; names = Extends-refl names; hides = Extends-refl c.args.self.now.sets } in
    rested-Grows grows c.args.self.now

pub returns-else-is_whole-clause-rested : goal.returns-else-is_whole-clause-rested
returns-else-is_whole-clause-rested g c = λ names.
    let was = g.C.Conditions.sets c.args.conds.now in
    let e = c.args.self.now in
    let old = stores was names e.sets in
    let mid = stores (g.C.Conditions.sets c.apply_and.new.self) names e.sets in
    let grows : Grows old mid = record { sets = c.apply_and.ensures.keeps; names = Extends-refl names; hides = Extends-refl e.sets } in
    let held = c.requires.held.1.1 in
    let item : Cond × Hidden = c.in-Some.first in
    let is = sym c.first.ensures ∙ c.in-Some.is in
    let own = All-at (λ (item : Cond × Hidden). IsCond was item.0.0) e.top.work 0 item is held.top.work.own in
    let both = c.in_ok-cond.ensures.meaning (was.has item.0.0) (was.has e.refusals.live.0) (Denotes-self was item.0.0 own) (Denotes-self was e.refusals.live.0 held.refusals.live) in
    let never = never-at c.apply_and.ensures.keeps item.0 e.refusals.live c.in_ok-cond.cond own held.refusals.live both (c.is_never.ensures.0 c.if-not-is_never.false) in
    let drops = c.drop_alike.ensures in
    let inside = below-some e.below.items (sym (c.is_whole.ensures ∙ ap is_whole c.deref.ensures.value) ∙ c.if-is_whole.false) in
    rested-then (rested-Grows grows e)
    (subst (λ work. IsRested mid mid e (record e { top = record e.top { work = work } })) (sym drops.is) (rested-tokens mid e inside item.0 never drops.count e.top.work (drops.alike item is)))

pub returns-in_ok-drop_first-clause-rested : goal.returns-in_ok-drop_first-clause-rested
returns-in_ok-drop_first-clause-rested g c = λ names.
    let was = g.C.Conditions.sets c.args.conds.now in
    let e = c.args.self.now in
    let first = g.C.Conditions.sets c.apply_and.new.self in
    let now = g.C.Conditions.sets c.drop_first.new.conds in
    let old = stores was names e.sets in
    let mid = stores first names e.sets in
    let new = stores now names e.sets in
    let grows : Grows old mid = record { sets = c.apply_and.ensures.keeps; names = Extends-refl names; hides = Extends-refl e.sets } in
    let later : Grows mid new = record { sets = c.drop_first.ensures.keeps; names = Extends-refl names; hides = Extends-refl e.sets } in
    let held = c.requires.held.1.1 in
    let item : Cond × Hidden = c.in-Some.first in
    let is = sym c.first.ensures ∙ c.in-Some.is in
    let own = All-at (λ (item : Cond × Hidden). IsCond was item.0.0) e.top.work 0 item is held.top.work.own in
    let both = c.in_ok-cond.ensures.meaning (was.has item.0.0) (was.has e.refusals.live.0) (Denotes-self was item.0.0 own) (Denotes-self was e.refusals.live.0 held.refusals.live) in
    let all = Keeps-trans c.apply_and.ensures.keeps c.drop_first.ensures.keeps in
    let never = never-at all item.0 e.refusals.live c.in_ok-cond.cond own held.refusals.live (Denotes-Keeps c.drop_first.ensures.keeps both)
    (never-Keeps c.drop_first.ensures.keeps both.own (c.is_never.ensures.0 c.if-not-is_never.false)) in
    let drops = c.in_ok-drop_first.ensures.drops in
    let kept = kept-later c.drop_first.ensures.keeps (λ k d h. c.apply_and.ensures.keeps.own _ (held.top.work.own k d h)) (c.apply_and.ensures.keeps.own _ held.refusals.waiting) drops.rest in
    subst (λ h. IsRested old (stores now names h) e c.drop_first.new.self) (sym c.drop_first.ensures.sets)
    (rested-then (rested-then (rested-Grows grows e) (rested-Grows later e))
    (rested-token new e c.drop_first.new.self drops.refusals c.drop_first.ensures.sets item never (first-is e.top.work item is ∙ ap (λ l. item ∷ l) (sym drops.work)) (ap (λ v. v.items) drops.calls) drops.out drops.below kept))

pub returns-in_ok-drop_first-clause-less : goal.returns-in_ok-drop_first-clause-less
returns-in_ok-drop_first-clause-less g c =
    let drops = c.in_ok-drop_first.ensures.drops in
    let whole = ap length (first-is c.args.self.now.top.work c.in-Some.first (sym c.first.ensures ∙ c.in-Some.is)) in
    let later = ap length drops.work in
    let calls = ap (λ v. length v.items) drops.calls in
    let below = ap (λ v. sum_by (λ o. frame_weight o.frame) v.items) drops.below in
    omega (arith, whole, later, calls, below)

pub returns-in_ok-drop_first-clause-keeps : goal.returns-in_ok-drop_first-clause-keeps
returns-in_ok-drop_first-clause-keeps g c = Keeps-trans c.apply_and.ensures.keeps c.drop_first.ensures.keeps
