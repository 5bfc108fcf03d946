use Rattle.std.proofs.Common.{◌≡◌, ℕ, List, All, Some, None, length, refl, sym, ap, subst, ◌∙◌, is_some, Option}
use Rattle.sc_expand.proofs.BeginningLemmas.{in_some}
use Rattle.sc_expand.proofs.Facts.{All-head, All-tail, Extends-refl, Keeps-trans}
use Rattle.sc_expand.proofs.GatherTaking.{arguments-held, begun-gathered, function-form, head-held, left-grows, left-held, misfit-gathered, seen_fit}
use Rattle.sc_expand.proofs.LeavingLemmas.{refused-alike, refused-ends, refused-held, refused-live, refused-other}
use Rattle.sc_expand.proofs.SeenLemmas.{token-Grows}
use Rattle.sc_expand.proofs.TakingSteps.{on-ok}
use Rattle.sc_expand.proofs.Terms.{Grows, HasBegun, Hidden, IsHeldExpansion, IsHeldHidden, IsHeldToken, Name, Rest, arguments_for, function_like, option_map, parted, seen_arguments, seen_form, seen_list, stores}
use Rattle.sc_expand.proofs.expansion.Expansion.gather_call.Goals as goal

pub arguments-requires : goal.arguments-requires
arguments-requires g c =
    let files = c.requires.held.0 in
    let H : Hidden → Type 0 = IsHeldToken (stores (g.C.Conditions.sets c.args.conds.now) c.args.names.now c.args.self.now.sets) files in
    let rest = All-tail H c.in_ok-call.call.close c.in_ok-call.call.between (c.in_ok-call.ensures.left.own files c.requires.held.1.top.work) in
    λ k d h. (rest k d h).held.token.spelling

pub begin-requires : goal.begin-requires
begin-requires g c =
    let files = c.requires.held.0 in
    let held = c.requires.held.1 in
    let n = c.args.names.now in
    let call = c.in_ok-call.call in
    let H : Hidden → Type 0 = IsHeldToken (stores (g.C.Conditions.sets c.args.conds.now) n c.args.self.now.sets) files in
    let own = c.in_ok-call.ensures.left.own files held.top.work in
    let rest = All-tail H call.close call.between own in
    let All-held : List (List Name) → List Hidden → Type 0 = λ h. All (IsHeldHidden n h) in
    let same = sym c.take_call.ensures.sets in
    let raw = c.in_ok-fit.ensures.own c.take_call.new.self.sets (subst (λ h. All-held h call.between) same (λ k d h. (rest k d h).held)) in
    record {
      held = (files, left-held c.in_ok-call.ensures.left files held);
      cond_own = c.take_call.ensures.keeps.own _ c.requires.branch.own;
      form = c.requires.form;
      items = c.requires.items;
      head = subst (λ h. IsHeldHidden n h c.args.head) same (head-held H c.args.self.now.top.work c.args.head held.top.work.held c.requires.head).held;
      close = subst (λ h. IsHeldHidden n h call.close) same (All-head H call.close call.between own).held;
      raw = subst (All (All-held c.take_call.new.self.sets)) (sym c.deref.ensures.value) (in_some _ c.in_ok-fit.fit c.in-Some.raw c.in-Some.is raw);
    }

pub returns-in-Some-clause-gathered : goal.returns-in-Some-clause-gathered
returns-in-Some-clause-gathered g c = on-ok c.begin.result
    (λ begun.
    let files = c.requires.held.0 in
    let held = c.requires.held.1 in
    let s0 = g.C.Conditions.sets c.args.conds.now in
    let s1 = g.C.Conditions.sets c.take_call.new.conds in
    let s2 = g.C.Conditions.sets c.begin.new.conds in
    let n = c.args.names.now in
    let n2 = c.begin.new.names in
    let e0 = c.args.self.now in
    let e1 = c.take_call.new.self in
    let e2 = c.begin.new.self in
    let between = c.in_ok-call.call.between in
    let close = c.in_ok-call.call.close in
    let left = c.in_ok-call.ensures.left in
    let raw = c.in-Some.raw.items in
    let form = c.args.form.now in
    let head : (k : ℕ) → IsHeldExpansion (stores s0 n e0.sets) k e0 → IsHeldToken (stores s0 n e0.sets) k c.args.head = λ k held. head-held (IsHeldToken (stores s0 n e0.sets) k) e0.top.work c.args.head held.top.work.held c.requires.head in
    let tokens : (k : ℕ) → IsHeldExpansion (stores s0 n e0.sets) k e0 → All (IsHeldToken (stores s0 n e0.sets) k) between = λ k held. All-tail (IsHeldToken (stores s0 n e0.sets) k) close between (left.own k held.top.work) in
    let fits : (parameters : List (List ℕ)) (variadic : Option Rest) → seen_form n form ≡ function_like parameters variadic
    → seen_fit n e0.sets (Some raw) ≡ arguments_for parameters (is_some variadic) (parted (length parameters) 0 (seen_list n e0.sets between)) =
    λ parameters variadic is. sym (ap (option_map (λ made. seen_arguments n e0.sets made.items)) c.in-Some.is) ∙ c.in_ok-fit.ensures.is e0.sets parameters variadic is in
    let f = function-form (seen_form n form) c.requires.function in
    let hidden = in_some _ c.in_ok-fit.fit c.in-Some.raw c.in-Some.is (c.in_ok-fit.ensures.own e0.sets (λ k d h. (tokens files held k d h).held)) in
    let grows : Grows (stores s1 n e1.sets) (stores s2 n2 e2.sets) = record { sets = c.begin.ensures.keeps; names = c.begin.ensures.names; hides = c.begin.ensures.sets } in
    let began = subst (HasBegun (stores s1 n e1.sets) (stores s2 n2 e2.sets) e1 e2 c.args.branch.now.cond.0 form c.args.items.now c.args.head close) c.deref.ensures.value begun in
    begun-gathered left files held form c.args.items.now c.args.head c.requires.branch c.requires.function (Some raw) fits n2 s2 e2 grows (record { work = began.work; below = began.below; out = began.out; rest = began.rest })
    (λ k held.
    let own = arguments-held (stores s0 n e0.sets) k between raw f.parameters (is_some f.variadic) (sym (fits f.parameters f.variadic f.is)) (tokens k held) hidden in
    let grew = left-grows left k held in
    began.held k (left-held left k held) (token-Grows grew c.args.head (head k held)) (λ i d h j x below. token-Grows grew _ (own i d h j x below)))
    began.others began.alike raw refl (head files held).held (All-head (IsHeldToken (stores s0 n e0.sets) files) close between (left.own files held.top.work)).held hidden c.requires.form c.requires.items began)
    c.begin.ensures.begun

pub returns-clause-gathered : goal.returns-clause-gathered
returns-clause-gathered g c = on-ok c.refuse.result
    (λ refuses.
    let files = c.requires.held.0 in
    let held = c.requires.held.1 in
    let s0 = g.C.Conditions.sets c.args.conds.now in
    let s2 = g.C.Conditions.sets c.refuse.new.conds in
    let n = c.args.names.now in
    let e0 = c.args.self.now in
    let e1 = c.take_call.new.self in
    let left = c.in_ok-call.ensures.left in
    let fits : (parameters : List (List ℕ)) (variadic : Option Rest) → seen_form n c.args.form.now ≡ function_like parameters variadic
    → seen_fit n e0.sets None ≡ arguments_for parameters (is_some variadic) (parted (length parameters) 0 (seen_list n e0.sets c.in_ok-call.call.between)) =
    λ parameters variadic is. sym (ap (option_map (λ made. seen_arguments n e0.sets made.items)) c.in-None.is) ∙ c.in_ok-fit.ensures.is e0.sets parameters variadic is in
    let grows : Grows (stores (g.C.Conditions.sets c.take_call.new.conds) n e1.sets) (stores s2 n e1.sets) = record { sets = c.refuse.ensures.keeps; names = Extends-refl n; hides = Extends-refl e1.sets } in
    let mid = left-held left files held in
    misfit-gathered left files held c.args.form.now c.args.items.now c.args.head c.requires.branch c.requires.function None fits n s2 (record e1 { refusals = c.refuse.new.self }) grows (record { work = refl; below = refl; out = refl; rest = refl })
    (λ k held. refused-held grows e1 (left-held left k held) refuses (head-held (IsHeldToken (stores s0 n e0.sets) k) e0.top.work c.args.head held.top.work.held c.requires.head).file)
    (refused-other grows e1 mid refuses) (refused-alike grows e1 mid refuses) refl (refused-live grows e1 mid refuses) (refused-ends grows e1 mid refuses))
    c.refuse.ensures.refuses

pub returns-in-Some-clause-keeps : goal.returns-in-Some-clause-keeps
returns-in-Some-clause-keeps g c = Keeps-trans c.take_call.ensures.keeps c.begin.ensures.keeps

pub refuse-requires-clause-own : goal.refuse-requires-clause-own
refuse-requires-clause-own g c = c.take_call.ensures.keeps.own _ c.requires.branch.own

pub returns-clause-keeps : goal.returns-clause-keeps
returns-clause-keeps g c = Keeps-trans c.take_call.ensures.keeps c.refuse.ensures.keeps
