use Rattle.std.proofs.Common.{Global, ◌≡◌, ◌<◌, ◌≤◌, ◌+◌, ◌-◌, ◌∙◌, ◌++◌, List, All, length, map, ap, refl, sym, subst, arith}
use Rattle.std.specs.declared.collections.VecDeque.{VecDeque}
use Rattle.sc_expand.proofs.Facts.{Denotes-self, Keeps-refl, Keeps-trans, length-append, length-set}
use Rattle.sc_expand.proofs.RestrictLemmas.{keeps-items, length-Restricted, ord_min-min, own_behind, restricted_behind, front_own, restricted_front, restricted_none, restricts}
use Rattle.sc_expand.proofs.Terms.{Cond, Hidden, IsCond, items_of}
use Rattle.sc_expand.proofs.WorkListLemmas.{Restricted}
use Rattle.sc_expand.specs.declared.source.Rest.{Rest}
use Rattle.sc_expand.proofs.work_list.restrict_argument.Goals as goal
use Rattle.sc_expand.proofs.work_list.restrict_argument.Goals.{then-count-len+in_ok-settle, else-count-len}

pub loop-index-init : goal.loop-index-init
loop-index-init g c =
    let first = g.C.Conditions.sets c.args.conds.now in
    let before = c.args.front.now.items ++ items_of c.args.rest.now in
    let now = c.if-count-len in
    let is : now.front.items ++ items_of now.rest ≡ before = elim now.branch [
      | then-count-len+in_ok-settle w ↦ (λ i. (w.front-is i).items ++ items_of (w.rest-is i)) ∙ w.settle.ensures.is
      | else-count-len w ↦ λ i. (w.front-is i).items ++ items_of (w.rest-is i)
    ] in
    let unrestricted : length now.front.items < c.args.count → now.rest.restricted ≡ 0 = elim now.branch [
      | then-count-len+in_ok-settle w ↦ λ below. ap (λ (r : Rest). r.restricted) w.rest-is ∙ w.in_ok-settle.ensures.restricted
      | else-count-len w ↦ λ below. let is = ap (λ (f : VecDeque (Cond × Hidden) Global). length f.items) w.front-is in absurd (omega (arith, is))
    ] in
    record {
      restricted = subst (λ (l : List (Cond × Hidden)). Restricted first first c.args.by.0 0 before l) (sym is) (restricted_none first c.args.by.0 before c.requires.own);
      long = refl;
      unrestricted = unrestricted;
    }

pub apply_and-requires-clause-a_own : goal.apply_and-requires-clause-a_own
apply_and-requires-clause-a_own g c = front_own c.loop-index.front.items (items_of c.if-count-len.rest) c.index-pair.result.now c.loop-index.invariant.restricted (omega (arith, ord_min-min c.args.count c.len-2.result)) c.index-pair.ensures

pub loop-index-preserved : goal.loop-index-preserved
loop-index-preserved g c =
    let was = c.loop-index.invariant in
    let item = c.index-pair.result.now in
    let long = length-set c.loop-index.front.items c.loop-index.index (c.in_ok-met.met, item.1) in
    record {
      restricted = restricted_front c.loop-index.front.items (items_of c.if-count-len.rest) item was.restricted (omega (arith, ord_min-min c.args.count c.len-2.result)) c.index-pair.ensures (g.C.Conditions.sets c.apply_and.new.self) c.in_ok-met.met c.requires.own c.requires.by_own
          c.apply_and.ensures.keeps c.in_ok-met.ensures.meaning;
      long = long ∙ was.long;
      unrestricted = λ below. was.unrestricted (omega (arith, below, long));
    }

pub apply_and-requires-then-count-first-clause-a_own : goal.apply_and-requires-then-count-first-clause-a_own
apply_and-requires-then-count-first-clause-a_own g c =
    let old = g.C.Conditions.sets c.loop-index.conds in
    let was = c.loop-index.invariant in
    let front = c.loop-index.front.items in
    let rest = c.if-count-len.rest in
    let low : length front < c.args.count = omega (arith, ord_min-min c.args.count c.len-2.result) in
    own_behind old front rest (was.unrestricted low) (omega (arith, low, length-Restricted was.restricted, c.requires.count)) was.restricted.own

pub returns-in_ok-rest : goal.returns-in_ok-rest
returns-in_ok-rest g c =
    let first = g.C.Conditions.sets c.args.conds.now in
    let old = g.C.Conditions.sets c.loop-index.conds in
    let new = g.C.Conditions.sets c.apply_and-then-count-first.new.self in
    let by = c.args.by.0 in
    let was = c.loop-index.invariant in
    let front = c.loop-index.front.items in
    let rest = c.if-count-len.rest in
    let made = c.in_ok-rest.field-0 in
    let before = c.args.front.now.items ++ items_of c.args.rest.now in
    let k = c.args.count - c.min-first.result in
    let after : List (Cond × Hidden) = front ++ items_of (record { tokens = rest.tokens; cond = rest.cond; restricted = k; by = made }) in
    let whole : length (front ++ items_of rest) ≡ length before = length-Restricted was.restricted in
    let low : length front < c.args.count = omega (arith, ord_min-min c.args.count c.len-2.result) in
    let end : c.loop-index.index ≡ length front = omega (arith, ord_min-min c.args.count c.len-2.result) in
    let count : length front + k ≡ c.args.count = omega (arith, ord_min-min c.args.count c.len-2.result) in
    let none : rest.restricted ≡ 0 = was.unrestricted low in
    let within : k ≤ length (items_of rest) = omega (arith, whole, count, length-append front (items_of rest), c.requires.count) in
    let cond_own : IsCond old rest.cond.0 = own_behind old front rest none (omega (arith, low, whole, c.requires.count)) was.restricted.own in
    let here = subst (λ n. Restricted first old by n before (front ++ items_of rest)) end was.restricted in
    let told = c.in_ok-rest.ensures.meaning _ _ (Denotes-self old rest.cond.0 cond_own) (Denotes-self old by (was.restricted.keeps.own _ c.requires.by_own)) in
    let all : Restricted first new by c.args.count before after = subst (λ n. Restricted first new by n before after) count
    (restricted_behind first old new by k before front rest made here none within c.requires.own c.requires.by_own cond_own c.apply_and-then-count-first.ensures.keeps told) in
    record { restricts = restricts all; items = keeps-items all (Keeps-refl _); keeps = all.keeps }

pub returns-else-count-first : goal.returns-else-count-first
returns-else-count-first g c =
    let first = g.C.Conditions.sets c.args.conds.now in
    let now = g.C.Conditions.sets c.loop-index.conds in
    let by = c.args.by.0 in
    let was = c.loop-index.invariant in
    let before = c.args.front.now.items ++ items_of c.args.rest.now in
    let after : List (Cond × Hidden) = c.loop-index.front.items ++ items_of c.if-count-len.rest in
    let end : c.loop-index.index ≡ c.args.count = omega (arith, ord_min-min c.args.count c.len-2.result) in
    let all : Restricted first now by c.args.count before after = subst (λ n. Restricted first now by n before after) end was.restricted in
    record { restricts = restricts all; items = keeps-items all (Keeps-refl _); keeps = all.keeps }

pub returns-in_err-settle-clause-items : goal.returns-in_err-settle-clause-items
returns-in_err-settle-clause-items g c =
    let Own : List (Cond × Hidden) → Type 0 = All (λ item. IsCond (g.C.Conditions.sets c.args.conds.now) item.0.0) in
    record { items = ap (map (λ (item : Cond × Hidden). item.1)) c.settle.ensures.is; own = subst Own (sym c.settle.ensures.is) c.requires.own }

pub returns-in_err-met-clause-items : goal.returns-in_err-met-clause-items
returns-in_err-met-clause-items g c = keeps-items c.loop-index.invariant.restricted c.apply_and.ensures.keeps

pub returns-in_err-rest-clause-items : goal.returns-in_err-rest-clause-items
returns-in_err-rest-clause-items g c = keeps-items c.loop-index.invariant.restricted c.apply_and-then-count-first.ensures.keeps

pub returns-in_err-met-clause-keeps : goal.returns-in_err-met-clause-keeps
returns-in_err-met-clause-keeps g c = Keeps-trans c.loop-index.invariant.restricted.keeps c.apply_and.ensures.keeps

pub returns-in_err-rest-clause-keeps : goal.returns-in_err-rest-clause-keeps
returns-in_err-rest-clause-keeps g c = Keeps-trans c.loop-index.invariant.restricted.keeps c.apply_and-then-count-first.ensures.keeps
