use Rattle.std.proofs.Common.{◌≡◌, ◌<◌, ◌+◌, ◌-◌, ◌∙◌, ◌++◌, List, drop, length, ap, get_or, refl, sym, subst, arith}
use Rattle.sc_expand.proofs.Facts.{Keeps-refl, drop-set-add, get_or-append_right, get_or-drop, length-set, set-append_right}
use Rattle.sc_expand.proofs.RestrictLemmas.{front_own, keeps-items, length-Restricted, ord_min-min, restricted_front, restricted_next, restricted_none, restricts}
use Rattle.sc_expand.proofs.Terms.{Cond, Hidden, IsCond, items_left}
use Rattle.sc_expand.proofs.WorkListLemmas.{Restricted}
use Rattle.sc_expand.proofs.work_list.restrict_source.Goals as goal

pub loop-index-init : goal.loop-index-init
loop-index-init g c = record {
  restricted = restricted_none (g.C.Conditions.sets c.args.conds.now) c.args.by.0 (c.args.front.now.items ++ items_left c.args.source.now) c.requires.own;
  long = refl;
}

pub apply_and-requires-clause-a_own : goal.apply_and-requires-clause-a_own
apply_and-requires-clause-a_own g c = front_own c.loop-index.front.items (items_left c.args.source.now) c.index-pair.result.now c.loop-index.invariant.restricted (omega (arith, ord_min-min c.args.count c.len.result, c.loop-index.invariant.long)) c.index-pair.ensures

pub loop-index-preserved : goal.loop-index-preserved
loop-index-preserved g c =
    let was = c.loop-index.invariant in
    let item = c.index-pair.result.now in
    record {
      restricted = restricted_front c.loop-index.front.items (items_left c.args.source.now) item was.restricted (omega (arith, ord_min-min c.args.count c.len.result, was.long)) c.index-pair.ensures (g.C.Conditions.sets c.apply_and.new.self) c.in_ok-met.met c.requires.own c.requires.by_own
          c.apply_and.ensures.keeps c.in_ok-met.ensures.meaning;
      long = length-set c.loop-index.front.items c.loop-index.index (c.in_ok-met.met, item.1) ∙ was.long;
    }

pub loop-index-2-init : goal.loop-index-2-init
loop-index-2-init g c =
    let before = c.args.front.now.items ++ items_left c.args.source.now in
    let here = c.loop-index.front.items ++ items_left c.args.source.now in
    let end : c.loop-index.index ≡ c.min-first.result = omega (arith, ord_min-min c.args.count c.len.result) in
    subst (λ n. Restricted (g.C.Conditions.sets c.args.conds.now) (g.C.Conditions.sets c.loop-index.conds) c.args.by.0 n before here) end c.loop-index.invariant.restricted

pub apply_and-requires-in-loop-index-2-clause-a_own : goal.apply_and-requires-in-loop-index-2-clause-a_own
apply_and-requires-in-loop-index-2-clause-a_own g c =
    let i = c.loop-index-2.index in
    let n = c.min-first.result in
    let was = c.loop-index-2.invariant in
    let front = c.loop-index.front.items in
    let items = c.loop-index-2.source.items.items in
    let next = c.loop-index-2.source.next in
    let item = c.index-pair-in-loop-index-2.result.now in
    let P : Cond × Hidden → Type 0 = λ pair. IsCond (g.C.Conditions.sets c.loop-index-2.conds) pair.0.0 in
    let full : length front ≡ n = omega (arith, ord_min-min c.args.count c.len.result, c.loop-index.invariant.long) in
    let within : i < length (front ++ drop next items) = omega (arith, length-Restricted was, c.requires.count) in
    let at = get_or-append_right front (drop next items) n i item full (omega arith) ∙ get_or-drop next items (i - n) item in
    subst P (at ∙ sym c.index-pair-in-loop-index-2.ensures) (was.own i item within)

pub loop-index-2-preserved : goal.loop-index-2-preserved
loop-index-2-preserved g c =
    let first = g.C.Conditions.sets c.args.conds.now in
    let new = g.C.Conditions.sets c.apply_and-in-loop-index-2.new.self in
    let i = c.loop-index-2.index in
    let n = c.min-first.result in
    let was = c.loop-index-2.invariant in
    let front = c.loop-index.front.items in
    let items = c.loop-index-2.source.items.items in
    let next = c.loop-index-2.source.next in
    let item = c.index-pair-in-loop-index-2.result.now in
    let made = c.in_ok-met-2.met in
    let full : length front ≡ n = omega (arith, ord_min-min c.args.count c.len.result, c.loop-index.invariant.long) in
    let within : i < length (front ++ drop next items) = omega (arith, length-Restricted was, c.requires.count) in
    let at : item ≡ get_or (front ++ drop next items) i item = c.index-pair-in-loop-index-2.ensures ∙ sym (get_or-append_right front (drop next items) n i item full (omega arith) ∙ get_or-drop next items (i - n) item) in
    let more = restricted_next new item made was within at c.requires.own c.requires.by_own c.apply_and-in-loop-index-2.ensures.keeps c.in_ok-met-2.ensures.meaning in
    subst (λ (l : List (Cond × Hidden)). Restricted first new c.args.by.0 (i + 1) (c.args.front.now.items ++ items_left c.args.source.now) l)
    (set-append_right front (drop next items) n i (made, item.1) full (omega arith) ∙ ap (λ l. front ++ l) (sym (drop-set-add next items (i - n) (made, item.1)))) more

pub returns : goal.returns
returns g c =
    let before = c.args.front.now.items ++ items_left c.args.source.now in
    let after = c.loop-index.front.items ++ items_left c.loop-index-2.source in
    let end : c.loop-index-2.index ≡ c.args.count = omega (arith, ord_min-min c.args.count c.len.result) in
    let all = subst (λ n. Restricted (g.C.Conditions.sets c.args.conds.now) (g.C.Conditions.sets c.loop-index-2.conds) c.args.by.0 n before after) end c.loop-index-2.invariant in
    record { restricts = restricts all; items = keeps-items all (Keeps-refl _); keeps = all.keeps }
