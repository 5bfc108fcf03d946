use Rattle.std.proofs.Common.{◌≡◌, ◌-◌, ◌++◌, ◌∙◌, ap, sym, refl, map, take, get_or, append-nil, arith}
use Rattle.std.proofs.lemmas.List.{take-map, length-set}
use Rattle.sc_base.specs.declared.id.Cond.{Cond}
use Rattle.sc_guarded.proofs.RestrictionLemmas.{conditions_more, items_stay}
use Rattle.sc_guarded.proofs.restriction.set_conditions.Goals as goal

pub loop-index-init : goal.loop-index-init
loop-index-init g c =
    let f : Cond × g.row.T.Denot → Cond = λ item. item.0 in
    let front = take c.args.from (map f c.args.items.now.items) in
    let none : c.args.from - c.args.from ≡ 0 = omega arith in
    record {
      long = refl;
      conditions = sym (take-map f c.args.from c.args.items.now.items) ∙ (sym (append-nil front) ∙ ap (λ n. front ++ take n c.args.conds.now) (sym none));
      items = refl;
    }

pub loop-index-preserved : goal.loop-index-preserved
loop-index-preserved g c =
    let was = c.loop-index.invariant in
    let f : Cond × g.row.T.Denot → Cond = λ item. item.0 in
    let xs = c.loop-index.items.items in
    let i = c.loop-index.index in
    let cond : Cond = get_or c.args.conds.now (i - c.args.from) (record { 0 = 0 }) in
    let x = c.index_mut.result.now in
    let all = c.args.items.now.ok.0 in
    record {
      long = length-set xs i (cond, x.1) ∙ was.long;
      conditions = conditions_more xs i c.args.from (take c.args.from (map f c.args.items.now.items)) c.args.conds.now x.1 (record { 0 = 0 }) (omega arith) (omega arith) (omega arith) was.conditions;
      items = items_stay xs i cond x c.index_mut.ensures.value ∙ was.items;
    }
