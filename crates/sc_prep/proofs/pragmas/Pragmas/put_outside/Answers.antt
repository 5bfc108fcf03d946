use Rattle.std.proofs.Common.{arith, subst, sym, take_all}
use Rattle.sc_prep.proofs.Facts.{All-at, Denotes-Keeps, Denotes-self, Keeps-refl, Keeps-trans, take-next}
use Rattle.sc_prep.proofs.PragmaMoves.{owns-pragmas, puts-next, puts-none}
use Rattle.sc_prep.proofs.RunLemmas.{item-own}
use Rattle.sc_prep.proofs.Terms.{Cond, Token}
use Rattle.sc_base.specs.Seen.{IsHeld}
use Rattle.sc_prep.specs.Pragmas.{PutsOutside}
use Rattle.sc_prep.proofs.pragmas.Pragmas.put_outside.Goals as goal

pub loop-index-init : goal.loop-index-init
loop-index-init g c =
    let first = g.C.Conditions.sets c.args.conds.now in
    record { puts = puts-none c.args.names.now c.args.by.0 c.args.list.now c.requires.owns; keeps = Keeps-refl first }

pub apply_and-requires-clause-a_own : goal.apply_and-requires-clause-a_own
apply_and-requires-clause-a_own g c =
    let first = g.C.Conditions.sets c.args.conds.now in
    c.loop-index.invariant.keeps.own _ (item-own first c.args.items.now c.loop-index.index c.item.result.0 c.item.result.1.now c.item.ensures c.requires.own)

pub apply_and-requires-clause-b_own : goal.apply_and-requires-clause-b_own
apply_and-requires-clause-b_own g c = c.loop-index.invariant.keeps.own _ c.requires.by

pub put-requires : goal.put-requires
put-requires g c = record {
  owns = owns-pragmas c.in_ok-part.ensures.keeps c.loop-index.invariant.puts.owns;
  own = c.in_ok-part.ensures.own;
  held = All-at (λ (item : Cond × Token). IsHeld c.args.names.now item.1) c.args.items.now c.loop-index.index (c.item.result.0, c.item.result.1.now) c.item.ensures c.requires.held;
}

pub loop-index-preserved : goal.loop-index-preserved
loop-index-preserved g c =
    let first = g.C.Conditions.sets c.args.conds.now in
    let was = c.loop-index.invariant in
    let i = c.loop-index.index in
    let items = c.args.items.now in
    let cond = c.item.result.0 in
    let t = c.item.result.1.now in
    let by = c.args.by.0 in
    let own = item-own first items i cond t c.item.ensures c.requires.own in
    let part = c.in_ok-part.ensures.meaning (first.has cond.0) (first.has by) (Denotes-Keeps was.keeps (Denotes-self first cond.0 own)) (Denotes-Keeps was.keeps (Denotes-self first by c.requires.by)) in
    record {
      puts = subst (λ xs. PutsOutside c.args.names.now first c.args.self.now xs by c.args.list.now (g.C.Conditions.sets c.put.new.conds) c.put.new.self c.put.new.list) (sym (take-next items i (cond, t) c.item.ensures))
          (puts-next c.args.names.now by cond c.in_ok-part.part t was.keeps c.in_ok-part.ensures.keeps c.in_ok-put.ensures.keeps part was.puts c.in_ok-put.ensures.puts);
      keeps = Keeps-trans was.keeps (Keeps-trans c.in_ok-part.ensures.keeps c.in_ok-put.ensures.keeps);
    }

pub returns-clause-puts : goal.returns-clause-puts
returns-clause-puts g c =
    let first = g.C.Conditions.sets c.args.conds.now in
    subst (λ xs. PutsOutside c.args.names.now first c.args.self.now xs c.args.by.0 c.args.list.now (g.C.Conditions.sets c.loop-index.conds) c.loop-index.self c.loop-index.list)
    (take_all c.loop-index.index c.args.items.now (omega (arith, c.loop-index-test.false, c.len-index-end.ensures))) c.loop-index.invariant.puts

pub returns-in_err-part-clause-keeps : goal.returns-in_err-part-clause-keeps
returns-in_err-part-clause-keeps g c = Keeps-trans c.loop-index.invariant.keeps c.in_err-part.ensures.keeps

pub returns-in_err-put-clause-keeps : goal.returns-in_err-put-clause-keeps
returns-in_err-put-clause-keeps g c = Keeps-trans c.loop-index.invariant.keeps (Keeps-trans c.in_ok-part.ensures.keeps c.in_err-put.ensures.keeps)
