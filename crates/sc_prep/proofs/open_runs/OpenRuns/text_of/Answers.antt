use Rattle.std.proofs.Common.{◌≡◌, ◌+◌, ◌-◌, ◌∙◌, List, All, Option, take, take_all, [], ap, arith, subst, sym}
use Rattle.sc_prep.proofs.Facts.{Keeps-refl, Keeps-trans, take-next}
use Rattle.sc_prep.proofs.ReadMoves.{taken-at, taken-own, taken-tokens, takes-none}
use Rattle.sc_prep.proofs.RunLemmas.{item-own}
use Rattle.sc_prep.proofs.Terms.{Cond, IsCond, TakesOut, Token, items_at, tokens_in}
use Rattle.sc_prep.proofs.open_runs.OpenRuns.text_of.Goals as goal

pub loop-index-init : goal.loop-index-init
loop-index-init g c =
    let s = g.C.Conditions.sets c.args.conds.now in
    let read = c.args.self.now.read in
    let under = c.args.under.0 in
    let n = c.len-index.result in
    record {
      takes = subst (λ (ts : List (Cond × Token)). TakesOut s read under s under ts (take n read)) (sym c.in_ok-text.ensures)
          (subst (TakesOut s read under s under []) (sym (take_all n read (omega (arith, c.len-index.ensures)))) (takes-none read under c.requires.under));
      keeps = Keeps-refl s;
    }

pub taken-requires-clause-left : goal.taken-requires-clause-left
taken-requires-clause-left g c = c.loop-index.invariant.takes.left_own

pub taken-requires-clause-cond : goal.taken-requires-clause-cond
taken-requires-clause-cond g c =
    c.loop-index.invariant.keeps.own _ (item-own (g.C.Conditions.sets c.args.conds.now) c.args.self.now.read (c.loop-index.index - 1) c.item.result.0 c.item.result.1.now c.item.ensures c.requires.own)

pub loop-index-preserved : goal.loop-index-preserved
loop-index-preserved g c =
    let first = g.C.Conditions.sets c.args.conds.now in
    let read = c.args.self.now.read in
    let j = c.loop-index.index - 1 in
    let x : Cond × Option Token = (c.item.result.0, c.item.result.1.now) in
    let at : c.loop-index.index ≡ j + 1 = omega arith in
    let was = c.loop-index.invariant in
    let front = subst (TakesOut first read c.args.under.0 (g.C.Conditions.sets c.loop-index.conds) c.loop-index.left.0 c.loop-index.text) (ap (λ n. take n read) at ∙ take-next read j x c.item.ensures) was.takes in
    record {
      takes = c.in_ok-left.ensures.takes first read (take j read) c.args.under.0 was.keeps (item-own first read j c.item.result.0 c.item.result.1.now c.item.ensures c.requires.own) front;
      keeps = Keeps-trans was.keeps c.in_ok-left.ensures.keeps;
    }

pub returns-clause-tokens : goal.returns-clause-tokens
returns-clause-tokens g c =
    let read = c.args.self.now.read in
    let none : c.loop-index.index ≡ 0 = omega (arith, c.loop-index-test.false) in
    let done = subst (λ n. TakesOut (g.C.Conditions.sets c.args.conds.now) read c.args.under.0 (g.C.Conditions.sets c.loop-index.conds) c.loop-index.left.0 c.loop-index.text (take n read)) none c.loop-index.invariant.takes in
    ap tokens_in c.in_ok-in_order.ensures ∙ taken-tokens done

pub returns-clause-own : goal.returns-clause-own
returns-clause-own g c =
    subst (All (λ (item : Cond × Token). IsCond (g.C.Conditions.sets c.loop-index.conds) item.0.0)) (sym c.in_ok-in_order.ensures) (taken-own c.loop-index.invariant.takes)

pub returns-clause-at : goal.returns-clause-at
returns-clause-at g c = λ config listed.
    let read = c.args.self.now.read in
    let now = g.C.Conditions.sets c.loop-index.conds in
    let none : c.loop-index.index ≡ 0 = omega (arith, c.loop-index-test.false) in
    let done = subst (λ n. TakesOut (g.C.Conditions.sets c.args.conds.now) read c.args.under.0 now c.loop-index.left.0 c.loop-index.text (take n read)) none c.loop-index.invariant.takes in
    ap (λ ts. items_at now ts config) c.in_ok-in_order.ensures ∙ taken-at done config listed

pub returns-in_err-left-clause-keeps : goal.returns-in_err-left-clause-keeps
returns-in_err-left-clause-keeps g c = Keeps-trans c.loop-index.invariant.keeps c.in_err-left.ensures.keeps

pub returns-in_err-in_order-clause-keeps : goal.returns-in_err-in_order-clause-keeps
returns-in_err-in_order-clause-keeps g c = c.loop-index.invariant.keeps

pub returns-clause-keeps : goal.returns-clause-keeps
returns-clause-keeps g c = c.loop-index.invariant.keeps
