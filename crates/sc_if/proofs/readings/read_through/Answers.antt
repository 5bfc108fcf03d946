use Rattle.std.proofs.Common.{◌+◌, List, take, refl, sym, subst, arith}
use Rattle.std.proofs.lemmas.Option.{get_or_from_slice_get}
use Rattle.sc_base.specs.declared.id.Cond.{Cond}
use Rattle.sc_base.specs.declared.token.Token.{Token}
use Rattle.sc_base.specs.Seen.{IsHeld}
use Rattle.sc_if.proofs.PutLemmas.{Entry}
use Rattle.sc_if.proofs.ReadingLemmas.{many-parts, read-all, read-more}
use Rattle.sc_if.specs.Readings.{AreReadings}
use Rattle.sc_model.proofs.SetLemmas.{Keeps-refl, Keeps-trans}
use Rattle.sc_model.specs.Sets.{IsCond}
use Rattle.sc_if.proofs.readings.read_through.Goals as goal

pub loop-index-init : goal.loop-index-init
loop-index-init g c = record {
  keeps = Keeps-refl (g.C.Conditions.sets c.args.conds.now);
  read = c.in_ok-readings.ensures c.args.standard c.args.names.now;
}

pub symbol_at-symbol-requires : goal.symbol_at-symbol-requires
symbol_at-symbol-requires g c =
    let list = c.args.list.now in
    let i = c.loop-index.index in
    let x : Cond × Token = (c.item.result.0, c.item.result.1.now) in
    let Held : Cond × Token → Type 0 = λ y. IsHeld c.args.names.now y.1 in
    subst Held (get_or_from_slice_get list i x x c.item.ensures) (c.requires.held i x (omega (arith, c.loop-index-test.true, c.len-index-end.ensures)))

pub returns-then-len-limit-clause-keeps : goal.returns-then-len-limit-clause-keeps
returns-then-len-limit-clause-keeps g c = Keeps-trans c.loop-index.invariant.keeps c.advance.ensures.keeps

pub returns-in_err-append-clause-keeps : goal.returns-in_err-append-clause-keeps
returns-in_err-append-clause-keeps g c = Keeps-trans c.loop-index.invariant.keeps c.advance.ensures.keeps

pub advance-requires : goal.advance-requires
advance-requires g c =
    let s = g.C.Conditions.sets c.args.conds.now in
    let was = c.loop-index.invariant in
    let x : Cond × Token = (c.item.result.0, c.item.result.1.now) in
    let Own : Cond × Token → Type 0 = λ y. IsCond s y.0.0 in
    let own = subst Own (get_or_from_slice_get c.args.list.now c.loop-index.index x x c.item.ensures) (c.requires.own c.loop-index.index x (omega (arith, c.loop-index-test.true, c.len-index-end.ensures))) in
    record { own = was.read.own; item_own = was.keeps.own _ own }

pub returns-in_err-next-clause-keeps : goal.returns-in_err-next-clause-keeps
returns-in_err-next-clause-keeps g c = Keeps-trans c.loop-index.invariant.keeps c.advance.ensures.keeps

pub loop-index-preserved : goal.loop-index-preserved
loop-index-preserved g c =
    let s = g.C.Conditions.sets c.args.conds.now in
    let new = g.C.Conditions.sets c.advance.new.conds in
    let was = c.loop-index.invariant in
    let list = c.args.list.now in
    let i = c.loop-index.index in
    let x : Cond × Token = (c.item.result.0, c.item.result.1.now) in
    let is = get_or_from_slice_get list i x x c.item.ensures in
    let Own : Cond × Token → Type 0 = λ y. IsCond s y.0.0 in
    let own = subst Own is (c.requires.own i x (omega (arith, c.loop-index-test.true, c.len-index-end.ensures))) in
    let more = read-more list i x (omega (arith, c.loop-index-test.true, c.len-index-end.ensures)) (sym is) was.keeps own c.symbol_at-symbol.ensures was.read c.in_ok-next.ensures.moved in
    record {
      keeps = Keeps-trans was.keeps c.advance.ensures.keeps;
      read = subst (λ (l : List Entry). AreReadings c.args.standard s new c.args.names.now (take (i + 1) list) c.args.live.0 l) (sym c.in_ok-append.ensures.items) more;
    }

pub returns-then-len-limit-clause-refused : goal.returns-then-len-limit-clause-refused
returns-then-len-limit-clause-refused g c =
    let s = g.C.Conditions.sets c.args.conds.now in
    let was = c.loop-index.invariant in
    let list = c.args.list.now in
    let i = c.loop-index.index in
    let x : Cond × Token = (c.item.result.0, c.item.result.1.now) in
    let is = get_or_from_slice_get list i x x c.item.ensures in
    let Own : Cond × Token → Type 0 = λ y. IsCond s y.0.0 in
    let own = subst Own is (c.requires.own i x (omega (arith, c.loop-index-test.true, c.len-index-end.ensures))) in (
      refl,
      many-parts list i x (omega (arith, c.loop-index-test.true, c.len-index-end.ensures)) (sym is) was.keeps own c.symbol_at-symbol.ensures was.read c.in_ok-next.ensures.moved c.advance.ensures.keeps
          c.has_options.ensures c.item.ensures (c.args.limit + 1) (omega arith),
    )

pub returns-clause-read : goal.returns-clause-read
returns-clause-read g c = read-all c.args.list.now c.loop-index.index (omega arith) c.loop-index.invariant.read
