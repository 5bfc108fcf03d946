use Rattle.std.proofs.Common.{◌∙◌, List, ap, arith, subst, sym}
use Rattle.std.proofs.lemmas.List.{take_all}
use Rattle.std.proofs.lemmas.Option.{get_or_from_slice_get}
use Rattle.sc_base.specs.declared.id.Cond.{Cond}
use Rattle.sc_base.specs.declared.token.Token.{Token}
use Rattle.sc_base.specs.Seen.{IsHeld}
use Rattle.sc_if.proofs.HalfLemmas.{Element, symbols-more}
use Rattle.sc_if.specs.Halves.{line_of, seen_line}
use Rattle.sc_if.proofs.readings.symbols.Goals as goal

pub loop-index-init : goal.loop-index-init
loop-index-init c = ap (λ (l : List Element). seen_line l) c.new-line.ensures.items

pub symbol_at-requires : goal.symbol_at-requires
symbol_at-requires c =
    let i = c.loop-index.index in
    let x : Cond × Token = (c.item.result.0, c.item.result.1.now) in
    let Held : Cond × Token → Type 0 = λ y. IsHeld c.args.names.now y.1 in
    subst Held (get_or_from_slice_get c.args.list.now i x x c.item.ensures) (c.requires i x (omega (arith, c.loop-index-test.true, c.len-index-end.ensures)))

pub loop-index-preserved : goal.loop-index-preserved
loop-index-preserved c =
    let i = c.loop-index.index in
    let x : Cond × Token = (c.item.result.0, c.item.result.1.now) in
    let is = get_or_from_slice_get c.args.list.now i x x c.item.ensures in
    ap (λ (l : List Element). seen_line l) c.in_ok-push.ensures.items
    ∙ symbols-more c.args.standard c.args.names.now c.loop-index.line.items c.args.list.now i x c.symbol_at.result (omega (arith, c.loop-index-test.true, c.len-index-end.ensures)) (sym is) c.symbol_at.ensures c.loop-index.invariant

pub returns : goal.returns
returns c = c.loop-index.invariant ∙ ap (line_of c.args.standard c.args.names.now) (take_all c.loop-index.index c.args.list.now (omega (arith, c.len-index-end.ensures, c.loop-index-test.false)))
