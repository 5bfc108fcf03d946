use Rattle.std.proofs.Common.{length, ◌∙◌, sym, refl, arith}
use Rattle.std.proofs.lemmas.Option.{none-some, slice_get_read}
use Rattle.sc_items.specs.Kernel.{Opens}
use Rattle.sc_items.proofs.Listing.{IsListOf-empty}
use Rattle.sc_items.proofs.Opening.{opens_beginnings}
use Rattle.sc_items.proofs.kernel.opened_by.Goals as goal

pub returns-in_default : goal.returns-in_default
returns-in_default c =
    let g = c.args.grammar.now in
    rw c.new-items.ensures.items (IsListOf-empty (Opens g c.args.item) (length g.entries.now) (λ j o. none-some o.symbol (c.in_default.ensures.symbol ∙ o.over)))

pub returns : goal.returns
returns c =
    let g = c.args.grammar.now in
    let at = slice_get_read c.args.beginnings.now (length c.args.beginnings.now) c.in-Some.symbol c.index-beginnings-symbol.result refl (omega (arith, c.requires.beginnings.long, c.in-Some.ensures.small)) c.index-beginnings-symbol.is in
    let list = opens_beginnings g c.args.item c.in-Some.symbol (length g.entries.now) c.index-beginnings-symbol.result.items (sym c.in-Some.ensures.symbol) (c.requires.beginnings.each c.in-Some.symbol c.index-beginnings-symbol.result at) in
    rw (c.in_ok-extend_from_slice.ensures.items, c.new-items.ensures.items, c.deref.ensures.value) list
