use Rattle.std.proofs.Common.{Some, arith, subst}
use Rattle.std.proofs.lemmas.Result.{on_ok_weaker}
use Rattle.c11_macros.specs.Macros.{object, items, one_item}
use Rattle.sc_base.proofs.Growth.{Extends-trans}
use Rattle.sc_table.specs.Start.{IsEntry}
use Rattle.sc_table.specs.declared.entry.Entry.TheVariants.{Everywhere}
use Rattle.sc_table.proofs.Starting.{everywhere-entry, name-text, named-as, started-Extends}
use Rattle.sc_table.proofs.start.add_item.Goals as goal

pub returns-clause-added : goal.returns-clause-added
returns-clause-added c = on_ok_weaker c.put_entry.result (λ put arities macros started.
    let names = c.one_item_macro.new.names in
    let d = object (items (one_item c.args.kind c.args.spelling.now)) in
    let grows = c.in_ok-definition.ensures.grows in
    named-as macros (λ config. Some d) _ c.args.text.now (name-text grows c.in_ok-name.name _ c.in_ok-name.ensures.own c.in_ok-name.ensures.named)
    (put names arities macros (λ config. Some d) c.one_to_one.ensures (omega (arith, c.in_ok-name.ensures.own, grows.longer)) (started-Extends (Extends-trans c.in_ok-name.ensures.grows grows) started)
    (subst (λ said. IsEntry arities names (Everywhere c.in_ok-new.field-0) (λ config. Some said)) c.in_ok-definition.ensures.seen
    (everywhere-entry arities names c.in_ok-new.field-0 c.in_ok-definition.definition c.in_ok-new.ensures.ok c.in_ok-definition.ensures.held))))
    c.put_entry.ensures
