use Rattle.std.proofs.Common.{Some}
use Rattle.std.proofs.lemmas.Result.{on_ok_weaker}
use Rattle.c11_macros.specs.Macros.{object}
use Rattle.sc_base.proofs.Growth.{Extends-refl}
use Rattle.sc_macro.specs.Seen.{seen_replacement}
use Rattle.sc_macro.specs.declared.form.Form.TheVariants.{Object}
use Rattle.sc_table.proofs.Starting.{everywhere-entry, name-text, named-as, started-Extends}
use Rattle.sc_table.proofs.start.add_placed.Goals as goal

pub returns-clause-added : goal.returns-clause-added
returns-clause-added c = on_ok_weaker c.put_entry.result (λ put arities macros started.
    let names = c.intern.new.self in
    let d = object (seen_replacement names c.args.replacement) in
    let name = c.in_ok-name.name in
    named-as macros (λ config. Some d) _ c.args.text.now (name-text (Extends-refl names) name _ c.in_ok-name.ensures.own c.in_ok-name.ensures.named)
    (put names arities macros (λ config. Some d) c.one_to_one.ensures c.in_ok-name.ensures.own (started-Extends c.in_ok-name.ensures.grows started)
    (everywhere-entry arities names c.in_ok-new.field-0 (record { name = name; form = Object; replacement = c.args.replacement }) c.in_ok-new.ensures.ok
    (record { name = c.in_ok-name.ensures.own; form = tt; replacement = c.requires.held names }))))
    c.put_entry.ensures
