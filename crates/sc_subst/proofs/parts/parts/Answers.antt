use Rattle.std.proofs.Common.{◌∙◌, map, sym}
use Rattle.sc_macro.specs.Seen.{seen_form, seen_item}
use Rattle.sc_subst.proofs.Commas.{no_rest}
use Rattle.sc_subst.proofs.parts.parts.Goals as goal

pub returns-in-None-clause-is : goal.returns-in-None-clause-is
returns-in-None-clause-is c =
    let names = c.args.names.now in
    c.in_ok-parts.ensures.is ∙ sym (no_rest (seen_form names c.args.form.now) (map (seen_item names) c.args.items.now) (sym (c.deleting_rest.ensures names) ∙ c.in-None.is))
