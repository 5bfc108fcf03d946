use Rattle.std.proofs.Common.{◌≡◌, ◌∙◌, ◌&&◌, Some, None, map, sym, ap, if◌then◌else◌}
use Rattle.c11_macros.specs.Substitution as substitution
use Rattle.sc_macro.specs.Seen.{seen_item}
use Rattle.sc_subst.proofs.parts.comma.Goals as goal

pub returns-in-Apart-Token-clause-is : goal.returns-in-Apart-Token-clause-is
returns-in-Apart-Token-clause-is c =
    let names = c.args.names.now in
    let is = sym c.is_comma.ensures ∙ c.if-is_comma.true in
    let next = sym (c.is_rest_next.ensures names) ∙ c.if-is_rest_next.true in
    rw (c.in-Apart-Token.is-0, c.in-Apart-Token.is-1) (λ i. if (sym is i && sym next i) then Some (substitution.comma (seen_item names c.in-Apart-Token.item) c.args.rest) else None)

pub returns-in_default-clause-is : goal.returns-in_default-clause-is
returns-in_default-clause-is c =
    let names = c.args.names.now in
    let is = sym c.is_comma.ensures ∙ c.if-is_comma.true in
    let next = sym (c.is_rest_next.ensures names) ∙ c.if-is_rest_next.false in
    rw (c.in-Apart-Token.is-0, c.in-Apart-Token.is-1) (λ i. if (sym is i && sym next i) then Some (substitution.comma (seen_item names c.in-Apart-Token.item) c.args.rest) else None)
