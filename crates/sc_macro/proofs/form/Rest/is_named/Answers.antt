use Rattle.std.proofs.Common.{◌∙◌, IfSome, subst, sym}
use Rattle.sc_macro.specs.Seen.{IsRestName}
use Rattle.sc_macro.proofs.Texts.{same_text}
use Rattle.sc_macro.proofs.form.Rest.is_named.Goals as goal

pub returns-in-Some : goal.returns-in-Some
returns-in-Some c =
    let names = c.args.names.now in
    let held = subst (λ o. IfSome o (IsRestName names)) c.in-Some.is c.requires.rest in
    rw c.in-Some.is (c.eq.ensures ∙ sym (same_text names c.in-Some.own.0 c.args.name.0 c.one_to_one.ensures held.0 c.requires.name))
