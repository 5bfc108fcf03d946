use Rattle.std.proofs.Common.{Err, refl, subst, ◌∙◌}
use Rattle.sc_lex.specs.Spell.{Refuses}
use Rattle.sc_prep.proofs.Terms.{AreTokensOf, Lexed, position_of}
use Rattle.sc_prep.proofs.valid.if_tokens.Goals as goal

pub returns-in-Ok-clause-ok : goal.returns-in-Ok-clause-ok
returns-in-Ok-clause-ok c =
    subst (λ bytes. AreTokensOf c.tokens.new.names c.args.file bytes c.in-Ok.tokens.items) (c.deref.ensures.value ∙ c.in_ok-line.ensures) c.in-Ok.ensures.ok

pub returns-in-Err-Comment-clause-refused : goal.returns-in-Err-Comment-clause-refused
returns-in-Err-Comment-clause-refused c =
    let p = position_of c.in-Err-Comment.field-0-0 in
    let unended = subst (Refuses _ c.deref.result.now) c.in-Err-Comment.field-0-is c.in-Err-Comment.ensures.err in
    (refl, (p, subst (λ bytes. Lexed bytes (Err p)) (c.deref.ensures.value ∙ c.in_ok-line.ensures) unended.lexed))
