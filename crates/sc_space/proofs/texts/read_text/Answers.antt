use Rattle.std.proofs.Common.{◌≡◌, ◌∙◌, map, sym, subst, Some, Ok, Err}
use Rattle.std.proofs.lemmas.Result.{IfOk-weaker}
use Rattle.c11_tokens.specs.Lex.{Lexed}
use Rattle.sc_base.specs.Seen.{position_of}
use Rattle.sc_lex.specs.Spell.{Refuses, lexeme_at}
use Rattle.sc_space.proofs.texts.read_text.Goals as goal

pub returns-in-Ok : goal.returns-in-Ok
returns-in-Ok c =
    let are_tokens = c.in-Ok.ensures.ok in
    let names = c.tokens.new.names in
    let line = c.deref.ensures.value ∙ c.in_ok-line.ensures in
    IfOk-weaker c.line_defines.result _ _ (λ found defines texts are.
    defines are_tokens.lexemes (subst (λ ts. map (lexeme_at names) ts ≡ map Some are_tokens.lexemes) (sym c.deref-in-Ok.ensures.value) are_tokens.spell.each)
    ∙ sym (are.each c.args.name.now c.args.text.now (Ok are_tokens.lexemes) (subst (λ bytes. Lexed bytes (Ok are_tokens.lexemes)) line are_tokens.lexed))) c.line_defines.ensures

pub returns-in-Err-Comment : goal.returns-in-Err-Comment
returns-in-Err-Comment c = λ texts are.
    let line = c.deref.ensures.value ∙ c.in_ok-line.ensures in
    let p = position_of c.in-Err-Comment.field-0-0 in
    let unended = subst (Refuses _ c.deref.result.now) c.in-Err-Comment.field-0-is c.in-Err-Comment.ensures.err in
    sym (are.each c.args.name.now c.args.text.now (Err p) (subst (λ bytes. Lexed bytes (Err p)) line unended.lexed))
