use Rattle.std.proofs.Common.{[], ◌∷◌, false, ap, sym, ◌∙◌}
use Rattle.std.proofs.lemmas.List.{take_rest}
use Rattle.c11_tokens.specs.Lex.{without_trigraphs}
use Rattle.sc_lex.specs.Cursor.{stored}
use Rattle.sc_lex.proofs.Quotes.{starts_with-is}
use Rattle.sc_lex.proofs.CursorLemmas.{phase_1-plain, phase_1-marked}
use Rattle.sc_lex.proofs.cursor.Cursor.new.Goals as goal

pub returns-then-starts_with : goal.returns-then-starts_with
returns-then-starts_with c =
    ap (λ bs. without_trigraphs (stored false 1 4 bs)) (take_rest c.args.bytes.now 3)
    ∙ phase_1-marked c.args.bytes.now (starts_with-is (239 ∷ 187 ∷ 191 ∷ []) c.args.bytes.now ∙ sym c.starts_with.ensures.value ∙ c.if-starts_with.true)

pub returns : goal.returns
returns c = phase_1-plain c.args.bytes.now (starts_with-is (239 ∷ 187 ∷ 191 ∷ []) c.args.bytes.now ∙ sym c.starts_with.ensures.value ∙ c.if-starts_with.false)
