use Rattle.std.proofs.Common.{length, drop, refl, arith, sym, ◌∙◌, subst}
use Rattle.std.proofs.lemmas.List.{take_rest}
use Rattle.c11_tokens.specs.Lex.{is_quoted}
use Rattle.sc_lex.specs.Scan.{IsLongestFront}
use Rattle.sc_lex.proofs.Quotes.{behind-some, behind-none, behind-off, starts_with-is}
use Rattle.sc_lex.proofs.UnclosedLemmas.{IsUnclosed-drop, quoted-unclosed}
use Rattle.sc_lex.proofs.scan.prefixed.Goals as goal
use Rattle.sc_lex.proofs.scan.prefixed.Goals.{After-quoted-length}

rest : (c : After-quoted-length) → IsLongestFront (is_quoted c.args.quote c.args.filled) (drop (length c.args.prefix.now) c.args.text.now) c.quoted-length.result
rest c = subst (λ bs. IsLongestFront (is_quoted c.args.quote c.args.filled) bs c.quoted-length.result) (take_rest c.args.text.now (length c.args.prefix.now)) c.quoted-length.ensures

pub returns-then-not-starts_with : goal.returns-then-not-starts_with
returns-then-not-starts_with c =
    behind-off (is_quoted c.args.quote c.args.filled) refl c.args.prefix.now c.args.text.now
    (starts_with-is c.args.prefix.now c.args.text.now ∙ sym c.starts_with.ensures.value ∙ c.if-not-starts_with.true)

pub returns-then-prefix-unclosed : goal.returns-then-prefix-unclosed
returns-then-prefix-unclosed c =
    behind-none (is_quoted c.args.quote c.args.filled) refl c.args.prefix.now c.args.text.now
    (starts_with-is c.args.prefix.now c.args.text.now ∙ sym c.starts_with.ensures.value ∙ c.if-not-starts_with.false)
    (quoted-unclosed c.args.quote c.args.filled (drop (length c.args.prefix.now) c.args.text.now) (IsUnclosed-drop (length c.args.prefix.now) 1 (omega arith) c.requires))

pub returns-then-length-eq0 : goal.returns-then-length-eq0
returns-then-length-eq0 c =
    behind-none (is_quoted c.args.quote c.args.filled) refl c.args.prefix.now c.args.text.now
    (starts_with-is c.args.prefix.now c.args.text.now ∙ sym c.starts_with.ensures.value ∙ c.if-not-starts_with.false)
    (subst (IsLongestFront (is_quoted c.args.quote c.args.filled) (drop (length c.args.prefix.now) c.args.text.now)) c.if-length-eq0.true (rest (goal.at.returns-then-length-eq0 c).After-quoted-length))

pub returns-else-length-eq0 : goal.returns-else-length-eq0
returns-else-length-eq0 c =
    let other = c.if-length-eq0.false in
    behind-some (is_quoted c.args.quote c.args.filled) refl c.args.prefix.now c.args.text.now _
    (starts_with-is c.args.prefix.now c.args.text.now ∙ sym c.starts_with.ensures.value ∙ c.if-not-starts_with.false)
    (rest (goal.at.returns-else-length-eq0 c).After-quoted-length) (omega arith)
