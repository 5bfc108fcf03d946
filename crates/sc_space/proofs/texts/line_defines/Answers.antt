use Rattle.std.proofs.Common.{◌∙◌, ◌-◌, length, take, sym}
use Rattle.std.proofs.lemmas.Result.{IfOk-weaker}
use Rattle.sc_space.proofs.TextLists.{defines-line, defines-more, front-each}
use Rattle.sc_space.proofs.texts.line_defines.Goals as goal

pub returns-then-has_newline : goal.returns-then-has_newline
returns-then-has_newline c = λ ts each.
    defines-more c.args.names.now c.args.tokens.now ts each (rw c.saturating_sub.ensures at (sym c.has_newline.ensures ∙ c.if-has_newline.true))

pub returns : goal.returns
returns c =
    let names = c.args.names.now in
    let tokens = c.args.tokens.now in
    IfOk-weaker c.list_defined.result _ _ (λ found defines ts each.
    defines (take (length ts - 1) ts) (rw c.saturating_sub.ensures (front-each names tokens ts each))
    ∙ defines-line names tokens ts each (rw c.saturating_sub.ensures at (sym c.has_newline.ensures ∙ c.if-has_newline.false))) c.list_defined.ensures
