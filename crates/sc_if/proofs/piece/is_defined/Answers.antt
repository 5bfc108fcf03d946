use Rattle.std.proofs.Common.{◌&&◌, ap, sym, ◌∙◌}
use Rattle.std.specs.Prelude.{codes}
use Rattle.sc_base.specs.Seen.{text_at}
use Rattle.sc_model.specs.Bytes.{same_bytes}
use Rattle.sc_if.proofs.piece.is_defined.Goals as goal

pub returns-then-is_identifier : goal.returns-then-is_identifier
returns-then-is_identifier c =
    let names = c.args.names.now in
    c.is_spelled.ensures ∙ ap (λ b. b && same_bytes (text_at names c.args.token.spelling.0) (codes "defined")) (sym c.if-is_identifier.true ∙ c.is_identifier.ensures names)

pub returns-else-is_identifier : goal.returns-else-is_identifier
returns-else-is_identifier c =
    let names = c.args.names.now in
    c.if-is_identifier.false ∙ ap (λ b. b && same_bytes (text_at names c.args.token.spelling.0) (codes "defined")) (sym c.if-is_identifier.false ∙ c.is_identifier.ensures names)
