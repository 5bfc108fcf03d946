use Rattle.std.proofs.Common.{◌∙◌, sym, ap, arith}
use Rattle.std.proofs.lemmas.Fmt.{decimal_is_IsNumeral}
use Rattle.sc_model.specs.Token.{name_of}
use Rattle.sc_table.proofs.StartLemmas.{plain_digits}
use Rattle.sc_table.proofs.start.option_macro.Goals as goal

pub one_item_macro-requires-clause-plain : goal.one_item_macro-requires-clause-plain
one_item_macro-requires-clause-plain c =
    let text = c.as_bytes-text.ensures.value ∙ c.format.ensures.text in
    ap name_of text ∙ (plain_digits _ (decimal_is_IsNumeral c.in-Number.number (omega arith)).0 ∙ sym text)
