-- What an integer constant has, as the definitions see it.
use Rattle.c11_tokens.specs.Constants as model
use Rattle.sc_constants.specs.declared.integer.IntegerForm.{IntegerForm}

abbrev pub seen_form : IntegerForm → model.IntegerForm
seen_form form = record { base = form.base; is_unsigned = form.is_unsigned; digits = form.digits.now }
