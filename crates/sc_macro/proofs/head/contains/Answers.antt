use Rattle.std.proofs.Common.{◌∙◌, sym, refl}
use Rattle.sc_macro.proofs.Parameters.{any_is}
use Rattle.sc_macro.proofs.head.contains.Goals as goal

pub returns : goal.returns
returns c = c.contains.ensures ∙ sym (any_is c.args.names.now c.one_to_one.ensures c.args.name c.requires.name _ (λ k. refl) c.args.parameters.now.keys c.requires.parameters)
