use Rattle.std.proofs.Common.{◌∙◌, ap, codes}
use Rattle.c11_macros.specs.Substitution.{is_named}
use Rattle.sc_macro.proofs.Equality.{unnamed}
use Rattle.sc_macro.proofs.fit.names_variable_arguments.Goals as goal

pub returns-in-Some : goal.returns-in-Some
returns-in-Some c = λ names held. unnamed names c.in-Some.rest.name c.is_none.result c.is_none.ensures (c.in-Some.ensures.own names held) ∙ ap (is_named (codes "__VA_ARGS__")) (c.in-Some.ensures.is names)
