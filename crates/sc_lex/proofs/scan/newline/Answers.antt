use Rattle.std.proofs.Common.{refl, rules, ◌==◌}
use Rattle.c11_tokens.specs.Lex.{fits, token}
use Rattle.sc_model.specs.declared.kind.Kind.TheVariants as kind
use Rattle.sc_lex.proofs.Fronts.{one_byte}
use Rattle.sc_lex.proofs.scan.newline.Goals as goal

pub returns-then-text-eq10 : goal.returns-then-text-eq10
returns-then-text-eq10 c = one_byte (fits (token kind.Newline)) (λ b. b == 10) c.args.text.now (λ b bs. refl) (search rules) (search rules)
