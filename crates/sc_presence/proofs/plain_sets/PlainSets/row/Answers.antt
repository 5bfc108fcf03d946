use Rattle.std.proofs.Common.{◌<◌, ◌∙◌, length, ap, sym, subst, arith}
use Rattle.std.proofs.lemmas.List.{length-map}
use Rattle.sc_model.specs.Sets.{config_count}
use Rattle.sc_presence.proofs.PlainLemmas.{length-row}
use Rattle.sc_presence.proofs.plain_sets.PlainSets.row.Goals as goal

pub returns-clause-long : goal.returns-clause-long
returns-clause-long c =
    let keys = c.self.inside.rows.keys in
    let made = subst (λ p. c.args.a.0 < length p.rows) (sym c.self.view_is) c.requires.made in
    let within : c.args.a.0 < length keys = omega (arith, made, length-map keys (λ r. r.items)) in
    ap length c.as_slice-2.ensures.value
    ∙ length-row (λ r. r.items) _ keys c.args.a.0 c.index-as_slice-a.result c.self.invariant.plain within (rw c.as_slice.ensures.keys at c.index-as_slice-a.is)
    ∙ ap (λ p. config_count p.arities) c.self.view_is
