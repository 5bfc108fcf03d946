use Rattle.std.proofs.Common.{◌≢◌, ◌∙◌, ◌<◌, length, get_or-set_other, get_or-set_same, below_more, ap, sym, arith}
use Rattle.std.proofs.lemmas.Grind.{same_number_lists}
use Rattle.sc_presence.proofs.RankLemmas.{length-strides_of, strides_of_pos, length-config_at, get_or-config_at}
use Rattle.sc_presence.proofs.ranks.write_config.Goals as goal

pub bounds-strides-variable : goal.bounds-strides-variable
bounds-strides-variable c = omega (arith, ap length c.requires.strides, length-strides_of c.args.arities.now)

pub option_at-requires-clause-stride : goal.option_at-requires-clause-stride
option_at-requires-clause-stride c = rw c.requires.strides (strides_of_pos c.args.arities.now c.loop-variable.variable c.requires.options (omega arith))

pub loop-variable-preserved : goal.loop-variable-preserved
loop-variable-preserved c =
    let variable = c.loop-variable.variable in
    let arities = c.args.arities.now in
    let within : variable < length c.loop-variable.into = omega arith in
    below_more _ _
    (λ u h. let other : u ≢ variable = omega arith in rw get_or-set_other (c.loop-variable.invariant u h))
    (rw get_or-set_same (c.option_at.ensures ∙ rw c.requires.strides (sym (get_or-config_at arities c.args.rank variable (omega arith)))))

pub returns : goal.returns
returns c =
    same_number_lists _ _ (c.loop-variable.auto.into ∙ c.requires.long ∙ sym (length-config_at _ _)) (λ u h. c.loop-variable.invariant u (omega arith))
