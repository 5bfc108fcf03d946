use Rattle.std.proofs.Common.{◌∙◌, length, ap}
use Rattle.std.proofs.lemmas.List.FromFn.{length-map-range_with_len}
use Rattle.std.proofs.lemmas.Result.{IfOk-weaker}
use Rattle.sc_model.specs.Sets.{config_count}
use Rattle.sc_presence.proofs.SetsLemmas.{Denotes-choice}
use Rattle.sc_presence.proofs.plain_sets.PlainSetsConditions.choose.Goals as goal

pub intern-requires : goal.intern-requires
intern-requires c =
    ap length c.in_ok-row.ensures ∙ length-map-range_with_len _ 0 c.self.inside.count ∙ c.self.invariant.whole ∙ ap (λ p. config_count p.arities) c.self.view_is

pub returns-clause-meaning : goal.returns-clause-meaning
returns-clause-meaning c =
    let all = c.self.invariant.whole ∙ ap (λ p. config_count p.arities) c.self.view_is in
    let made = rw (c.stride-stride.ensures.stride, c.arity-arity.ensures.arity) at c.in_ok-row.ensures in
    IfOk-weaker c.intern.result _ _ (λ r stores. Denotes-choice _ _ _ stores c.requires.variable all made) c.intern.ensures.stores
