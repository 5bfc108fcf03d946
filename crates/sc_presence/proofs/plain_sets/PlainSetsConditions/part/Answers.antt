use Rattle.std.proofs.Common.{◌∙◌, length, ap, sym, subst, arith}
use Rattle.std.proofs.lemmas.List.FromFn.{length-map-range_with_len}
use Rattle.std.proofs.lemmas.Result.{IfOk-weaker}
use Rattle.sc_model.proofs.SetLemmas.{IsPart-Denotes, DependsFrom-IsPart, has-IsPart, Denotes-self}
use Rattle.sc_presence.specs.Plain.{IsPlain}
use Rattle.sc_presence.proofs.RankLemmas.{moved-lt}
use Rattle.sc_presence.proofs.SetsLemmas.{Denotes-part}
use Rattle.sc_presence.proofs.plain_sets.PlainSetsConditions.part.Goals as goal

pub part-requires-clause-within : goal.part-requires-clause-within
part-requires-clause-within c = λ i below.
    let plain = subst IsPlain c.self.view_is c.self.invariant.plain in
    rw (c.stride-stride.ensures.stride, c.arity-arity.ensures.arity, c.row.ensures.long) (
    moved-lt c.args.self.now.arities c.args.variable c.args.option i plain.options c.requires.variable c.requires.option (omega (arith, c.row.ensures.long)))

pub intern-requires : goal.intern-requires
intern-requires c = ap length c.in_ok-row.ensures ∙ length-map-range_with_len _ 0 (length c.row.result.now) ∙ c.row.ensures.long

pub returns-clause-meaning : goal.returns-clause-meaning
returns-clause-meaning c =
    let all = ap length (sym c.row.ensures.row) ∙ c.row.ensures.long in
    let made = rw (c.stride-stride.ensures.stride, c.arity-arity.ensures.arity, c.row.ensures.row) at c.in_ok-row.ensures in
    IfOk-weaker c.intern.result _ _ (λ r stores. Denotes-part _ _ _ _ stores c.requires.variable c.requires.option all made) c.intern.ensures.stores

pub returns-clause-later : goal.returns-clause-later
returns-clause-later c =
    IfOk-weaker c.intern.result _ _ (λ r means from.
    let part = IsPart-Denotes c.requires.own c.requires.variable c.requires.option c.intern.ensures.keeps (means _ (Denotes-self _ _ c.requires.own)) in
    DependsFrom-IsPart c.intern.ensures.keeps part from) (returns-clause-meaning c)

pub returns-clause-chosen : goal.returns-clause-chosen
returns-clause-chosen c =
    IfOk-weaker c.intern.result _ _ (λ r means.
    has-IsPart (IsPart-Denotes c.requires.own c.requires.variable c.requires.option c.intern.ensures.keeps (means _ (Denotes-self _ _ c.requires.own)))) (returns-clause-meaning c)
