use Rattle.std.proofs.Common.{All, [], ◌∷◌, Some, ap, arith, get_or, length, subst, sym, take, ◌∙◌}
use Rattle.std.proofs.lemmas.List.{take_all, take_more}
use Rattle.std.proofs.lemmas.List.Elements.{All-append, All-cons, All-nil}
use Rattle.lr_tables.specs.declared.grammar.Action.TheVariants.{Reduce}
use Rattle.sc_parse.specs.Weights.{ActsBy}
use Rattle.sc_parse.proofs.reductions.reducing.Goals as goal

pub loop-at-init : goal.loop-at-init
loop-at-init c = record { some = omega arith; by = c.requires.first }

pub loop-at-preserved : goal.loop-at-preserved
loop-at-preserved c =
    let P = ActsBy c.args.steps.now.core.source c.args.rule c.args.steps.now.core.subparsers in
    let n = get_or c.args.numbers.now c.loop-at.at 0 in
    record {
      some = omega (arith, c.loop-at.invariant.some);
      by =
          subst (All P) (sym (take_more c.args.numbers.now c.loop-at.at 0 c.loop-at-test.true))
          (All-append P (take c.loop-at.at c.args.numbers.now) (n ∷ []) c.loop-at.invariant.by
          (All-cons P n [] (λ s at looks. c.in-Some.ensures.some s at looks ∙ ap (λ rule. Some (Reduce rule)) c.if-other-rule.false) (All-nil P)));
    }

pub returns-clause-by : goal.returns-clause-by
returns-clause-by c =
    let P = ActsBy c.args.steps.now.core.source c.args.rule c.args.steps.now.core.subparsers in
    let numbers = c.args.numbers.now in
    subst (All P) (take_all c.loop-at.at numbers c.loop-at-test.false ∙ sym (take_all (length numbers) numbers (omega arith))) c.loop-at.invariant.by
