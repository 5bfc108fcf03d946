use Rattle.std.proofs.Common.{◌≡◌, [], ◌∷◌, length, sym, ap, ◌∙◌, subst, arith}
use Rattle.std.proofs.lemmas.Bool.{ltb-false}
use Rattle.std.proofs.lemmas.List.Elements.{All-head, All-nil}
use Rattle.sc_base.proofs.Growth.{Extends-trans}
use Rattle.sc_fork.proofs.ReduceLemmas.{few-symbols}
use Rattle.sc_fork.specs.Enabled.{Has}
use Rattle.sc_grammar.specs.Production.{production_of}
use Rattle.sc_merge.specs.declared.subparser.Subparser.{Subparser}
use Rattle.sc_model.proofs.SetLemmas.{Keeps-trans}
use Rattle.sc_fork.specs.declared.event.Event.TheVariants.{Reduce}
use Rattle.sc_parse.proofs.NumberLemmas.{event-replaces}
use Rattle.sc_parse.specs.Runs.{StandsBefore}
use Rattle.sc_parse.proofs.WeightLemmas.{alone-lower, alone-moves, alone-next, alone-ready, at-number, first-alone, HasReduced, one-each, rank-falls, reduced-first, reducing-one, reduction-enabled, reduction-number}
use Rattle.sc_parse.specs.Numbers.{Each, IsAt, IsReady, Replaces, given}
use Rattle.sc_parse.specs.Weights.{IsReducing, IsWeighed}
use Rattle.sc_parse.proofs.reductions.reduced_alone.Goals as goal
use Rattle.sc_parse.proofs.reductions.reduced_alone.Goals.{In-Some, In-Some-made, In_default-made, In_ok-made, then-production-gt1, else-production-gt1}

pub loop-rule-init : goal.loop-rule-init
loop-rule-init g c = first-alone (g.C.Conditions.sets c.args.conds.now) c.args.trees.now c.args.steps.now c.args.number c.requires.own c.requires.branches c.requires.numbers

-- the element that comes next
looks : (g : _) (c : In-Some g) → Each (IsAt c.requires.at.0) c.loop-rule.steps.core.subparsers (c.loop-rule.number ∷ [])
looks g c = (c.loop-rule.invariant.moves c.requires.at.0 c.requires.at.1).at

reduces : (g : _) (c : In-Some g) → Each (IsReducing c.loop-rule.steps.core.source c.in-Some.rule) c.loop-rule.steps.core.subparsers (c.loop-rule.number ∷ [])
reduces g c =
    reducing-one c.loop-rule.steps.core.source c.loop-rule.steps.core.subparsers c.loop-rule.number c.requires.at.0 c.in-Some.rule [] (looks g c)
    (λ s has at. c.in-Some.ensures.some s c.requires.at.0 (record { has = has; phase = at }))

-- what the reduction makes of it
once : (g : _) (c : In_ok-made g)
    → HasReduced (g.C.Conditions.sets c.loop-rule.conds) (g.C.Conditions.sets c.reduce.new.conds) c.loop-rule.trees c.reduce.new.trees c.loop-rule.steps c.reduce.new.self (c.loop-rule.number ∷ []) []
    c.production-production.result.left.0 (given c.in_ok-made.made) []
once g c =
    let at = c.loop-rule in
    let rows = at.steps.core.subparsers in
    let each = (at.invariant.moves c.requires.at.0 c.requires.at.1).at in
    let reducing = reducing-one at.steps.core.source rows at.number c.requires.at.0 c.in-Some.rule [] each
    (λ s has phase. c.in-Some.ensures.some s c.requires.at.0 (record { has = has; phase = phase })) in
    reduced-first (g.C.Conditions.sets at.conds) (g.C.Conditions.sets c.reduce.new.conds) at.trees c.reduce.new.trees at.steps c.reduce.new.self (at.number ∷ []) c.in-Some.rule
    (production_of c.production-production.result) [] (given c.in_ok-made.made) at.invariant.own at.invariant.branches at.invariant.numbers c.requires.at.0 each
    (All-nil (IsWeighed at.steps.core.source rows)) c.production-production.ensures
    (event-replaces at.steps.core c.reduce.new.self.core (Reduce at.number) (given c.in_ok-made.made) c.in_ok-made.ensures.made at.invariant.numbers)
    (one-each at.steps.core c.reduce.new.self.core at.number c.in-Some.rule (given c.in_ok-made.made) c.in_ok-made.ensures.made reducing)
    (λ place before. c.in_ok-made.ensures.goes_on place (λ s has. at-number (StandsBefore place) rows at.number [] s has before))

pub production-production-requires-clause-first : goal.production-production-requires-clause-first
production-production-requires-clause-first g c =
    (reduction-number (g.C.Conditions.sets c.loop-rule.conds) (length c.loop-rule.trees) c.loop-rule.steps (c.loop-rule.number ∷ []) c.in-Some.rule c.loop-rule.invariant.own (omega arith) (reduces g c)).0

pub production-production-requires-clause-last : goal.production-production-requires-clause-last
production-production-requires-clause-last g c =
    (reduction-number (g.C.Conditions.sets c.loop-rule.conds) (length c.loop-rule.trees) c.loop-rule.steps (c.loop-rule.number ∷ []) c.in-Some.rule c.loop-rule.invariant.own (omega arith) (reduces g c)).1

pub prove-unreachable-requires : goal.prove-unreachable-requires
prove-unreachable-requires g c = elim c.if-production-gt1.branch [
  | then-production-gt1 w ↦
      let long = w.if-production-gt1.true in
      let short = ltb-false 1 (length c.production-production.result.right.now) (sym w.prove-is ∙ c.if-prove.true) in
      omega (arith, long, short)
  | else-production-gt1 w ↦
      let at = c.loop-rule in
      let rule = production_of c.production-production.result in
      let few = few-symbols c.production-production.result.right.now in
      let short = w.if-production-gt1.false in
      let falls = rank-falls (g.C.Conditions.sets at.conds) (length at.trees) at.steps at.number at.rank c.in-Some.rule rule at.invariant.own at.invariant.ranked
      (reduces g (goal.at.prove-unreachable-requires g c).In-Some) c.production-production.ensures (omega (arith, few, short)) in
      let high = ltb-false c.production-production.result.left.0 at.rank (sym w.prove-is ∙ c.if-prove.true) in
      omega (arith, falls, high)
]

pub reduce-requires-clause-own : goal.reduce-requires-clause-own
reduce-requires-clause-own g c = c.loop-rule.invariant.own

pub reduce-requires-clause-branches : goal.reduce-requires-clause-branches
reduce-requires-clause-branches g c = c.loop-rule.invariant.branches

pub reduce-requires-clause-enabled : goal.reduce-requires-clause-enabled
reduce-requires-clause-enabled g c = λ fact refused.
    let j = c.requires.at.0 in
    let rows = c.loop-rule.steps.core.subparsers in
    let at = All-head (λ n. (s : Subparser) × (Has rows n s × IsAt j s)) c.loop-rule.number [] (looks g (goal.at.reduce-requires-clause-enabled g c).In-Some) in
    reduction-enabled c.loop-rule.steps.core.source rows c.loop-rule.number at.0 j c.in-Some.rule fact at.1.0 at.1.1 (c.in-Some.ensures.some at.0 j (record { has = at.1.0; phase = at.1.1 })) refused

pub reduce-requires-clause-there : goal.reduce-requires-clause-there
reduce-requires-clause-there g c =
    let rows = c.loop-rule.steps.core.subparsers in
    let at = All-head (λ n. (s : Subparser) × (Has rows n s × IsAt c.requires.at.0 s)) c.loop-rule.number [] (looks g (goal.at.reduce-requires-clause-there g c).In-Some) in
    (at.0, at.1.0)

pub returns-in_err-made-clause-keeps : goal.returns-in_err-made-clause-keeps
returns-in_err-made-clause-keeps g c = Keeps-trans c.loop-rule.invariant.keeps c.reduce.ensures.keeps

pub returns-in_err-made-clause-grows : goal.returns-in_err-made-clause-grows
returns-in_err-made-clause-grows g c = Extends-trans c.loop-rule.invariant.grows c.reduce.ensures.grows

-- ---- where it ends

none-there : (g : _) (c : In_default-made g) → given c.in_ok-made.made ≡ []
none-there g c = ap given c.in_default-made.is

pub returns-in_default-made-clause-goes_on : goal.returns-in_default-made-clause-goes_on
returns-in_default-made-clause-goes_on g c = λ j each.
    (alone-moves (g.C.Conditions.sets c.args.conds.now) (g.C.Conditions.sets c.loop-rule.conds) (g.C.Conditions.sets c.reduce.new.conds) c.args.trees.now c.loop-rule.trees c.reduce.new.trees
    c.args.steps.now c.loop-rule.steps c.reduce.new.self c.args.number c.loop-rule.number c.loop-rule.rank c.production-production.result.left.0 (given c.in_ok-made.made) c.loop-rule.invariant
    (once g (goal.at.returns-in_default-made-clause-goes_on g c).In_ok-made) j each).goes_on

pub returns-in_default-made-clause-replaces : goal.returns-in_default-made-clause-replaces
returns-in_default-made-clause-replaces g c =
    subst (λ ns. Replaces c.args.steps.now.core.subparsers c.reduce.new.self.core.subparsers (c.args.number ∷ []) ns) (none-there g (goal.at.returns-in_default-made-clause-replaces g c).In_default-made ∙ sym c.new.ensures.items)
    (alone-moves (g.C.Conditions.sets c.args.conds.now) (g.C.Conditions.sets c.loop-rule.conds) (g.C.Conditions.sets c.reduce.new.conds) c.args.trees.now c.loop-rule.trees c.reduce.new.trees
    c.args.steps.now c.loop-rule.steps c.reduce.new.self c.args.number c.loop-rule.number c.loop-rule.rank c.production-production.result.left.0 (given c.in_ok-made.made) c.loop-rule.invariant
    (once g (goal.at.returns-in_default-made-clause-replaces g c).In_ok-made) c.requires.at.0 c.requires.at.1).replaces

pub returns-in_default-made-clause-keeps : goal.returns-in_default-made-clause-keeps
returns-in_default-made-clause-keeps g c = Keeps-trans c.loop-rule.invariant.keeps c.reduce.ensures.keeps

pub returns-in_default-made-clause-grows : goal.returns-in_default-made-clause-grows
returns-in_default-made-clause-grows g c = Extends-trans c.loop-rule.invariant.grows c.reduce.ensures.grows

-- ---- where it goes on

one-there : (g : _) (c : In-Some-made g) → given c.in_ok-made.made ≡ c.in-Some-made.next ∷ []
one-there g c = ap given c.in-Some-made.is

pub loop-rule-smaller : goal.loop-rule-smaller
loop-rule-smaller g c =
    alone-lower (g.C.Conditions.sets c.args.conds.now) (g.C.Conditions.sets c.loop-rule.conds) (g.C.Conditions.sets c.reduce.new.conds) c.args.trees.now c.loop-rule.trees c.reduce.new.trees
    c.args.steps.now c.loop-rule.steps c.reduce.new.self c.args.number c.loop-rule.number c.loop-rule.rank c.production-production.result.left.0 (given c.in_ok-made.made) c.loop-rule.invariant
    (once g (goal.at.loop-rule-smaller g c).In_ok-made) c.in-Some-made.next (one-there g (goal.at.loop-rule-smaller g c).In-Some-made)

pub loop-rule-preserved : goal.loop-rule-preserved
loop-rule-preserved g c =
    alone-next (g.C.Conditions.sets c.args.conds.now) (g.C.Conditions.sets c.loop-rule.conds) (g.C.Conditions.sets c.reduce.new.conds) c.args.trees.now c.loop-rule.trees c.reduce.new.trees
    c.args.steps.now c.loop-rule.steps c.reduce.new.self c.args.number c.loop-rule.number c.loop-rule.rank c.production-production.result.left.0 (given c.in_ok-made.made) c.loop-rule.invariant
    (once g (goal.at.loop-rule-preserved g c).In_ok-made) c.in-Some-made.next (one-there g (goal.at.loop-rule-preserved g c).In-Some-made)

pub returns-in_err-vec-clause-keeps : goal.returns-in_err-vec-clause-keeps
returns-in_err-vec-clause-keeps g c = c.loop-rule.invariant.keeps

pub returns-in_err-vec-clause-grows : goal.returns-in_err-vec-clause-grows
returns-in_err-vec-clause-grows g c = c.loop-rule.invariant.grows

pub returns-in_err-vec-clause-owns : goal.returns-in_err-vec-clause-owns
returns-in_err-vec-clause-owns g c = c.loop-rule.invariant.branches

pub returns-clause-goes_on : goal.returns-clause-goes_on
returns-clause-goes_on g c = λ j each. (c.loop-rule.invariant.moves j each).goes_on

pub returns-clause-replaces : goal.returns-clause-replaces
returns-clause-replaces g c =
    subst (λ ns. Replaces c.args.steps.now.core.subparsers c.loop-rule.steps.core.subparsers (c.args.number ∷ []) ns) (sym c.in_ok-vec.ensures.items)
    (c.loop-rule.invariant.moves c.requires.at.0 c.requires.at.1).replaces

pub returns-clause-ready : goal.returns-clause-ready
returns-clause-ready g c = λ j each.
    subst (λ ns. Each (IsReady c.loop-rule.steps.core.source j) c.loop-rule.steps.core.subparsers ns) (sym c.in_ok-vec.ensures.items)
    (alone-ready c.loop-rule.steps.core.source c.loop-rule.steps.core.subparsers c.loop-rule.number j (c.loop-rule.invariant.moves j each).at
    (λ s has at p acts. c.reduction.ensures.none c.in_default.is s j (record { has = has; phase = at }) p acts))

pub returns-clause-keeps : goal.returns-clause-keeps
returns-clause-keeps g c = c.loop-rule.invariant.keeps

pub returns-clause-grows : goal.returns-clause-grows
returns-clause-grows g c = c.loop-rule.invariant.grows

pub returns-clause-owns : goal.returns-clause-owns
returns-clause-owns g c = c.loop-rule.invariant.branches
