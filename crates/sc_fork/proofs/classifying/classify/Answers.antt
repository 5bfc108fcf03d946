use Rattle.std.proofs.Common.{◌≡◌, ap}
use Rattle.sc_fork.proofs.KindLemmas.{classify-events, classify-owns}
use Rattle.sc_fork.proofs.NumberLemmas.{kinds-numbered}
use Rattle.sc_fork.proofs.PhaseLemmas.{kind-phases}
use Rattle.sc_merge.specs.declared.subparser.Subparser.{Subparser}
use Rattle.sc_model.proofs.SetLemmas.{Keeps-trans, Denotes-Keeps, Denotes-self}
use Rattle.sc_fork.proofs.classifying.classify.Goals as goal

pub returns-in_err-add_kind-clause-keeps : goal.returns-in_err-add_kind-clause-keeps
returns-in_err-add_kind-clause-keeps g c = Keeps-trans c.typedefs.ensures.keeps c.apply_without.ensures.keeps

pub returns-in_err-add_kind-2-clause-keeps : goal.returns-in_err-add_kind-2-clause-keeps
returns-in_err-add_kind-2-clause-keeps g c = Keeps-trans c.typedefs.ensures.keeps c.apply_without.ensures.keeps

pub returns-clause-pieces : goal.returns-clause-pieces
returns-clause-pieces g c =
    let s = g.C.Conditions.sets in
    let same : c.parent.inside.cond ≡ c.args.parent.now.cond = ap (λ (p : Subparser). p.cond) c.parent.view_is in
    λ lines.
    classify-events (s c.args.conds.now) (s c.apply_without.new.self) lines c.args.source.now c.args.parent.now c.args.at c.in_ok-types.types c.in_ok-variables.variables c.new-pieces.result.items
    c.add_kind.new.pieces.items c.add_kind-2.new.pieces.items c.requires.phase c.requires.at (Keeps-trans c.typedefs.ensures.keeps c.apply_without.ensures.keeps)
    (Denotes-Keeps c.apply_without.ensures.keeps c.in_ok-types.ensures.meaning)
    ((rw same at c.in_ok-variables.ensures.meaning) _ _
    (Denotes-Keeps c.typedefs.ensures.keeps (Denotes-self (s c.args.conds.now) c.args.parent.now.cond.0 c.requires.own)) c.in_ok-types.ensures.meaning)
    c.new-pieces.ensures.items c.in_ok-add_kind.ensures c.in_ok-add_kind-2.ensures

pub returns-clause-own : goal.returns-clause-own
returns-clause-own g c =
    let s = g.C.Conditions.sets in
    classify-owns (s c.args.conds.now) (s c.apply_without.new.self) c.args.source.now c.args.parent.now c.args.at c.in_ok-types.types c.in_ok-variables.variables c.new-pieces.result.items
    c.add_kind.new.pieces.items c.add_kind-2.new.pieces.items c.requires.at (Keeps-trans c.typedefs.ensures.keeps c.apply_without.ensures.keeps)
    (c.apply_without.ensures.keeps.own c.in_ok-types.types.0 c.in_ok-types.ensures.meaning.own) c.in_ok-variables.ensures.own
    c.new-pieces.ensures.items c.in_ok-add_kind.ensures c.in_ok-add_kind-2.ensures

pub returns-clause-numbered : goal.returns-clause-numbered
returns-clause-numbered g c = λ numbers has.
    kinds-numbered numbers c.args.parent.now has (g.C.Conditions.sets c.apply_without.new.self) c.args.source.now c.args.at c.in_ok-types.types c.in_ok-variables.variables
    c.new-pieces.result.items c.add_kind.new.pieces.items c.add_kind-2.new.pieces.items c.new-pieces.ensures.items c.in_ok-add_kind.ensures c.in_ok-add_kind-2.ensures

pub returns-clause-keeps : goal.returns-clause-keeps
returns-clause-keeps g c = Keeps-trans c.typedefs.ensures.keeps c.apply_without.ensures.keeps

pub returns-clause-phases : goal.returns-clause-phases
returns-clause-phases g c =
    kind-phases (g.C.Conditions.sets c.apply_without.new.self) c.args.source.now c.args.parent.now c.args.at c.in_ok-types.types c.in_ok-variables.variables c.new-pieces.result.items
    c.add_kind.new.pieces.items c.add_kind-2.new.pieces.items c.new-pieces.ensures.items c.in_ok-add_kind.ensures c.in_ok-add_kind-2.ensures
