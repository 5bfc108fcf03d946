use Rattle.std.proofs.Common.{◌<◌, ◌∷◌, [], length, map}
use Rattle.std.proofs.lemmas.Result.{IfOk-weaker}
use Rattle.sc_base.specs.declared.id.Cond.{Cond}
use Rattle.sc_base.specs.declared.id.TreeId.{TreeId}
use Rattle.sc_model.specs.Sets.{IsCond}
use Rattle.sc_tree.specs.Views.{line_of}
use Rattle.sc_tree.proofs.DeclaredLemmas.{declared-at, start-at, start-all}
use Rattle.sc_tree.proofs.declared.declared.Goals as goal

pub declared_names-requires : goal.declared_names-requires
declared_names-requires g c = record {
  first = c.requires.first;
  branches = c.requires.branches;
  own = start-all (λ (start : Cond × TreeId). IsCond (g.C.Conditions.sets c.args.conds.now) start.0.0) c.always.result c.args.id c.always.ensures.own;
  within = start-all (λ (start : Cond × TreeId). start.1.0 < length c.args.lines.now) c.always.result c.args.id c.requires.id;
}

pub returns-clause-names : goal.returns-clause-names
returns-clause-names g c =
    let s = g.C.Conditions.sets in
    IfOk-weaker c.declared_names.result _ _
    (λ found walks names files d tree config read. declared-at (s c.args.conds.now) (s c.declared_names.new.conds) names files (map line_of c.args.lines.now) d c.args.id tree found.items
    ((c.always.result, c.args.id) ∷ []) (start-at (s c.args.conds.now) c.always.result c.args.id d (c.always.ensures.meaning.at d config)) (walks d config) read)
    c.declared_names.ensures.names
