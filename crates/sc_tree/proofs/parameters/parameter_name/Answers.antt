use Rattle.std.proofs.Common.{◌<◌, ◌∙◌, ◌∷◌, [], ap, length, map}
use Rattle.std.proofs.lemmas.Result.{IfOk-weaker}
use Rattle.std.specs.List.{filter}
use Rattle.sc_base.specs.declared.id.Cond.{Cond}
use Rattle.sc_base.specs.declared.id.TreeId.{TreeId}
use Rattle.sc_model.proofs.SetLemmas.{IsConfig-Keeps}
use Rattle.sc_model.specs.Sets.{IsCond}
use Rattle.sc_tree.proofs.DeclaredLemmas.{start-at, start-none}
use Rattle.sc_tree.proofs.GuardedLemmas.{all-named, is_named_at}
use Rattle.sc_tree.proofs.ParameterLemmas.{name-at, no-name-at}
use Rattle.sc_tree.specs.Views.{line_of}
use Rattle.sc_tree.proofs.parameters.parameter_name.Goals as goal

pub declared_names-requires-clause-own : goal.declared_names-requires-clause-own
declared_names-requires-clause-own g c = all-named (λ (tree : Cond × TreeId). IsCond (g.C.Conditions.sets c.walk.new.conds) tree.0.0) (map line_of c.args.lines.now) c.in_ok-trees.trees.items c.deref.result.now c.in_ok-named.named.items c.deref-2.result.now
    c.deref-2.ensures.value c.in_ok-named.ensures c.deref.ensures.value c.in_ok-trees.ensures.own

pub declared_names-requires-clause-within : goal.declared_names-requires-clause-within
declared_names-requires-clause-within g c = all-named (λ (tree : Cond × TreeId). tree.1.0 < length c.args.lines.now) (map line_of c.args.lines.now) c.in_ok-trees.trees.items c.deref.result.now c.in_ok-named.named.items c.deref-2.result.now
    c.deref-2.ensures.value c.in_ok-named.ensures c.deref.ensures.value c.in_ok-trees.ensures.within

pub returns-clause-named : goal.returns-clause-named
returns-clause-named g c =
    let s = g.C.Conditions.sets in
    IfOk-weaker c.declared_names.result _ _
    (λ found walks names files d tree config has read. name-at (s c.args.conds.now) (s c.walk.new.conds) (s c.declared_names.new.conds) names files (map line_of c.args.lines.now) d c.args.id tree ((c.args.cond, c.args.id) ∷ [])
    c.in_ok-trees.trees.items c.deref-2.result.now found.items c.walk.ensures.keeps config (start-at (s c.args.conds.now) c.args.cond c.args.id d has) (c.in_ok-trees.ensures.passed d config)
    (c.deref-2.ensures.value ∙ c.in_ok-named.ensures ∙ ap (filter (is_named_at (map line_of c.args.lines.now))) c.deref.ensures.value) (walks d (IsConfig-Keeps c.walk.ensures.keeps config)) read)
    c.declared_names.ensures.names

pub returns-clause-none : goal.returns-clause-none
returns-clause-none g c =
    let s = g.C.Conditions.sets in
    IfOk-weaker c.declared_names.result _ _
    (λ found walks d config has. no-name-at (s c.args.conds.now) (s c.walk.new.conds) (s c.declared_names.new.conds) (map line_of c.args.lines.now) d ((c.args.cond, c.args.id) ∷ [])
    c.in_ok-trees.trees.items c.deref-2.result.now found.items (start-none (s c.args.conds.now) c.args.cond c.args.id d has) (c.in_ok-trees.ensures.passed d config)
    (c.deref-2.ensures.value ∙ c.in_ok-named.ensures ∙ ap (filter (is_named_at (map line_of c.args.lines.now))) c.deref.ensures.value) (walks d (IsConfig-Keeps c.walk.ensures.keeps config)))
    c.declared_names.ensures.names
