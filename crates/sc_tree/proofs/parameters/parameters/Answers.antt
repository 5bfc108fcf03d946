use Rattle.std.proofs.Common.{◌∷◌, [], ◌∙◌, ap, map}
use Rattle.std.proofs.lemmas.Result.{IfOk-weaker}
use Rattle.sc_guarded.specs.Items.{items_at}
use Rattle.sc_model.proofs.SetLemmas.{Keeps-trans, IsConfig-Keeps}
use Rattle.sc_tree.proofs.DeclaredLemmas.{start-at}
use Rattle.sc_tree.proofs.ParameterLemmas.{parameters-at}
use Rattle.sc_tree.specs.Views.{line_of}
use Rattle.sc_tree.proofs.parameters.parameters.Goals as goal

pub returns-in_err-parts-clause-keeps : goal.returns-in_err-parts-clause-keeps
returns-in_err-parts-clause-keeps g c = Keeps-trans c.walk_back.ensures.keeps (Keeps-trans c.first_lists.ensures.keeps c.walk_back-2.ensures.keeps)

pub returns-clause-keeps : goal.returns-clause-keeps
returns-clause-keeps g c = Keeps-trans c.walk_back.ensures.keeps (Keeps-trans c.first_lists.ensures.keeps (Keeps-trans c.walk_back-2.ensures.keeps c.parameter_names.ensures.keeps))

pub returns-clause-names : goal.returns-clause-names
returns-clause-names g c =
    let s = g.C.Conditions.sets in
    let k1 = c.walk_back.ensures.keeps in
    let k2 = Keeps-trans k1 c.first_lists.ensures.keeps in
    let k3 = Keeps-trans k2 c.walk_back-2.ensures.keeps in
    IfOk-weaker c.parameter_names.result _ _
    (λ found spells names files d tree config read. parameters-at (s c.args.conds.now) (s c.walk_back.new.conds) (s c.first_lists.new.conds) (s c.walk_back-2.new.conds) (s c.parameter_names.new.conds) names files
    (map line_of c.args.lines.now) d c.args.id tree ((c.always.result, c.args.id) ∷ []) c.deref.result.now c.deref-2.result.now c.deref-3.result.now found.items
    k1 c.first_lists.ensures.keeps c.walk_back-2.ensures.keeps config (start-at (s c.args.conds.now) c.always.result c.args.id d (c.always.ensures.meaning.at d config))
    (λ path walked. ap (λ trees. items_at (s c.walk_back.new.conds) trees d) c.deref.ensures.value ∙ c.in_ok-way.ensures.passed d config path walked)
    (ap (λ trees. items_at (s c.first_lists.new.conds) trees d) c.deref-2.ensures.value ∙ c.in_ok-lists.ensures.lists d (IsConfig-Keeps k1 config))
    (λ path walked. ap (λ trees. items_at (s c.walk_back-2.new.conds) trees d) c.deref-3.ensures.value ∙ c.in_ok-parts.ensures.passed d (IsConfig-Keeps k2 config) path walked)
    (λ texts. spells names files d texts (IsConfig-Keeps k3 config)) read)
    c.parameter_names.ensures.names
