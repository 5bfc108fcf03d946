use Rattle.std.proofs.Common.{◌<◌, ℕ, List, Some, arith, length, map, slice_get, ap, sym, ◌∙◌}
use Rattle.std.proofs.lemmas.Result.{IfOk-weaker}
use Rattle.sc_base.specs.declared.id.Name.{Name}
use Rattle.sc_guarded.specs.Items.{items_at}
use Rattle.sc_tree.proofs.ParameterLemmas.{last-at-name, last-none, last-below}
use Rattle.sc_tree.proofs.Steps.{children-within, line-at}
use Rattle.sc_tree.specs.Views.{line_of}
use Rattle.sc_tree.proofs.parameters.last_name.Goals as goal

pub returns-in_default-clause-named : goal.returns-in_default-clause-named
returns-in_default-clause-named g c = λ names files d tree config has plain read.
    let none = last-none (record { sets = g.C.Conditions.sets c.args.conds.now; names = names; files = files; lines = map line_of c.args.lines.now }) d c.args.id (line_of c.index-lines-id.result) tree
    (line-at c.args.lines.now c.args.id.0 c.index-lines-id.result c.index-lines-id.is c.requires.id) (sym c.last_of.ensures ∙ c.in_default.is) plain read in
    record { same = ap (λ items. map (λ (name : Name). slice_get names name.0) (items_at (g.C.Conditions.sets c.args.conds.now) items d)) c.new.ensures.items ∙ ap (map (λ (text : List ℕ). Some text)) (sym none) }

pub parameter_name-requires-clause-id : goal.parameter_name-requires-clause-id
parameter_name-requires-clause-id g c =
    let at = line-at c.args.lines.now c.args.id.0 c.index-lines-id.result c.index-lines-id.is c.requires.id in
    let within : c.args.id.0 < length c.args.lines.now = c.requires.id in
    last-below (length c.args.lines.now) (line_of c.index-lines-id.result) c.args.id c.in-Some.last (sym c.last_of.ensures ∙ c.in-Some.is) within
    (children-within (map line_of c.args.lines.now) (line_of c.index-lines-id.result) c.args.id.0 (length c.args.lines.now) c.requires.first at (omega (arith, within)))

pub returns-clause-named : goal.returns-clause-named
returns-clause-named g c =
    let s = g.C.Conditions.sets in
    IfOk-weaker c.parameter_name.result _ _
    (λ found named names files d tree config has plain read. last-at-name (record { sets = s c.args.conds.now; names = names; files = files; lines = map line_of c.args.lines.now }) d c.args.id c.in-Some.last
    (line_of c.index-lines-id.result) tree (items_at (s c.parameter_name.new.conds) found.items d) (line-at c.args.lines.now c.args.id.0 c.index-lines-id.result c.index-lines-id.is c.requires.id)
    (sym c.last_of.ensures ∙ c.in-Some.is) plain read (λ part part_read. named names files d part config has part_read))
    c.parameter_name.ensures.named
