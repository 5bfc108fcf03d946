use Rattle.std.proofs.Common.{◌∙◌}
use Rattle.sc_project.proofs.Sizes.{same-size, sized}
use Rattle.sc_tree.specs.Reads.{Tables}
use Rattle.sc_project.proofs.size.tree_size.Goals as goal

pub returns : goal.returns
returns g c = λ names files tree reads.
    let laid = c.in_ok-laid.laid in
    let w : Tables = record { sets = g.C.Conditions.sets c.args.conds.now; names = names; files = files; lines = c.args.trees.now } in
    let of = sized w c.args.config.now c.args.root.0 0 c.in_ok-laid.root.0 laid tree reads c.in_ok-laid.ensures.laid in
    same-size c.first_lines.result tree laid c.in_ok-one_more.field-0 (c.in_ok-one_more.ensures ∙ c.in_ok-laid.ensures.last) of c.first_lines.ensures.leaves c.first_lines.ensures.all
