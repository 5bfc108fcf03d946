use Rattle.std.proofs.Common.{◌∙◌, ap, map, arith}
use Rattle.std.proofs.lemmas.List.{take_all}
use Rattle.std.specs.List.{concat}
use Rattle.sc_lalr.specs.Tables.{conflicts_of}
use Rattle.sc_show.specs.Conflicts.{conflict_text, conflict_pieces}
use Rattle.sc_show.specs.Pieces.{split_lines_after}
use Rattle.sc_show.proofs.ConflictLines.{conflicts_more, conflicts_whole, conflict_lines}
use Rattle.sc_show.proofs.Pieces.{split_lines}
use Rattle.sc_show.proofs.conflicts.show_conflicts.Goals as goal

pub loop-conflict-preserved : goal.loop-conflict-preserved
loop-conflict-preserved c = conflicts_more c.conflicts-conflict-items.result.now c.loop-conflict.conflict-index _ c.loop-conflict.text.items _ c.loop-conflict-test.true c.loop-conflict.invariant c.in_ok-write_conflict.ensures

pub returns-clause-text : goal.returns-clause-text
returns-clause-text c =
    let all = take_all c.loop-conflict.conflict-index c.conflicts-conflict-items.result.now (omega arith) ∙ c.conflicts-conflict-items.ensures in
    conflicts_whole (conflicts_of c.args.tables.now) c.loop-conflict.text.items _ (c.loop-conflict.invariant ∙ ap (λ cs. concat (map conflict_text cs)) all) c.in_ok-write_end.ensures

pub returns-clause-lines : goal.returns-clause-lines
returns-clause-lines c =
    ap split_lines_after (returns-clause-text c) ∙ split_lines (conflict_pieces (conflicts_of c.args.tables.now)) (conflict_lines (conflicts_of c.args.tables.now))
