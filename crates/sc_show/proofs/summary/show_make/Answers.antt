use Rattle.std.proofs.Common.{◌∙◌, ◌++◌, ap, codes}
use Rattle.sc_show.proofs.Pieces.{split_lines}
use Rattle.sc_show.proofs.SummaryLines.{six-joined, summary-lines}
use Rattle.sc_show.specs.Pieces.{split_lines_after}
use Rattle.sc_show.specs.Summary.{count_line, size_line, summary_pieces}
use Rattle.sc_show.proofs.summary.show_make.Goals as goal
use Rattle.sc_text.specs.Text.{line_text, end_line}

pub returns-clause-text : goal.returns-clause-text
returns-clause-text c =
    let s = c.args.summary.now in
    let items = count_line (codes "items") s.items in
    let first = size_line (codes "first") s.first in
    let last = size_line (codes "last") s.last in
    let faults = count_line (codes "faults") s.faults in
    let classes = count_line (codes "classes") s.classes in
    let one = c.in_ok-write_count.ensures ∙ ap (λ t. t ++ items) c.new-text.ensures.items in
    let two = c.in_ok-write_size.ensures ∙ ap (λ t. t ++ first) one in
    let three = c.in_ok-write_size-2.ensures ∙ ap (λ t. t ++ last) two in
    let four = c.in_ok-write_count-2.ensures ∙ ap (λ t. t ++ faults) three in
    let five = c.in_ok-write_count-3.ensures ∙ ap (λ t. t ++ classes) four in
    c.in_ok-write_end.ensures ∙ ap (λ t. t ++ line_text end_line) five ∙ six-joined items first last faults classes (line_text end_line)

pub returns-clause-lines : goal.returns-clause-lines
returns-clause-lines c = ap split_lines_after (returns-clause-text c) ∙ split_lines (summary_pieces c.args.summary.now) (summary-lines c.args.summary.now)
