use Rattle.sc_show.specs.TreeShows.{IsRootOf}
use Rattle.sc_show.proofs.TreeNumbers.{root_some, root_none}
use Rattle.sc_show.proofs.printer.Printer.print_root.Goals as goal
use Rattle.sc_show.proofs.printer.Printer.print_root.Goals.{in-Some, in-None}

pub returns-clause-lines : goal.returns-clause-lines
returns-clause-lines c =
    let is : IsRootOf c.args.self.now.trees.keys c.args.root c.match-root.number = elim c.match-root.branch [
      | in-Some w ↦ root_some w.in-Some.tree w.printed.result w.in-Some.is w.number-is w.printed.ensures
      | in-None w ↦ root_none w.in-None.is w.number-is
    ] in
    (c.match-root.number, (is, c.in_ok-write_root.ensures))
