use Rattle.std.proofs.Common.{refl}
use Rattle.std.proofs.lemmas.Bool.{lt-ltb}
use Rattle.sc_show.specs.Rules.{fault_item}
use Rattle.sc_show.proofs.PrinterLaying.{LaidOut-one, LaidOut-never, not_zero}
use Rattle.sc_show.proofs.printer.Printer.print_fault.Goals as goal

pub returns-clause-lines : goal.returns-clause-lines
returns-clause-lines g c =
    let some = not_zero c.in_ok-condition.condition c.if-condition-eq-NEVER.false in
    LaidOut-one (fault_item c.args.fault) c.in_ok-condition.condition c.in_ok-file.file refl (lt-ltb 0 c.in_ok-condition.condition some) refl refl some
    c.in_ok-condition.ensures.lines c.in_ok-file.ensures.lines c.in_ok-condition.ensures.number c.in_ok-file.ensures.number refl refl refl c.in_ok-write_fault.ensures

pub returns-then-condition-eq-NEVER-clause-lines : goal.returns-then-condition-eq-NEVER-clause-lines
returns-then-condition-eq-NEVER-clause-lines g c = LaidOut-never (fault_item c.args.fault) c.in_ok-condition.condition c.if-condition-eq-NEVER.true c.requires.table c.in_ok-condition.ensures.lines c.in_ok-condition.ensures.number
