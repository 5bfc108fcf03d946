use Rattle.std.proofs.Common.{refl}
use Rattle.std.proofs.lemmas.Bool.{lt-ltb}
use Rattle.sc_show.specs.Rules.{token_item}
use Rattle.sc_show.proofs.PrinterLaying.{LaidOut-one, LaidOut-never, not_zero}
use Rattle.sc_show.proofs.printer.Printer.print_token.Goals as goal

pub returns-clause-lines : goal.returns-clause-lines
returns-clause-lines g c =
    let some = not_zero c.in_ok-condition.condition c.if-condition-eq-NEVER.false in
    LaidOut-one (token_item c.args.cond c.args.place c.args.spelling.now) c.in_ok-condition.condition c.in_ok-file.file refl (lt-ltb 0 c.in_ok-condition.condition some) refl c.requires.spelling some
    c.in_ok-condition.ensures.lines c.in_ok-file.ensures.lines c.in_ok-condition.ensures.number c.in_ok-file.ensures.number refl refl refl c.in_ok-write_token.ensures

pub returns-then-condition-eq-NEVER-clause-lines : goal.returns-then-condition-eq-NEVER-clause-lines
returns-then-condition-eq-NEVER-clause-lines g c = LaidOut-never (token_item c.args.cond c.args.place c.args.spelling.now) c.in_ok-condition.condition c.if-condition-eq-NEVER.true c.requires.table c.in_ok-condition.ensures.lines c.in_ok-condition.ensures.number
