use Rattle.sc_prep.proofs.Facts.{IsTable-Keeps}
use Rattle.sc_prep.proofs.WalkMoves.{still-after}
use Rattle.sc_prep.proofs.conditional.taken.Goals as goal

pub returns-in_err-negate-clause-still : goal.returns-in_err-negate-clause-still
returns-in_err-negate-clause-still g c = still-after c.args.table.now c.defined.new.self c.in_ok-found.ensures.keeps c.in_err-negate.ensures.keeps c.in_ok-found.ensures.table c.in_ok-found.ensures.still

pub returns-in_ok-negate-clause-still : goal.returns-in_ok-negate-clause-still
returns-in_ok-negate-clause-still g c = still-after c.args.table.now c.defined.new.self c.in_ok-found.ensures.keeps c.in_ok-negate.ensures.keeps c.in_ok-found.ensures.table c.in_ok-found.ensures.still

pub returns-in_ok-negate-clause-meaning : goal.returns-in_ok-negate-clause-meaning
returns-in_ok-negate-clause-meaning g c = rw c.if-wanted.false (c.in_ok-negate.ensures.meaning _ c.in_ok-found.ensures.meaning)

pub returns-in_err-negate-clause-table : goal.returns-in_err-negate-clause-table
returns-in_err-negate-clause-table g c = IsTable-Keeps c.in_err-negate.ensures.keeps c.in_ok-found.ensures.table

pub returns-in_ok-negate-clause-table : goal.returns-in_ok-negate-clause-table
returns-in_ok-negate-clause-table g c = IsTable-Keeps c.in_ok-negate.ensures.keeps c.in_ok-found.ensures.table
