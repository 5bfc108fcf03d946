use Rattle.sc_prep.proofs.Facts.{Keeps-trans}
use Rattle.sc_prep.proofs.Terms.{text_at}
use Rattle.sc_prep.proofs.WalkMoves.{same-owns, undefines}
use Rattle.sc_prep.proofs.walk.Walk.undef_macro.Goals as goal

pub refuse-requires-clause-owns : goal.refuse-requires-clause-owns
refuse-requires-clause-owns g c = same-owns c.in_ok-refused.ensures.keeps c.args.self.now c.requires.owns c.undef.new.self

pub returns-clause-moved : goal.returns-clause-moved
returns-clause-moved g c = λ standard.
    undefines standard c.args.names.now c.in_ok-refused.ensures.keeps c.args.self.now c.requires.owns c.undef.new.self c.in_ok-refused.ensures.table c.in_ok-refused.refused c.refuse.new.self c.args.line.now
    (text_at c.args.names.now c.args.name.0) c.in_ok-refused.ensures.refused c.in_ok-refused.ensures.removed (c.in_ok-refuse.ensures.moved standard)

pub returns-clause-keeps : goal.returns-clause-keeps
returns-clause-keeps g c = Keeps-trans c.in_ok-refused.ensures.keeps c.in_ok-refuse.ensures.keeps
