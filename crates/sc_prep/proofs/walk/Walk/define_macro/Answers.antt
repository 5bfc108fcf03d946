use Rattle.sc_macro.specs.Reads.{seen_defined}
use Rattle.sc_prep.proofs.Facts.{Keeps-trans}
use Rattle.sc_prep.proofs.WalkMoves.{same-owns, defines}
use Rattle.sc_prep.proofs.walk.Walk.define_macro.Goals as goal

pub refuse-requires-clause-owns : goal.refuse-requires-clause-owns
refuse-requires-clause-owns g c = same-owns c.in_ok-refused.ensures.keeps c.args.self.now c.requires.owns c.define.new.self

pub returns-clause-moved : goal.returns-clause-moved
returns-clause-moved g c = λ standard.
    defines standard c.args.names.now c.in_ok-refused.ensures.keeps c.args.self.now c.requires.owns c.define.new.self c.in_ok-refused.ensures.table c.in_ok-refused.refused c.refuse.new.self c.args.line.now
    (seen_defined c.args.names.now c.args.definition) c.in_ok-refused.ensures.own c.in_ok-refused.ensures.refused c.in_ok-refused.ensures.defined (c.in_ok-refuse.ensures.moved standard)

pub returns-clause-keeps : goal.returns-clause-keeps
returns-clause-keeps g c = Keeps-trans c.in_ok-refused.ensures.keeps c.in_ok-refuse.ensures.keeps

pub returns-in_err-refuse-clause-keeps : goal.returns-in_err-refuse-clause-keeps
returns-in_err-refuse-clause-keeps g c = Keeps-trans c.in_ok-refused.ensures.keeps c.in_err-refuse.ensures.keeps
