use Rattle.std.proofs.Common.{sym}
use Rattle.sc_expand.proofs.Facts.{drop-drop}
use Rattle.sc_expand.proofs.source.Source.drop_next.Goals as goal

pub returns-then-self-len : goal.returns-then-self-len
returns-then-self-len c = sym (drop-drop 1 c.args.self.now.next c.args.self.now.items.items)
