use Rattle.sc_lex.proofs.Best.{best_if_longer, best_unless_longer}
use Rattle.sc_lex.proofs.piece.Piece.or_longer.Goals as goal

pub returns-then-self-length : goal.returns-then-self-length
returns-then-self-length c = λ line bytes bound best is front. best_if_longer best _ _ is front c.if-self-length.true

pub returns-else-self-length : goal.returns-else-self-length
returns-else-self-length c = λ line bytes bound best is front. best_unless_longer best _ _ is front c.if-self-length.false
