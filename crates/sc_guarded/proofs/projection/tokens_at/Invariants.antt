use Rattle.std.proofs.Common.{◌≡◌, map, take}
use Rattle.sc_guarded.specs.Items.{items_at}
use Rattle.sc_guarded.proofs.projection.tokens_at.Given as goal

abbrev pub invariant-loop-item : goal.invariant-loop-item
invariant-loop-item g l = l.tokens.items ≡ map g.T.HasToken.token_of (items_at (g.C.Conditions.sets l.conds) (take l.item-index l.items) l.config)
