use Rattle.std.proofs.Common.{◌≡◌}
use Rattle.sc_space.specs.SpaceFile.{check_keys}
use Rattle.toml.specs.View.{members_view, table_view}
use Rattle.sc_space.proofs.read.check_keys.Given as goal

abbrev pub invariant-loop-key : goal.invariant-loop-key
invariant-loop-key l = check_keys (table_view l.document) ≡ check_keys (members_view l.key-iterator)
