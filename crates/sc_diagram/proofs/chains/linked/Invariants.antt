use Rattle.std.proofs.Common.{◌≡◌, length}
use Rattle.std.specs.Prelude.{take}
use Rattle.sc_diagram.specs.Chains.{AreLinked, links}
use Rattle.sc_diagram.proofs.chains.linked.Given as goal

abbrev pub invariant-loop-number : goal.invariant-loop-number
invariant-loop-number l = record {
  linked : AreLinked (links (take l.number l.hashes) l.older.items l.newest.items);
  slots : length l.newest.items ≡ l.slots;
}
