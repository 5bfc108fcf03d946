use Rattle.std.proofs.Common.{◌≡◌, take}
use Rattle.sc_fork.specs.Seen.{parts_of}
use Rattle.sc_fork.proofs.splitting.split.Given as goal

abbrev pub invariant-loop-part : goal.invariant-loop-part
invariant-loop-part g l = l.pieces.items ≡ parts_of l.parent (take l.part-index l.part-items)

abbrev pub ghosts-next_parts : goal.ghosts-next_parts
ghosts-next_parts g a = record { name = a.blank.name; parts = a.blank.parts }
