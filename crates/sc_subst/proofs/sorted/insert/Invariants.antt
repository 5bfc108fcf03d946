use Rattle.std.proofs.Common.{◌≡◌, ◌++◌, drop}
use Rattle.sc_subst.specs.Rising.{inserted}
use Rattle.sc_subst.proofs.sorted.insert.Given as goal

-- the smaller names, and the others with this one
abbrev pub invariant-loop-i : goal.invariant-loop-i
invariant-loop-i l = l.made.items ++ inserted (drop l.i l.set) l.name ≡ inserted l.set l.name
