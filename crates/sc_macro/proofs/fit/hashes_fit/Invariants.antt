use Rattle.std.proofs.Common.{◌≡◌, drop, map}
use Rattle.c11_macros.specs.Defines as model
use Rattle.sc_macro.specs.Seen.{seen_form, seen_item}
use Rattle.sc_macro.proofs.fit.hashes_fit.Given as goal

-- the items that are left fit where all do
abbrev pub invariant-loop-i : goal.invariant-loop-i
invariant-loop-i l = model.hashes_fit (seen_form l.names l.form) (map (seen_item l.names) (drop l.i l.list)) ≡ model.hashes_fit (seen_form l.names l.form) (map (seen_item l.names) l.list)
