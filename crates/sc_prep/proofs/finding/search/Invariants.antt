use Rattle.std.proofs.Common.{◌≡◌, ◌≤◌, None, map, take, string_bytes}
use Rattle.c11_directives.specs.Pre as model
use Rattle.sc_prep.proofs.Terms.{Agrees, Extends, Files, LooksUp}
use Rattle.sc_prep.proofs.finding.search.Given as goal

abbrev pub invariant-loop-name : goal.invariant-loop-name
invariant-loop-name g l = record {
  names : Extends l.fn.names l.names;
  files : Extends l.fn.files l.files;
  kept : g.S.Source.holds l.src ≡ g.S.Source.holds l.fn.src;
  counted : g.S.Source.faults l.fn.src ≤ g.S.Source.faults l.src;
  looks : LooksUp l.standard l.fn.names l.fn.files l.fn.contents (g.S.Source.holds l.fn.src) l.names l.files l.contents (map string_bytes l.candidates);
  absent : (held : Files) → Agrees l.standard l.names l.files held l.contents → model.search held (map string_bytes (take l.name-index l.candidates)) ≡ None;
}
