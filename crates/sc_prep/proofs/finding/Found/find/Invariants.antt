use Rattle.std.proofs.Common.{◌≡◌, All, map, take, true, string_bytes}
use Rattle.sc_prep.proofs.Terms.{AreContents, AreFound, AreOnce, ArePlainPaths, Keeps, KeepsContents, Named, has_no_newline, text_at}
use Rattle.sc_prep.specs.Going.{ReadsFiles}
use Rattle.sc_prep.proofs.finding.Found.find.Given as goal

abbrev pub invariant-loop-name : goal.invariant-loop-name
invariant-loop-name g l = record {
  keeps : Keeps (g.C.Conditions.sets l.fn.conds) (g.C.Conditions.sets l.conds);
  reads : ReadsFiles (g.S.Source.holds l.fn.src) (g.S.Source.holds l.src) (g.S.Source.faults l.fn.src) (g.S.Source.faults l.src) l.fn.names l.names l.fn.files l.files;
  read : AreContents l.standard l.names l.files (g.S.Source.holds l.fn.src) l.contents;
  stays : KeepsContents l.fn.contents l.contents;
  paths : ArePlainPaths (map string_bytes l.directories) → All (λ (n : Named). has_no_newline (string_bytes n.header.name) ≡ true) l.named → ArePlainPaths l.fn.files → ArePlainPaths l.files;
  found : AreFound l.standard (g.C.Conditions.sets l.fn.conds) (take l.name-index l.named) (text_at l.fn.files l.including.0) (map string_bytes l.directories) l.names l.files l.contents (g.C.Conditions.sets l.conds) l.found;
  once : AreOnce l.found.parts.items;
}
