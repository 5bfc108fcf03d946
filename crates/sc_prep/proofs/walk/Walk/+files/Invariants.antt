use Rattle.std.proofs.Common.{◌+◌, ◌++◌, ◌-◌, ◌*◌, ◌≡◌, [], All, drop, length, take, true}
use Rattle.sc_expand.specs.Stops.{HasConfigs}
use Rattle.sc_prep.specs.Going.{Gone, ReadsFiles}
use Rattle.sc_prep.proofs.Going.{Staged}
use Rattle.sc_prep.proofs.SharedLines.{SharesLines}
use Rattle.sc_prep.proofs.SharesIncluded.{EnteredBy}
use Rattle.sc_prep.proofs.Terms.{Agrees, AreOnce, ArePartsOf, Context, GathersFrom, IsAtTop, IsContext, IsIn, IsReady, Runs, StandApart, files_at, is_plain, seen_line, seen_lines, seen_space, tokens_read}
use Rattle.sc_prep.proofs.WalkStops.{to_come}
use Rattle.sc_prep.proofs.walk.Walk.+files.Given as goal

-- the files that may still be entered, one in the other, and the order of the calls at one depth
abbrev pub decreases-enter : goal.decreases-enter
decreases-enter g l = 4 * (l.space.now.limits.include_depth - l.entry.depth) + 3

abbrev pub decreases-walk_lines : goal.decreases-walk_lines
decreases-walk_lines g l = 4 * (l.space.now.limits.include_depth - l.entry.depth) + 2

abbrev pub decreases-take_line : goal.decreases-take_line
decreases-take_line g l = 4 * (l.space.now.limits.include_depth - l.entry.depth) + 1

abbrev pub decreases-include_line : goal.decreases-include_line
decreases-include_line g l = 4 * (l.space.now.limits.include_depth - l.entry.depth)

-- Each machine ran over the lines before this one, and what was gathered stands apart from the
-- tokens that are still to come. What two machines put out in those lines they share.
abbrev pub invariant-walk_lines-loop-number : goal.invariant-walk_lines-loop-number
invariant-walk_lines-loop-number g l = record {
  ready : IsReady l.space.standard (g.C.Conditions.sets l.conds) l.names l.files (g.S.Source.holds l.src) l.self l.contents;
  gone : Gone (seen_space l.space) (g.C.Conditions.sets l.fn.conds) l.fn.names l.fn.files l.fn.self l.fn.contents (g.C.Conditions.sets l.conds) l.names l.files l.self l.contents (Unit {0})
      (IsAtTop l.fn.files l.entry) (λ x config m n. Runs x m (take l.number (seen_lines l.space.standard l.fn.names l.fn.files l.file.tokens.items)) n);
  apart : l.fn.self.runs.read ≡ [] → StandApart l.file.tokens.items → StandApart (tokens_read l.self.runs.read ++ to_come l.file l.number);
  shares : (x : Context) → IsContext (seen_space l.space) x → Agrees l.space.standard l.names l.files x.files l.contents
      → (HasConfigs (g.C.Conditions.sets l.fn.conds).arities ((seen_space l.space).branches + 1) → ⊥)
      → SharesLines x l.entry l.space.standard l.file.tokens.items l.number (g.C.Conditions.sets l.fn.conds) l.fn.names l.fn.files l.fn.self (g.C.Conditions.sets l.conds) l.names l.files l.self;
  reads : ReadsFiles (g.S.Source.holds l.fn.src) (g.S.Source.holds l.src) (g.S.Source.faults l.fn.src) (g.S.Source.faults l.src) l.fn.names l.names l.fn.files l.files;
}

abbrev pub decreases-walk_lines-loop-number : goal.decreases-walk_lines-loop-number
decreases-walk_lines-loop-number g l = length l.file.lines.items - l.number

-- each machine entered its file, or the file is still among these
abbrev pub invariant-include_line-loop-part : goal.invariant-include_line-loop-part
invariant-include_line-loop-part g l = record {
  ready : IsReady l.space.standard (g.C.Conditions.sets l.conds) l.names l.files (g.S.Source.holds l.src) l.self l.contents;
  parts : ArePartsOf (g.C.Conditions.sets l.conds) l.contents l.part-items;
  gone : Gone (seen_space l.space) (g.C.Conditions.sets l.fn.conds) l.fn.names l.fn.files l.fn.self l.fn.contents (g.C.Conditions.sets l.conds) l.names l.files l.self l.contents (All (λ token. is_plain l.fn.names token ≡ true) l.line)
      (IsIn l.fn.files l.entry)
      (λ x config m n. Staged x (seen_line l.space.standard l.fn.names l.fn.files l.line) l.files l.entry.depth m (files_at (g.C.Conditions.sets l.conds) (drop l.part-index l.part-items) config) n);
  reads : ReadsFiles (g.S.Source.holds l.fn.src) (g.S.Source.holds l.src) (g.S.Source.faults l.fn.src) (g.S.Source.faults l.src) l.fn.names l.names l.fn.files l.files;
  gathers : GathersFrom l.line l.fn.self l.self;
  once : AreOnce l.part-items;
  entered : (x : Context) → IsContext (seen_space l.space) x → Agrees l.space.standard l.names l.files x.files l.contents → (HasConfigs (g.C.Conditions.sets l.fn.conds).arities ((seen_space l.space).branches + 1) → ⊥)
      → EnteredBy x (seen_line l.space.standard l.fn.names l.fn.files l.line) l.fn.files l.fn.names l.entry (g.C.Conditions.sets l.fn.conds) l.fn.self l.files l.names (g.C.Conditions.sets l.conds) l.self l.part-items l.part-index;
}
