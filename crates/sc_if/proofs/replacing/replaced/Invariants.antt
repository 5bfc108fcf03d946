use Rattle.std.proofs.Common.{◌≡◌, ◌<◌, ℕ, true, List, [], All, map, take, if◌then◌else◌}
use Rattle.std.specs.Prelude.{AllPairs}
use Rattle.sc_base.specs.Seen.{seen}
use Rattle.sc_guarded.specs.Items.{items_at}
use Rattle.sc_hoist.specs.Alike.{AreAlike, IsAlike}
use Rattle.sc_if.proofs.DifferentReplacing.{AreApart, StandsIn}
use Rattle.sc_if.specs.Replaced.{IsHeldList, IsPlacedPiece, seen_piece, token_for}
use Rattle.sc_model.specs.Sets.{IsConfig, Keeps}
use Rattle.sc_table.specs.Table.{IsStill, IsTable, macros_at}
use Rattle.sc_if.proofs.replacing.replaced.Given as goal

abbrev pub invariant-loop-piece : goal.invariant-loop-piece
invariant-loop-piece g l = record {
  keeps : Keeps (g.C.Conditions.sets l.fn.conds) (g.C.Conditions.sets l.conds);
  table : IsTable (g.C.Conditions.sets l.conds) l.names l.table;
  still : IsStill (g.C.Conditions.sets l.fn.conds) (g.C.Conditions.sets l.conds) l.names l.fn.table l.table;
  list : IsHeldList (g.C.Conditions.sets l.conds) l.names l.list;
  placed : (files : ℕ) → All (IsPlacedPiece files) l.pieces → All (λ item. item.1.place.file.0 < files) l.list;
  stands : StandsIn l.pieces l.piece-index l.list;
  different : (files : List (List ℕ)) → AllPairs AreApart l.pieces → AllPairs (λ a b. seen l.names files a.1 ≡ seen l.names files b.1 → ⊥) l.list;
  at : (c : List ℕ) → IsConfig (g.C.Conditions.sets l.fn.conds).arities c
      → items_at (g.C.Conditions.sets l.conds) l.list c
      ≡ (if (g.C.Conditions.sets l.fn.conds).has l.live.0 c then map (token_for l.digits.one l.digits.zero (macros_at (g.C.Conditions.sets l.fn.conds) l.names l.fn.table c) l.names) (take l.piece-index l.pieces) else []);
  alike : (c d : List ℕ) → IsConfig (g.C.Conditions.sets l.fn.conds).arities c → IsConfig (g.C.Conditions.sets l.fn.conds).arities d → IsAlike (g.C.Conditions.sets l.fn.conds) c d l.live
      → ((g.C.Conditions.sets l.fn.conds).has l.live.0 c ≡ true → All (λ piece. seen_piece (macros_at (g.C.Conditions.sets l.fn.conds) l.names l.fn.table c) l.names piece ≡ seen_piece (macros_at (g.C.Conditions.sets l.fn.conds) l.names l.fn.table d) l.names piece) l.pieces)
      → AreAlike (g.C.Conditions.sets l.conds) c d l.list;
}
