use Rattle.std.proofs.Common.{◌≡◌, ◌<◌, ℕ, All, map, length}
use Rattle.c11_expressions.specs.Lines.{without_defined}
use Rattle.c11_macros.specs.Macros.{Macros}
use Rattle.std.specs.Prelude.{AllPairs}
use Rattle.sc_if.proofs.DifferentReplacing.{AreApart, IsElsewhere, StandsApart}
use Rattle.sc_if.proofs.Pieces.{after}
use Rattle.sc_if.specs.Replaced.{IsEnd, IsHeldPiece, IsPlacedPiece, seen_piece, unhidden}
use Rattle.sc_if.proofs.piece.pieces.Given as goal

abbrev pub invariant-loop-token : goal.invariant-loop-token
invariant-loop-token l = record {
  part : IsEnd l.rest l.line;
  reads : (macros : Macros) → without_defined macros (map (unhidden l.names) l.line) ≡ after (map (seen_piece macros l.names) l.pieces.items) (without_defined macros (map (unhidden l.names) l.rest));
  held : All (IsHeldPiece l.names) l.pieces.items;
  placed : (files : ℕ) → All (λ t. t.place.file.0 < files) l.line → All (IsPlacedPiece files) l.pieces.items;
  apart : AllPairs StandsApart l.line → AllPairs AreApart l.pieces.items × All (IsElsewhere l.rest) l.pieces.items;
}

abbrev pub decreases-loop-token : goal.decreases-loop-token
decreases-loop-token l = length l.rest
