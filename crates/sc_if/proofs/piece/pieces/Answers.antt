use Rattle.std.proofs.Common.{◌<◌, All, map, ap, sym, ◌∙◌, subst}
use Rattle.c11_expressions.specs.Lines.{without_defined}
use Rattle.std.proofs.lemmas.List.Elements.{All-head, All-push, All-tail}
use Rattle.sc_base.specs.declared.token.Token.{Token}
use Rattle.sc_base.specs.Seen.{IsHeld}
use Rattle.std.specs.Prelude.{AllPairs}
use Rattle.sc_if.proofs.DifferentReplacing.{AreApart, IsElsewhere, apart-step}
use Rattle.sc_if.proofs.Pieces.{All-end, IsEnd-step, after, reading-step}
use Rattle.sc_if.specs.Replaced.{IsHeldPiece, IsPlacedPiece, seen_piece, unhidden}
use Rattle.sc_if.proofs.piece.pieces.Goals as goal

pub first_piece-requires-clause-token : goal.first_piece-requires-clause-token
first_piece-requires-clause-token c =
    let held = IsHeld c.args.names.now in
    All-head held c.in-Some.token.now c.in-Some.behind.now (subst (All held) c.in-Some.ensures.cases.0 (All-end held c.loop-token.rest.now c.args.line.now c.loop-token.invariant.part c.requires))

pub first_piece-requires-clause-held : goal.first_piece-requires-clause-held
first_piece-requires-clause-held c =
    let held = IsHeld c.args.names.now in
    All-tail held c.in-Some.token.now c.in-Some.behind.now (subst (All held) c.in-Some.ensures.cases.0 (All-end held c.loop-token.rest.now c.args.line.now c.loop-token.invariant.part c.requires))

pub loop-token-preserved : goal.loop-token-preserved
loop-token-preserved c =
    let names = c.args.names.now in
    let line = c.args.line.now in
    let rest = c.loop-token.rest.now in
    let token = c.in-Some.token.now in
    let behind = c.in-Some.behind.now in
    let left = c.in-Some-first_piece.left.now in
    let piece = c.in-Some-first_piece.piece in
    let was = c.loop-token.pieces.items in
    let is = c.in-Some.ensures.cases.0 in
    let pushed = c.in_ok-push-in-Some-first_piece.ensures.items in
    record {
      part = IsEnd-step token line rest behind left c.loop-token.invariant.part is c.in-Some-first_piece.ensures.part;
      reads = λ macros. reading-step macros names token piece was line rest behind left (c.loop-token.invariant.reads macros) is (c.in-Some-first_piece.ensures.some macros)
          ∙ ap (λ xs. after (map (seen_piece macros names) xs) (without_defined macros (map (unhidden names) left))) (sym pushed);
      held = subst (All (IsHeldPiece names)) (sym pushed) (All-push (IsHeldPiece names) was piece c.loop-token.invariant.held c.in-Some-first_piece.ensures.held);
      apart = λ apart. subst (λ xs. AllPairs AreApart xs × All (IsElsewhere left) xs) (sym pushed)
          (apart-step line rest behind left token piece was c.loop-token.invariant.part is c.in-Some-first_piece.ensures.part c.in-Some-first_piece.ensures.place apart (c.loop-token.invariant.apart apart));
      placed = λ files placed.
          let Placed : Token → Type 0 = λ t. t.place.file.0 < files in
          let here = All-head Placed token behind (subst (All Placed) is (All-end Placed rest line c.loop-token.invariant.part placed)) in
          subst (All (IsPlacedPiece files)) (sym pushed) (All-push (IsPlacedPiece files) was piece (c.loop-token.invariant.placed files placed) (c.in-Some-first_piece.ensures.placed files here));
    }
