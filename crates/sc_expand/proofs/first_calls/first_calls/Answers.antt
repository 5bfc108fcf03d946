use Rattle.std.proofs.Common.{◌∙◌, refl, sym}
use Rattle.sc_expand.proofs.Facts.{Keeps-refl}
use Rattle.sc_expand.proofs.GatherCases.{Denotes-closed, Denotes-other, IsClosedCall-known}
use Rattle.sc_expand.proofs.Terms.{alone, bare, still}
use Rattle.sc_expand.proofs.first_calls.first_calls.Goals as goal

pub returns-in_ok-indexes_to-in-Some : goal.returns-in_ok-indexes_to-in-Some
returns-in_ok-indexes_to-in-Some g c =
    let s = g.C.Conditions.sets c.args.conds.now in
    let never = c.never-never.ensures.meaning in
    record {
      closed = Denotes-closed c.in-Some.ensures s c.requires.cond_own;
      still = Denotes-other c.in-Some.ensures s still refl never;
      bare = Denotes-other c.in-Some.ensures s bare refl never;
      alone = Denotes-other c.in-Some.ensures s alone refl never;
      places = λ config had. (IsClosedCall-known c.in-Some.ensures s config had).placed ∙ sym c.in_ok-indexes_to-in-Some.ensures;
      keeps = Keeps-refl s;
    }
