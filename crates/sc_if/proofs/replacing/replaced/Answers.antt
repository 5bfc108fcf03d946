use Rattle.std.proofs.Common.{sym, ◌∙◌}
use Rattle.sc_if.proofs.AlikeReplacing.{IsAlike-Keeps, pieces-told}
use Rattle.sc_if.proofs.Replacements.{loop-at, still-trans}
use Rattle.sc_model.proofs.SetLemmas.{IsConfig-Keeps, Keeps-trans}
use Rattle.sc_table.specs.Table.{macros_at}
use Rattle.sc_if.proofs.DifferentReplacing.{different-step, stands-step}
use Rattle.sc_if.proofs.replacing.replaced.Goals as goal

pub returns-in_err-put-clause-keeps : goal.returns-in_err-put-clause-keeps
returns-in_err-put-clause-keeps g c = Keeps-trans c.loop-piece.invariant.keeps c.put.ensures.keeps

pub loop-piece-preserved : goal.loop-piece-preserved
loop-piece-preserved g c =
    let old = g.C.Conditions.sets c.args.conds.now in
    let mid = g.C.Conditions.sets c.loop-piece.conds in
    let new = g.C.Conditions.sets c.put.new.conds in
    let names = c.args.names.now in
    let pieces = c.args.pieces.now in
    let i = c.loop-piece.piece-index in
    let was = c.loop-piece.invariant in
    record {
      keeps = Keeps-trans was.keeps c.put.ensures.keeps;
      table = c.put.ensures.table;
      still = still-trans old mid new names c.args.table.now c.loop-piece.table c.put.new.table was.keeps was.still c.put.ensures.still;
      list = c.in_ok-put.ensures.list;
      placed = λ files placed. c.in_ok-put.ensures.placed files (placed _ _ c.loop-piece-test.true) (was.placed files placed);
      stands = stands-step names pieces i _ c.loop-piece-test.true c.loop-piece.list c.put.new.list c.in_ok-put.ensures.adds was.stands;
      different = λ files apart. different-step names pieces i _ c.loop-piece-test.true c.loop-piece.list c.put.new.list c.in_ok-put.ensures.adds was.stands files apart (was.different files apart);
      at = λ x listed. loop-at old mid new names c.args.table.now c.loop-piece.table c.args.digits.one c.args.digits.zero c.args.live pieces i _ c.loop-piece.list c.put.new.list x
          was.keeps was.still c.requires.live_own listed c.loop-piece-test.true (was.at x listed) (c.in_ok-put.ensures.at x (IsConfig-Keeps was.keeps listed));
      alike = λ x y p q live same.
          let first = macros_at old names c.args.table.now in
          let later = macros_at mid names c.loop-piece.table in
          c.in_ok-put.ensures.alike x y (IsConfig-Keeps was.keeps p) (IsConfig-Keeps was.keeps q) (IsAlike-Keeps was.keeps p q c.args.live c.requires.live_own live)
          (λ is. pieces-told (later x) (later y) (first x) (first y) names (λ text. was.still x text p) (λ text. was.still y text q) pieces (same (sym (was.keeps.at c.args.live.0 x c.requires.live_own p) ∙ is)) i _ c.loop-piece-test.true)
          (was.alike x y p q live same);
    }
