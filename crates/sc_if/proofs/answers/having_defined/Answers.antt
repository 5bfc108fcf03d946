use Rattle.std.proofs.Common.{◌≡◌, ◌&&◌, ◌||◌, ◌∙◌, Bool, true, false, refl, sym, subst, arith}
use Rattle.std.proofs.lemmas.Option.{get_or_from_slice_get}
use Rattle.sc_base.specs.declared.id.Cond.{Cond}
use Rattle.sc_base.specs.declared.token.Token.{Token}
use Rattle.sc_base.specs.Seen.{IsHeld}
use Rattle.sc_if.proofs.LineAnswers.{left-more}
use Rattle.sc_if.specs.Decided.{is_left_over}
use Rattle.sc_model.proofs.SetLemmas.{IsConfig-Keeps, Keeps-refl, Keeps-trans}
use Rattle.sc_model.specs.Sets.{IsCond}
use Rattle.sc_if.proofs.answers.having_defined.Goals as goal

and-false : (a : Bool) → (a && false) ≡ false
and-false true = refl
and-false false = refl

pub loop-index-init : goal.loop-index-init
loop-index-init g c =
    let s = g.C.Conditions.sets c.args.conds.now in
    record {
      keeps = Keeps-refl s;
      own = c.never-found.ensures.own;
      meaning = λ x listed. c.never-found.ensures.meaning.at x listed ∙ sym (and-false (s.has c.args.live.0 x));
    }

pub add_left_over-requires : goal.add_left_over-requires
add_left_over-requires g c =
    let s = g.C.Conditions.sets c.args.conds.now in
    let was = c.loop-index.invariant in
    let list = c.args.list.now in
    let i = c.loop-index.index in
    let x : Cond × Token = (c.item.result.0, c.item.result.1.now) in
    let is = get_or_from_slice_get list i x x c.item.ensures in
    let Held : Cond × Token → Type 0 = λ y. IsHeld c.args.names.now y.1 in
    let Own : Cond × Token → Type 0 = λ y. IsCond s y.0.0 in
    record {
      held = subst Held is (c.requires.held i x (omega (arith, c.loop-index-test.true, c.len-index-end.ensures)));
      live_own = was.keeps.own _ c.requires.live_own;
      found_own = was.own;
      item_own = was.keeps.own _ (subst Own is (c.requires.own i x (omega (arith, c.loop-index-test.true, c.len-index-end.ensures))));
    }

pub returns-in_err-found-clause-keeps : goal.returns-in_err-found-clause-keeps
returns-in_err-found-clause-keeps g c = Keeps-trans c.loop-index.invariant.keeps c.add_left_over.ensures.keeps

pub loop-index-preserved : goal.loop-index-preserved
loop-index-preserved g c =
    let s = g.C.Conditions.sets c.args.conds.now in
    let mid = g.C.Conditions.sets c.loop-index.conds in
    let was = c.loop-index.invariant in
    let list = c.args.list.now in
    let i = c.loop-index.index in
    let x : Cond × Token = (c.item.result.0, c.item.result.1.now) in
    let is = get_or_from_slice_get list i x x c.item.ensures in
    let Own : Cond × Token → Type 0 = λ y. IsCond s y.0.0 in
    let own = subst Own is (c.requires.own i x (omega (arith, c.loop-index-test.true, c.len-index-end.ensures))) in
    let found = c.loop-index.found in
    record {
      keeps = Keeps-trans was.keeps c.add_left_over.ensures.keeps;
      own = c.in_ok-found.ensures.own;
      meaning = λ y listed.
          let live = was.keeps.at _ y c.requires.live_own listed in
          let item = was.keeps.at _ y own listed in
          c.in_ok-found.ensures.meaning y (IsConfig-Keeps was.keeps listed)
          ∙ ((λ j. mid.has found.0 y || (is_left_over c.args.names.now x.1 && (live j && item j)))
          ∙ left-more c.args.names.now s list i x y (s.has c.args.live.0 y) (mid.has found.0 y) (omega (arith, c.loop-index-test.true, c.len-index-end.ensures)) (sym is) (was.meaning y listed));
    }
