use Rattle.std.proofs.Common.{◌==◌, ◌&&◌, ◌<◌, ◌∙◌, ap, length, sym, nat_lt, arith}
use Rattle.std.specs.Prelude.{slice_index}
use Rattle.sc_model.proofs.SetLemmas.{Keeps-refl, Keeps-trans, IsConfig-kept}
use Rattle.sc_table.proofs.PlaceLemmas.{place-all, place-more, place-none}
use Rattle.sc_table.proofs.entry.at_place.Goals as goal

pub loop-option-init : goal.loop-option-init
loop-option-init g c = record {
  keeps = Keeps-refl (g.C.Conditions.sets c.args.conds.now);
  meaning = record {
    own = c.never-cond.ensures.meaning.own;
    at = λ x listed. c.never-cond.ensures.meaning.at x listed ∙ place-none c.args.places.now (slice_index x c.args.variable) c.args.place;
  };
}

pub loop-option-preserved : goal.loop-option-preserved
loop-option-preserved g c =
    let was = c.loop-option.invariant in
    let told = c.in_ok-cond.ensures.meaning _ was.meaning in
    record {
      keeps = Keeps-trans was.keeps c.with_option.ensures.keeps;
      meaning = record {
        own = told.own;
        at = λ x listed.
            told.at x listed
            ∙ place-more c.args.places.now (slice_index x c.args.variable) c.loop-option.option c.args.place;
      };
    }

pub returns-in_err-cond-clause-keeps : goal.returns-in_err-cond-clause-keeps
returns-in_err-cond-clause-keeps g c = Keeps-trans c.loop-option.invariant.keeps c.with_option.ensures.keeps

pub returns-clause-meaning : goal.returns-clause-meaning
returns-clause-meaning g c =
    let was = c.loop-option.invariant in
    record {
      own = was.meaning.own;
      at = λ x listed.
          let here = IsConfig-kept was.keeps listed in
          let within : slice_index x c.args.variable < c.loop-option.option = omega (arith, here.each c.args.variable (omega (arith, here.long, c.requires.variable)), c.requires.places, c.loop-option-test.false) in
          was.meaning.at x listed ∙ place-all c.args.places.now (slice_index x c.args.variable) c.loop-option.option c.args.place within;
    }
