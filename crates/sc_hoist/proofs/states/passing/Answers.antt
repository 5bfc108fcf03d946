use Rattle.std.proofs.Common.{◌∙◌, ◌||◌, ◌&&◌, Bool, get_or, take, ap, sym}
use Rattle.sc_hoist.specs.declared.state.State.TheVariants.{Alone}
use Rattle.sc_hoist.specs.declared.states.Entry.{Entry}
use Rattle.sc_hoist.specs.Reading.{passes, in_states}
use Rattle.sc_hoist.proofs.StateLemmas.{in_states-take}
use Rattle.sc_model.proofs.SetLemmas.{Keeps-trans, IsConfig-Keeps}
use Rattle.sc_hoist.proofs.states.passing.Goals as goal

pub loop-index-preserved : goal.loop-index-preserved
loop-index-preserved g c =
    let s = g.C.Conditions.sets c.args.conds.now in
    let was = c.loop-index.invariant in
    let xs = c.args.entries.now in
    let i = c.loop-index.index in
    let none : Entry = record { state = Alone; cond = record { 0 = 0 } } in
    let within = c.loop-index-test.true in
    record {
      keeps = Keeps-trans was.keeps c.add_passing.ensures.keeps;
      own = c.in_ok-all.ensures.own;
      meaning = λ x listed.
          c.in_ok-all.ensures.meaning x (IsConfig-Keeps was.keeps listed)
          ∙ (ap (λ (b : Bool). b || (passes c.args.test (get_or xs i none).state && (g.C.Conditions.sets c.loop-index.conds).has (get_or xs i none).cond.0 x)) (was.meaning x listed)
          ∙ (ap (λ (b : Bool). in_states s (take i xs) (passes c.args.test) x || (passes c.args.test (get_or xs i none).state && b)) (was.keeps.at _ x (c.requires.own i none within) listed)
          ∙ sym (in_states-take s xs i none (passes c.args.test) x within)));
    }
