use Rattle.std.proofs.Common.{◌∙◌, ◌||◌, ◌&&◌, Bool, ap, sym}
use Rattle.sc_model.proofs.SetLemmas.{Denotes-self, IsConfig-Keeps}
use Rattle.sc_hoist.proofs.states.add_passing.Goals as goal

pub returns-then-passes-clause-meaning : goal.returns-then-passes-clause-meaning
returns-then-passes-clause-meaning g c = λ x listed.
    let s = g.C.Conditions.sets c.args.conds.now in
    let told = c.in_ok-either.ensures.meaning _ _ (Denotes-self s c.args.all.0 c.requires.all_own) (Denotes-self s c.args.entry.cond.0 c.requires.entry_own) in
    told.at x (IsConfig-Keeps c.apply_or.ensures.keeps listed)
    ∙ ap (λ (b : Bool). s.has c.args.all.0 x || (b && s.has c.args.entry.cond.0 x)) (sym (sym c.passes.ensures ∙ c.if-passes.true))
