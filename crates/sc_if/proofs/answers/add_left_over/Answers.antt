use Rattle.std.proofs.Common.{◌&&◌, ◌||◌, ◌∙◌, ap, sym}
use Rattle.sc_model.proofs.SetLemmas.{Denotes-Keeps, Denotes-self, IsConfig-Keeps, Keeps-trans}
use Rattle.sc_if.proofs.answers.add_left_over.Goals as goal

pub returns-then-is_left_over-clause-meaning : goal.returns-then-is_left_over-clause-meaning
returns-then-is_left_over-clause-meaning g c = λ x listed.
    let s = g.C.Conditions.sets c.args.conds.now in
    let first = c.apply_and.ensures.keeps in
    let having = c.in_ok-having.ensures.meaning _ _ (Denotes-self s c.args.live.0 c.requires.live_own) (Denotes-self s c.args.item.0 c.requires.item_own) in
    let either = c.in_ok-either.ensures.meaning _ _ (Denotes-Keeps first (Denotes-self s c.args.found.0 c.requires.found_own)) having in
    either.at x (IsConfig-Keeps (Keeps-trans first c.apply_or.ensures.keeps) listed)
    ∙ ap (λ b. s.has c.args.found.0 x || (b && (s.has c.args.live.0 x && s.has c.args.item.0 x))) (sym c.if-is_left_over.true ∙ c.is_left_over.ensures)
