use Rattle.std.proofs.Common.{◌∙◌, ap}
use Rattle.sc_presence.specs.Plain.{sets_of}
use Rattle.sc_presence.specs.Rows.{IsRowOf}
use Rattle.sc_presence.proofs.SetsLemmas.{IsNone-IsTop, IsRowOf-row_of}
use Rattle.sc_presence.proofs.plain_sets.PlainSetsConditions.top.Goals as goal

read : (c : goal.After-first_variable) → IsRowOf (sets_of c.args.self.now) c.args.a.0 c.deref-2.result.now c.row.result.now
read c = rw (c.deref-2.ensures.value ∙ ap (λ p. p.arities) c.self.view_is, c.row.ensures.row) (IsRowOf-row_of c.args.self.now c.args.a.0)

pub returns-clause-some : goal.returns-clause-some
returns-clause-some c = c.first_variable.ensures.some _ _ (read c)

pub returns-clause-none : goal.returns-clause-none
returns-clause-none c = IsNone-IsTop c.first_variable.result (returns-clause-some c) (c.first_variable.ensures.none _ _ (read c))
