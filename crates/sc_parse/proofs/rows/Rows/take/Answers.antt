use Rattle.std.proofs.Common.{◌≡◌, ◌≤◌, ◌-◌, Some, ap, arith, length, refl, subst, sym, ◌∙◌}
use Rattle.std.specs.Global.{Vec}
use Rattle.std.specs.Prelude.{ℕ, slice_get}
use Rattle.std.proofs.lemmas.Option.{slice_get_read}
use Rattle.sc_parse.proofs.RowLemmas.{row-count, take-times, take-filed, take-none}
use Rattle.sc_parse.proofs.rows.Rows.take.Goals as goal
use Rattle.sc_parse.proofs.rows.Rows.take.Goals.{After-len}

is-row : (c : After-len) → slice_get c.args.self.now.rows.items c.args.at ≡ Some c.replace-row.result
is-row c =
    let rows = c.args.self.now.rows.items in
    subst (λ (row : Vec ℕ). slice_get rows c.args.at ≡ Some row) (sym c.replace-row.ensures.value)
    (slice_get_read rows (length rows) c.args.at c.index_mut.result.now refl c.requires.at c.index_mut.ensures.value)

fits : (c : After-len) → c.len.result ≤ c.args.self.now.count
fits c = omega (arith, c.len.ensures, c.replace-row.result.ok.0, c.requires.count, row-count c.args.self.now.rows.items c.args.at c.replace-row.result (is-row c))

pub overflow_sub-self : goal.overflow_sub-self
overflow_sub-self c = fits c

pub returns-clause-numbers : goal.returns-clause-numbers
returns-clause-numbers c =
    take-times c.args.self.now c.args.at c.replace-row.result c.replace-row.new.dest (is-row (goal.at.returns-clause-numbers c).After-len)
    (ap (λ (row : Vec ℕ). row.items) c.replace-row.ensures.after ∙ c.new.ensures.items)

pub returns-clause-filed : goal.returns-clause-filed
returns-clause-filed c = λ subparsers filed.
    let before = (goal.at.returns-clause-filed c).After-len in
    take-filed c.args.self.now c.args.at c.replace-row.result c.replace-row.new.dest (is-row before) (ap (λ (row : Vec ℕ). row.items) c.replace-row.ensures.after ∙ c.new.ensures.items) subparsers
    (c.args.self.now.count - c.len.result) (omega (arith, fits before, c.len.ensures, c.replace-row.result.ok.0)) filed

pub returns-clause-taken : goal.returns-clause-taken
returns-clause-taken c = λ subparsers filed. filed.at c.args.at c.replace-row.result (is-row (goal.at.returns-clause-taken c).After-len)

pub returns-clause-done : goal.returns-clause-done
returns-clause-done c =
    take-none c.args.self.now c.args.at c.replace-row.result c.replace-row.new.dest (is-row (goal.at.returns-clause-done c).After-len)
    (ap (λ (row : Vec ℕ). row.items) c.replace-row.ensures.after ∙ c.new.ensures.items) (c.args.self.now.count - c.len.result)
