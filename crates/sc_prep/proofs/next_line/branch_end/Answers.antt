use Rattle.std.proofs.Common.{◌∙◌, ◌+◌, sym, ap, subst, None, arith}
use Rattle.sc_lines.specs.declared.line.Line.{Line}
use Rattle.sc_prep.proofs.Passing.{found-conditional, found-more, found-within}
use Rattle.sc_prep.proofs.Terms.{PassesOver, ends_branch, nothing}
use Rattle.sc_prep.proofs.next_line.branch_end.Goals as goal

-- what stands past the last line
abbrev no_line : Line
no_line = record { first = 0; end = 0; directive = None; branch = None }

pub loop-number-init : goal.loop-number-init
loop-number-init c = record { over = λ ms stand. nothing; within = c.requires.within }

pub overflow_add-number : goal.overflow_add-number
overflow_add-number c =
    let within = (found-within c.requires.branches.0 c.args.lines.now c.requires.branches.1 c.loop-number.number no_line c.loop-number-test.true).1 in
    let last = c.last_line-number.ensures in
    omega (arith, within, last)

pub loop-number-smaller : goal.loop-number-smaller
loop-number-smaller c =
    let after = (found-within c.requires.branches.0 c.args.lines.now c.requires.branches.1 c.loop-number.number no_line c.loop-number-test.true).0 in
    let last = c.last_line-number.ensures in
    let test = c.loop-number-test.true in
    omega (arith, after, last, test)

pub loop-number-preserved : goal.loop-number-preserved
loop-number-preserved c = record {
  over = λ ms stand.
      subst (λ n. PassesOver ms c.args.first (n + 1)) (sym c.last_line-number.ensures)
      (found-more ms c.args.lines.now stand c.loop-number.number no_line c.loop-number-test.true c.args.first (sym c.ends_branch.ensures ∙ c.if-ends_branch.false) (c.loop-number.invariant.over ms stand));
  within =
      let within = (found-within c.requires.branches.0 c.args.lines.now c.requires.branches.1 c.loop-number.number no_line c.loop-number-test.true).1 in
      let last = c.last_line-number.ensures in
      omega (arith, within, last);
}

pub returns-then-ends_branch : goal.returns-then-ends_branch
returns-then-ends_branch c = λ ms stand. record {
  over = c.loop-number.invariant.over ms stand;
  ends = λ _.
      ap ends_branch (found-conditional ms c.args.lines.now stand c.loop-number.number no_line c.loop-number-test.true)
      ∙ (sym c.ends_branch.ensures ∙ c.if-ends_branch.true);
}
