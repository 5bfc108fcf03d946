use Rattle.std.proofs.Common.{◌≡◌, ◌∙◌, sym, ap, subst, suc, ◌-◌, ◌<◌, reverse, length, None, refl, arith}
use Rattle.std.proofs.Math.Seq.{map-set_same}
use Rattle.sc_lines.specs.declared.line.Line.{Line}
use Rattle.c11_directives.specs.Lines.{conditional_in}
use Rattle.sc_lines.specs.Branches.{without_branch}
use Rattle.sc_lines.proofs.Branching.{branches_from, IsReadFrom, read-step, others-same, has-branches}
use Rattle.sc_lines.proofs.branches.set_branches.Goals as goal

pub loop-i-preserved : goal.loop-i-preserved
loop-i-preserved c =
    let j = c.loop-i.i - 1 in
    let nothing : Line = record { first = 0; end = 0; directive = None; branch = None } in
    let at : c.loop-i.i ≡ suc j = omega arith in
    let within : j < length c.loop-i.lines = omega arith in
    let read = read-step c.loop-i.lines c.loop-i.i j nothing c.in_ok-lines.field-0 _ _ at within (rw c.conditional.ensures at c.in_ok-lines.ensures.begins) (rw c.conditional.ensures at c.in_ok-lines.ensures.opens)
    (record { sections = c.loop-i.invariant.sections; branches = c.loop-i.invariant.branches }) in
    record {
      others = map-set_same without_branch c.loop-i.lines j _ nothing refl ∙ c.loop-i.invariant.others;
      sections = read.sections;
      branches = read.branches;
    }

pub returns-clause-branches : goal.returns-clause-branches
returns-clause-branches c = λ ms group same tree.
    let lines = c.loop-i.lines in
    let none : c.loop-i.i ≡ 0 = omega arith in
    let all : IsReadFrom lines 0 (reverse c.loop-i.sections.items) =
    subst (λ i. IsReadFrom lines i (reverse c.loop-i.sections.items)) none (record { sections = c.loop-i.invariant.sections; branches = c.loop-i.invariant.branches }) in
    has-branches ms group tree lines
    (all.branches ∙ ap (branches_from 0) (others-same (λ l. conditional_in l.directive) lines c.args.lines.now c.loop-i.invariant.others ∙ sym same))
