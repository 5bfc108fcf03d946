use Rattle.std.proofs.Common.{◌≡◌, ◌∙◌, ◌<◌, ap, length, arith}
use Rattle.std.proofs.lemmas.List.{nil_from_length}
use Rattle.c11_directives.specs.Lines.{conditional_in, conditional_of}
use Rattle.sc_lines.specs.Judges.{no_line}
use Rattle.sc_lines.specs.Sections.{sections_of}
use Rattle.sc_lines.proofs.Judging.{same_at, same_length, nests-more, nests-fails, nests-whole, nests-accepted, nests-open, sections-push}
use Rattle.sc_lines.proofs.tree.fault_line.Goals as goal

pub returns-then-not-branch : goal.returns-then-not-branch
returns-then-not-branch c = λ ms same.
    let h = c.loop-i-test.true in
    let fails = rw c.conditional.ensures at (rw c.if-not-branch.true at c.in_ok-nest.ensures) in
    let within : c.loop-i.i < length ms = omega (arith, same_length conditional_of (λ l. conditional_in l.directive) ms c.args.lines.now same) in
    nests-fails ms c.loop-i.i (sections_of c.loop-i.sections.items) _ within
    (same_at conditional_of (λ l. conditional_in l.directive) ms c.args.lines.now c.loop-i.i no_line _ same h) fails (c.loop-i.invariant ms same)

pub loop-i-preserved : goal.loop-i-preserved
loop-i-preserved c = λ ms same.
    let h = c.loop-i-test.true in
    let fits = rw c.conditional.ensures at (rw c.if-not-branch.false at c.in_ok-nest.ensures) in
    let within : c.loop-i.i < length ms = omega (arith, same_length conditional_of (λ l. conditional_in l.directive) ms c.args.lines.now same) in
    nests-more ms c.loop-i.i (sections_of c.loop-i.sections.items) _ within
    (same_at conditional_of (λ l. conditional_in l.directive) ms c.args.lines.now c.loop-i.i no_line _ same h) (sections_of c.nest.new.sections.items) fits (c.loop-i.invariant ms same)

pub returns-in-None : goal.returns-in-None
returns-in-None c = λ ms same.
    let whole : c.loop-i.i ≡ length ms = omega (arith, same_length conditional_of (λ l. conditional_in l.directive) ms c.args.lines.now same) in
    let all = nests-whole ms (sections_of c.loop-i.sections.items) c.loop-i.i whole (c.loop-i.invariant ms same) in
    nests-accepted ms (sections_of c.loop-i.sections.items) (ap sections_of (nil_from_length c.loop-i.sections.items (omega (arith, c.in-None.ensures.cases.0, c.loop-i.sections.ok.0)))) all

pub returns : goal.returns
returns c = λ ms same.
    let whole : c.loop-i.i ≡ length ms = omega (arith, same_length conditional_of (λ l. conditional_in l.directive) ms c.args.lines.now same) in
    let all = nests-whole ms (sections_of c.loop-i.sections.items) c.loop-i.i whole (c.loop-i.invariant ms same) in
    nests-open ms (c.in-Some.section.head, c.in-Some.section.has_else) (sections_of c.loop-i.sections.items) (sections_of c.pop.new.self.items)
    (ap sections_of c.in-Some.ensures.items ∙ sections-push c.pop.new.self.items c.in-Some.section) all
