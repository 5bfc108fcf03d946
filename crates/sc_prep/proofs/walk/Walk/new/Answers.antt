use Rattle.std.proofs.Common.{◌∙◌, ap, map, rules, sym}
use Rattle.sc_prep.proofs.Terms.{items_at, seen}
use Rattle.sc_prep.proofs.Texts.{run-empty}
use Rattle.sc_prep.proofs.walk.Walk.new.Goals as goal

pub returns-clause-starts : goal.returns-clause-starts
returns-clause-starts g c = λ names files config first listed begun.
    let s = g.C.Conditions.sets c.args.conds.now in
    let runs = c.in_ok-new.ensures in
    let text = run-empty {s = s} {names = names} {files = files} {runs = c.in_ok-new.field-0} {list = c.in_ok-new-2.field-0} {c = config} listed first runs.pragmas runs.gathered runs.held runs.read begun.run
    (ap (λ list. map (seen names files) (items_at s list config)) c.in_ok-new-2.ensures ∙ sym begun.output) in
    search (rules, begun, text)
