use Rattle.std.proofs.Common.{◌&&◌, append-nil}
use Rattle.sc_guarded.specs.Items.{items_at}
use Rattle.sc_table.specs.Parts.{valued}
use Rattle.sc_table.proofs.PartLemmas.{nothing_more}
use Rattle.sc_table.proofs.entry.add_option.Goals as goal

pub returns-in-None-clause-items : goal.returns-in-None-clause-items
returns-in-None-clause-items g c = λ x listed.
    let s = g.C.Conditions.sets c.args.conds.now in
    rw c.in-None.is (nothing_more (items_at s (valued c.args.parts.now.items) x) (s.has c.args.cond.0 x && s.has c.args.by.0 x))

pub returns-in-None-clause-drawn : goal.returns-in-None-clause-drawn
returns-in-None-clause-drawn g c = λ names from drawn held lacks.
    rw (c.in-None.is, append-nil) drawn

pub returns-in_ok-add_part-in-Some-clause-items : goal.returns-in_ok-add_part-in-Some-clause-items
returns-in_ok-add_part-in-Some-clause-items g c = λ x listed.
    rw c.in-Some.is (c.in_ok-add_part-in-Some.ensures.items x listed)

pub returns-in_ok-add_part-in-Some-clause-drawn : goal.returns-in_ok-add_part-in-Some-clause-drawn
returns-in_ok-add_part-in-Some-clause-drawn g c = λ names from drawn.
    rw c.in-Some.is (λ held lacks. c.in_ok-add_part-in-Some.ensures.drawn names from drawn held lacks)
