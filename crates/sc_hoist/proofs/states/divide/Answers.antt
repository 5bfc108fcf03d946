use Rattle.std.proofs.Common.{◌∙◌, ◌||◌, ◌&&◌, Bool, ap}
use Rattle.sc_hoist.specs.Reading.{in_states}
use Rattle.sc_hoist.proofs.StateLemmas.{AreEntries-Keeps, both_parts, in_states-Keeps}
use Rattle.sc_model.proofs.SetLemmas.{Keeps-trans, IsConfig-Keeps, Denotes-self, Denotes-Keeps}
use Rattle.sc_hoist.proofs.states.divide.Goals as goal

pub add-requires-clause-own : goal.add-requires-clause-own
add-requires-clause-own g c = AreEntries-Keeps (Keeps-trans c.apply_and.ensures.keeps c.apply_without.ensures.keeps) c.requires.own

pub add-requires-2-clause-cond_own : goal.add-requires-2-clause-cond_own
add-requires-2-clause-cond_own g c = (Keeps-trans c.apply_without.ensures.keeps c.add.ensures.keeps).own _ c.in_ok-having.ensures.own

pub returns-in_err-add-clause-keeps : goal.returns-in_err-add-clause-keeps
returns-in_err-add-clause-keeps g c = Keeps-trans (Keeps-trans c.apply_and.ensures.keeps c.apply_without.ensures.keeps) c.add.ensures.keeps

pub returns-in_err-add-2-clause-keeps : goal.returns-in_err-add-2-clause-keeps
returns-in_err-add-2-clause-keeps g c = Keeps-trans (Keeps-trans (Keeps-trans c.apply_and.ensures.keeps c.apply_without.ensures.keeps) c.add.ensures.keeps) c.add-2.ensures.keeps

pub returns-clause-keeps : goal.returns-clause-keeps
returns-clause-keeps g c = Keeps-trans (Keeps-trans (Keeps-trans c.apply_and.ensures.keeps c.apply_without.ensures.keeps) c.add.ensures.keeps) c.add-2.ensures.keeps

pub returns-clause-states : goal.returns-clause-states
returns-clause-states g c = λ test x listed.
    let s = g.C.Conditions.sets c.args.conds.now in
    let mid = g.C.Conditions.sets c.apply_without.new.self in
    let added = g.C.Conditions.sets c.add.new.conds in
    let now = g.C.Conditions.sets c.add-2.new.conds in
    let before = c.apply_and.ensures.keeps in
    let keeps = Keeps-trans before c.apply_without.ensures.keeps in
    let later = Keeps-trans c.apply_without.ensures.keeps c.add.ensures.keeps in
    let entry = c.args.entry in
    let whole = Denotes-self s entry.cond.0 c.requires.entry_own in
    let item = Denotes-self s c.args.item.0 c.requires.item_own in
    let having = c.in_ok-having.ensures.meaning _ _ whole item in
    let lacking = c.in_ok-lacking.ensures.meaning _ _ (Denotes-Keeps before whole) (Denotes-Keeps before item) in
    let here = IsConfig-Keeps keeps listed in
    let there = IsConfig-Keeps c.add.ensures.keeps here in
    let xs = c.args.next.now.items in
    both_parts test entry.state c.args.state (s.has entry.cond.0 x) (s.has c.args.item.0 x) (in_states s xs test x) (in_states added c.add.new.entries.items test x) (in_states now c.add-2.new.entries.items test x)
    (mid.has c.in_ok-lacking.lacking.0 x) (added.has c.in_ok-having.having.0 x)
    (c.in_ok-add.ensures.states test x here ∙ ap (λ (b : Bool). b || (test entry.state && mid.has c.in_ok-lacking.lacking.0 x)) (in_states-Keeps xs test x keeps c.requires.own.own listed))
    (c.in_ok-add-2.ensures.states test x there)
    (lacking.at x here)
    ((Denotes-Keeps later having).at x there)

pub returns-clause-shallow : goal.returns-clause-shallow
returns-clause-shallow g c = λ bound were low high. c.in_ok-add-2.ensures.shallow bound (c.in_ok-add.ensures.shallow bound were low) high
