use Rattle.std.proofs.Common.{◌∷◌, [], ◌∙◌, ap, sym, Some, None}
use Rattle.sc_model.proofs.SetLemmas.{Keeps-trans}
use Rattle.sc_tree.proofs.GuardedLemmas.{notes, noted-none, noted-one, rest-has, part-has, list-here, own-noted}
use Rattle.sc_tree.specs.Views.{line_of}
use Rattle.sc_tree.proofs.parameters.note_list.Goals as goal

pub returns-in_default-child_at-clause-notes : goal.returns-in_default-child_at-clause-notes
returns-in_default-child_at-clause-notes g c = λ d is met.
    let s = g.C.Conditions.sets in
    let keeps = Keeps-trans c.apply_and.ensures.keeps c.apply_without.ensures.keeps in
    notes (s c.args.conds.now) (s c.apply_without.new.self) c.args.lists.now.items c.args.lists.now.items c.args.left c.args.cond c.in_ok-rest.rest [] met d
    (noted-none (s c.args.conds.now) (s c.apply_without.new.self) c.args.lists.now.items d _ keeps c.requires.lists is)
    (rest-has (s c.args.conds.now) (s c.apply_and.new.self) (s c.apply_without.new.self) c.args.left c.args.cond c.in_ok-rest.rest d c.apply_and.ensures.keeps c.apply_without.ensures.keeps
    is c.requires.left c.requires.own c.in_ok-rest.ensures.meaning)
    (line_of c.args.line.now)
    (list-here (line_of c.args.line.now) c.in-Node.production c.in-Some.place c.in-Node.children.items c.deref.result.now None (ap line_of c.in-Node.is) (sym c.parameters_child.ensures ∙ c.in-Some.is)
    c.deref.ensures.value (sym c.in_default-child_at.is ∙ c.child_at.ensures) met)

pub returns-clause-notes : goal.returns-clause-notes
returns-clause-notes g c = λ d is met.
    let s = g.C.Conditions.sets in
    let keeps = Keeps-trans c.apply_and.ensures.keeps c.apply_without.ensures.keeps in
    notes (s c.args.conds.now) (s c.apply_without.new.self) c.args.lists.now.items c.push.new.self.items c.args.left c.args.cond c.in_ok-rest.rest (c.in-Some-child_at.list ∷ []) met d
    (noted-one (s c.args.conds.now) (s c.apply_without.new.self) c.args.lists.now.items c.push.new.self.items c.in_ok-part.part c.in-Some-child_at.list d _ keeps c.requires.lists is c.in_ok-push.ensures.items
    (part-has (s c.args.conds.now) (s c.apply_and.new.self) (s c.apply_without.new.self) c.args.left c.args.cond c.in_ok-part.part d c.apply_and.ensures.keeps c.apply_without.ensures.keeps
    is c.requires.left c.requires.own c.in_ok-part.ensures.own c.in_ok-part.ensures.meaning))
    (rest-has (s c.args.conds.now) (s c.apply_and.new.self) (s c.apply_without.new.self) c.args.left c.args.cond c.in_ok-rest.rest d c.apply_and.ensures.keeps c.apply_without.ensures.keeps
    is c.requires.left c.requires.own c.in_ok-rest.ensures.meaning)
    (line_of c.args.line.now)
    (list-here (line_of c.args.line.now) c.in-Node.production c.in-Some.place c.in-Node.children.items c.deref.result.now (Some c.in-Some-child_at.list) (ap line_of c.in-Node.is) (sym c.parameters_child.ensures ∙ c.in-Some.is)
    c.deref.ensures.value (sym c.in-Some-child_at.is ∙ c.child_at.ensures) met)

pub returns-clause-own : goal.returns-clause-own
returns-clause-own g c =
    let s = g.C.Conditions.sets in
    let later = c.apply_without.ensures.keeps in
    own-noted (s c.args.conds.now) (s c.apply_without.new.self) c.in_ok-part.part c.in-Some-child_at.list c.args.lists.now.items c.push.new.self.items c.in_ok-push.ensures.items
    (Keeps-trans c.apply_and.ensures.keeps later) c.requires.lists (later.own c.in_ok-part.part.0 c.in_ok-part.ensures.own)
