use Rattle.std.proofs.Common.{◌∙◌, ◌&&◌, sym, ap, ap₂, subst, List, length, ◌++◌, ◌∷◌, [], if◌then◌else◌, arith}
use Rattle.std.specs.Option.{option_to_list}
use Rattle.std.specs.Prelude.{slice_index}
use Rattle.sc_guarded.specs.Items.{items_at}
use Rattle.sc_table.specs.declared.entry.Entry.{Entry}
use Rattle.sc_table.specs.Parts.{Part, AreSome, AreNamed, AreDrawn, valued}
use Rattle.sc_table.specs.Table.{IsMade, IsNamed, stored_at, option_at}
use Rattle.sc_table.proofs.EntryLemmas.{AreParts-items, one_item, both_same}
use Rattle.sc_table.proofs.PartLemmas.{AreSome-nil, AreDrawn-nil}
use Rattle.sc_table.proofs.entry.Entry.parts_in.Goals as goal

pub add_part-requires-clause-parts : goal.add_part-requires-clause-parts
add_part-requires-clause-parts g c =
    let s = g.C.Conditions.sets c.args.conds.now in
    subst (AreSome s) (sym (ap valued c.new-met.ensures.items)) (AreSome-nil s)

pub chosen-requires-clause-variable : goal.chosen-requires-clause-variable
chosen-requires-clause-variable g c = (subst (IsMade (g.C.Conditions.sets c.args.conds.now)) c.in-Options.is c.requires.made).0

pub chosen-requires-clause-places : goal.chosen-requires-clause-places
chosen-requires-clause-places g c =
    ap length c.deref.ensures.value ∙ (subst (IsMade (g.C.Conditions.sets c.args.conds.now)) c.in-Options.is c.requires.made).1

pub restricted-requires-clause-parts : goal.restricted-requires-clause-parts
restricted-requires-clause-parts g c =
    let s = g.C.Conditions.sets c.args.conds.now in
    subst (AreSome s) (sym (ap valued c.deref-in-Parts.ensures.value)) (subst (IsMade s) c.in-Parts.is c.requires.made).0.each

pub returns-in_ok-add_part-in-Everywhere-clause-items : goal.returns-in_ok-add_part-in-Everywhere-clause-items
returns-in_ok-add_part-in-Everywhere-clause-items g c = λ x listed.
    let s = g.C.Conditions.sets c.args.conds.now in
    let now = g.C.Conditions.sets c.add_part.new.conds in
    let d = c.in-Everywhere.definition.value in
    let b = s.has c.args.by.0 x in
    c.in_ok-add_part-in-Everywhere.ensures.items x listed
    ∙ (ap (λ (ps : List Part). items_at s ps x ++ (if b && b then d ∷ [] else [])) (ap valued c.new-met.ensures.items)
    ∙ (both_same b d ∙ ap (λ (e : Entry). if b then option_to_list (stored_at s e x) else []) (sym c.in-Everywhere.is)))

pub returns-in_ok-add_part-in-Everywhere-clause-parts : goal.returns-in_ok-add_part-in-Everywhere-clause-parts
returns-in_ok-add_part-in-Everywhere-clause-parts g c =
    let s = g.C.Conditions.sets c.args.conds.now in
    AreParts-items c.add_part.ensures.keeps c.in_ok-add_part-in-Everywhere.ensures.parts (s.has c.args.by.0) (stored_at s c.args.self.now) (returns-in_ok-add_part-in-Everywhere-clause-items g c)

pub returns-in_ok-add_part-in-Everywhere-clause-named : goal.returns-in_ok-add_part-in-Everywhere-clause-named
returns-in_ok-add_part-in-Everywhere-clause-named g c = λ names named.
    (c.in_ok-add_part-in-Everywhere.ensures.drawn names [] (subst (AreDrawn names []) (sym (ap valued c.new-met.ensures.items)) (AreDrawn-nil names))
    (subst (IsNamed names) c.in-Everywhere.is named) (λ has. absurd (omega (arith, has.1)))).named

pub returns-in_ok-met-in-Options-clause-items : goal.returns-in_ok-met-in-Options-clause-items
returns-in_ok-met-in-Options-clause-items g c = λ x listed.
    let s = g.C.Conditions.sets c.args.conds.now in
    c.in_ok-met-in-Options.ensures.items x listed
    ∙ (ap₂ (λ places os. if s.has c.args.by.0 x then option_to_list (option_at places os (slice_index x c.in-Options.variable)) else []) c.deref.ensures.value c.deref-in-Options.ensures.value
    ∙ ap (λ (e : Entry). if s.has c.args.by.0 x then option_to_list (stored_at s e x) else []) (sym c.in-Options.is))

pub returns-in_ok-met-in-Options-clause-parts : goal.returns-in_ok-met-in-Options-clause-parts
returns-in_ok-met-in-Options-clause-parts g c =
    let s = g.C.Conditions.sets c.args.conds.now in
    AreParts-items c.chosen.ensures.keeps c.in_ok-met-in-Options.ensures.parts (s.has c.args.by.0) (stored_at s c.args.self.now) (returns-in_ok-met-in-Options-clause-items g c)

pub returns-in_ok-met-in-Options-clause-named : goal.returns-in_ok-met-in-Options-clause-named
returns-in_ok-met-in-Options-clause-named g c = λ names named.
    c.in_ok-met-in-Options.ensures.named names (rw c.deref-in-Options.ensures.value (subst (IsNamed names) c.in-Options.is named))

pub returns-in_ok-met-in-Parts-clause-items : goal.returns-in_ok-met-in-Parts-clause-items
returns-in_ok-met-in-Parts-clause-items g c = λ x listed.
    let s = g.C.Conditions.sets c.args.conds.now in
    let parts = c.in-Parts.parts.items in
    let made = subst (IsMade s) c.in-Parts.is c.requires.made in
    c.in_ok-met-in-Parts.ensures.items x listed
    ∙ (ap (λ (ps : List Part). if s.has c.args.by.0 x then items_at s ps x else []) (ap valued c.deref-in-Parts.ensures.value)
    ∙ (ap (λ ds. if s.has c.args.by.0 x then ds else []) (one_item (items_at s (valued parts) x) (made.0.one x listed))
    ∙ ap (λ (e : Entry). if s.has c.args.by.0 x then option_to_list (stored_at s e x) else []) (sym c.in-Parts.is)))

pub returns-in_ok-met-in-Parts-clause-parts : goal.returns-in_ok-met-in-Parts-clause-parts
returns-in_ok-met-in-Parts-clause-parts g c =
    let s = g.C.Conditions.sets c.args.conds.now in
    AreParts-items c.restricted.ensures.keeps c.in_ok-met-in-Parts.ensures.parts (s.has c.args.by.0) (stored_at s c.args.self.now) (returns-in_ok-met-in-Parts-clause-items g c)

pub returns-in_ok-met-in-Parts-clause-named : goal.returns-in_ok-met-in-Parts-clause-named
returns-in_ok-met-in-Parts-clause-named g c = λ names named.
    c.in_ok-met-in-Parts.ensures.named names (subst (AreNamed names) (sym (ap valued c.deref-in-Parts.ensures.value)) (subst (IsNamed names) c.in-Parts.is named))
