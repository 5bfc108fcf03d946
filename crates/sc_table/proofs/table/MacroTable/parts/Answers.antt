use Rattle.std.proofs.Common.{◌∙◌, refl, sym, ap, subst, List, [], map, if◌then◌else◌}
use Rattle.std.specs.Option.{option_to_list, option_copied}
use Rattle.sc_guarded.specs.Items.{items_at}
use Rattle.sc_macro.specs.Seen.{seen_definition}
use Rattle.sc_table.specs.Parts.{Part, AreParts, AreNamed, valued}
use Rattle.sc_table.specs.Table.{IsMade, IsNamed, stored_at}
use Rattle.sc_table.proofs.TableLemmas.{found_entry, macros_found, entry_macro, no_parts, no_names, map_met, nothing_met}
use Rattle.sc_table.proofs.table.MacroTable.parts.Goals as goal

pub parts_in-requires-clause-made : goal.parts_in-requires-clause-made
parts_in-requires-clause-made g c =
    found_entry _ (IsMade (g.C.Conditions.sets c.args.conds.now)) c.args.self.now.entries.entries c.in-Some.entry.now c.requires.made (sym c.get.ensures.value ∙ ap option_copied c.in-Some.is)

pub returns-in-None-clause-parts : goal.returns-in-None-clause-parts
returns-in-None-clause-parts g c =
    let s = g.C.Conditions.sets c.args.conds.now in
    subst (AreParts s) (sym (ap valued c.new.ensures.items)) (no_parts s)

pub returns-in-None-clause-named : goal.returns-in-None-clause-named
returns-in-None-clause-named g c = λ names one table own. subst (AreNamed names) (sym (ap valued c.new.ensures.items)) (no_names names)

pub returns-in-None-clause-items : goal.returns-in-None-clause-items
returns-in-None-clause-items g c = λ names one table own x listed.
    let s = g.C.Conditions.sets c.args.conds.now in
    let entries = c.args.self.now.entries.entries in
    let none = sym c.get.ensures.value ∙ ap option_copied c.in-None.is in
    let macros = macros_found s names one c.args.name own x _ (λ k. refl) entries table.held ∙ ap (entry_macro s names one c.args.name own x) none in
    ap (λ (ps : List Part). map (seen_definition names) (items_at s ps x)) (ap valued c.new.ensures.items)
    ∙ (nothing_met (s.has c.args.by.0 x) ∙ ap (λ o. if s.has c.args.by.0 x then option_to_list o else []) (sym macros))

pub returns-in_ok-met-in-Some-clause-named : goal.returns-in_ok-met-in-Some-clause-named
returns-in_ok-met-in-Some-clause-named g c = λ names one table own.
    c.in_ok-met-in-Some.ensures.named names (found_entry _ (IsNamed names) c.args.self.now.entries.entries c.in-Some.entry.now table.named (sym c.get.ensures.value ∙ ap option_copied c.in-Some.is))

pub returns-in_ok-met-in-Some-clause-items : goal.returns-in_ok-met-in-Some-clause-items
returns-in_ok-met-in-Some-clause-items g c = λ names one table own x listed.
    let s = g.C.Conditions.sets c.args.conds.now in
    let entries = c.args.self.now.entries.entries in
    let found = sym c.get.ensures.value ∙ ap option_copied c.in-Some.is in
    let macros = macros_found s names one c.args.name own x _ (λ k. refl) entries table.held ∙ ap (entry_macro s names one c.args.name own x) found in
    ap (map (seen_definition names)) (c.in_ok-met-in-Some.ensures.items x listed)
    ∙ (map_met (seen_definition names) (s.has c.args.by.0 x) (stored_at s c.in-Some.entry.now x) ∙ ap (λ o. if s.has c.args.by.0 x then option_to_list o else []) (sym macros))
