use Rattle.std.proofs.Common.{◌∙◌, ◌&&◌, ◌++◌, ◌∷◌, [], not, ap, Some, None, map, if◌then◌else◌}
use Rattle.std.specs.List.{list_any}
use Rattle.sc_guarded.specs.Items.{items_at}
use Rattle.sc_macro.specs.Seen.{seen_definition, text_of}
use Rattle.sc_model.proofs.SetLemmas.{Keeps-trans, IsConfig-Keeps}
use Rattle.sc_table.specs.Parts.{Part, valued}
use Rattle.sc_table.specs.Table.{macros_at}
use Rattle.sc_table.proofs.ChangeLemmas.{any_items}
use Rattle.sc_table.proofs.Growth.{IsTable-Keeps, macros_at-Keeps}
use Rattle.sc_table.proofs.LookupLemmas.{looked_up}
use Rattle.sc_table.proofs.table.MacroTable.lookup.Goals as goal

pub returns-clause-parts : goal.returns-clause-parts
returns-clause-parts g c = λ x listed.
    let s = g.C.Conditions.sets c.args.conds.now in
    let mid = g.C.Conditions.sets c.parts.new.conds in
    let names = c.args.names.now in
    let here = IsConfig-Keeps c.parts.ensures.keeps listed in
    let parts = valued c.in_ok-parts.parts.items in
    let ds = items_at mid parts x in
    let b = s.has c.args.cond.0 x in
    c.in_ok-with_rest.ensures.items names x here
    ∙ (ap (λ t. map (λ d. Some (seen_definition names d)) ds ++ (if t && not (list_any (λ (p : Part). mid.has p.0.0 x) parts) then None ∷ [] else [])) (c.parts.ensures.keeps.at _ x c.requires.cond_own listed)
    ∙ (ap (λ t. map (λ d. Some (seen_definition names d)) ds ++ (if b && not t then None ∷ [] else [])) (any_items mid parts x)
    ∙ looked_up names ds b (macros_at s names c.args.self.now x (text_of names c.args.name)) (c.in_ok-parts.ensures.items names c.one_to_one.ensures c.requires.table c.requires.held x listed)))

pub returns-clause-differ : goal.returns-clause-differ
returns-clause-differ g c = c.in_ok-with_rest.ensures.differ c.args.names.now (c.in_ok-parts.ensures.named c.args.names.now c.one_to_one.ensures c.requires.table c.requires.held)

pub returns-clause-held : goal.returns-clause-held
returns-clause-held g c = c.in_ok-with_rest.ensures.held c.args.names.now (c.in_ok-parts.ensures.named c.args.names.now c.one_to_one.ensures c.requires.table c.requires.held)

pub with_rest-requires-clause-parts : goal.with_rest-requires-clause-parts
with_rest-requires-clause-parts g c = c.in_ok-parts.ensures.parts.each

pub returns-in_err-parts-clause-table : goal.returns-in_err-parts-clause-table
returns-in_err-parts-clause-table g c = IsTable-Keeps c.parts.ensures.keeps c.requires.table

pub returns-in_err-parts-clause-still : goal.returns-in_err-parts-clause-still
returns-in_err-parts-clause-still g c = macros_at-Keeps c.parts.ensures.keeps c.requires.table

pub returns-in_err-with_rest-clause-table : goal.returns-in_err-with_rest-clause-table
returns-in_err-with_rest-clause-table g c = IsTable-Keeps (Keeps-trans c.parts.ensures.keeps c.with_rest.ensures.keeps) c.requires.table

pub returns-in_err-with_rest-clause-still : goal.returns-in_err-with_rest-clause-still
returns-in_err-with_rest-clause-still g c = macros_at-Keeps (Keeps-trans c.parts.ensures.keeps c.with_rest.ensures.keeps) c.requires.table

pub returns-in_err-with_rest-clause-keeps : goal.returns-in_err-with_rest-clause-keeps
returns-in_err-with_rest-clause-keeps g c = Keeps-trans c.parts.ensures.keeps c.with_rest.ensures.keeps

pub returns-clause-table : goal.returns-clause-table
returns-clause-table g c = IsTable-Keeps (Keeps-trans c.parts.ensures.keeps c.with_rest.ensures.keeps) c.requires.table

pub returns-clause-still : goal.returns-clause-still
returns-clause-still g c = macros_at-Keeps (Keeps-trans c.parts.ensures.keeps c.with_rest.ensures.keeps) c.requires.table

pub returns-clause-keeps : goal.returns-clause-keeps
returns-clause-keeps g c = Keeps-trans c.parts.ensures.keeps c.with_rest.ensures.keeps
