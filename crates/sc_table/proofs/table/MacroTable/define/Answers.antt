use Rattle.std.proofs.Common.{◌∙◌, ◌&&◌, not, subst, Some, map}
use Rattle.sc_guarded.specs.Items.{items_at}
use Rattle.sc_macro.specs.Seen.{seen_definition}
use Rattle.sc_model.proofs.SetLemmas.{Keeps-trans, IsConfig-Keeps}
use Rattle.sc_table.specs.Change.{Redefines}
use Rattle.sc_table.specs.Parts.{valued}
use Rattle.sc_table.proofs.Growth.{IsTable-Keeps, macros_at-Keeps}
use Rattle.sc_table.proofs.TableLemmas.{Puts-changed, first_defined, refused_at, always_met, IsTable-same, IsStill-same, on_err}
use Rattle.sc_table.proofs.table.MacroTable.define.Goals as goal

pub returns-in_err-parts-clause-table : goal.returns-in_err-parts-clause-table
returns-in_err-parts-clause-table g c = IsTable-Keeps c.parts.ensures.keeps c.requires.table

pub returns-in_err-parts-2-clause-err : goal.returns-in_err-parts-2-clause-err
returns-in_err-parts-2-clause-err g c = on_err _ (macros_at-Keeps (Keeps-trans c.parts.ensures.keeps c.redefinition.ensures.keeps) c.requires.table)

pub returns-in_err-parts-2-clause-table : goal.returns-in_err-parts-2-clause-table
returns-in_err-parts-2-clause-table g c = IsTable-Keeps (Keeps-trans c.parts.ensures.keeps c.redefinition.ensures.keeps) c.requires.table

pub returns-in_err-parts-2-clause-keeps : goal.returns-in_err-parts-2-clause-keeps
returns-in_err-parts-2-clause-keeps g c = Keeps-trans c.parts.ensures.keeps c.redefinition.ensures.keeps

pub returns-in_err-set-clause-err : goal.returns-in_err-set-clause-err
returns-in_err-set-clause-err g c = on_err _ (IsStill-same (Keeps-trans c.parts.ensures.keeps c.redefinition.ensures.keeps) c.requires.table c.set.new.self c.in_err-set.ensures.err)

pub returns-in_err-set-clause-table : goal.returns-in_err-set-clause-table
returns-in_err-set-clause-table g c = IsTable-same c.in_err-set.ensures.err (IsTable-Keeps (Keeps-trans c.parts.ensures.keeps c.redefinition.ensures.keeps) c.requires.table)

pub returns-in_err-set-clause-keeps : goal.returns-in_err-set-clause-keeps
returns-in_err-set-clause-keeps g c = Keeps-trans c.parts.ensures.keeps c.redefinition.ensures.keeps

pub returns-clause-keeps : goal.returns-clause-keeps
returns-clause-keeps g c = Keeps-trans c.parts.ensures.keeps c.redefinition.ensures.keeps

pub returns-clause-table : goal.returns-clause-table
returns-clause-table g c =
    let now = g.C.Conditions.sets c.redefinition.new.conds in
    let names = c.args.names.now in
    let one = c.one_to_one.ensures in
    let keeps = Keeps-trans c.parts.ensures.keeps c.redefinition.ensures.keeps in
    let named = c.in_ok-parts.ensures.named names one c.requires.table c.requires.held.name in
    (c.in_ok-set.ensures.ok now names one (IsTable-Keeps keeps c.requires.table) c.requires.held.name c.in_ok-parts-2.ensures.parts (c.in_ok-parts-2.ensures.named names one named c.requires.held) tt).table

pub returns-clause-refused : goal.returns-clause-refused
returns-clause-refused g c = λ x listed.
    let s = g.C.Conditions.sets c.args.conds.now in
    let mid = g.C.Conditions.sets c.parts.new.conds in
    let now = g.C.Conditions.sets c.redefinition.new.conds in
    let names = c.args.names.now in
    let one = c.one_to_one.ensures in
    let d = seen_definition names c.args.definition in
    let was = map (seen_definition names) (items_at mid (valued c.in_ok-parts.parts.items) x) in
    let made = map (seen_definition names) (items_at now (valued c.in_ok-parts-2.parts.items) x) in
    let refused = now.has c.in_ok-parts-2.refused.0 x in
    let named = c.in_ok-parts.ensures.named names one c.requires.table c.requires.held.name in
    let says = subst (λ b. Redefines d was b refused made) (c.parts.ensures.keeps.at _ x c.requires.live_own listed) (c.in_ok-parts-2.ensures.meaning names one named c.requires.held x (IsConfig-Keeps c.parts.ensures.keeps listed)) in
    refused_at d was made (s.has c.args.live.0 x) refused _ says
    (c.in_ok-parts.ensures.items names one c.requires.table c.requires.held.name x listed ∙ always_met _ _ (c.always.ensures.meaning.at x listed))

pub returns-clause-defined : goal.returns-clause-defined
returns-clause-defined g c = λ x text listed.
    let s = g.C.Conditions.sets c.args.conds.now in
    let mid = g.C.Conditions.sets c.parts.new.conds in
    let now = g.C.Conditions.sets c.redefinition.new.conds in
    let names = c.args.names.now in
    let one = c.one_to_one.ensures in
    let keeps = Keeps-trans c.parts.ensures.keeps c.redefinition.ensures.keeps in
    let d = seen_definition names c.args.definition in
    let was = map (seen_definition names) (items_at mid (valued c.in_ok-parts.parts.items) x) in
    let made = map (seen_definition names) (items_at now (valued c.in_ok-parts-2.parts.items) x) in
    let refused = now.has c.in_ok-parts-2.refused.0 x in
    let live = s.has c.args.live.0 x in
    let named = c.in_ok-parts.ensures.named names one c.requires.table c.requires.held.name in
    let says = subst (λ b. Redefines d was b refused made) (c.parts.ensures.keeps.at _ x c.requires.live_own listed) (c.in_ok-parts-2.ensures.meaning names one named c.requires.held x (IsConfig-Keeps c.parts.ensures.keeps listed)) in
    let puts = c.in_ok-set.ensures.ok now names one (IsTable-Keeps keeps c.requires.table) c.requires.held.name c.in_ok-parts-2.ensures.parts (c.in_ok-parts-2.ensures.named names one named c.requires.held) tt in
    Puts-changed keeps c.requires.table c.set.new.self (Some d) (live && not refused) puts listed
    (first_defined d was made live refused _ says (c.in_ok-parts.ensures.items names one c.requires.table c.requires.held.name x listed ∙ always_met _ _ (c.always.ensures.meaning.at x listed))) text
