use Rattle.std.proofs.Common.{◌∙◌, is_some, sym, ap, subst, List, map, slice_get}
use Rattle.std.specs.List.{list_any}
use Rattle.sc_guarded.specs.Items.{items_at}
use Rattle.sc_macro.specs.Seen.{seen_definition, text_of}
use Rattle.sc_model.proofs.SetLemmas.{Keeps-refl, Keeps-trans, IsConfig-Keeps, IsConfig-kept}
use Rattle.sc_table.specs.Parts.{Part, AreSome, valued}
use Rattle.sc_table.specs.Table.{macros_at}
use Rattle.sc_table.proofs.ChangeLemmas.{any_items}
use Rattle.sc_guarded.proofs.ItemLemmas.{items_at-Keeps}
use Rattle.sc_macro.specs.declared.definition.Definition.{Definition}
use Rattle.sc_table.proofs.Growth.{AreParts-Keeps, IsTable-Keeps, macros_at-Keeps}
use Rattle.sc_table.proofs.Denoting.{Denotes-as}
use Rattle.sc_table.proofs.TableLemmas.{Puts-still, some_macro, always_met, IsTable-same, IsStill-same}
use Rattle.sc_table.proofs.table.MacroTable.defined.Goals as goal

pub returns-in-Some-clause-own : goal.returns-in-Some-clause-own
returns-in-Some-clause-own g c = (c.in-Some.ensures c.args.names.now (g.C.Conditions.sets c.args.conds.now) c.one_to_one.ensures c.requires.table c.requires.held).own

pub returns-in-Some-clause-meaning : goal.returns-in-Some-clause-meaning
returns-in-Some-clause-meaning g c = c.in-Some.ensures c.args.names.now (g.C.Conditions.sets c.args.conds.now) c.one_to_one.ensures c.requires.table c.requires.held

pub returns-in-Some-clause-table : goal.returns-in-Some-clause-table
returns-in-Some-clause-table g c = c.requires.table

pub returns-in-Some-clause-still : goal.returns-in-Some-clause-still
returns-in-Some-clause-still g c = macros_at-Keeps (Keeps-refl (g.C.Conditions.sets c.args.conds.now)) c.requires.table

pub returns-in-Some-clause-keeps : goal.returns-in-Some-clause-keeps
returns-in-Some-clause-keeps g c = Keeps-refl (g.C.Conditions.sets c.args.conds.now)

pub union-requires : goal.union-requires
union-requires g c = record { parts = subst (AreSome (g.C.Conditions.sets c.parts.new.conds)) (sym (ap valued c.deref.ensures.value)) c.in_ok-parts.ensures.parts.each }

pub returns-clause-meaning : goal.returns-clause-meaning
returns-clause-meaning g c =
    let s = g.C.Conditions.sets c.args.conds.now in
    let mid = g.C.Conditions.sets c.parts.new.conds in
    let now = g.C.Conditions.sets c.union.new.conds in
    let names = c.args.names.now in
    let one = c.one_to_one.ensures in
    let keeps = Keeps-trans c.parts.ensures.keeps c.union.ensures.keeps in
    let parts = valued c.in_ok-parts.parts.items in
    Denotes-as (λ x. is_some (macros_at s names c.args.self.now x (text_of names c.args.name))) c.in_ok-all.ensures.meaning
    (λ x listed.
    let was = IsConfig-kept keeps listed in
    ap (λ ps. list_any (λ (p : Part). mid.has p.0.0 x) (valued ps)) c.deref.ensures.value ∙ (any_items mid parts x
    ∙ some_macro names (items_at mid parts x) (macros_at s names c.args.self.now x (text_of names c.args.name))
    (c.in_ok-parts.ensures.items names one c.requires.table c.requires.held x was ∙ always_met _ _ (c.always.ensures.meaning.at x was))))

pub returns-clause-table : goal.returns-clause-table
returns-clause-table g c =
    let s = g.C.Conditions.sets c.args.conds.now in
    let mid = g.C.Conditions.sets c.parts.new.conds in
    let now = g.C.Conditions.sets c.union.new.conds in
    let names = c.args.names.now in
    let one = c.one_to_one.ensures in
    let keeps = Keeps-trans c.parts.ensures.keeps c.union.ensures.keeps in
    let parts = valued c.in_ok-parts.parts.items in
    let known = Denotes-as (λ x. is_some (slice_get (items_at now parts x) 0)) c.in_ok-all.ensures.meaning
    (λ x listed. ap (λ ps. list_any (λ (p : Part). mid.has p.0.0 x) (valued ps)) c.deref.ensures.value ∙ (any_items mid parts x
    ∙ ap (λ (ds : List Definition). is_some (slice_get ds 0)) (sym (items_at-Keeps parts x c.union.ensures.keeps c.in_ok-parts.ensures.parts.each.own (IsConfig-kept c.union.ensures.keeps listed))))) in
    let puts = c.in_ok-set.ensures.ok now names one (IsTable-Keeps keeps c.requires.table) c.requires.held (AreParts-Keeps c.union.ensures.keeps c.in_ok-parts.ensures.parts) (c.in_ok-parts.ensures.named names one c.requires.table c.requires.held) known in
    puts.table

pub returns-clause-still : goal.returns-clause-still
returns-clause-still g c =
    let s = g.C.Conditions.sets c.args.conds.now in
    let mid = g.C.Conditions.sets c.parts.new.conds in
    let now = g.C.Conditions.sets c.union.new.conds in
    let names = c.args.names.now in
    let one = c.one_to_one.ensures in
    let keeps = Keeps-trans c.parts.ensures.keeps c.union.ensures.keeps in
    let parts = valued c.in_ok-parts.parts.items in
    let known = Denotes-as (λ x. is_some (slice_get (items_at now parts x) 0)) c.in_ok-all.ensures.meaning
    (λ x listed. ap (λ ps. list_any (λ (p : Part). mid.has p.0.0 x) (valued ps)) c.deref.ensures.value ∙ (any_items mid parts x
    ∙ ap (λ (ds : List Definition). is_some (slice_get ds 0)) (sym (items_at-Keeps parts x c.union.ensures.keeps c.in_ok-parts.ensures.parts.each.own (IsConfig-kept c.union.ensures.keeps listed))))) in
    let puts = c.in_ok-set.ensures.ok now names one (IsTable-Keeps keeps c.requires.table) c.requires.held (AreParts-Keeps c.union.ensures.keeps c.in_ok-parts.ensures.parts) (c.in_ok-parts.ensures.named names one c.requires.table c.requires.held) known in
    Puts-still keeps c.requires.table c.set.new.self puts (λ x was.
    ap (map (seen_definition names)) (items_at-Keeps parts x c.union.ensures.keeps c.in_ok-parts.ensures.parts.each.own (IsConfig-Keeps c.parts.ensures.keeps was))
    ∙ (c.in_ok-parts.ensures.items names one c.requires.table c.requires.held x was ∙ always_met _ _ (c.always.ensures.meaning.at x was)))

pub returns-clause-keeps : goal.returns-clause-keeps
returns-clause-keeps g c = Keeps-trans c.parts.ensures.keeps c.union.ensures.keeps

pub returns-in_err-parts-clause-table : goal.returns-in_err-parts-clause-table
returns-in_err-parts-clause-table g c = IsTable-Keeps c.parts.ensures.keeps c.requires.table

pub returns-in_err-all-clause-table : goal.returns-in_err-all-clause-table
returns-in_err-all-clause-table g c = IsTable-Keeps (Keeps-trans c.parts.ensures.keeps c.union.ensures.keeps) c.requires.table

pub returns-in_err-all-clause-still : goal.returns-in_err-all-clause-still
returns-in_err-all-clause-still g c = macros_at-Keeps (Keeps-trans c.parts.ensures.keeps c.union.ensures.keeps) c.requires.table

pub returns-in_err-all-clause-keeps : goal.returns-in_err-all-clause-keeps
returns-in_err-all-clause-keeps g c = Keeps-trans c.parts.ensures.keeps c.union.ensures.keeps

pub returns-in_err-set-clause-table : goal.returns-in_err-set-clause-table
returns-in_err-set-clause-table g c = IsTable-same c.in_err-set.ensures.err (IsTable-Keeps (Keeps-trans c.parts.ensures.keeps c.union.ensures.keeps) c.requires.table)

pub returns-in_err-set-clause-still : goal.returns-in_err-set-clause-still
returns-in_err-set-clause-still g c = IsStill-same (Keeps-trans c.parts.ensures.keeps c.union.ensures.keeps) c.requires.table c.set.new.self c.in_err-set.ensures.err

pub returns-in_err-set-clause-keeps : goal.returns-in_err-set-clause-keeps
returns-in_err-set-clause-keeps g c = Keeps-trans c.parts.ensures.keeps c.union.ensures.keeps
