use Rattle.std.proofs.Common.{◌∙◌, ◌&&◌, not, sym, ap, None, slice_get, if◌then◌else◌}
use Rattle.std.proofs.lemmas.Option.{same_Some}
use Rattle.std.specs.Map.{update}
use Rattle.c11_macros.specs.Defines.{is_protected}
use Rattle.sc_macro.proofs.Texts.{held_at}
use Rattle.sc_macro.specs.Seen.{text_of}
use Rattle.sc_model.proofs.SetLemmas.{Keeps-refl, Keeps-trans, Denotes-self, IsConfig-Keeps}
use Rattle.sc_model.specs.Bytes.{same_bytes}
use Rattle.sc_table.specs.Table.{macros_at}
use Rattle.sc_table.proofs.Growth.{IsTable-Keeps, macros_at-Keeps}
use Rattle.sc_table.proofs.Denoting.{Denotes-as}
use Rattle.sc_table.proofs.TableLemmas.{Puts-changed, first_left, and_true, and_false, IsTable-same, IsStill-same, on_err}
use Rattle.sc_table.proofs.table.MacroTable.undef.Goals as goal

pub returns-then-is_protected-clause-refused : goal.returns-then-is_protected-clause-refused
returns-then-is_protected-clause-refused g c =
    let s = g.C.Conditions.sets c.args.conds.now in
    let names = c.args.names.now in
    let text = same_Some _ _ (sym c.text.ensures ∙ held_at names c.args.name.0 c.requires.held) in
    let protected = ap is_protected (sym text) ∙ (sym c.is_protected.ensures ∙ c.if-is_protected.true) in
    Denotes-as (λ x. s.has c.args.live.0 x && is_protected (text_of names c.args.name)) (Denotes-self s c.args.live.0 c.requires.live_own)
    (λ x listed. sym (and_true (s.has c.args.live.0 x) (is_protected (text_of names c.args.name)) protected))

pub returns-then-is_protected-clause-removed : goal.returns-then-is_protected-clause-removed
returns-then-is_protected-clause-removed g c = λ x text listed.
    let s = g.C.Conditions.sets c.args.conds.now in
    let names = c.args.names.now in
    let m = macros_at s names c.args.self.now x in
    let same = same_Some _ _ (sym c.text.ensures ∙ held_at names c.args.name.0 c.requires.held) in
    let protected = ap is_protected (sym same) ∙ (sym c.is_protected.ensures ∙ c.if-is_protected.true) in
    ap (λ b. if b then update same_bytes m (text_of names c.args.name) None text else m text)
    (sym (and_false (s.has c.args.live.0 x) (not (is_protected (text_of names c.args.name))) (ap not protected)))

pub returns-clause-refused : goal.returns-clause-refused
returns-clause-refused g c =
    let s = g.C.Conditions.sets c.args.conds.now in
    let names = c.args.names.now in
    let same = same_Some _ _ (sym c.text.ensures ∙ held_at names c.args.name.0 c.requires.held) in
    let protected = ap is_protected (sym same) ∙ (sym c.is_protected.ensures ∙ c.if-is_protected.false) in
    Denotes-as (λ x. s.has c.args.live.0 x && is_protected (text_of names c.args.name)) c.never.ensures.meaning
    (λ x listed. sym (and_false (s.has c.args.live.0 x) (is_protected (text_of names c.args.name)) protected))

pub returns-clause-removed : goal.returns-clause-removed
returns-clause-removed g c = λ x text listed.
    let s = g.C.Conditions.sets c.args.conds.now in
    let now = g.C.Conditions.sets c.parts.new.conds in
    let names = c.args.names.now in
    let is = c.requires.table in
    let one = c.one_to_one.ensures in
    let keeps = Keeps-trans c.negate.ensures.keeps c.parts.ensures.keeps in
    let mid = IsTable-Keeps c.negate.ensures.keeps is in
    let puts = c.in_ok-set.ensures.ok now names one (IsTable-Keeps keeps is) c.requires.held c.in_ok-parts.ensures.parts (c.in_ok-parts.ensures.named names one mid c.requires.held) tt in
    let live = s.has c.args.live.0 x in
    let here = IsConfig-Keeps c.negate.ensures.keeps listed in
    let same = same_Some _ _ (sym c.text.ensures ∙ held_at names c.args.name.0 c.requires.held) in
    let protected = ap is_protected (sym same) ∙ (sym c.is_protected.ensures ∙ c.if-is_protected.false) in
    let m = macros_at s names c.args.self.now x in
    let others = (c.in_ok-others.ensures.meaning _ (Denotes-self s c.args.live.0 c.requires.live_own)).at x here in
    let first = ap (λ ds. slice_get ds 0) (c.in_ok-parts.ensures.items names one mid c.requires.held x here)
    ∙ (first_left live _ _ others ∙ ap (λ o. if live then None else o) (macros_at-Keeps c.negate.ensures.keeps is x (text_of names c.args.name) listed)) in
    Puts-changed keeps is c.set.new.self None live puts listed first text
    ∙ ap (λ b. if b then update same_bytes m (text_of names c.args.name) None text else m text) (sym (and_true live (not (is_protected (text_of names c.args.name))) (ap not protected)))

pub parts-requires-clause-made : goal.parts-requires-clause-made
parts-requires-clause-made g c = (IsTable-Keeps c.negate.ensures.keeps c.requires.table).made

pub returns-then-is_protected-clause-table : goal.returns-then-is_protected-clause-table
returns-then-is_protected-clause-table g c = c.requires.table

pub returns-then-is_protected-clause-keeps : goal.returns-then-is_protected-clause-keeps
returns-then-is_protected-clause-keeps g c = Keeps-refl (g.C.Conditions.sets c.args.conds.now)

pub returns-in_err-others-clause-err : goal.returns-in_err-others-clause-err
returns-in_err-others-clause-err g c = on_err _ (macros_at-Keeps c.negate.ensures.keeps c.requires.table)

pub returns-in_err-others-clause-table : goal.returns-in_err-others-clause-table
returns-in_err-others-clause-table g c = IsTable-Keeps c.negate.ensures.keeps c.requires.table

pub returns-in_err-parts-clause-err : goal.returns-in_err-parts-clause-err
returns-in_err-parts-clause-err g c = on_err _ (macros_at-Keeps (Keeps-trans c.negate.ensures.keeps c.parts.ensures.keeps) c.requires.table)

pub returns-in_err-parts-clause-table : goal.returns-in_err-parts-clause-table
returns-in_err-parts-clause-table g c = IsTable-Keeps (Keeps-trans c.negate.ensures.keeps c.parts.ensures.keeps) c.requires.table

pub returns-in_err-parts-clause-keeps : goal.returns-in_err-parts-clause-keeps
returns-in_err-parts-clause-keeps g c = Keeps-trans c.negate.ensures.keeps c.parts.ensures.keeps

pub returns-in_err-set-clause-err : goal.returns-in_err-set-clause-err
returns-in_err-set-clause-err g c = on_err _ (IsStill-same (Keeps-trans c.negate.ensures.keeps c.parts.ensures.keeps) c.requires.table c.set.new.self c.in_err-set.ensures.err)

pub returns-in_err-set-clause-table : goal.returns-in_err-set-clause-table
returns-in_err-set-clause-table g c = IsTable-same c.in_err-set.ensures.err (IsTable-Keeps (Keeps-trans c.negate.ensures.keeps c.parts.ensures.keeps) c.requires.table)

pub returns-in_err-set-clause-keeps : goal.returns-in_err-set-clause-keeps
returns-in_err-set-clause-keeps g c = Keeps-trans c.negate.ensures.keeps c.parts.ensures.keeps

pub returns-clause-keeps : goal.returns-clause-keeps
returns-clause-keeps g c = Keeps-trans c.negate.ensures.keeps c.parts.ensures.keeps

pub returns-clause-table : goal.returns-clause-table
returns-clause-table g c =
    let now = g.C.Conditions.sets c.parts.new.conds in
    let names = c.args.names.now in
    let one = c.one_to_one.ensures in
    let keeps = Keeps-trans c.negate.ensures.keeps c.parts.ensures.keeps in
    let named = c.in_ok-parts.ensures.named names one (IsTable-Keeps c.negate.ensures.keeps c.requires.table) c.requires.held in
    (c.in_ok-set.ensures.ok now names one (IsTable-Keeps keeps c.requires.table) c.requires.held c.in_ok-parts.ensures.parts named tt).table
