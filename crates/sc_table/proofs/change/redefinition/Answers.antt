use Rattle.std.proofs.Common.{◌∙◌, ◌&&◌, ◌≤◌, length, sym, ap, subst}
use Rattle.std.specs.List.{list_any}
use Rattle.sc_guarded.specs.Items.{items_at}
use Rattle.sc_macro.specs.Seen.{seen_definition}
use Rattle.sc_model.proofs.SetLemmas.{Keeps-trans, Denotes-self, Denotes-Keeps, IsConfig-Keeps, IsConfig-kept}
use Rattle.sc_table.specs.Parts.{Part, AreSome, valued}
use Rattle.sc_table.proofs.ChangeLemmas.{redefines, few_put, put_items, put_seen, any_seen}
use Rattle.sc_table.proofs.PartLemmas.{AreSome-Keeps}
use Rattle.sc_table.proofs.change.redefinition.Goals as goal

pub union-requires : goal.union-requires
union-requires g c = record { parts = subst (AreSome (g.C.Conditions.sets c.args.conds.now)) (sym (ap valued c.deref.ensures.value)) c.take_same-mine.ensures.parts.each }

pub returns-in_err-refused-clause-keeps : goal.returns-in_err-refused-clause-keeps
returns-in_err-refused-clause-keeps g c = Keeps-trans c.union.ensures.keeps c.apply_and.ensures.keeps

pub returns-in_err-whole-clause-keeps : goal.returns-in_err-whole-clause-keeps
returns-in_err-whole-clause-keeps g c = Keeps-trans c.union.ensures.keeps (Keeps-trans c.apply_and.ensures.keeps c.with_free.ensures.keeps)

pub returns-in_err-put-clause-keeps : goal.returns-in_err-put-clause-keeps
returns-in_err-put-clause-keeps g c = Keeps-trans c.union.ensures.keeps (Keeps-trans c.apply_and.ensures.keeps c.with_free.ensures.keeps)

pub returns-clause-keeps : goal.returns-clause-keeps
returns-clause-keeps g c = Keeps-trans c.union.ensures.keeps (Keeps-trans c.apply_and.ensures.keeps c.with_free.ensures.keeps)

pub put-requires-clause-parts : goal.put-requires-clause-parts
put-requires-clause-parts g c = AreSome-Keeps (Keeps-trans c.union.ensures.keeps (Keeps-trans c.apply_and.ensures.keeps c.with_free.ensures.keeps)) c.take_same-mine.ensures.parts.each

pub returns-clause-parts : goal.returns-clause-parts
returns-clause-parts g c =
    let s = g.C.Conditions.sets c.args.conds.now in
    let before = Keeps-trans c.union.ensures.keeps c.apply_and.ensures.keeps in
    let keeps = Keeps-trans before c.with_free.ensures.keeps in
    let mine = c.take_same-mine.result.0 in
    let live = c.args.live.0 in
    let parts = c.take_same-mine.new.parts.items in
    let told = c.in_ok-whole.ensures.meaning _ _ _ (Denotes-Keeps before (Denotes-self s mine c.take_same-mine.ensures.own)) (Denotes-Keeps before (Denotes-self s live c.requires.live_own)) (Denotes-Keeps c.apply_and.ensures.keeps c.in_ok-others.ensures.meaning) in
    record {
      each = c.in_ok-put.ensures.parts;
      one = λ x listed.
          let was = IsConfig-kept keeps listed in
          let made = put_items keeps c.take_same-mine.ensures.parts was c.args.definition (s.has mine x) (s.has live x) (c.in_ok-put.ensures.items x listed) (told.at x listed) (ap (λ ps. list_any (λ (p : Part). s.has p.0.0 x) (valued ps)) c.deref.ensures.value) in
          subst (λ ds. length ds ≤ 1) (sym made) (few_put (items_at s (valued parts) x) c.args.definition (s.has mine x) (s.has live x) (c.take_same-mine.ensures.one x was));
    }

pub returns-clause-named : goal.returns-clause-named
returns-clause-named g c = λ names one named held. c.in_ok-put.ensures.named names (c.take_same-mine.ensures.named names one named held) held (c.take_same-mine.ensures.lacks names one named held)

pub returns-clause-meaning : goal.returns-clause-meaning
returns-clause-meaning g c = λ names one named held x was.
    let s = g.C.Conditions.sets c.args.conds.now in
    let before = Keeps-trans c.union.ensures.keeps c.apply_and.ensures.keeps in
    let keeps = Keeps-trans before c.with_free.ensures.keeps in
    let mine = c.take_same-mine.result.0 in
    let live = c.args.live.0 in
    let parts = c.take_same-mine.new.parts.items in
    let listed = IsConfig-Keeps keeps was in
    let others = Denotes-Keeps c.apply_and.ensures.keeps c.in_ok-others.ensures.meaning in
    let live_told = Denotes-self s live c.requires.live_own in
    let told = c.in_ok-whole.ensures.meaning _ _ _ (Denotes-Keeps before (Denotes-self s mine c.take_same-mine.ensures.own)) (Denotes-Keeps before live_told) others in
    let any = ap (λ ps. list_any (λ (p : Part). s.has p.0.0 x) (valued ps)) c.deref.ensures.value in
    let made = put_items keeps c.take_same-mine.ensures.parts was c.args.definition (s.has mine x) (s.has live x) (c.in_ok-put.ensures.items x listed) (told.at x listed) any in
    let refuses = (Denotes-Keeps c.with_free.ensures.keeps (c.in_ok-refused.ensures.meaning _ _ (Denotes-Keeps c.union.ensures.keeps live_told) c.in_ok-others.ensures.meaning)).at x listed in
    redefines (seen_definition names c.args.definition) (c.take_same-mine.ensures.splits names one named held x was) _ (s.has live x) _
    (refuses ∙ ap (λ b. s.has live x && b) (any ∙ any_seen s names (valued parts) x))
    (put_seen names (items_at s (valued parts) x) _ c.args.definition (s.has mine x) (s.has live x) made)
