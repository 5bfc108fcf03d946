use Rattle.std.proofs.Common.{◌≡◌, ◌∙◌, refl, sym, ap, subst, List, ◌∷◌, [], ◌++◌}
use Rattle.std.proofs.lemmas.Bool.{true≢false}
use Rattle.std.proofs.lemmas.List.{map-append}
use Rattle.sc_guarded.specs.Items.{items_at}
use Rattle.sc_model.proofs.SetLemmas.{Keeps-refl}
use Rattle.sc_table.specs.Parts.{Part, AreSome, AreNamed, valued}
use Rattle.sc_table.proofs.PartLemmas.{AreSome-push, items_at-part, items_at-no_part, AreDrawn-push}
use Rattle.sc_table.proofs.change.put.Goals as goal

pub returns-then-is_never-clause-items : goal.returns-then-is_never-clause-items
returns-then-is_never-clause-items g c = λ x listed.
    let s = g.C.Conditions.sets c.args.conds.now in
    items_at-no_part (Keeps-refl s) c.requires.parts listed c.args.definition _ ((c.is_never.ensures.0 c.if-is_never.true).none x listed)

pub returns-then-is_never-clause-named : goal.returns-then-is_never-clause-named
returns-then-is_never-clause-named g c = λ names named held lacks. named

pub returns-clause-parts : goal.returns-clause-parts
returns-clause-parts g c =
    let s = g.C.Conditions.sets c.args.conds.now in
    let more : valued c.push.new.self.items ≡ valued c.args.parts.now.items ++ (c.args.cond, c.in_ok-shared.shared.value) ∷ [] =
    ap valued c.in_ok-push.ensures.items ∙ map-append _ c.args.parts.now.items _ in
    subst (AreSome s) (sym more) (AreSome-push c.args.cond c.in_ok-shared.shared.value c.requires.parts c.requires.own
    (λ never. true≢false (sym (c.is_never.ensures.1 never) ∙ c.if-is_never.false)))

pub returns-clause-items : goal.returns-clause-items
returns-clause-items g c = λ x listed.
    let s = g.C.Conditions.sets c.args.conds.now in
    let more : valued c.push.new.self.items ≡ valued c.args.parts.now.items ++ (c.args.cond, c.args.definition) ∷ [] =
    ap valued c.in_ok-push.ensures.items ∙ (map-append _ c.args.parts.now.items _ ∙ ap (λ d. valued c.args.parts.now.items ++ (c.args.cond, d) ∷ []) c.in_ok-shared.ensures.ok) in
    ap (λ (ps : List Part). items_at s ps x) more ∙ items_at-part (Keeps-refl s) c.requires.parts listed (c.args.cond, c.args.definition) _ (refl)

pub returns-clause-named : goal.returns-clause-named
returns-clause-named g c = λ names named held lacks.
    let more : valued c.push.new.self.items ≡ valued c.args.parts.now.items ++ (c.args.cond, c.args.definition) ∷ [] =
    ap valued c.in_ok-push.ensures.items ∙ (map-append _ c.args.parts.now.items _ ∙ ap (λ d. valued c.args.parts.now.items ++ (c.args.cond, d) ∷ []) c.in_ok-shared.ensures.ok) in
    subst (AreNamed names) (sym more) (AreDrawn-push (record { named = named; among = λ d has. has }) c.args.cond c.args.definition held lacks).named
