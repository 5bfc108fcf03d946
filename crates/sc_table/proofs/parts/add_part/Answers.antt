use Rattle.std.proofs.Common.{◌≡◌, ◌∙◌, sym, ap, subst, List, ◌∷◌, [], ◌++◌}
use Rattle.std.proofs.lemmas.Bool.{true≢false}
use Rattle.std.proofs.lemmas.List.{map-append}
use Rattle.sc_guarded.specs.Items.{items_at}
use Rattle.sc_model.proofs.SetLemmas.{Denotes-self, IsConfig-Keeps}
use Rattle.sc_table.specs.Parts.{Part, AreSome, AreDrawn, valued}
use Rattle.sc_table.proofs.PartLemmas.{AreSome-Keeps, AreSome-push, items_at-part, items_at-no_part, AreDrawn-skip, AreDrawn-push}
use Rattle.sc_table.proofs.parts.add_part.Goals as goal

pub returns-then-is_never-clause-items : goal.returns-then-is_never-clause-items
returns-then-is_never-clause-items g c = λ x listed.
    let s = g.C.Conditions.sets c.args.conds.now in
    let keeps = c.apply_and.ensures.keeps in
    let told = c.in_ok-met.ensures.meaning _ _ (Denotes-self s c.args.cond.0 c.requires.cond_own) (Denotes-self s c.args.by.0 c.requires.by_own) in
    let never = c.is_never.ensures.0 c.if-is_never.true in
    let here = IsConfig-Keeps keeps listed in
    items_at-no_part keeps c.requires.parts listed c.args.definition.now.value _ (sym (told.at x here) ∙ never.none x here)

pub returns-then-is_never-clause-drawn : goal.returns-then-is_never-clause-drawn
returns-then-is_never-clause-drawn g c = λ names from drawn held lacks. AreDrawn-skip drawn _

pub returns-clause-parts : goal.returns-clause-parts
returns-clause-parts g c =
    let now = g.C.Conditions.sets c.apply_and.new.self in
    let more : valued c.push.new.self.items ≡ valued c.args.parts.now.items ++ (c.in_ok-met.met, c.in_ok-shared.shared.value) ∷ [] =
    ap valued c.in_ok-push.ensures.items ∙ map-append _ c.args.parts.now.items _ in
    subst (AreSome now) (sym more) (AreSome-push c.in_ok-met.met c.in_ok-shared.shared.value (AreSome-Keeps c.apply_and.ensures.keeps c.requires.parts) c.in_ok-met.ensures.own
    (λ never. true≢false (sym (c.is_never.ensures.1 never) ∙ c.if-is_never.false)))

pub returns-clause-items : goal.returns-clause-items
returns-clause-items g c = λ x listed.
    let s = g.C.Conditions.sets c.args.conds.now in
    let now = g.C.Conditions.sets c.apply_and.new.self in
    let keeps = c.apply_and.ensures.keeps in
    let told = c.in_ok-met.ensures.meaning _ _ (Denotes-self s c.args.cond.0 c.requires.cond_own) (Denotes-self s c.args.by.0 c.requires.by_own) in
    let more : valued c.push.new.self.items ≡ valued c.args.parts.now.items ++ (c.in_ok-met.met, c.args.definition.now.value) ∷ [] =
    ap valued c.in_ok-push.ensures.items ∙ (map-append _ c.args.parts.now.items _ ∙ ap (λ d. valued c.args.parts.now.items ++ (c.in_ok-met.met, d) ∷ []) c.in_ok-shared.ensures.cases) in
    ap (λ (ps : List Part). items_at now ps x) more ∙ items_at-part keeps c.requires.parts listed (c.in_ok-met.met, c.args.definition.now.value) _ (told.at x (IsConfig-Keeps keeps listed))

pub returns-clause-drawn : goal.returns-clause-drawn
returns-clause-drawn g c = λ names from drawn held lacks.
    let more : valued c.push.new.self.items ≡ valued c.args.parts.now.items ++ (c.in_ok-met.met, c.args.definition.now.value) ∷ [] =
    ap valued c.in_ok-push.ensures.items ∙ (map-append _ c.args.parts.now.items _ ∙ ap (λ d. valued c.args.parts.now.items ++ (c.in_ok-met.met, d) ∷ []) c.in_ok-shared.ensures.cases) in
    subst (AreDrawn names _) (sym more) (AreDrawn-push drawn c.in_ok-met.met c.args.definition.now.value held lacks)
