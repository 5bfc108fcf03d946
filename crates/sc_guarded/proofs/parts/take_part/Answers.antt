use Rattle.std.proofs.Common.{◌+◌, ◌&&◌, ◌∙◌, sym, ap, subst, ℕ, List}
use Rattle.std.proofs.lemmas.Bool.{true≢false}
use Rattle.sc_base.specs.declared.id.Cond.{Cond}
use Rattle.sc_guarded.specs.Items.{items_at}
use Rattle.sc_guarded.specs.Next.{ArePartsBelow}
use Rattle.sc_guarded.proofs.NextLemmas.{ArePartsBelow-Keeps, ArePartsBelow-push, items_at-part, items_at-no_part, and-not_none}
use Rattle.sc_model.proofs.SetLemmas.{Keeps-trans, IsConfig-Keeps, Denotes-self, Denotes-Keeps}
use Rattle.sc_guarded.proofs.parts.take_part.Goals as goal

pub returns-then-is_never-clause-taken : goal.returns-then-is_never-clause-taken
returns-then-is_never-clause-taken g c = λ x listed.
    let s = g.C.Conditions.sets c.args.conds.now in
    let keeps = c.apply_and.ensures.keeps in
    let told = c.in_ok-part.ensures.meaning _ _ (Denotes-self s c.args.left.0 c.requires.left_own) (Denotes-self s c.args.item.0 c.requires.item_own) in
    let never = c.is_never.ensures.0 c.if-is_never.true in
    let here = IsConfig-Keeps keeps listed in
    items_at-no_part c.args.parts.now.items c.args.index (s.has c.args.left.0 x && s.has c.args.item.0 x) x keeps c.requires.parts.own listed (sym (told.at x here) ∙ never.none x here)

pub returns-then-is_never-clause-rest : goal.returns-then-is_never-clause-rest
returns-then-is_never-clause-rest g c = λ x listed.
    let s = g.C.Conditions.sets c.args.conds.now in
    let keeps = c.apply_and.ensures.keeps in
    let told = c.in_ok-part.ensures.meaning _ _ (Denotes-self s c.args.left.0 c.requires.left_own) (Denotes-self s c.args.item.0 c.requires.item_own) in
    let never = c.is_never.ensures.0 c.if-is_never.true in
    let here = IsConfig-Keeps keeps listed in
    keeps.at c.args.left.0 x c.requires.left_own listed ∙ and-not_none (s.has c.args.left.0 x) (s.has c.args.item.0 x) (sym (told.at x here) ∙ never.none x here)

pub returns-clause-parts : goal.returns-clause-parts
returns-clause-parts g c =
    let now = g.C.Conditions.sets c.apply_without.new.self in
    let pushed = ArePartsBelow-push c.args.parts.now.items c.in_ok-part.part (ArePartsBelow-Keeps c.apply_and.ensures.keeps c.requires.parts) c.in_ok-part.ensures.own
    (λ never. true≢false (sym (c.is_never.ensures.1 never) ∙ c.if-is_never.false)) in
    subst (ArePartsBelow now (c.args.index + 1)) (sym {A = List (Cond × ℕ)} c.in_ok-push.ensures.items) (ArePartsBelow-Keeps c.apply_without.ensures.keeps pushed)

pub returns-clause-taken : goal.returns-clause-taken
returns-clause-taken g c = λ x listed.
    let s = g.C.Conditions.sets c.args.conds.now in
    let now = g.C.Conditions.sets c.apply_without.new.self in
    let told = c.in_ok-part.ensures.meaning _ _ (Denotes-self s c.args.left.0 c.requires.left_own) (Denotes-self s c.args.item.0 c.requires.item_own) in
    let later = c.apply_without.ensures.keeps in
    let here = IsConfig-Keeps c.apply_and.ensures.keeps listed in
    ap (λ (ps : List (Cond × ℕ)). items_at now ps x) c.in_ok-push.ensures.items
    ∙ items_at-part c.args.parts.now.items c.in_ok-part.part c.args.index (s.has c.args.left.0 x && s.has c.args.item.0 x) x (Keeps-trans c.apply_and.ensures.keeps later) c.requires.parts.own listed
    (later.at c.in_ok-part.part.0 x c.in_ok-part.ensures.own here ∙ told.at x here)

pub returns-clause-rest : goal.returns-clause-rest
returns-clause-rest g c = λ x listed.
    let s = g.C.Conditions.sets c.args.conds.now in
    let keeps = c.apply_and.ensures.keeps in
    let left = Denotes-self s c.args.left.0 c.requires.left_own in
    let item = Denotes-self s c.args.item.0 c.requires.item_own in
    (c.in_ok-rest.ensures.meaning _ _ (Denotes-Keeps keeps left) (Denotes-Keeps keeps item)).at x (IsConfig-Keeps (Keeps-trans keeps c.apply_without.ensures.keeps) listed)
