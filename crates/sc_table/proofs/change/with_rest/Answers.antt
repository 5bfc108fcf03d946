use Rattle.std.proofs.Common.{◌∙◌, ◌&&◌, ◌++◌, ◌∷◌, [], not, sym, ap, subst, All, IfSome, map, None}
use Rattle.std.proofs.lemmas.Bool.{true≢false}
use Rattle.std.proofs.lemmas.List.{map-append}
use Rattle.std.proofs.lemmas.List.Elements.{All-push}
use Rattle.std.specs.List.{list_any}
use Rattle.std.specs.Option.{option_map}
use Rattle.sc_guarded.specs.Items.{items_at}
use Rattle.sc_macro.specs.Seen.{IsHeldDefinition, seen_definition}
use Rattle.sc_model.proofs.SetLemmas.{Keeps-trans, Denotes-self, Denotes-Keeps, IsConfig-Keeps}
use Rattle.sc_model.specs.Growth.{IsOneToOne}
use Rattle.sc_model.specs.Sets.{IsCond, IsNever}
use Rattle.sc_table.specs.Parts.{Part, AreSome, seen_all, valued}
use Rattle.sc_table.proofs.LookupLemmas.{answered, all_answered, held_answered, seen_answered, IsOneToOne-some, IsOneToOne-none, rest_items, no_rest_items}
use Rattle.sc_table.proofs.PartLemmas.{AreSome-Keeps}
use Rattle.sc_table.proofs.change.with_rest.Goals as goal

pub union-requires : goal.union-requires
union-requires g c = record { parts = subst (AreSome (g.C.Conditions.sets c.args.conds.now)) (sym (ap valued c.deref.ensures.value)) c.requires.parts }

pub returns-then-is_never-clause-own : goal.returns-then-is_never-clause-own
returns-then-is_never-clause-own g c =
    let now = g.C.Conditions.sets c.apply_without.new.self in
    let keeps = Keeps-trans c.union.ensures.keeps c.apply_without.ensures.keeps in
    subst (All (λ part. IsCond now part.0.0)) (sym c.in_ok-answer.ensures) (all_answered (λ k. IsCond now k.0) c.args.parts.items (AreSome-Keeps keeps c.requires.parts).own)

pub returns-then-is_never-clause-some : goal.returns-then-is_never-clause-some
returns-then-is_never-clause-some g c =
    let now = g.C.Conditions.sets c.apply_without.new.self in
    let keeps = Keeps-trans c.union.ensures.keeps c.apply_without.ensures.keeps in
    subst (All (λ part. IsNever now part.0.0 → ⊥)) (sym c.in_ok-answer.ensures) (all_answered (λ k. IsNever now k.0 → ⊥) c.args.parts.items (AreSome-Keeps keeps c.requires.parts).some)

pub returns-then-is_never-clause-items : goal.returns-then-is_never-clause-items
returns-then-is_never-clause-items g c = λ names x listed.
    let s = g.C.Conditions.sets c.args.conds.now in
    let now = g.C.Conditions.sets c.apply_without.new.self in
    let keeps = Keeps-trans c.union.ensures.keeps c.apply_without.ensures.keeps in
    let here = IsConfig-Keeps keeps listed in
    let told = c.in_ok-rest.ensures.meaning _ _ (Denotes-Keeps c.union.ensures.keeps (Denotes-self s c.args.cond.0 c.requires.cond_own)) c.in_ok-all.ensures.meaning in
    let none = ap (λ ps. s.has c.args.cond.0 x && not (list_any (λ (p : Part). s.has p.0.0 x) (valued ps))) (sym c.deref.ensures.value) ∙ (sym (told.at x here) ∙ (c.is_never.ensures.0 c.if-is_never.true).none x here) in
    ap (λ ps. map (option_map (λ shared. seen_definition names shared.value)) (items_at now ps x)) c.in_ok-answer.ensures
    ∙ no_rest_items keeps names c.args.parts.items c.requires.parts x listed _ none

pub returns-then-is_never-clause-differ : goal.returns-then-is_never-clause-differ
returns-then-is_never-clause-differ g c = λ names named.
    subst IsOneToOne (sym (ap (map (λ part. option_map (λ shared. seen_definition names shared.value) part.1)) c.in_ok-answer.ensures ∙ seen_answered names c.args.parts.items))
    (IsOneToOne-some (seen_all names (valued c.args.parts.items)) named.differ)

pub returns-then-is_never-clause-held : goal.returns-then-is_never-clause-held
returns-then-is_never-clause-held g c = λ names named.
    subst (All (λ part. IfSome part.1 (λ shared. IsHeldDefinition names shared.value))) (sym c.in_ok-answer.ensures) (held_answered names c.args.parts.items named.held)

pub returns-clause-own : goal.returns-clause-own
returns-clause-own g c =
    let now = g.C.Conditions.sets c.apply_without.new.self in
    let keeps = Keeps-trans c.union.ensures.keeps c.apply_without.ensures.keeps in
    subst (All (λ part. IsCond now part.0.0)) (sym (c.in_ok-push.ensures.items ∙ ap (λ ps. ps ++ (c.in_ok-rest.rest, None) ∷ []) c.in_ok-answer.ensures))
    (All-push (λ part. IsCond now part.0.0) (answered c.args.parts.items) (c.in_ok-rest.rest, None) (all_answered (λ k. IsCond now k.0) c.args.parts.items (AreSome-Keeps keeps c.requires.parts).own) c.in_ok-rest.ensures.own)

pub returns-clause-some : goal.returns-clause-some
returns-clause-some g c =
    let now = g.C.Conditions.sets c.apply_without.new.self in
    let keeps = Keeps-trans c.union.ensures.keeps c.apply_without.ensures.keeps in
    subst (All (λ part. IsNever now part.0.0 → ⊥)) (sym (c.in_ok-push.ensures.items ∙ ap (λ ps. ps ++ (c.in_ok-rest.rest, None) ∷ []) c.in_ok-answer.ensures))
    (All-push (λ part. IsNever now part.0.0 → ⊥) (answered c.args.parts.items) (c.in_ok-rest.rest, None) (all_answered (λ k. IsNever now k.0 → ⊥) c.args.parts.items (AreSome-Keeps keeps c.requires.parts).some)
    (λ never. true≢false (sym (c.is_never.ensures.1 never) ∙ c.if-is_never.false)))

pub returns-clause-items : goal.returns-clause-items
returns-clause-items g c = λ names x listed.
    let s = g.C.Conditions.sets c.args.conds.now in
    let now = g.C.Conditions.sets c.apply_without.new.self in
    let keeps = Keeps-trans c.union.ensures.keeps c.apply_without.ensures.keeps in
    let here = IsConfig-Keeps keeps listed in
    let told = c.in_ok-rest.ensures.meaning _ _ (Denotes-Keeps c.union.ensures.keeps (Denotes-self s c.args.cond.0 c.requires.cond_own)) c.in_ok-all.ensures.meaning in
    let test = told.at x here ∙ ap (λ ps. s.has c.args.cond.0 x && not (list_any (λ (p : Part). s.has p.0.0 x) (valued ps))) c.deref.ensures.value in
    ap (λ ps. map (option_map (λ shared. seen_definition names shared.value)) (items_at now ps x)) (c.in_ok-push.ensures.items ∙ ap (λ ps. ps ++ (c.in_ok-rest.rest, None) ∷ []) c.in_ok-answer.ensures)
    ∙ rest_items keeps names c.args.parts.items c.requires.parts x listed c.in_ok-rest.rest _ test

pub returns-clause-differ : goal.returns-clause-differ
returns-clause-differ g c = λ names named.
    subst IsOneToOne
    (sym (ap (map (λ part. option_map (λ shared. seen_definition names shared.value) part.1)) (c.in_ok-push.ensures.items ∙ ap (λ ps. ps ++ (c.in_ok-rest.rest, None) ∷ []) c.in_ok-answer.ensures)
    ∙ (map-append _ (answered c.args.parts.items) ((c.in_ok-rest.rest, None) ∷ []) ∙ ap (λ ds. ds ++ None ∷ []) (seen_answered names c.args.parts.items))))
    (IsOneToOne-none (seen_all names (valued c.args.parts.items)) named.differ)

pub returns-clause-held : goal.returns-clause-held
returns-clause-held g c = λ names named.
    subst (All (λ part. IfSome part.1 (λ shared. IsHeldDefinition names shared.value))) (sym (c.in_ok-push.ensures.items ∙ ap (λ ps. ps ++ (c.in_ok-rest.rest, None) ∷ []) c.in_ok-answer.ensures))
    (All-push (λ part. IfSome part.1 (λ shared. IsHeldDefinition names shared.value)) (answered c.args.parts.items) (c.in_ok-rest.rest, None) (held_answered names c.args.parts.items named.held) tt)

pub returns-in_err-answer-clause-keeps : goal.returns-in_err-answer-clause-keeps
returns-in_err-answer-clause-keeps g c = Keeps-trans c.union.ensures.keeps c.apply_without.ensures.keeps

pub returns-then-is_never-clause-keeps : goal.returns-then-is_never-clause-keeps
returns-then-is_never-clause-keeps g c = Keeps-trans c.union.ensures.keeps c.apply_without.ensures.keeps

pub returns-in_err-push-clause-keeps : goal.returns-in_err-push-clause-keeps
returns-in_err-push-clause-keeps g c = Keeps-trans c.union.ensures.keeps c.apply_without.ensures.keeps

pub returns-clause-keeps : goal.returns-clause-keeps
returns-clause-keeps g c = Keeps-trans c.union.ensures.keeps c.apply_without.ensures.keeps
