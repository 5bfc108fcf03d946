use Rattle.std.proofs.Common.{◌≡◌, ◌∙◌, ◌++◌, ◌∷◌, [], ℕ, List, Option, None, Some, IfSome, length, sym, subst, refl, arith}
use Rattle.std.specs.declared.rc.Rc.{Rc}
use Rattle.sc_macro.specs.declared.definition.Definition.{Definition}
use Rattle.sc_macro.specs.Seen.{IsHeldDefinition}
use Rattle.sc_model.specs.Growth.{IsOneToOne}
use Rattle.sc_table.specs.Start.{FindsOption, PutsOption}
use Rattle.sc_table.specs.Table.{AreHeldOptions}
use Rattle.sc_table.proofs.PuttingOptions.{puts-new}
use Rattle.sc_table.proofs.start.put_definition.Goals as goal

is-none : (found : Option ℕ) → ((place : ℕ) → found ≡ Some place → ⊥) → found ≡ None
is-none None never = refl
is-none (Some place) never = absurd (never place refl)

pub returns : goal.returns
returns c =
    let old = c.args.definitions.now.items in
    let o = c.args.definition in
    let none = is-none c.place_of.result c.in_default.not-Some in
    let lacks = λ (names : List (List ℕ)) (one : IsOneToOne names) (held : AreHeldOptions names old) (own : IfSome o (λ shared. IsHeldDefinition names shared.value)).
    subst (FindsOption names old o) none (subst (λ ds. FindsOption names ds o c.place_of.result) c.deref.ensures.value (c.place_of.ensures.found names one (subst (AreHeldOptions names) (sym c.deref.ensures.value) held) own)) in
    let long : c.len-place.result ≡ length old = omega (arith, c.len-place.ensures, c.args.definitions.now.ok.0) in
    subst (PutsOption old c.push.new.self.items o) (sym long)
    (subst (λ new. PutsOption old new o (length old)) (sym c.in_ok-push.ensures.items) (puts-new old o lacks))
