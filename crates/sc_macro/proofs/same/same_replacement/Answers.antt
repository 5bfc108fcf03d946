use Rattle.std.proofs.Common.{◌≡◌, ◌∙◌, sym, ap, subst, map}
use Rattle.c11_macros.specs.Macros as model
use Rattle.sc_macro.specs.Seen.{IsHeldReplacement, seen_replacement, seen_item}
use Rattle.sc_macro.proofs.Equality.{same_items}
use Rattle.sc_macro.proofs.same.same_replacement.Goals as goal

pub returns-in-Items-Items : goal.returns-in-Items-Items
returns-in-Items-Items c = λ names one in_a in_b.
    let d = c.in-Items-Items in
    let first : seen_replacement names c.args.a.now ≡ model.items (map (seen_item names) d.a.items) = ap (seen_replacement names) d.is-0 in
    let second : seen_replacement names c.args.b.now ≡ model.items (map (seen_item names) d.b.items) = ap (seen_replacement names) d.is-1 in
    let held_a = subst (IsHeldReplacement names) d.is-0 in_a in
    let held_b = subst (IsHeldReplacement names) d.is-1 in_b in (
      λ h. first ∙ (ap (λ list. model.items (map (seen_item names) list)) (sym c.deref.ensures.value ∙ (c.same_items.ensures.0 h ∙ c.deref-in-Items-Items.ensures.value)) ∙ sym second),
      λ e. c.same_items.ensures.1 (c.deref.ensures.value ∙ (same_items names one d.a.items d.b.items held_a held_b (cc) ∙ sym c.deref-in-Items-Items.ensures.value)),
    )
