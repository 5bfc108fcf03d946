use Rattle.std.proofs.Common.{Some, ap, sym, ◌∙◌, inl, inr, subst, Contains}
use Rattle.std.proofs.lemmas.List.{map-set}
use Rattle.std.proofs.lemmas.Option.{same_Some}
use Rattle.sc_diagram.specs.Entries.{result_of}
use Rattle.sc_diagram.proofs.EntryLemmas.{Contains-set_cases}
use Rattle.sc_diagram.proofs.known.Known.add.Goals as goal

pub returns-in-Some-slot : goal.returns-in-Some-slot
returns-in-Some-slot c = record {
  each = λ e has. elim (Contains-set_cases _ c.in-Some-slot.at (result_of c.in-Some.entry) (Some e) (subst (λ xs. Contains xs (Some e)) (map-set result_of c.self.inside.slots.items c.in-Some-slot.at c.in-Some.entry) has)) [
    | inl was ↦ inl (subst (λ xs. Contains xs (Some e)) c.self.view_is was)
    | inr now ↦ (let same = same_Some _ _ (sym now ∙ c.in-Some.ensures) in inr (ap (λ x. x.0) same, ap (λ x. x.1) same))
  ];
}
