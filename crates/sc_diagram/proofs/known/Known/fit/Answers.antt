use Rattle.std.proofs.Common.{◌≡◌, ◌-◌, ◌++◌, [], refl, inr, arith, subst, sym, ◌∙◌, ap, Contains, Some, take, replicate, vec_len, if◌then◌else◌, map}
use Rattle.std.proofs.lemmas.List.{take_all}
use Rattle.sc_diagram.specs.Entries.{result_of}
use Rattle.sc_diagram.specs.declared.known.Entry.{Entry}
use Rattle.sc_diagram.proofs.EntryLemmas.{none-replicate}
use Rattle.sc_diagram.proofs.known.Known.fit.Goals as goal

abbrev nothing : Entry
nothing = record { kind = 4; option = 0; left = 0; right = 0; result = 0 }

pub returns-then-is_ok : goal.returns-then-is_ok
returns-then-is_ok c = inr (λ e has.
    let count = c.more_slots-len.result - vec_len c.new-slots.result in
    let items : c.resize.new.self.items ≡ replicate count nothing =
    c.resize.ensures.items
    ∙ ap (λ b. if b then take c.more_slots-len.result c.new-slots.result.items ++ replicate count nothing else c.new-slots.result.items) (sym c.is_ok.ensures.value ∙ c.if-is_ok.true)
    ∙ ap (λ xs. xs ++ replicate count nothing) (ap (take c.more_slots-len.result) c.new-slots.ensures.items ∙ take_all c.more_slots-len.result [] (omega arith))
    in
    none-replicate result_of nothing count e refl (subst (λ xs. Contains (map result_of xs) (Some e)) items has))
