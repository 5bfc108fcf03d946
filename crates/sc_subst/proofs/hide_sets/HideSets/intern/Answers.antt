use Rattle.std.proofs.Common.{[], map, sym, subst}
use Rattle.std.proofs.lemmas.Option.{get_or_from_slice_get}
use Rattle.sc_base.specs.Interns.{Interns}
use Rattle.sc_base.proofs.InternLemmas.{stored_at, Interns-insert, Extends-Interns}
use Rattle.sc_subst.proofs.Operating.{AreMade-later}
use Rattle.sc_subst.proofs.Store.{same_sets, same_sets-Decides, IsStore-Interns}
use Rattle.sc_subst.proofs.hide_sets.HideSets.intern.Goals as goal

pub returns-clause-is : goal.returns-clause-is
returns-clause-is c = get_or_from_slice_get (map (λ t. t.items) c.insert_full.new.self.keys) c.in_ok-index.index c.args.set.items [] (stored_at (λ t. t.items) same_sets same_sets-Decides c.insert_full.new.self.keys c.in_ok-index.index c.args.set c.in_ok-index.ensures.stored)

pub returns-clause-adds : goal.returns-clause-adds
returns-clause-adds c =
    rw (← c.self.view_is)
    (subst (Interns (map (λ t. t.items) c.self.inside.sets.keys) (map (λ t. t.items) c.insert_full.new.self.keys)) (sym (returns-clause-is c))
    (Interns-insert (λ t. t.items) same_sets same_sets-Decides c.self.inside.sets.keys c.insert_full.new.self.keys c.args.set c.in_ok-index.ensures.keys))

pub returns-clause-grows : goal.returns-clause-grows
returns-clause-grows c = rw (← c.self.view_is) (Extends-Interns (Interns-insert (λ t. t.items) same_sets same_sets-Decides c.self.inside.sets.keys c.insert_full.new.self.keys c.args.set c.in_ok-index.ensures.keys))

pub invariant_of-self-2 : goal.invariant_of-self-2
invariant_of-self-2 c =
    let adds = Interns-insert (λ t. t.items) same_sets same_sets-Decides c.self.inside.sets.keys c.insert_full.new.self.keys c.args.set c.in_ok-index.ensures.keys in
    (IsStore-Interns adds c.requires c.self.invariant.0, AreMade-later c.self.inside.known.entries (Extends-Interns adds) c.self.invariant.1)
