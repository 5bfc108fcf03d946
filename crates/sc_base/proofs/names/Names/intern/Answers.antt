use Rattle.std.proofs.Common.{Some, sym, ap, ◌∙◌}
use Rattle.std.specs.Str.{bytes_eq}
use Rattle.std.proofs.lemmas.Slice.Eq.{bytes_eq-Decides}
use Rattle.sc_base.proofs.InternLemmas.{known_at, stored_at, Interns-known, Interns-insert, Extends-Interns, IsOneToOne-Interns}
use Rattle.sc_base.proofs.names.Names.intern.Goals as goal

pub returns-in-Some-clause-named : goal.returns-in-Some-clause-named
returns-in-Some-clause-named c = rw (← c.self.view_is) (known_at (λ t. t.items) bytes_eq bytes_eq-Decides c.args.bytes.now c.self.inside.texts.keys c.in-Some.known (sym c.in-Some.ensures.index))

pub returns-in-Some-clause-adds : goal.returns-in-Some-clause-adds
returns-in-Some-clause-adds c = Interns-known _ _ c.in-Some.known (returns-in-Some-clause-named c)

pub returns-clause-named : goal.returns-clause-named
returns-clause-named c = stored_at (λ t. t.items) bytes_eq bytes_eq-Decides c.insert_full.new.self.keys c.in_ok-index.index c.in_ok-text.text c.in_ok-index.ensures.stored ∙ ap Some c.in_ok-text.ensures.items

pub returns-clause-adds : goal.returns-clause-adds
returns-clause-adds c = rw (← c.self.view_is, ← c.in_ok-text.ensures.items) (Interns-insert (λ t. t.items) bytes_eq bytes_eq-Decides c.self.inside.texts.keys c.insert_full.new.self.keys c.in_ok-text.text c.in_ok-index.ensures.keys)

pub returns-clause-grows : goal.returns-clause-grows
returns-clause-grows c = Extends-Interns (returns-clause-adds c)

pub returns-clause-one_to_one : goal.returns-clause-one_to_one
returns-clause-one_to_one c = IsOneToOne-Interns (returns-clause-adds c) (rw (← c.self.view_is) c.self.invariant)

pub invariant_of-self-2 : goal.invariant_of-self-2
invariant_of-self-2 c = returns-clause-one_to_one c
