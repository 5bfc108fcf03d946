use Rattle.std.proofs.Common.{◌∙◌, ap, refl, sym, subst}
use Rattle.sc_model.specs.Sets.{config_count}
use Rattle.sc_base.proofs.InternLemmas.{Extends-Interns, Interns-insert, stored_at}
use Rattle.sc_presence.specs.Plain.{IsPlain}
use Rattle.sc_presence.proofs.PlainLemmas.{IsPlain-Interns, rows_eq, rows_eq-Decides}
use Rattle.sc_presence.proofs.SetsLemmas.{Keeps-Extends, IsCond-Stores}
use Rattle.sc_presence.proofs.plain_sets.PlainSets.intern.Goals as goal

pub invariant_of-self-2 : goal.invariant_of-self-2
invariant_of-self-2 c =
    let adds = Interns-insert (λ r. r.items) rows_eq rows_eq-Decides c.self.inside.rows.keys c.insert_full.new.self.keys c.args.row c.in_ok-index.ensures.keys in
    record {
      plain = IsPlain-Interns _ _ _ c.self.invariant.plain (c.requires ∙ ap (λ p. config_count p.arities) (sym c.self.view_is)) adds;
      wide = c.self.invariant.wide;
      whole = c.self.invariant.whole;
      small = c.self.invariant.small;
    }

pub returns-clause-stores : goal.returns-clause-stores
returns-clause-stores c = record {
  plain = subst IsPlain c.self.view_is c.self.invariant.plain;
  arities = ap (λ p. p.arities) c.self.view_is;
  stored = stored_at (λ r. r.items) rows_eq rows_eq-Decides c.insert_full.new.self.keys c.in_ok-index.index c.args.row c.in_ok-index.ensures.stored;
}

pub returns-clause-own : goal.returns-clause-own
returns-clause-own c = IsCond-Stores (returns-clause-stores c)

pub returns-clause-keeps : goal.returns-clause-keeps
returns-clause-keeps c =
    let adds = Interns-insert (λ r. r.items) rows_eq rows_eq-Decides c.self.inside.rows.keys c.insert_full.new.self.keys c.args.row c.in_ok-index.ensures.keys in
    rw (← c.self.view_is) (Keeps-Extends refl (Extends-Interns adds))
