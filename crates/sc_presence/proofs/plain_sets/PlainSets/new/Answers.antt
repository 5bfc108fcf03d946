use Rattle.sc_base.proofs.InternLemmas.{Interns-insert}
use Rattle.sc_presence.proofs.PlainLemmas.{IsPlain-first, rows_eq, rows_eq-Decides}
use Rattle.sc_presence.proofs.plain_sets.PlainSets.new.Goals as goal

pub invariant_of-result : goal.invariant_of-result
invariant_of-result c =
    let first = Interns-insert (λ r. r.items) rows_eq rows_eq-Decides c.new-known.result.keys c.insert.new.self.keys c.in_ok-constant.field-0 c.in_ok-insert.ensures.keys in
    let second = Interns-insert (λ r. r.items) rows_eq rows_eq-Decides c.insert.new.self.keys c.insert-2.new.self.keys c.in_ok-constant-2.field-0 c.in_ok-insert-2.ensures.keys in
    rw c.in_ok-from_slice.ensures.items (record {
      plain = IsPlain-first _ _ _ c.requires.options
          (rw (c.new-known.ensures.empty, c.in_ok-constant.ensures, c.count_configs-count.ensures) at first)
          (rw (c.in_ok-constant-2.ensures, c.count_configs-count.ensures) at second);
      wide = c.in_ok-strides.ensures;
      whole = c.count_configs-count.ensures;
      small = rw c.count_configs-count.ensures c.requires.small;
    })
