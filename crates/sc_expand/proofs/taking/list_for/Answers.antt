use Rattle.std.proofs.Common.{rules, ◌∙◌, map, Ok, Err, refl, ap}
use Rattle.std.specs.Cow.{cow_slice_items}
use Rattle.sc_expand.proofs.Facts.{Extends-refl, Extends-trans, if_err, if_ok, on_fault}
use Rattle.sc_expand.proofs.Placing.{placed-result}
use Rattle.sc_expand.proofs.TakingLemmas.{grown-form, grown-hide, grown-list, same-result}
use Rattle.sc_expand.proofs.Terms.{failure_at, hide_at, provenance_of, seen_form, seen_hidden, seen_item, seen_place}
use Rattle.sc_expand.proofs.taking.list_for.Goals as goal

pub returns : goal.returns
returns c =
    let n0 = c.args.names.now in
    let n = c.substitute.new.names in
    let s = c.substitute.new.sets in
    let t = seen_hidden n0 c.args.sets.now c.args.head in
    let provenance = provenance_of c.args.files.now in
    let e1 = c.items_at.ensures.names in
    let e2 = c.substitute.ensures.names in
    let form = grown-form c.args.definition.now c.requires.definition (Extends-trans e1 e2) in
    let list = ap (map (seen_item n)) c.deref.ensures.value ∙ grown-list c.args.definition.now (cow_slice_items c.in_ok-items.items) (seen_place c.args.files.now c.args.head.token.place) c.requires.definition c.in_ok-items.ensures.own e1 e2 c.in_ok-items.ensures.is in
    let hide = grown-hide c.args.head c.in_ok-hide.hide c.requires.head e1 e2 c.substitute.ensures.sets c.in_ok-hide.ensures.own c.in_ok-hide.ensures.joins in
    record {
      ok = if_ok _ _ c.substitute.result
          (λ made h. same-result provenance t (Ok (map (seen_hidden n s) made.items)) form list hide (h.at n s (Extends-refl n) (Extends-refl s) t provenance refl refl (λ p. refl))) c.substitute.ensures.ok;
      own = search rules;
      placed = if_ok _ _ c.substitute.result
          (λ made h. placed-result provenance (λ p. refl) t (seen_hidden n s) (λ x. refl) (seen_form n c.args.definition.now.form) (map (seen_item n) c.deref.result.now) (hide_at n s c.in_ok-hide.hide.0) made.items
          (h.at n s (Extends-refl n) (Extends-refl s) t provenance refl refl (λ p. refl))) c.substitute.ensures.ok;
      err = if_err _ _ c.substitute.result
          (λ stop fault. on_fault _ _ stop (λ cause h. same-result provenance t (Err (failure_at cause t)) form list hide (h.at n s (Extends-refl n) (Extends-refl s) t provenance refl)) fault) c.substitute.ensures.err;
      names = search rules;
      sets = search rules;
    }
