use Rattle.std.proofs.Common.{◌≡◌, ◌-◌, Some, sym, ◌∙◌, ap, subst, inl, inr, arith}
use Rattle.std.proofs.lemmas.Bool.{cases_lt}
use Rattle.std.specs.Prelude.{slice_get}
use Rattle.sc_diagram.specs.Diagram.{branch}
use Rattle.sc_diagram.proofs.UniqueLemmas.{long, hash_at}
use Rattle.sc_diagram.proofs.unique.UniqueTable.find.Goals as goal

pub loop-link-init : goal.loop-link-init
loop-link-init c = record {
  within = c.newest-link.ensures.within;
  own = c.newest-link.ensures.own;
  rest = λ n from at. c.newest-link.ensures.rest n from (long n _ c.self.invariant (ap (λ bs. slice_get bs n) c.self.view_is ∙ at)) (let there = ap (λ bs. slice_get bs n) c.self.view_is ∙ at in hash_at n _ c.self.invariant there ∙ sym c.requires);
}

pub loop-link-preserved : goal.loop-link-preserved
loop-link-preserved c =
    let was = c.loop-link.invariant in
    let last = c.older-link.ensures in
    record {
      within = omega (arith, last.within, was.within);
      own = last.own;
      rest = λ n from at. elim (cases_lt n (c.loop-link.link - 1)) [
        | inl less ↦ last.rest n from less (let there = ap (λ bs. slice_get bs n) c.self.view_is ∙ at in hash_at n _ c.self.invariant there ∙ sym c.requires)
        | inr more ↦ elim (cases_lt n c.loop-link.link) [
          | inl less ↦ c.is.ensures.no c.if-is.false (subst (λ k. slice_get c.args.self.now k ≡ Some (branch c.args.variable c.args.children.now)) (omega (arith, more, less)) at)
          | inr behind ↦ was.rest n behind at
        ]
      ];
    }
