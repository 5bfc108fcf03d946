use Rattle.std.proofs.Common.{◌++◌, ap, subst, ◌∙◌}
use Rattle.sc_expand.proofs.Terms.{IsPushed}
use Rattle.sc_expand.proofs.expansion.Expansion.put_out.Goals as goal

pub returns-clause-put : goal.returns-clause-put
returns-clause-put g c =
    let drops = c.in_ok-drop_first.ensures.drops in
    let made = c.args.taken.now.made.items in
    record {
      rest = drops.rest;
      refusals = drops.refusals;
      below = drops.below;
      calls = drops.calls;
      work = c.in_ok-put_first.ensures ∙ (ap (λ l. l ++ c.drop_first.new.self.top.work) c.deref.ensures.value ∙ ap (λ w. made ++ w) drops.work);
      out = subst (λ o. IsPushed (g.C.Conditions.sets c.drop_first.new.conds) c.args.taken.now.stays c.args.token o c.push_token.new.list) drops.out c.in_ok-push_token.ensures;
    }
