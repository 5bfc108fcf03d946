use Rattle.std.proofs.Common.{◌≡◌, ◌++◌, ◌∷◌, [], slice_set, refl, ap, ◌∙◌}
use Rattle.sc_expand.proofs.Terms.{Frame}
use Rattle.sc_expand.proofs.expansion.Expansion.leave.Goals as goal

pub returns-clause-calls : goal.returns-clause-calls
returns-clause-calls c = record {
  call = record c.args.enclosing.call { expanded = c.put_expanded.new.expanded };
  is = c.in_ok-push.ensures.items ∙ ap (λ (f : Frame). f.calls.items ++ record c.args.enclosing.call { expanded = c.put_expanded.new.expanded } ∷ []) c.replace-argument.ensures.after;
  cond = refl;
  head = refl;
  hide = refl;
  template = refl;
  wanted = refl;
  expanded =
      let made : c.put_expanded.new.expanded.items ≡ slice_set c.args.enclosing.call.expanded.items c.args.enclosing.parameter c.replace-argument.result.out = c.put_expanded.ensures in
      made ∙ ap (λ (f : Frame). slice_set c.args.enclosing.call.expanded.items c.args.enclosing.parameter f.out) c.replace-argument.ensures.value;
}
