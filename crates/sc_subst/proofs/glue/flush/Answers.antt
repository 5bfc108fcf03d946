use Rattle.std.proofs.Common.{◌∙◌, ap, map}
use Rattle.sc_subst.specs.declared.part.Part.TheVariants as part
use Rattle.sc_subst.specs.Parts.{filled_in, seen_part}
use Rattle.sc_subst.proofs.Gluing.{filled_push}
use Rattle.sc_subst.proofs.glue.flush.Goals as goal

pub returns-in_ok-push-clause-is : goal.returns-in_ok-push-clause-is
returns-in_ok-push-clause-is c = λ n s xs.
    rw c.in-Token.is (ap (λ ps. filled_in xs (map (seen_part n s) ps)) c.in_ok-push.ensures.items ∙ filled_push n s xs c.args.parts.now.items (part.Token c.in-Token.token))
