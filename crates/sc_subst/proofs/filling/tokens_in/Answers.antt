use Rattle.std.proofs.Common.{◌∙◌}
use Rattle.sc_subst.specs.Parts.{seen_arguments}
use Rattle.sc_subst.proofs.TokenLemmas.{put_more}
use Rattle.sc_subst.proofs.filling.tokens_in.Goals as goal

pub loop-part-preserved : goal.loop-part-preserved
loop-part-preserved c = record {
  is = λ n s.
      put_more n s (seen_arguments n s c.args.expanded.now) c.loop-part.made.items c.put.new.made.items c.args.template.now c.loop-part.part-index _ c.loop-part-test.true (c.in_ok-put.ensures.is n s)
      ∙ c.loop-part.invariant.is n s;
  own = λ n s parts raw. c.in_ok-put.ensures.own n s (c.loop-part.invariant.own n s parts raw) (parts c.loop-part.part-index _ c.loop-part-test.true) raw;
}
