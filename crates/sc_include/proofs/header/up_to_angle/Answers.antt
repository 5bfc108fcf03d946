use Rattle.std.proofs.Common.{◌∙◌, sym}
use Rattle.sc_include.proofs.Angles.{past_token}
use Rattle.sc_include.proofs.header.up_to_angle.Goals as goal

pub loop-token-preserved : goal.loop-token-preserved
loop-token-preserved c = λ files.
    c.loop-token.invariant files
    ∙ past_token c.args.names.now files c.args.tokens.now c.loop-token.token-index _ _ _ _ c.loop-token-test.true c.text.ensures
    (sym c.is_same.ensures ∙ c.if-is_same.false) (c.in_ok-push_spaced.ensures files)
