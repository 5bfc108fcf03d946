use Rattle.std.proofs.Common.{◌∙◌, ◌+◌, ◌++◌, map, drop, refl, ap}
use Rattle.c11_macros.specs.Substitution.{pieces_of}
use Rattle.sc_base.proofs.Growth.{Extends-trans}
use Rattle.sc_subst.specs.Glue.{tokens_behind}
use Rattle.sc_subst.specs.Seen.{seen_hidden}
use Rattle.sc_subst.proofs.Gluing.{from_token}
use Rattle.sc_subst.proofs.Later.{IsHeldHidden-Extends}
use Rattle.sc_subst.proofs.Quoting.{blank}
use Rattle.sc_subst.proofs.Turns.{on_fault}
use Rattle.sc_subst.proofs.glue.feed_all.Goals as goal

pub returns-in-Err-clause-err : goal.returns-in-Err-clause-err
returns-in-Err-clause-err c =
    on_fault _ _ c.in-Err.stop
    (λ cause h. record {
      at = λ n s en es head xs ps.
          c.loop-token.invariant.is.at n s (Extends-trans c.feed.ensures.names en) (Extends-trans c.feed.ensures.sets es) head xs ps
          ∙ (ap (λ ts. tokens_behind n s head xs c.loop-token.parts.items c.loop-token.left (pieces_of (map (seen_hidden n s) ts) ++ ps)) (from_token c.args.tokens.now c.loop-token.token-index c.loop-token-test.true)
          ∙ h.at n s en es head xs (pieces_of (map (seen_hidden n s) (drop (c.loop-token.token-index + 1) c.args.tokens.now)) ++ ps));
    }) c.in-Err.ensures.err

pub loop-token-preserved : goal.loop-token-preserved
loop-token-preserved c = record {
  names_grow = Extends-trans c.loop-token.invariant.names_grow c.feed.ensures.names;
  sets_grow = Extends-trans c.loop-token.invariant.sets_grow c.feed.ensures.sets;
  parts = c.in-Ok.ensures.parts;
  held = c.in-Ok.ensures.left;
  pasting = λ h. c.in-Ok.ensures.pasting refl;
  is = record {
    at = λ n s en es head xs ps.
        c.loop-token.invariant.is.at n s (Extends-trans c.feed.ensures.names en) (Extends-trans c.feed.ensures.sets es) head xs ps
        ∙ (ap (λ ts. tokens_behind n s head xs c.loop-token.parts.items c.loop-token.left (pieces_of (map (seen_hidden n s) ts) ++ ps)) (from_token c.args.tokens.now c.loop-token.token-index c.loop-token-test.true)
        ∙ c.in-Ok.ensures.ok.at n s en es head xs (pieces_of (map (seen_hidden n s) (drop (c.loop-token.token-index + 1) c.args.tokens.now)) ++ ps));
  };
}

pub feed-requires : goal.feed-requires
feed-requires c = record {
  parts = c.loop-token.invariant.parts;
  left = c.loop-token.invariant.held;
  piece = IsHeldHidden-Extends _ (c.requires.tokens c.loop-token.token-index blank c.loop-token-test.true) c.loop-token.invariant.names_grow c.loop-token.invariant.sets_grow;
}
