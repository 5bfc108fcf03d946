use Rattle.std.proofs.Common.{◌∙◌, ◌||◌, true, false, map, sym, ap}
use Rattle.std.proofs.lemmas.Bool.{or_parts}
use Rattle.c11_macros.specs.Substitution.{begins_paste, filled}
use Rattle.sc_subst.specs.Glue.{tokens_behind}
use Rattle.sc_subst.specs.Parts.{seen_arguments, seen_slot}
use Rattle.sc_subst.proofs.Gluing.{apart_is, begins_pieces_in, beside_is}
use Rattle.sc_subst.proofs.Store.{if_err, if_ok}
use Rattle.sc_subst.proofs.Turns.{on_fault}
use Rattle.sc_subst.proofs.glue.read.Goals as goal

pub returns-in-Token-clause-ok : goal.returns-in-Token-clause-ok
returns-in-Token-clause-ok c =
    if_ok _ _ c.feed.result
    (λ next h. record {
      at = λ n s en es head xs. rw c.in-Token.is (h.at n s en es head xs (filled (seen_arguments n s c.args.raw.now) xs false (map (seen_slot n s) c.args.rest.now)));
    }) c.feed.ensures.ok

pub returns-in-Token-clause-err : goal.returns-in-Token-clause-err
returns-in-Token-clause-err c =
    if_err _ _ c.feed.result
    (λ stop k. on_fault _ _ stop
    (λ cause h. record {
      at = λ n s en es head xs. rw c.in-Token.is (h.at n s en es head xs (filled (seen_arguments n s c.args.raw.now) xs false (map (seen_slot n s) c.args.rest.now)));
    }) k) c.feed.ensures.err

pub returns-in-Paste-clause-ok : goal.returns-in-Paste-clause-ok
returns-in-Paste-clause-ok c =
    if_ok _ _ c.feed-in-Paste.result
    (λ next h. record {
      at = λ n s en es head xs. rw c.in-Paste.is (h.at n s en es head xs (filled (seen_arguments n s c.args.raw.now) xs true (map (seen_slot n s) c.args.rest.now)));
    }) c.feed-in-Paste.ensures.ok

pub returns-in-Paste-clause-err : goal.returns-in-Paste-clause-err
returns-in-Paste-clause-err c =
    if_err _ _ c.feed-in-Paste.result
    (λ stop k. on_fault _ _ stop
    (λ cause h. record {
      at = λ n s en es head xs. rw c.in-Paste.is (h.at n s en es head xs (filled (seen_arguments n s c.args.raw.now) xs true (map (seen_slot n s) c.args.rest.now)));
    }) k) c.feed-in-Paste.ensures.err

pub returns-then-is_beside-clause-ok : goal.returns-then-is_beside-clause-ok
returns-then-is_beside-clause-ok c =
    if_ok _ _ c.feed_argument.result
    (λ next h. record {
      at = λ n s en es head xs.
          rw c.in-Parameter.is (ap (tokens_behind n s head xs c.args.parts.now.items c.args.left)
          (beside_is n s c.args.raw.now xs (c.args.behind || begins_paste (map (seen_slot n s) c.args.rest.now)) c.in-Parameter.parameter c.in-Parameter.space c.argument-tokens.result.now
          (filled (seen_arguments n s c.args.raw.now) xs false (map (seen_slot n s) c.args.rest.now)) (sym (c.is_beside.ensures n s) ∙ c.if-is_beside.true) c.argument-tokens.ensures)
          ∙ h.at n s en es head xs (filled (seen_arguments n s c.args.raw.now) xs false (map (seen_slot n s) c.args.rest.now)));
    }) c.feed_argument.ensures.ok

pub returns-then-is_beside-clause-err : goal.returns-then-is_beside-clause-err
returns-then-is_beside-clause-err c =
    if_err _ _ c.feed_argument.result
    (λ stop k. on_fault _ _ stop
    (λ cause h. record {
      at = λ n s en es head xs.
          rw c.in-Parameter.is (ap (tokens_behind n s head xs c.args.parts.now.items c.args.left)
          (beside_is n s c.args.raw.now xs (c.args.behind || begins_paste (map (seen_slot n s) c.args.rest.now)) c.in-Parameter.parameter c.in-Parameter.space c.argument-tokens.result.now
          (filled (seen_arguments n s c.args.raw.now) xs false (map (seen_slot n s) c.args.rest.now)) (sym (c.is_beside.ensures n s) ∙ c.if-is_beside.true) c.argument-tokens.ensures)
          ∙ h.at n s en es head xs (filled (seen_arguments n s c.args.raw.now) xs false (map (seen_slot n s) c.args.rest.now)));
    }) k) c.feed_argument.ensures.err

pub returns-in_ok-place-in-Parameter-clause-ok : goal.returns-in_ok-place-in-Parameter-clause-ok
returns-in_ok-place-in-Parameter-clause-ok c = record {
  at = λ n s en es head xs.
      let apart = or_parts c.args.behind (begins_paste (map (seen_slot n s) c.args.rest.now)) (sym (c.is_beside.ensures n s) ∙ c.if-is_beside.false) in
      rw c.in-Parameter.is (ap (tokens_behind n s head xs c.args.parts.now.items c.args.left)
      (apart_is (seen_arguments n s c.args.raw.now) xs (c.args.behind || begins_paste (map (seen_slot n s) c.args.rest.now)) c.in-Parameter.parameter c.in-Parameter.space (filled (seen_arguments n s c.args.raw.now) xs false (map (seen_slot n s) c.args.rest.now)) (sym (c.is_beside.ensures n s) ∙ c.if-is_beside.false))
      ∙ c.in_ok-place-in-Parameter.ensures.is n s head xs (filled (seen_arguments n s c.args.raw.now) xs false (map (seen_slot n s) c.args.rest.now)) (c.requires.pasting apart.0)
      (begins_pieces_in (seen_arguments n s c.args.raw.now) xs (map (seen_slot n s) c.args.rest.now) apart.1));
}

pub returns-in_ok-place-in-Parameter-clause-parts : goal.returns-in_ok-place-in-Parameter-clause-parts
returns-in_ok-place-in-Parameter-clause-parts c = c.in_ok-place-in-Parameter.ensures.own c.args.names.now c.args.sets.now c.requires.parts c.requires.left
