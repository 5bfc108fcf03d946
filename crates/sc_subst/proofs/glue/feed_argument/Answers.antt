use Rattle.std.proofs.Common.{◌∙◌, ◌++◌, ◌-◌, length, take, map, drop, sym, ap}
use Rattle.c11_macros.specs.Substitution.{pieces_of}
use Rattle.sc_base.proofs.Growth.{Extends-trans}
use Rattle.sc_subst.specs.Glue.{tokens_behind}
use Rattle.sc_subst.specs.Seen.{seen_hidden}
use Rattle.sc_subst.proofs.Gluing.{held_rest, hiddens_later, no_argument, argument_first}
use Rattle.sc_subst.proofs.Store.{if_err, if_ok}
use Rattle.sc_subst.proofs.Turns.{on_fault}
use Rattle.sc_subst.proofs.glue.feed_argument.Goals as goal

pub returns-then-is_empty-clause-ok : goal.returns-then-is_empty-clause-ok
returns-then-is_empty-clause-ok c =
    if_ok _ _ c.feed.result
    (λ next h. record {
      at = λ n s en es head xs ps.
          ap (tokens_behind n s head xs c.args.parts.now.items c.args.left) (no_argument (seen_hidden n s) c.args.tokens.now c.args.space ps (sym c.is_empty.ensures ∙ c.if-is_empty.true)) ∙ h.at n s en es head xs ps;
    }) c.feed.ensures.ok

pub returns-then-is_empty-clause-err : goal.returns-then-is_empty-clause-err
returns-then-is_empty-clause-err c =
    if_err _ _ c.feed.result
    (λ stop k. on_fault _ _ stop
    (λ cause h. record {
      at = λ n s en es head xs ps.
          ap (tokens_behind n s head xs c.args.parts.now.items c.args.left) (no_argument (seen_hidden n s) c.args.tokens.now c.args.space ps (sym c.is_empty.ensures ∙ c.if-is_empty.true)) ∙ h.at n s en es head xs ps;
    }) k) c.feed.ensures.err

pub returns-in-Ok-clause-ok : goal.returns-in-Ok-clause-ok
returns-in-Ok-clause-ok c =
    if_ok _ _ c.feed_all.result
    (λ next h. record {
      at = λ n s en es head xs ps.
          ap (tokens_behind n s head xs c.args.parts.now.items c.args.left) (argument_first n s c.args.tokens.now c.args.space c.spaced.result ps (sym c.is_empty.ensures ∙ c.if-is_empty.false) c.spaced.ensures)
          ∙ (c.in-Ok.ensures.ok.at n s (Extends-trans c.feed_all.ensures.names en) (Extends-trans c.feed_all.ensures.sets es) head xs
          (pieces_of (map (seen_hidden n s) (take (length c.args.tokens.now - 1) (drop 1 c.args.tokens.now))) ++ ps) ∙ h.at n s en es head xs ps);
    }) c.feed_all.ensures.ok

pub returns-in-Ok-clause-err : goal.returns-in-Ok-clause-err
returns-in-Ok-clause-err c =
    if_err _ _ c.feed_all.result
    (λ stop k. on_fault _ _ stop
    (λ cause h. record {
      at = λ n s en es head xs ps.
          ap (tokens_behind n s head xs c.args.parts.now.items c.args.left) (argument_first n s c.args.tokens.now c.args.space c.spaced.result ps (sym c.is_empty.ensures ∙ c.if-is_empty.false) c.spaced.ensures)
          ∙ (c.in-Ok.ensures.ok.at n s (Extends-trans c.feed_all.ensures.names en) (Extends-trans c.feed_all.ensures.sets es) head xs
          (pieces_of (map (seen_hidden n s) (take (length c.args.tokens.now - 1) (drop 1 c.args.tokens.now))) ++ ps) ∙ h.at n s en es head xs ps);
    }) k) c.feed_all.ensures.err

pub returns-in-Err-clause-err : goal.returns-in-Err-clause-err
returns-in-Err-clause-err c =
    on_fault _ _ c.in-Err.stop
    (λ cause h. record {
      at = λ n s en es head xs ps.
          ap (tokens_behind n s head xs c.args.parts.now.items c.args.left) (argument_first n s c.args.tokens.now c.args.space c.spaced.result ps (sym c.is_empty.ensures ∙ c.if-is_empty.false) c.spaced.ensures)
          ∙ h.at n s en es head xs (pieces_of (map (seen_hidden n s) (take (length c.args.tokens.now - 1) (drop 1 c.args.tokens.now))) ++ ps);
    }) c.in-Err.ensures.err

pub feed_all-requires : goal.feed_all-requires
feed_all-requires c = record {
  parts = c.in-Ok.ensures.parts;
  left = c.in-Ok.ensures.left;
  tokens = hiddens_later (take (length c.args.tokens.now - 1) (drop 1 c.args.tokens.now)) (held_rest c.args.tokens.now c.requires.tokens) c.feed-2.ensures.names c.feed-2.ensures.sets;
}
