use Rattle.std.proofs.Common.{◌∙◌, ◌++◌, [], map, get_or, sym, ap, subst}
use Rattle.std.specs.Prelude.{All}
use Rattle.std.proofs.Math.ListN.{drop_of_length-le}
use Rattle.std.proofs.lemmas.List.{append-nil}
use Rattle.std.proofs.lemmas.List.Elements.{All-push}
use Rattle.c11_macros.specs.Substitution.{hidden_by, hiding}
use Rattle.sc_base.proofs.Growth.{Extends-refl, Extends-trans}
use Rattle.sc_subst.specs.Seen.{IsHeldHidden, hide_at, seen_hidden}
use Rattle.sc_subst.proofs.Gluing.{hiddens_later}
use Rattle.sc_subst.proofs.Later.{IsHeldHidden-Extends, IsHeldSet-Extends}
use Rattle.sc_subst.proofs.Quoting.{blank}
use Rattle.sc_subst.proofs.TokenLemmas.{hides_more, mapped_more}
use Rattle.sc_subst.proofs.filling.hide_all.Goals as goal

pub loop-token-preserved : goal.loop-token-preserved
loop-token-preserved c =
    let held = IsHeldHidden-Extends (get_or c.args.tokens.now c.loop-token.token-index blank) (c.requires.tokens c.loop-token.token-index blank c.loop-token-test.true) (Extends-refl c.args.names.now) c.loop-token.invariant.grows in
    record {
      grows = Extends-trans c.loop-token.invariant.grows c.both.ensures.sets;
      own = subst (All (IsHeldHidden c.args.names.now c.both.new.sets)) (sym c.in_ok-push.ensures.items) (All-push (IsHeldHidden c.args.names.now c.both.new.sets) c.loop-token.made.items
          (record { token = (get_or c.args.tokens.now c.loop-token.token-index blank).token; hide = c.in_ok-hide.hide })
          (hiddens_later c.loop-token.made.items c.loop-token.invariant.own (Extends-refl c.args.names.now) c.both.ensures.sets) (record { token = held.token; hide = c.in_ok-hide.ensures.own }));
      is = record {
        at = λ n s en es provenance mark.
            mapped_more (seen_hidden n s) (seen_hidden n s) (hidden_by provenance (hide_at n s c.args.hide.0)) [] c.loop-token.made.items c.push.new.self.items c.args.tokens.now
            (hiding provenance (hide_at n s c.args.hide.0) (map (seen_hidden n s) c.args.tokens.now)) c.loop-token.token-index blank
            (record { token = (get_or c.args.tokens.now c.loop-token.token-index blank).token; hide = c.in_ok-hide.hide }) c.loop-token-test.true
            (c.loop-token.invariant.is.at n s en (Extends-trans c.both.ensures.sets es) provenance mark) c.in_ok-push.ensures.items
            (hides_more provenance (get_or c.args.tokens.now c.loop-token.token-index blank) c.args.hide c.in_ok-hide.hide mark held
            (IsHeldSet-Extends c.args.hide.0 c.requires.hide (Extends-refl c.args.names.now) c.loop-token.invariant.grows) c.in_ok-hide.ensures.own c.in_ok-hide.ensures.joins en (Extends-trans c.both.ensures.sets es) es);
      };
    }

pub returns-clause-is : goal.returns-clause-is
returns-clause-is c = record {
  at = λ n s en es provenance mark.
      sym (append-nil (map (seen_hidden n s) c.loop-token.made.items))
      ∙ (ap (λ ts. map (seen_hidden n s) c.loop-token.made.items ++ hiding provenance (hide_at n s c.args.hide.0) (map (seen_hidden n s) ts)) (sym (drop_of_length-le c.args.tokens.now c.loop-token-test.false))
      ∙ c.loop-token.invariant.is.at n s en es provenance mark);
}
