use Rattle.std.proofs.Common.{◌≡◌, ◌∙◌, arith, refl, subst, sym, ap, [], ◌++◌, map, drop, append-nil}
use Rattle.std.proofs.lemmas.Grind.{common_steps}
use Rattle.std.proofs.Math.ListN.{drop_of_length-le}
use Rattle.std.proofs.lemmas.Simd.{map-map}
use Rattle.sc_lines.specs.Split.{FollowFrom, tokens_of, token_lines, directive_at}
use Rattle.sc_lines.proofs.Splits.{behind, follow-push, behind-push}
use Rattle.sc_lines.proofs.split.lines.Goals as goal

pub returns : goal.returns
returns c =
    let tokens = c.args.tokens.now in
    let lines = c.loop-first.lines.items in
    let past : drop c.loop-first.first tokens ≡ [] = drop_of_length-le tokens c.loop-first-test.false in
    let all : map (tokens_of tokens) lines ≡ token_lines tokens =
    sym (append-nil (map (tokens_of tokens) lines)) ∙ (ap (λ ts. map (tokens_of tokens) lines ++ token_lines ts) (sym past) ∙ c.loop-first.invariant.tokens_are) in
    record {
      tokens_are = all;
      directives = c.loop-first.invariant.directives ∙ (sym (map-map (directive_at c.args.standard c.args.names.now) (tokens_of tokens) lines) ∙ ap (map (directive_at c.args.standard c.args.names.now)) all);
      within = c.loop-first.invariant.within;
      follow = c.loop-first.invariant.follow;
    }

pub loop-first-preserved : goal.loop-first-preserved
loop-first-preserved c = record {
  tokens_are = grind (arith, common_steps);
  directives = grind (arith, common_steps);
  within = grind (arith, common_steps);
  follow = subst (FollowFrom 0) (sym c.in_ok-push.ensures.items) (follow-push 0 c.loop-first.lines.items _ c.loop-first.invariant.follow (sym c.loop-first.invariant.behind));
  behind = ap (behind 0) c.in_ok-push.ensures.items ∙ (behind-push 0 c.loop-first.lines.items _ ∙ refl);
}
