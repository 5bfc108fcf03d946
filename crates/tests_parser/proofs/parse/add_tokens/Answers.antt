use Rattle.std.proofs.Common.{List, All, ◌∙◌, sym, subst}
use Rattle.sc_base.specs.declared.id.Cond.{Cond}
use Rattle.sc_base.specs.declared.token.Token.{Token}
use Rattle.sc_base.specs.Seen.{IsHeld}
use Rattle.sc_model.specs.Sets.{IsCond}
use Rattle.tests_parser.proofs.ParseLemmas.{all-pushed, list-later}
use Rattle.tests_parser.proofs.parse.add_tokens.Goals as goal
use Rattle.tests_parser.proofs.parse.add_tokens.Goals.{then-ne+in_ok-push, else-ne}

pub loop-token-preserved : goal.loop-token-preserved
loop-token-preserved c = elim c.if-ne.branch [
  | then-ne+in_ok-push w ↦ record {
    items = λ sets own all.
        all-pushed (λ (item : Cond × Token). IsCond sets item.0.0) c.loop-token.list c.if-ne.list (c.args.cond, _) (w.list-is ∙ w.in_ok-push.ensures.ok) (c.loop-token.invariant.items sets own all) own;
    held = λ names each all.
        all-pushed (λ (item : Cond × Token). IsHeld names item.1) c.loop-token.list c.if-ne.list (c.args.cond, _) (w.list-is ∙ w.in_ok-push.ensures.ok) (c.loop-token.invariant.held names each all)
        (each c.loop-token.token-index _ c.loop-token-test.true);
  }
  | else-ne w ↦ record {
    items = λ sets own all. subst (λ (xs : List (Cond × Token)). All (λ (item : Cond × Token). IsCond sets item.0.0) xs) (sym w.list-is) (c.loop-token.invariant.items sets own all);
    held = λ names each all. subst (λ (xs : List (Cond × Token)). All (λ (item : Cond × Token). IsHeld names item.1) xs) (sym w.list-is) (c.loop-token.invariant.held names each all);
  }
]

pub returns-clause-held : goal.returns-clause-held
returns-clause-held c = λ held.
    c.loop-token.invariant.held c.tokens.new.names (subst (All (IsHeld c.tokens.new.names)) (sym c.deref-token-items.ensures.value) c.in_ok-found.ensures.own)
    (list-later c.args.names.now c.tokens.new.names c.args.list.now c.tokens.ensures.grows held)
