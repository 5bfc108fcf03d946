use Rattle.std.proofs.Common.{◌≡◌, ◌∙◌, [], false, ap, refl, subst, sym}
use Rattle.sc_expand.proofs.Facts.{All-nil}
use Rattle.sc_expand.proofs.TakingSteps.{lists-same, last-hidden, same-step, case-hidden}
use Rattle.sc_expand.proofs.SeenLemmas.{AreHeld-nil}
use Rattle.sc_expand.proofs.WorkListLemmas.{taken-each}
use Rattle.sc_expand.proofs.Terms.{AreAlike, AreHeld, Cond, Hidden, IsAlike, is_looked_up, seen_at, seen_hidden, stores}
use Rattle.sc_expand.specs.Taking.{kept}
use Rattle.sc_expand.proofs.expansion.Expansion.take_under.Goals as goal

pub returns-clause-takes : goal.returns-clause-takes
returns-clause-takes g c =
    let s = g.C.Conditions.sets c.args.conds.now in
    let e = c.args.self.now in
    let st = stores s c.args.names.now e.sets in
    let t = seen_hidden c.args.names.now e.sets c.args.token in
    let hidden : is_looked_up t ≡ false = sym c.is_looked_up.ensures ∙ c.if-is_looked_up.false in
    let none : c.new.result.items ≡ [] = c.new.ensures.items in
    record {
      held = c.requires.held;
      taken = record { stays = c.requires.cond_own; made = subst (AreHeld st _) (sym none) (AreHeld-nil st _) };
      lists = lists-same e;
      comes = λ x macros rest listed has work is. kept (case-hidden macros t rest hidden) (λ whole. last-hidden macros t rest hidden) (same-step refl (c.requires.begun x listed has).first has (ap (λ l. seen_at st l x) none));
      others = λ x listed no. same-step refl refl no (ap (λ l. seen_at st l x) none);
      rest = λ x listed. taken-each refl;
      alike = λ x y span p q same called defined alike. (alike, record { stays = same; made = subst (AreAlike s x y) (sym none) (All-nil (λ (item : Cond × Hidden). IsAlike s x y item.0)) });
    }
