use Rattle.std.proofs.Common.{◌≡◌, true≢false, [], ◌++◌, ◌∷◌, ◌+◌, ◌∙◌, List, map, take, ap, sym, subst}
use Rattle.sc_expand.proofs.ClosingLemmas.{Adds, added, at-index, left_out, next-item, own-bared, restricted-next}
use Rattle.sc_expand.proofs.Ending.{bared}
use Rattle.sc_expand.proofs.Facts.{Denotes-self, Keeps-refl, Keeps-trans, map-append}
use Rattle.sc_expand.proofs.Terms.{Cond, Hidden, IsCond, IsRestricted, Token, empty}
use Rattle.sc_expand.proofs.closing.tokens_under.Goals as goal
use Rattle.sc_expand.proofs.closing.tokens_under.Goals.{then-not-is_never+in_ok-push, else-not-is_never}

pub loop-index-init : goal.loop-index-init
loop-index-init g c = record {
  keeps = Keeps-refl (g.C.Conditions.sets c.args.conds.now);
  restricted = subst (IsRestricted (g.C.Conditions.sets c.args.conds.now) c.args.cond.0 []) (sym c.in_ok-tokens.ensures) empty;
}

pub apply_and-requires-clause-a_own : goal.apply_and-requires-clause-a_own
apply_and-requires-clause-a_own g c =
    let first = g.C.Conditions.sets c.args.conds.now in
    c.loop-index.invariant.keeps.own _ (at-index (λ (x : Cond × Hidden). IsCond first x.0.0) c.args.list.now c.loop-index.index (c.item.result.0, c.item.result.1.now) c.item.ensures c.requires.own)

pub loop-index-preserved : goal.loop-index-preserved
loop-index-preserved g c =
    let first = g.C.Conditions.sets c.args.conds.now in
    let old = g.C.Conditions.sets c.loop-index.conds in
    let new = g.C.Conditions.sets c.apply_and.new.self in
    let i = c.loop-index.index in
    let list = c.args.list.now in
    let was = c.loop-index.invariant in
    let item : Cond × Hidden = (c.item.result.0, c.item.result.1.now) in
    let own = was.keeps.own _ (at-index (λ (x : Cond × Hidden). IsCond first x.0.0) list i item c.item.ensures c.requires.own) in
    let live = was.keeps.own _ c.requires.cond_own in
    let met = c.in_ok-met.ensures.meaning _ _ (Denotes-self old item.0.0 own) (Denotes-self old c.args.cond.0 live) in
    let more : map bared (take (i + 1) list) ≡ map bared (take i list) ++ bared item ∷ [] = ap (map bared) (next-item list i item c.item.ensures) ∙ map-append bared (take i list) (item ∷ []) in
    let next : (after : List (Cond × Token)) → Adds new c.in_ok-met.met.0 (c.in_ok-met.met, item.1.token) c.loop-index.tokens after → IsRestricted new c.args.cond.0 (map bared (take (i + 1) list)) after
    = λ after adds.
    subst (λ l. IsRestricted new c.args.cond.0 l after) (sym more)
    (restricted-next c.apply_and.ensures.keeps c.args.cond.0 live (map bared (take i list)) c.loop-index.tokens after (λ k d h. was.keeps.own _ (own-bared first list i c.requires.own k d h)) (bared item) own c.in_ok-met.met met adds was.restricted) in
    record {
      keeps = Keeps-trans was.keeps c.apply_and.ensures.keeps;
      restricted = elim c.if-not-is_never.branch [
        | then-not-is_never+in_ok-push w ↦ next _ (added (λ never. true≢false (sym (c.is_never.ensures.1 never) ∙ w.if-not-is_never.true)) (w.tokens-is ∙ w.in_ok-push.ensures.ok))
        | else-not-is_never w ↦ next _ (left_out (c.is_never.ensures.0 w.if-not-is_never.false) w.tokens-is)
      ];
    }
