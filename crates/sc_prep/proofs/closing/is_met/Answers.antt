use Rattle.std.proofs.Common.{◌≡◌, ◌&&◌, ◌∙◌, Bool, [], ◌∷◌, ◌++◌, ap, arith, false, refl, sym, take_all, true, if◌then◌else◌}
use Rattle.sc_prep.proofs.Facts.{Denotes-Keeps, Denotes-self, IsConfig-Keeps, Keeps-refl, Keeps-trans, items_at-append, take-next}
use Rattle.sc_prep.proofs.RunLemmas.{item-own}
use Rattle.sc_prep.proofs.Terms.{Cond, items_at}
use Rattle.sc_prep.proofs.closing.is_met.Goals as goal
use Rattle.sc_subst.specs.declared.hidden.Hidden.{Hidden}

pub loop-index-init : goal.loop-index-init
loop-index-init g c = record { keeps = Keeps-refl (g.C.Conditions.sets c.args.conds.now); none = λ config listed here. refl }

pub apply_and-requires-clause-a_own : goal.apply_and-requires-clause-a_own
apply_and-requires-clause-a_own g c =
    let first = g.C.Conditions.sets c.args.conds.now in
    c.loop-index.invariant.keeps.own _ (item-own first c.args.items.now c.loop-index.index c.item.result.0 c.item.result.1.now c.item.ensures c.requires.own)

pub apply_and-requires-clause-b_own : goal.apply_and-requires-clause-b_own
apply_and-requires-clause-b_own g c = c.loop-index.invariant.keeps.own _ c.requires.by_own

pub loop-index-preserved : goal.loop-index-preserved
loop-index-preserved g c =
    let first = g.C.Conditions.sets c.args.conds.now in
    let items = c.args.items.now in
    let i = c.loop-index.index in
    let was = c.loop-index.invariant in
    let item : Cond × Hidden = (c.item.result.0, c.item.result.1.now) in
    let own = item-own first items i item.0 item.1 c.item.ensures c.requires.own in
    let keeps = c.in_ok-part.ensures.keeps in
    let part = c.in_ok-part.ensures.meaning (first.has item.0.0) (first.has c.args.by.0) (Denotes-Keeps was.keeps (Denotes-self first item.0.0 own)) (Denotes-Keeps was.keeps (Denotes-self first c.args.by.0 c.requires.by_own)) in
    record {
      keeps = Keeps-trans was.keeps keeps;
      none = λ config listed here.
          let now = IsConfig-Keeps (Keeps-trans was.keeps keeps) listed in
          let out = left-none (first.has item.0.0 config) (first.has c.args.by.0 config) here (sym (part.at config now) ∙ (c.is_never.ensures.0 c.if-not-is_never.false).none config now) in
          ap (λ xs. items_at first xs config) (take-next items i item c.item.ensures) ∙ (items_at-append first _ (item ∷ []) config
          ∙ (λ j. was.none config listed here j ++ (if out j then item.1 ∷ [] else [])));
    }
  where
    left-none : (h b : Bool) → b ≡ true → (h && b) ≡ false → h ≡ false
    left-none true true e out = out
    left-none true false e out = absurd (cc)
    left-none false b e out = refl

pub returns-clause-none : goal.returns-clause-none
returns-clause-none g c = λ _ config listed here.
    let first = g.C.Conditions.sets c.args.conds.now in
    ap (λ xs. items_at first xs config) (sym (take_all c.loop-index.index c.args.items.now (omega (arith, c.loop-index-test.false, c.len-index-end.ensures)))) ∙ c.loop-index.invariant.none config listed here

pub returns-in_err-part-clause-keeps : goal.returns-in_err-part-clause-keeps
returns-in_err-part-clause-keeps g c = Keeps-trans c.loop-index.invariant.keeps c.in_err-part.ensures.keeps
