use Rattle.std.proofs.Common.{◌<◌, ◌+◌, ◌&&◌, ◌∙◌, [], not, true, true≢false, All, ap, arith, map, sym, subst, take, take_all, if◌then◌else◌}
use Rattle.sc_expand.proofs.AlikeLemmas.{none-told}
use Rattle.sc_expand.proofs.ClosingLemmas.{Adds, added, all-next, any-push, at-index, faults-next, is_any, left-step, left_out, met-alike, next-items}
use Rattle.sc_expand.proofs.Facts.{All-nil, Denotes-Keeps, Denotes-self, IsConfig-Keeps, Keeps-refl, Keeps-trans, and-true, Denotes-as}
use Rattle.sc_expand.proofs.Terms.{Cond, Fault, Hidden, IsAlike, IsCond, IsNever, UnterminatedCall, failures_at, items_at, unclosed_at}
use Rattle.sc_expand.proofs.closing.unclosed.Goals as goal
use Rattle.sc_expand.proofs.closing.unclosed.Goals.{then-not-is_never+in_ok-push, else-not-is_never}

pub loop-index-init : goal.loop-index-init
loop-index-init g c =
    let first = g.C.Conditions.sets c.args.conds.now in
    let none = c.new-faults.ensures.items in
    record {
      keeps = Keeps-refl first;
      left = Denotes-as (λ x. first.has c.args.cond.0 x && true) (Denotes-self first c.args.cond.0 c.requires.cond_own) (λ x listed. sym (and-true (first.has c.args.cond.0 x)));
      faults = λ x listed. ap (λ l. failures_at first l x) none ∙ none-told (first.has c.args.cond.0 x);
      alike = λ x y p q same all. subst (All (λ (f : Fault). IsAlike first x y f.cond)) (sym none) (All-nil (λ (f : Fault). IsAlike first x y f.cond));
      some = subst (All (λ (f : Fault). IsNever first f.cond.0 → ⊥)) (sym none) (All-nil (λ (f : Fault). IsNever first f.cond.0 → ⊥));
      own = subst (All (λ (f : Fault). IsCond first f.cond.0)) (sym none) (All-nil (λ (f : Fault). IsCond first f.cond.0));
      placed = λ files all. subst (All (λ (f : Fault). f.place.file.0 < files)) (sym none) (All-nil (λ (f : Fault). f.place.file.0 < files));
    }

pub apply_and-requires-clause-a_own : goal.apply_and-requires-clause-a_own
apply_and-requires-clause-a_own g c =
    let first = g.C.Conditions.sets c.args.conds.now in
    c.loop-index.invariant.keeps.own _ (at-index (λ (x : Cond × Hidden). IsCond first x.0.0) c.args.list.now c.loop-index.index (c.item.result.0, c.item.result.1.now) c.item.ensures c.requires.own)

pub apply_without-requires-clause-b_own : goal.apply_without-requires-clause-b_own
apply_without-requires-clause-b_own g c =
    let first = g.C.Conditions.sets c.args.conds.now in
    (Keeps-trans c.loop-index.invariant.keeps c.apply_and.ensures.keeps).own _
    (at-index (λ (x : Cond × Hidden). IsCond first x.0.0) c.args.list.now c.loop-index.index (c.item.result.0, c.item.result.1.now) c.item.ensures c.requires.own)

pub is_never-requires : goal.is_never-requires
is_never-requires g c = c.apply_without.ensures.keeps.own _ c.in_ok-first.ensures.own

pub loop-index-preserved : goal.loop-index-preserved
loop-index-preserved g c =
    let first = g.C.Conditions.sets c.args.conds.now in
    let now = g.C.Conditions.sets c.apply_without.new.self in
    let i = c.loop-index.index in
    let list = c.args.list.now in
    let was = c.loop-index.invariant in
    let item : Cond × Hidden = (c.item.result.0, c.item.result.1.now) in
    let at = c.item.ensures in
    let has = Denotes-Keeps was.keeps (Denotes-self first item.0.0 (at-index (λ (x : Cond × Hidden). IsCond first x.0.0) list i item at c.requires.own)) in
    let keeps = Keeps-trans c.apply_and.ensures.keeps c.apply_without.ensures.keeps in
    let told = Denotes-Keeps c.apply_without.ensures.keeps (c.in_ok-first.ensures.meaning _ _ has was.left) in
    let left = c.in_ok-left.ensures.meaning _ _ (Denotes-Keeps c.apply_and.ensures.keeps was.left) (Denotes-Keeps c.apply_and.ensures.keeps has) in
    let met = c.in_ok-first.first in
    let fault : Fault = record { cond = met; cause = UnterminatedCall; place = item.1.token.place } in
    let adds : Adds now met.0 fault c.loop-index.faults.items c.if-not-is_never.faults.items =
    elim c.if-not-is_never.branch [
      | then-not-is_never+in_ok-push w ↦ added (λ never. true≢false (sym (c.is_never.ensures.1 never) ∙ w.if-not-is_never.true)) (ap (λ v. v.items) w.faults-is ∙ w.in_ok-push.ensures.items)
      | else-not-is_never w ↦ left_out (c.is_never.ensures.0 w.if-not-is_never.false) (ap (λ v. v.items) w.faults-is)
    ] in
    record {
      keeps = Keeps-trans was.keeps keeps;
      left = Denotes-as (λ x. first.has c.args.cond.0 x && not (is_any (items_at first (take (i + 1) list) x))) left
          (λ x listed.
          left-step (first.has c.args.cond.0 x) (is_any (items_at first (take i list) x)) (first.has item.0.0 x)
          ∙ ap (λ b. first.has c.args.cond.0 x && not b) (sym (ap is_any (next-items first list i item x at) ∙ any-push (items_at first (take i list) x) (first.has item.0.0 x) item.1)));
      faults = faults-next was.keeps keeps list i item at c.args.cond.0 met told c.loop-index.faults.items c.if-not-is_never.faults.items adds was.own was.faults;
      alike = λ x y p q same all.
          all-next was.keeps keeps list i item at c.args.cond.0 met told (λ (f : Fault). IsAlike now x y f.cond) c.loop-index.faults.items c.if-not-is_never.faults.items adds
          (λ k d h. keeps.at _ x (was.own k d h) (IsConfig-Keeps was.keeps p) ∙ (was.alike x y p q same all k d h ∙ sym (keeps.at _ y (was.own k d h) (IsConfig-Keeps was.keeps q))))
          (λ some. met-alike was.keeps keeps list i item at c.args.cond.0 met told x y p q same all);
      some = all-next was.keeps keeps list i item at c.args.cond.0 met told (λ (f : Fault). IsNever now f.cond.0 → ⊥) c.loop-index.faults.items c.if-not-is_never.faults.items adds
          (λ k d h never. was.some k d h (record { none = λ x listed. sym (keeps.at _ x (was.own k d h) listed) ∙ never.none x (IsConfig-Keeps keeps listed) })) (λ some. some);
      own = all-next was.keeps keeps list i item at c.args.cond.0 met told (λ (f : Fault). IsCond now f.cond.0) c.loop-index.faults.items c.if-not-is_never.faults.items adds
          (λ k d h. keeps.own _ (was.own k d h)) (λ some. told.own);
      placed = λ files all.
          all-next was.keeps keeps list i item at c.args.cond.0 met told (λ (f : Fault). f.place.file.0 < files) c.loop-index.faults.items c.if-not-is_never.faults.items adds (was.placed files all)
          (λ some. at-index (λ (x : Cond × Hidden). x.1.token.place.file.0 < files) list i item at all);
    }

pub returns-clause-faults : goal.returns-clause-faults
returns-clause-faults g c = λ x listed.
    let first = g.C.Conditions.sets c.args.conds.now in
    c.loop-index.invariant.faults x listed
    ∙ ap (λ l. if first.has c.args.cond.0 x then map unclosed_at (take 1 (items_at first l x)) else []) (take_all c.loop-index.index c.args.list.now (omega (arith, c.loop-index-test.false, c.len-index-end.ensures)))

pub returns-in_err-first-clause-keeps : goal.returns-in_err-first-clause-keeps
returns-in_err-first-clause-keeps g c = Keeps-trans c.loop-index.invariant.keeps c.apply_and.ensures.keeps

pub returns-in_err-left-clause-keeps : goal.returns-in_err-left-clause-keeps
returns-in_err-left-clause-keeps g c = Keeps-trans c.loop-index.invariant.keeps (Keeps-trans c.apply_and.ensures.keeps c.apply_without.ensures.keeps)

pub returns-in_err-push-clause-keeps : goal.returns-in_err-push-clause-keeps
returns-in_err-push-clause-keeps g c = Keeps-trans c.loop-index.invariant.keeps (Keeps-trans c.apply_and.ensures.keeps c.apply_without.ensures.keeps)
