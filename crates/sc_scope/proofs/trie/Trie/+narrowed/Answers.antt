use Rattle.std.proofs.Common.{arith, rules, ap, subst, sym}
use Rattle.std.proofs.lemmas.Result.{IfOk-weaker}
use Rattle.sc_model.proofs.SetLemmas.{Keeps-trans}
use Rattle.sc_scope.specs.Kept.{bindings_at, bindings_of}
use Rattle.sc_scope.specs.Kinds.{NarrowsLevel, OwnsLevel}
use Rattle.sc_scope.proofs.NumberLemmas.{IsNumbered-Extends}
use Rattle.sc_scope.proofs.SearchLemmas.{AreOwn-Keeps}
use Rattle.sc_scope.proofs.TrieLemmas.{height, full-narrows, none-narrows, own-left, own-level, own-right, own-top}
use Rattle.sc_scope.proofs.trie.Trie.+narrowed.Goals as goal

pub narrowed-requires : goal.narrowed-requires
narrowed-requires g t c =
    let own = own-left _ (bindings_at c.in-Full.right.value) (bindings_of c.in-Full.here) (rw c.in-Full.is at c.requires.own) in
    let owned : OwnsLevel (g.C.Conditions.sets c.args.conds.now) (bindings_at c.deref.result.now) = rw c.deref.ensures own in
    λ κs out. (omega (arith, c.decreases, ap height c.in-Full.is, ap height c.deref.ensures), (search rules, (c.requires.cond_own, owned)))

pub narrowed_bindings-requires-clause-own : goal.narrowed_bindings-requires-clause-own
narrowed_bindings-requires-clause-own g t c =
    AreOwn-Keeps _ c.narrowed.ensures.keeps (own-top (bindings_at c.in-Full.left.value) (bindings_at c.in-Full.right.value) _ (rw c.in-Full.is at c.requires.own))

pub narrowed-requires-in-Full : goal.narrowed-requires-in-Full
narrowed-requires-in-Full g t c =
    let keeps = Keeps-trans c.narrowed.ensures.keeps c.narrowed_bindings.ensures.keeps in
    let own = own-right (bindings_at c.in-Full.left.value) _ (bindings_of c.in-Full.here) (rw c.in-Full.is at c.requires.own) in
    let owned : OwnsLevel (g.C.Conditions.sets c.narrowed_bindings.new.conds) (bindings_at c.deref-in-Full.result.now)
    = rw c.deref-in-Full.ensures (own-level keeps own) in
    λ κs out. (omega (arith, c.decreases, ap height c.in-Full.is, ap height c.deref-in-Full.ensures), (search rules, (keeps.own _ c.requires.cond_own, owned)))

pub returns-in-Empty-clause-narrows : goal.returns-in-Empty-clause-narrows
returns-in-Empty-clause-narrows g t c = rw c.in-Empty.is (none-narrows _ c.args.cond)

pub returns-in_err-right-in-Full-clause-keeps : goal.returns-in_err-right-in-Full-clause-keeps
returns-in_err-right-in-Full-clause-keeps g t c =
    Keeps-trans c.narrowed.ensures.keeps (Keeps-trans c.narrowed_bindings.ensures.keeps c.narrowed-in-Full.ensures.keeps)

pub returns-in_err-narrowed-in-Full-2-clause-keeps : goal.returns-in_err-narrowed-in-Full-2-clause-keeps
returns-in_err-narrowed-in-Full-2-clause-keeps g t c =
    Keeps-trans c.narrowed.ensures.keeps (Keeps-trans c.narrowed_bindings.ensures.keeps c.narrowed-in-Full.ensures.keeps)

pub branch-numbers-requires-clause-left : goal.branch-numbers-requires-clause-left
branch-numbers-requires-clause-left g t c =
    rw c.in_ok-left-in-Full.ensures.ok (IsNumbered-Extends _ c.narrowed-in-Full.ensures.grows c.in_ok-narrowed-in-Full.ensures.numbered)

pub returns-in_ok-right-in-Full-clause-keeps : goal.returns-in_ok-right-in-Full-clause-keeps
returns-in_ok-right-in-Full-clause-keeps g t c =
    Keeps-trans c.narrowed.ensures.keeps (Keeps-trans c.narrowed_bindings.ensures.keeps c.narrowed-in-Full.ensures.keeps)

pub returns-in_ok-right-in-Full-clause-narrows : goal.returns-in_ok-right-in-Full-clause-narrows
returns-in_ok-right-in-Full-clause-narrows g t c =
    let all = full-narrows c.args.cond (bindings_at c.in-Full.left.value) (bindings_at c.in-Full.right.value) _ _ _ _ c.narrowed.ensures.keeps
    c.narrowed_bindings.ensures.keeps c.narrowed-in-Full.ensures.keeps c.requires.cond_own (rw c.in-Full.is at c.requires.own)
    (rw c.deref.ensures at c.in_ok-narrowed-in-Full.ensures.narrows) c.in_ok-here-in-Full.ensures.narrows
    (rw c.deref-in-Full.ensures at c.in_ok-narrowed-in-Full-2.ensures.narrows) in
    IfOk-weaker c.branch-numbers.result _ _
    (λ trie is. rw c.in-Full.is (subst (NarrowsLevel _ _ c.args.cond _) (sym (rw (c.in_ok-left-in-Full.ensures.ok, c.in_ok-right-in-Full.ensures.ok) at is)) all)) c.branch-numbers.ensures.bindings
