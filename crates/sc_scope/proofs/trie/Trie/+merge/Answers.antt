use Rattle.std.proofs.Common.{arith, rules, ap}
use Rattle.std.proofs.lemmas.Result.{IfOk-weaker}
use Rattle.sc_model.proofs.SetLemmas.{Keeps-trans}
use Rattle.sc_scope.specs.Kept.{bindings_at, bindings_of}
use Rattle.sc_scope.specs.Kinds.{OwnsLevel}
use Rattle.sc_scope.specs.Numbered.{IsNumbered, levels_made}
use Rattle.sc_base.proofs.Growth.{Extends-trans}
use Rattle.sc_scope.proofs.NumberLemmas.{IsNumbered-Extends, some-Extends}
use Rattle.sc_scope.proofs.SearchLemmas.{AreOwn-Keeps}
use Rattle.sc_scope.proofs.TrieLemmas.{height, full-merges, left-merges, own-left, own-level, own-right, own-top, right-merges, same-merges}
use Rattle.sc_scope.proofs.trie.Trie.+merge.Goals as goal

pub returns-then-same-clause-merges : goal.returns-then-same-clause-merges
returns-then-same-clause-merges g t c =
    same-merges c.args.here c.args.there (bindings_at c.args.self.now) (bindings_at c.args.other.now) (c.same.ensures c.if-same.true _ c.requires.numbered c.requires.other_numbered) c.requires.own

pub merge-requires : goal.merge-requires
merge-requires g t c =
    let sets = g.C.Conditions.sets c.args.conds.now in
    let own = own-left _ (bindings_at c.in-Full.right.value) (bindings_of c.in-Full.top) (rw c.in-Full.is at c.requires.own) in
    let other = own-left _ (bindings_at c.in-Full-other-2.other_right.value) (bindings_of c.in-Full-other-2.other_top) (rw c.in-Full-other-2.is at c.requires.other_own) in
    let owned : OwnsLevel sets (bindings_at c.deref.result.now) = rw c.deref.ensures own in
    let other_owned : OwnsLevel sets (bindings_at c.deref-in-Full-other-2.result.now) = rw c.deref-in-Full-other-2.ensures other in
    let numbered : IsNumbered (levels_made c.args.numbers.now) c.deref.result.now = rw c.deref.ensures (rw c.in-Full.is at c.requires.numbered).1.0 in
    let other_numbered : IsNumbered (levels_made c.args.numbers.now) c.deref-in-Full-other-2.result.now = rw c.deref-in-Full-other-2.ensures (rw c.in-Full-other-2.is at c.requires.other_numbered).1.0 in
    λ κs out. (
      omega (arith, c.decreases, ap height c.in-Full.is, ap height c.deref.ensures),
      (search rules, (c.requires.here_own, (c.requires.there_own, (owned, (other_owned, (numbered, other_numbered)))))),
    )

pub merged_bindings-requires-clause-left_own : goal.merged_bindings-requires-clause-left_own
merged_bindings-requires-clause-left_own g t c =
    AreOwn-Keeps _ c.merge.ensures.keeps (own-top (bindings_at c.in-Full.left.value) (bindings_at c.in-Full.right.value) _ (rw c.in-Full.is at c.requires.own))

pub merged_bindings-requires-clause-right_own : goal.merged_bindings-requires-clause-right_own
merged_bindings-requires-clause-right_own g t c =
    AreOwn-Keeps _ c.merge.ensures.keeps
    (own-top (bindings_at c.in-Full-other-2.other_left.value) (bindings_at c.in-Full-other-2.other_right.value) _ (rw c.in-Full-other-2.is at c.requires.other_own))

pub merge-requires-in-Full-other-2 : goal.merge-requires-in-Full-other-2
merge-requires-in-Full-other-2 g t c =
    let keeps = Keeps-trans c.merge.ensures.keeps c.merged_bindings.ensures.keeps in
    let sets = g.C.Conditions.sets c.merged_bindings.new.conds in
    let own = own-right (bindings_at c.in-Full.left.value) _ (bindings_of c.in-Full.top) (rw c.in-Full.is at c.requires.own) in
    let other = own-right (bindings_at c.in-Full-other-2.other_left.value) _ (bindings_of c.in-Full-other-2.other_top) (rw c.in-Full-other-2.is at c.requires.other_own) in
    let owned : OwnsLevel sets (bindings_at c.deref-in-Full-other-2-2.result.now) = rw c.deref-in-Full-other-2-2.ensures (own-level keeps own) in
    let other_owned : OwnsLevel sets (bindings_at c.deref-in-Full-other-2-3.result.now) = rw c.deref-in-Full-other-2-3.ensures (own-level keeps other) in
    let numbered : IsNumbered (levels_made c.merge.new.numbers) c.deref-in-Full-other-2-2.result.now = rw c.deref-in-Full-other-2-2.ensures (IsNumbered-Extends _ c.merge.ensures.grows (rw c.in-Full.is at c.requires.numbered).1.1) in
    let other_numbered : IsNumbered (levels_made c.merge.new.numbers) c.deref-in-Full-other-2-3.result.now = rw c.deref-in-Full-other-2-3.ensures (IsNumbered-Extends _ c.merge.ensures.grows (rw c.in-Full-other-2.is at c.requires.other_numbered).1.1) in
    λ κs out. (
      omega (arith, c.decreases, ap height c.in-Full.is, ap height c.deref-in-Full-other-2-2.ensures),
      (search rules, (keeps.own _ c.requires.here_own, (keeps.own _ c.requires.there_own, (owned, (other_owned, (numbered, other_numbered)))))),
    )

pub applied-requires-clause-changes : goal.applied-requires-clause-changes
applied-requires-clause-changes g t c =
    (some-Extends _ c.merge-in-Full-other-2.ensures.grows c.in_ok-new_left-in-Full-other-2.ensures.numbered, c.in_ok-new_right-in-Full-other-2.ensures.numbered)

pub applied-requires-clause-left : goal.applied-requires-clause-left
applied-requires-clause-left g t c =
    IsNumbered-Extends _ (Extends-trans c.merge.ensures.grows c.merge-in-Full-other-2.ensures.grows) (rw c.in-Full.is at c.requires.numbered).1.0

pub applied-requires-clause-right : goal.applied-requires-clause-right
applied-requires-clause-right g t c =
    IsNumbered-Extends _ (Extends-trans c.merge.ensures.grows c.merge-in-Full-other-2.ensures.grows) (rw c.in-Full.is at c.requires.numbered).1.1

pub returns-in_err-new_right-in-Full-other-2-clause-keeps : goal.returns-in_err-new_right-in-Full-other-2-clause-keeps
returns-in_err-new_right-in-Full-other-2-clause-keeps g t c =
    Keeps-trans c.merge.ensures.keeps (Keeps-trans c.merged_bindings.ensures.keeps c.merge-in-Full-other-2.ensures.keeps)

pub returns-in_ok-narrowed-in-Full-other-clause-merges : goal.returns-in_ok-narrowed-in-Full-other-clause-merges
returns-in_ok-narrowed-in-Full-other-clause-merges g t c =
    rw c.in-Empty.is (right-merges c.args.here c.args.there (bindings_at c.args.other.now) _ c.in_ok-narrowed-in-Full-other.ensures.narrows)

pub returns-in_ok-narrowed-in-Empty-other-2-clause-merges : goal.returns-in_ok-narrowed-in-Empty-other-2-clause-merges
returns-in_ok-narrowed-in-Empty-other-2-clause-merges g t c =
    rw c.in-Empty-other-2.is (left-merges c.args.here c.args.there (bindings_at c.args.self.now) _ c.in_ok-narrowed-in-Empty-other-2.ensures.narrows)

pub returns-in_ok-new_right-in-Full-other-2-clause-merges : goal.returns-in_ok-new_right-in-Full-other-2-clause-merges
returns-in_ok-new_right-in-Full-other-2-clause-merges g t c =
    IfOk-weaker c.applied.result _ _
    (λ after same. rw (c.in-Full.is, c.in-Full-other-2.is)
    (full-merges c.args.here c.args.there (bindings_at c.in-Full.left.value) (bindings_at c.in-Full.right.value) (bindings_at c.in-Full-other-2.other_left.value)
    (bindings_at c.in-Full-other-2.other_right.value) _ _ _ _ _ _ c.merge.ensures.keeps c.merged_bindings.ensures.keeps c.merge-in-Full-other-2.ensures.keeps
    c.requires.here_own c.requires.there_own (rw c.in-Full.is at c.requires.own) (rw c.in-Full-other-2.is at c.requires.other_own)
    (rw (c.deref.ensures, c.deref-in-Full-other-2.ensures) at c.in_ok-new_left-in-Full-other-2.ensures.merges) c.in_ok-new_top-in-Full-other-2.ensures.merges
    (rw (c.deref-in-Full-other-2-2.ensures, c.deref-in-Full-other-2-3.ensures) at c.in_ok-new_right-in-Full-other-2.ensures.merges) same))
    c.applied.ensures.bindings

pub returns-in_ok-new_right-in-Full-other-2-clause-keeps : goal.returns-in_ok-new_right-in-Full-other-2-clause-keeps
returns-in_ok-new_right-in-Full-other-2-clause-keeps g t c =
    Keeps-trans c.merge.ensures.keeps (Keeps-trans c.merged_bindings.ensures.keeps c.merge-in-Full-other-2.ensures.keeps)
