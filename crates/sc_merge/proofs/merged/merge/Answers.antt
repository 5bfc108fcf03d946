use Rattle.std.proofs.Common.{refl}
use Rattle.sc_merge.proofs.MergeLemmas.{shown-merged}
use Rattle.sc_merge.proofs.ValueLemmas.{values-some}
use Rattle.sc_merge.proofs.PartLemmas.{only-first, only-second, partings, parts-Keeps}
use Rattle.sc_model.proofs.SetLemmas.{Denotes-Keeps, Keeps-trans}
use Rattle.sc_scope.proofs.OwnLemmas.{own-Keeps}
use Rattle.sc_merge.proofs.merged.merge.Goals as goal

pub returns-clause-own : goal.returns-clause-own
returns-clause-own g c = record {
  cond = c.in_ok-cond.ensures.own;
  values = c.in_ok-stack.ensures.own;
  levels = own-Keeps _ _ _ c.apply_or.ensures.keeps c.in_ok-scopes.ensures.own;
}

pub returns-clause-cond : goal.returns-clause-cond
returns-clause-cond g c =
    let keeps = Keeps-trans c.parted.ensures.keeps c.merged_scopes.ensures.keeps in
    rw (← c.a.view_is, ← c.b.view_is) (λ f h a b. c.in_ok-cond.ensures.meaning f h (Denotes-Keeps keeps a) (Denotes-Keeps keeps b))

pub returns-clause-alike : goal.returns-clause-alike
returns-clause-alike g c = rw (← c.a.view_is) (record { phase = refl; states = c.in_ok-stack.ensures.states; levels = c.in_ok-scopes.ensures.count })

pub returns-clause-trees : goal.returns-clause-trees
returns-clause-trees g c = rw (← c.a.view_is) (values-some c.in_ok-stack.ensures.left)

pub returns-clause-first : goal.returns-clause-first
returns-clause-first g c =
    let a_own = rw (← c.a.view_is) at c.requires.a_own in
    let b_own = rw (← c.b.view_is) at c.requires.b_own in
    let parts = c.in_ok-here.ensures.parts in
    rw (← c.a.view_is, ← c.b.view_is)
    (shown-merged _ _ _ _ _ _ _ _ c.parted.ensures.keeps c.merged_scopes.ensures.keeps c.apply_or.ensures.keeps a_own.cond b_own.cond parts.own_here parts.own_there (only-first parts)
    c.in_ok-stack.ensures.left a_own.levels c.in_ok-scopes.ensures.left c.in_ok-scopes.ensures.own)

pub returns-clause-second : goal.returns-clause-second
returns-clause-second g c =
    let a_own = rw (← c.a.view_is) at c.requires.a_own in
    let b_own = rw (← c.b.view_is) at c.requires.b_own in
    let parts = c.in_ok-here.ensures.parts in
    rw (← c.a.view_is, ← c.b.view_is)
    (shown-merged _ _ _ _ _ _ _ _ c.parted.ensures.keeps c.merged_scopes.ensures.keeps c.apply_or.ensures.keeps b_own.cond a_own.cond parts.own_there parts.own_here (only-second parts)
    c.in_ok-stack.ensures.right b_own.levels c.in_ok-scopes.ensures.right c.in_ok-scopes.ensures.own)

pub merged_scopes-requires-clause-left_own : goal.merged_scopes-requires-clause-left_own
merged_scopes-requires-clause-left_own g c =
    let a_own = rw (← c.a.view_is) at c.requires.a_own in
    own-Keeps _ _ _ c.parted.ensures.keeps a_own.levels

pub merged_scopes-requires-clause-right_own : goal.merged_scopes-requires-clause-right_own
merged_scopes-requires-clause-right_own g c =
    let b_own = rw (← c.b.view_is) at c.requires.b_own in
    own-Keeps _ _ _ c.parted.ensures.keeps b_own.levels

pub apply_or-requires-clause-a_own : goal.apply_or-requires-clause-a_own
apply_or-requires-clause-a_own g c =
    let a_own = rw (← c.a.view_is) at c.requires.a_own in
    (Keeps-trans c.parted.ensures.keeps c.merged_scopes.ensures.keeps).own _ a_own.cond

pub apply_or-requires-clause-b_own : goal.apply_or-requires-clause-b_own
apply_or-requires-clause-b_own g c =
    let b_own = rw (← c.b.view_is) at c.requires.b_own in
    (Keeps-trans c.parted.ensures.keeps c.merged_scopes.ensures.keeps).own _ b_own.cond

pub returns-in_err-scopes-clause-keeps : goal.returns-in_err-scopes-clause-keeps
returns-in_err-scopes-clause-keeps g c = Keeps-trans c.parted.ensures.keeps c.merged_scopes.ensures.keeps

pub returns-in_err-scopes-clause-adds : goal.returns-in_err-scopes-clause-adds
returns-in_err-scopes-clause-adds g c =
    let a_own = rw (← c.a.view_is) at c.requires.a_own in
    let b_own = rw (← c.b.view_is) at c.requires.b_own in
    let keeps = c.parted.ensures.keeps in
    rw (← c.a.view_is, ← c.b.view_is)
    (partings (parts-Keeps c.merged_scopes.ensures.keeps (keeps.own _ a_own.cond) (keeps.own _ b_own.cond) c.in_ok-here.ensures.parts) c.merged_stack.ensures.adds)

pub returns-in_err-cond-clause-keeps : goal.returns-in_err-cond-clause-keeps
returns-in_err-cond-clause-keeps g c = Keeps-trans c.parted.ensures.keeps (Keeps-trans c.merged_scopes.ensures.keeps c.apply_or.ensures.keeps)

pub returns-in_err-cond-clause-adds : goal.returns-in_err-cond-clause-adds
returns-in_err-cond-clause-adds g c =
    let a_own = rw (← c.a.view_is) at c.requires.a_own in
    let b_own = rw (← c.b.view_is) at c.requires.b_own in
    let keeps = c.parted.ensures.keeps in
    let later = Keeps-trans c.merged_scopes.ensures.keeps c.apply_or.ensures.keeps in
    rw (← c.a.view_is, ← c.b.view_is)
    (partings (parts-Keeps later (keeps.own _ a_own.cond) (keeps.own _ b_own.cond) c.in_ok-here.ensures.parts) c.merged_stack.ensures.adds)

pub returns-clause-keeps : goal.returns-clause-keeps
returns-clause-keeps g c = Keeps-trans c.parted.ensures.keeps (Keeps-trans c.merged_scopes.ensures.keeps c.apply_or.ensures.keeps)

pub returns-clause-adds : goal.returns-clause-adds
returns-clause-adds g c =
    let a_own = rw (← c.a.view_is) at c.requires.a_own in
    let b_own = rw (← c.b.view_is) at c.requires.b_own in
    let keeps = c.parted.ensures.keeps in
    let later = Keeps-trans c.merged_scopes.ensures.keeps c.apply_or.ensures.keeps in
    rw (← c.a.view_is, ← c.b.view_is)
    (partings (parts-Keeps later (keeps.own _ a_own.cond) (keeps.own _ b_own.cond) c.in_ok-here.ensures.parts) c.merged_stack.ensures.adds)
