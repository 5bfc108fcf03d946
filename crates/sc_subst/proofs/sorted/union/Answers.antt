use Rattle.std.proofs.Common.{◌≡◌, ◌<◌, ◌≤◌, ◌+◌, ◌++◌, [], ◌∷◌, length, get_or, sym, subst, arith}
use Rattle.sc_base.specs.declared.id.Name as declared
use Rattle.sc_subst.proofs.RisingLaws.{IsMerged, merged-start, merged-first, merged-second, merged-both, merged-end}
use Rattle.sc_subst.proofs.sorted.union.Goals.{then-loop-next-test+else-one-next, else-loop-next-test, then-next-one+then-one-next-2, else-next-one, else-next-one-via-then-next-one+else-one-next-2, else-next-one-via-else-next-one}
use Rattle.sc_subst.proofs.sorted.union.Goals as goal

abbrev none : declared.Name
none = record { 0 = 0 }

pub loop-name-init : goal.loop-name-init
loop-name-init c =
    subst (λ made. IsMerged made c.args.one.now c.args.two.now 0 0) (sym c.new-made.ensures.items) (merged-start c.args.one.now c.args.two.now c.requires.one c.requires.two)

pub loop-next-init : goal.loop-next-init
loop-next-init c = c.loop-name.invariant

pub loop-next-preserved : goal.loop-next-preserved
loop-next-preserved c =
    subst (λ made. IsMerged made c.args.one.now c.args.two.now (c.loop-next.next + 1) c.loop-name.name-index) (sym c.in_ok-push.ensures.items)
    (merged-first c.loop-next.made.items c.args.one.now c.args.two.now c.loop-next.next c.loop-name.name-index none c.loop-next-test.true c.loop-name-test.true c.if-one-next.true c.loop-next.invariant)

pub loop-name-preserved : goal.loop-name-preserved
loop-name-preserved c =
    let one = c.args.one.now in
    let two = c.args.two.now in
    let next = c.loop-next.next in
    let i = c.loop-name.name-index in
    let later : next < length one → (get_or two i none).0 ≤ (get_or one next none).0 = elim c.loop-next-test.branch [
      | then-loop-next-test+else-one-next w ↦ λ below. w.if-one-next.false
      | else-loop-next-test w ↦ λ below. absurd (omega (arith, below, w.loop-next-test.false))
    ] in
    subst (λ made. IsMerged made one two c.if-next-one.next (i + 1)) (sym c.in_ok-push-2.ensures.items) (elim c.if-next-one.branch [
      | then-next-one+then-one-next-2 w ↦
          subst (λ k. IsMerged (c.loop-next.made.items ++ get_or two i none ∷ []) one two k (i + 1)) (sym w.next-is)
          (merged-both c.loop-next.made.items one two next i none w.if-next-one.true c.loop-name-test.true w.if-one-next-2.true c.loop-next.invariant)
      | else-next-one w ↦
          let apart : next < length one → (get_or one next none).0 ≡ (get_or two i none).0 → ⊥ = elim w.else-next-one.branch [
            | else-next-one-via-then-next-one+else-one-next-2 v ↦ λ below same. v.if-one-next-2.false same
            | else-next-one-via-else-next-one v ↦ λ below same. absurd (omega (arith, below, v.if-next-one.false))
          ] in
          subst (λ k. IsMerged (c.loop-next.made.items ++ get_or two i none ∷ []) one two k (i + 1)) (sym w.next-is)
          (merged-second c.loop-next.made.items one two next i none c.loop-name-test.true
          (λ below. let less = later below in let same = apart below in omega (arith, less, same)) c.loop-next.invariant)
    ])

pub returns-clause-rising : goal.returns-clause-rising
returns-clause-rising c =
    (merged-end c.loop-name.made.items c.args.one.now c.args.two.now c.loop-name.next c.loop-name.name-index (omega (arith, c.loop-name-test.false)) c.loop-name.invariant _ c.in_ok-extend_from_slice.ensures.items).0

pub returns-clause-exact : goal.returns-clause-exact
returns-clause-exact c =
    (merged-end c.loop-name.made.items c.args.one.now c.args.two.now c.loop-name.next c.loop-name.name-index (omega (arith, c.loop-name-test.false)) c.loop-name.invariant _ c.in_ok-extend_from_slice.ensures.items).1
