use Rattle.std.proofs.Common.{◌∙◌, arith, get_or, map, refl, subst, sym, take_all}
use Rattle.std.proofs.lemmas.Bool.{true≢false}
use Rattle.std.proofs.lemmas.List.Elements.{Contains-get_or}
use Rattle.std.specs.List.{Contains}
use Rattle.sc_base.specs.declared.fault.Fault.{Fault}
use Rattle.sc_guarded.specs.Items.{seen_fault}
use Rattle.sc_show.proofs.FaultCounting.{lacks-more, map-has}
use Rattle.sc_show.proofs.TokensShows.{no_fault}
use Rattle.sc_show.proofs.merge.has_pair.Goals as goal
use Rattle.sc_text.proofs.FaultOrder.{faults_equal}

pub returns-then-is_same_pair : goal.returns-then-is_same_pair
returns-then-is_same_pair c =
    let files = c.args.files.now in
    let faults = c.args.faults.now in
    let i = c.loop-other.other-index in
    let other : Fault = get_or faults i no_fault in
    let same = faults_equal (seen_fault files other) (seen_fault files c.args.fault.now) (c.is_same_pair.ensures.0 c.if-is_same_pair.true) in
    (λ is. subst (Contains (map (seen_fault files) faults)) same (map-has files faults other (Contains-get_or faults i no_fault c.loop-other-test.true)), λ has. refl)

pub loop-other-preserved : goal.loop-other-preserved
loop-other-preserved c =
    lacks-more c.args.files.now c.args.faults.now c.loop-other.other-index no_fault c.args.fault.now c.loop-other-test.true c.loop-other.invariant
    (λ equal. absurd (true≢false (sym (c.is_same_pair.ensures.1 equal) ∙ c.if-is_same_pair.false)))

pub returns : goal.returns
returns c =
    let all = take_all c.loop-other.other-index c.args.faults.now (omega arith) in (
      λ is. absurd (true≢false (sym is)),
      λ has. absurd (c.loop-other.invariant (subst (λ fs. Contains (map (seen_fault c.args.files.now) fs) (seen_fault c.args.files.now c.args.fault.now)) (sym all) has)),
    )
