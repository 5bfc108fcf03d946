use Rattle.std.proofs.Common.{◌≡◌, ◌∙◌, ◌+◌, List, arith, get_or, length, map, slice_get, Some, sym, subst}
use Rattle.std.specs.Global.{Vec}
use Rattle.std.specs.List.{Contains}
use Rattle.std.proofs.lemmas.Bool.{true≢false}
use Rattle.std.proofs.lemmas.List.{length-map}
use Rattle.std.proofs.lemmas.Option.{slice_get-get_or}
use Rattle.sc_base.specs.declared.fault.Fault.{Fault}
use Rattle.sc_guarded.specs.Items.{seen_fault}
use Rattle.sc_show.proofs.FaultCounting.{AreCounted, counted-all, counted-push, counted-skip}
use Rattle.sc_show.proofs.TokensShows.{no_fault}
use Rattle.sc_show.proofs.merge.count_faults.Goals as goal
use Rattle.sc_show.proofs.merge.count_faults.Goals.{then-example+then-not-has_pair+in_ok-push, else-example, else-example-via-then-example+else-not-has_pair, else-example-via-else-example}

pub loop-fault-preserved : goal.loop-fault-preserved
loop-fault-preserved g c =
    let s = g.C.Conditions.sets c.args.conds.now in
    let files = c.args.files.now in
    let faults = c.args.faults.now in
    let i = c.loop-fault.fault-index in
    let fault : Fault = get_or faults i no_fault in
    let at : slice_get faults i ≡ Some fault = slice_get-get_or faults i no_fault c.loop-fault-test.true in
    let was = c.loop-fault.invariant in
    let old = c.loop-fault.different.items in
    let Has : List Fault → Type 0 = λ fs. Contains (map (seen_fault files) fs) (seen_fault files fault) in
    elim c.if-example.branch [
      | then-example+then-not-has_pair+in_ok-push w ↦
          subst (λ (v : Vec Fault). AreCounted s files faults (i + 1) v.items) (sym w.different-is)
          (counted-push s files faults i fault at old w.push.new.self.items c.example.new.into w.in_ok-push.ensures.items was w.if-example.ensures.config w.if-example.ensures.has
          (λ has. absurd (true≢false (sym (w.has_pair.ensures.1 (subst Has (sym w.deref.ensures.value) has)) ∙ w.if-not-has_pair.true))) (c.requires.faults i no_fault c.loop-fault-test.true).file)
      | else-example w ↦
          subst (λ (v : Vec Fault). AreCounted s files faults (i + 1) v.items) (sym w.different-is)
          (elim w.else-example.branch [
            | else-example-via-then-example+else-not-has_pair v ↦ counted-skip s files faults i fault at old was (λ d listed has. subst Has v.deref.ensures.value (v.has_pair.ensures.0 v.if-not-has_pair.false))
            | else-example-via-else-example v ↦ counted-skip s files faults i fault at old was (λ d listed has. absurd (true≢false (sym has ∙ (c.example.ensures.never.0 v.if-example.false).none d listed)))
          ])
    ]

pub returns : goal.returns
returns g c =
    let s = g.C.Conditions.sets c.args.conds.now in
    let items = c.loop-fault.different.items in (
      map (seen_fault c.args.files.now) items,
      counted-all s c.args.files.now c.args.faults.now c.loop-fault.fault-index items (omega arith) c.loop-fault.invariant,
      (let long : length items ≡ c.len.result = omega (arith, c.loop-fault.different.ok.0, c.len.ensures) in length-map items (seen_fault c.args.files.now) ∙ long),
    )
