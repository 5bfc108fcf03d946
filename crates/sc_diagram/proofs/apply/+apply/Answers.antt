use Rattle.std.proofs.Common.{◌≡◌, ℕ, ◌<◌, ◌∷◌, [], length, ap, sym, ◌∙◌, arith}
use Rattle.std.specs.Prelude.{slice_index}
use Rattle.std.proofs.lemmas.List.{length_push}
use Rattle.sc_diagram.proofs.AppliedLemmas.{IsKnown-Grows, IsKnown-Adds}
use Rattle.sc_diagram.proofs.GrownLemmas.{Grows-trans, AddsBelow-push, AddsOnly-IsChoice}
use Rattle.sc_diagram.proofs.StepLemmas.{first_call, second_call, each-both, full-both, adds-both, call_is, own_tops, later_tops, AppliesEach-more, Applies-results}
use Rattle.sc_diagram.specs.Applied.{AppliesEach}
use Rattle.sc_diagram.specs.Grown.{AddsBelow, Grows}
use Rattle.sc_diagram.proofs.apply.+apply.Goals as goal
use Rattle.sc_diagram.proofs.apply.+apply.Goals.{In_ok-second}

pub returns-in-Some-find-clause-applies : goal.returns-in-Some-find-clause-applies
returns-in-Some-find-clause-applies t c = c.requires.known.each (c.args.what, c.in-Some-find.result) c.in-Some-find.ensures

pub apply-requires : goal.apply-requires
apply-requires t c =
    let is = first_call c.decided.ensures.valid c.requires.application c.in_default.ensures.none c.first_variable-variable.ensures (sym c.arity.ensures ∙ c.if-arity-eq2.true) c.applications.result.0 c.applications.ensures.first in
    (omega (arith, is.deeper, c.decreases), (is.application, c.requires.known))

pub apply-requires-then-arity-eq2 : goal.apply-requires-then-arity-eq2
apply-requires-then-arity-eq2 t c =
    let is = second_call c.decided.ensures.valid c.requires.application c.in_default.ensures.none c.first_variable-variable.ensures (sym c.arity.ensures ∙ c.if-arity-eq2.true) c.apply.ensures.grows c.applications.result.1 c.applications.ensures.second in
    (omega (arith, is.deeper, c.decreases), (is.application, c.apply.ensures.known))

-- what was made with both options
module _ (t : ℕ) (c : In_ok-second t) where
  grows : Grows c.args.table.now c.apply-then-arity-eq2.new.table
  grows = Grows-trans c.apply.ensures.grows c.apply-then-arity-eq2.ensures.grows

  two : slice_index c.args.table.now.arities c.first_variable-variable.result ≡ 2
  two = sym c.arity.ensures ∙ c.if-arity-eq2.true

  each : AppliesEach c.apply-then-arity-eq2.new.table c.args.what c.first_variable-variable.result (c.in_ok-first.first ∷ c.in_ok-second.second ∷ [])
  each = each-both c.decided.ensures.valid c.requires.application c.in_default.ensures.none c.first_variable-variable.ensures two c.apply.ensures.grows c.apply-then-arity-eq2.ensures.grows
      c.applications.result.0 c.applications.result.1 c.applications.ensures.first c.applications.ensures.second c.in_ok-first.ensures.applies c.in_ok-second.ensures.applies

  adds : AddsBelow c.args.table.now c.apply-then-arity-eq2.new.table (c.in_ok-first.first ∷ c.in_ok-second.second ∷ [])
  adds = adds-both c.decided.ensures.valid c.requires.application c.in_default.ensures.none c.first_variable-variable.ensures two c.apply.ensures.grows c.apply-then-arity-eq2.ensures.grows
      c.applications.result.0 c.applications.result.1 c.applications.ensures.first c.applications.ensures.second c.in_ok-first.ensures.applies c.in_ok-second.ensures.applies c.in_ok-first.ensures.adds c.in_ok-second.ensures.adds

  full : 2 ≡ slice_index c.apply-then-arity-eq2.new.table.arities c.first_variable-variable.result
  full = full-both c.decided.ensures.valid c.requires.application c.in_default.ensures.none c.first_variable-variable.ensures two c.apply.ensures.grows c.apply-then-arity-eq2.ensures.grows

pub choice-requires-clause-later : goal.choice-requires-clause-later
choice-requires-clause-later t c = later_tops c.requires.application c.in_default.ensures.none c.first_variable-variable.ensures (grows t (goal.at.choice-requires-clause-later t c).In_ok-second) (each t (goal.at.choice-requires-clause-later t c).In_ok-second) (full t (goal.at.choice-requires-clause-later t c).In_ok-second)

pub returns-in_err-node-clause-known : goal.returns-in_err-node-clause-known
returns-in_err-node-clause-known t c = IsKnown-Grows c.choice.ensures.grows c.apply-then-arity-eq2.ensures.known

pub returns-then-arity-eq2-clause-applies : goal.returns-then-arity-eq2-clause-applies
returns-then-arity-eq2-clause-applies t c =
    let made = c.in_ok-node.ensures in
    Applies-results c.requires.application c.in_default.ensures.none c.first_variable-variable.ensures (grows t (goal.at.returns-then-arity-eq2-clause-applies t c).In_ok-second) c.in_ok-node.node made.grows (each t (goal.at.returns-then-arity-eq2-clause-applies t c).In_ok-second) (full t (goal.at.returns-then-arity-eq2-clause-applies t c).In_ok-second) made.own made.choice

pub returns-then-arity-eq2-clause-adds : goal.returns-then-arity-eq2-clause-adds
returns-then-arity-eq2-clause-adds t c =
    let made = c.in_ok-node.ensures in
    let tops = own_tops c.requires.application c.in_default.ensures.none c.first_variable-variable.ensures (grows t (goal.at.returns-then-arity-eq2-clause-adds t c).In_ok-second) (each t (goal.at.returns-then-arity-eq2-clause-adds t c).In_ok-second) in
    AddsOnly-IsChoice made.grows tops (adds t (goal.at.returns-then-arity-eq2-clause-adds t c).In_ok-second) made.choice made.adds

pub returns-then-arity-eq2-clause-known : goal.returns-then-arity-eq2-clause-known
returns-then-arity-eq2-clause-known t c = IsKnown-Adds c.add.ensures (IsKnown-Grows c.in_ok-node.ensures.grows c.apply-then-arity-eq2.ensures.known) (returns-then-arity-eq2-clause-applies t c)

pub apply-requires-in-loop-option : goal.apply-requires-in-loop-option
apply-requires-in-loop-option t c =
    let v = c.first_variable-variable.result in
    let grows = c.loop-option.invariant.grows in
    let in_range : c.loop-option.option < slice_index c.loop-option.table.arities v = omega (arith, c.loop-option-test.true, c.arity-option-end.ensures, ap (λ ns. slice_index ns v) grows.arities) in
    let is = call_is c.requires.application c.in_default.ensures.none c.first_variable-variable.ensures grows c.application_at.result c.loop-option.option in_range c.application_at.ensures in
    (omega (arith, is.deeper, c.decreases), (is.application, c.loop-option.invariant.known))

pub loop-option-preserved : goal.loop-option-preserved
loop-option-preserved t c =
    let i = c.loop-option.invariant in
    let now = c.in_ok-child.ensures in
    let tops = own_tops c.requires.application c.in_default.ensures.none c.first_variable-variable.ensures i.grows i.each in
    let each = AppliesEach-more c.requires.application c.in_default.ensures.none c.first_variable-variable.ensures i.grows c.application_at.result now.grows i.each (rw i.full c.application_at.ensures) now.applies in
    record {
      grows = Grows-trans i.grows now.grows;
      known = now.known;
      full = omega (arith, ap length c.in_ok-push.ensures.ok, length_push c.loop-option.children.items c.in_ok-child.child, i.full);
      each = rw c.in_ok-push.ensures.ok each;
      adds = rw c.in_ok-push.ensures.ok (AddsBelow-push now.grows tops i.adds now.adds);
    }

pub choice-requires-2-clause-later : goal.choice-requires-2-clause-later
choice-requires-2-clause-later t c =
    let full : length c.loop-option.children.items ≡ slice_index c.loop-option.table.arities c.first_variable-variable.result = omega (arith, c.loop-option.invariant.full, c.loop-option-test.false, c.loop-option.auto.option-end, c.arity-option-end.ensures, ap (λ ns. slice_index ns c.first_variable-variable.result) c.loop-option.invariant.grows.arities) in
    rw c.as_slice.ensures (later_tops c.requires.application c.in_default.ensures.none c.first_variable-variable.ensures c.loop-option.invariant.grows c.loop-option.invariant.each full)

pub returns-in_err-result-clause-known : goal.returns-in_err-result-clause-known
returns-in_err-result-clause-known t c = IsKnown-Grows c.in_err-result.ensures.grows c.loop-option.invariant.known

pub returns-clause-applies : goal.returns-clause-applies
returns-clause-applies t c =
    let made = c.in_ok-result.ensures in
    let full : length c.loop-option.children.items ≡ slice_index c.loop-option.table.arities c.first_variable-variable.result = omega (arith, c.loop-option.invariant.full, c.loop-option-test.false, c.loop-option.auto.option-end, c.arity-option-end.ensures, ap (λ ns. slice_index ns c.first_variable-variable.result) c.loop-option.invariant.grows.arities) in
    Applies-results c.requires.application c.in_default.ensures.none c.first_variable-variable.ensures c.loop-option.invariant.grows c.in_ok-result.result made.grows c.loop-option.invariant.each full made.own (rw c.as_slice.ensures at made.choice)

pub returns-clause-adds : goal.returns-clause-adds
returns-clause-adds t c =
    let made = c.in_ok-result.ensures in
    let tops = own_tops c.requires.application c.in_default.ensures.none c.first_variable-variable.ensures c.loop-option.invariant.grows c.loop-option.invariant.each in
    AddsOnly-IsChoice made.grows tops c.loop-option.invariant.adds (rw c.as_slice.ensures at made.choice) made.adds

pub returns-clause-known : goal.returns-clause-known
returns-clause-known t c = IsKnown-Adds c.add-2.ensures (IsKnown-Grows c.in_ok-result.ensures.grows c.loop-option.invariant.known) (returns-clause-applies t c)
