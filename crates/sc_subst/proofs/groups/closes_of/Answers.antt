use Rattle.std.proofs.Common.{◌≡◌, ◌∙◌, ◌+◌, ◌-◌, ◌<◌, [], ◌∷◌, arith, length, length-set, reverse, sym, ap, subst}
use Rattle.std.proofs.lemmas.List.{reverse-append}
use Rattle.sc_subst.specs.Groups.{IsGroup, has_spelling}
use Rattle.sc_subst.proofs.GroupLemmas.{IsStack, stack_at_end, stack_popped, stack_pushed, stack_kept, group_found, written_known, zeros_hold_nothing}
use Rattle.sc_subst.proofs.groups.closes_of.Goals as goal

pub loop-index-init : goal.loop-index-init
loop-index-init c =
    let list = c.args.tokens.now in
    let opens = has_spelling c.args.opening.0 in
    let closes = has_spelling c.args.closing.0 in
    record {
      len = c.in_ok-closes.ensures.len;
      known = λ k v at some. absurd (zeros_hold_nothing c.in_ok-closes.closes.items c.in_ok-closes.ensures.zeros k v at some);
      waiting = subst (λ items. IsStack opens closes list (length list) (reverse items)) (sym c.new-closing_ones.ensures.items)
          (stack_at_end opens closes list (length list) (omega arith));
    }

pub loop-index-preserved : goal.loop-index-preserved
loop-index-preserved c =
    let list = c.args.tokens.now in
    let opens = has_spelling c.args.opening.0 in
    let closes = has_spelling c.args.closing.0 in
    let stack = reverse c.loop-index.closing_ones.items in
    let i = c.loop-index.index - 1 in
    let within : i < length list = omega (arith, c.loop-index-test.true, c.loop-index.auto.index) in
    let next : c.loop-index.index ≡ i + 1 = omega (arith, c.loop-index-test.true) in
    let was : IsStack opens closes list (i + 1) stack = subst (λ k. IsStack opens closes list k stack) next c.loop-index.invariant.waiting in
    record {
      len = c.loop-index.invariant.len;
      known = c.loop-index.invariant.known;
      waiting = stack_kept opens closes list i _ within stack (sym c.eq.ensures ∙ c.if-eq.false) (sym c.eq-else-eq.ensures ∙ c.if-eq-2.false) was;
    }

pub loop-index-preserved-in-Some : goal.loop-index-preserved-in-Some
loop-index-preserved-in-Some c =
    let list = c.args.tokens.now in
    let opens = has_spelling c.args.opening.0 in
    let closes = has_spelling c.args.closing.0 in
    let i = c.loop-index.index - 1 in
    let j = c.in-Some.close in
    let ones = c.pop.new.self.items in
    let within : i < length list = omega (arith, c.loop-index-test.true, c.loop-index.auto.index) in
    let next : c.loop-index.index ≡ i + 1 = omega (arith, c.loop-index-test.true) in
    let stack : reverse c.loop-index.closing_ones.items ≡ j ∷ reverse ones = ap reverse c.in-Some.ensures.items ∙ reverse-append ones (j ∷ []) in
    let was : IsStack opens closes list (i + 1) (j ∷ reverse ones) = subst (IsStack opens closes list (i + 1)) stack
    (subst (λ k. IsStack opens closes list k (reverse c.loop-index.closing_ones.items)) next c.loop-index.invariant.waiting) in
    record {
      len = length-set c.loop-index.closes.items i j ∙ c.loop-index.invariant.len;
      known = written_known (λ k v. 0 < v → IsGroup opens closes list k v) c.loop-index.closes.items i j c.loop-index.invariant.known
          (λ some. group_found opens closes list i _ within j (reverse ones) (sym c.eq.ensures ∙ c.if-eq.true) was);
      waiting = stack_popped opens closes list i _ within j (reverse ones) (sym c.eq.ensures ∙ c.if-eq.true) was;
    }

pub loop-index-preserved-in-Continue-branch-2 : goal.loop-index-preserved-in-Continue-branch-2
loop-index-preserved-in-Continue-branch-2 c =
    let list = c.args.tokens.now in
    let opens = has_spelling c.args.opening.0 in
    let closes = has_spelling c.args.closing.0 in
    let i = c.loop-index.index - 1 in
    let ones = c.loop-index.closing_ones.items in
    let within : i < length list = omega (arith, c.loop-index-test.true, c.loop-index.auto.index) in
    let next : c.loop-index.index ≡ i + 1 = omega (arith, c.loop-index-test.true) in
    let was : IsStack opens closes list (i + 1) (reverse ones) = subst (λ k. IsStack opens closes list k (reverse ones)) next c.loop-index.invariant.waiting in
    let stack : i ∷ reverse ones ≡ reverse c.push.new.self.items = sym (ap reverse c.in_ok-push.ensures.items ∙ reverse-append ones (i ∷ [])) in
    record {
      len = c.loop-index.invariant.len;
      known = c.loop-index.invariant.known;
      waiting = subst (IsStack opens closes list i) stack
          (stack_pushed opens closes list i _ within (reverse ones) (sym c.eq.ensures ∙ c.if-eq.false) (sym c.eq-else-eq.ensures ∙ c.if-eq-2.true) was);
    }
