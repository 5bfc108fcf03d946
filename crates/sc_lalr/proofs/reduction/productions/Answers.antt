use Rattle.std.proofs.Common.{◌≤◌, ◌+◌, ℕ, List, get_or, slice_index, length, take, ◌∙◌, sym, subst}
use Rattle.std.proofs.lemmas.List.{take_all}
use Rattle.std.proofs.lemmas.Nat.Bits.{shr_and_one}
use Rattle.lr_tables.specs.declared.grammar.Grammar.{Grammar}
use Rattle.sc_lalr.proofs.Reducing.{MarkedSoFar, MarkedSoFar-none, MarkedSoFar-left, MarkedSoFar-next}
use Rattle.sc_lalr.proofs.reduction.productions.Goals as goal
use Rattle.sc_lalr.proofs.reduction.productions.Goals.{then-words-numbers-eq1+in_ok-push, else-words-numbers-eq1}

all_marked : (g : Grammar) (words : List ℕ) (b : ℕ) (numbers : List ℕ) (base k : ℕ) (items found : List ℕ) → length items ≤ k → MarkedSoFar g words b numbers base (take k items) found → MarkedSoFar g words b numbers base items found
all_marked g words b numbers base k items found h m = subst (λ xs. MarkedSoFar g words b numbers base xs found) (take_all k items h) m

pub loop-index-init : goal.loop-index-init
loop-index-init c = λ g ends. rw c.new-found.ensures.items (MarkedSoFar-none g c.args.words.now c.args.mark c.args.numbers.now c.args.base)

pub loop-index-preserved : goal.loop-index-preserved
loop-index-preserved c = λ g ends.
    let k = c.loop-index.index in
    let items = c.args.items.now in
    let h = c.loop-index.invariant g ends in
    elim c.if-words-numbers-eq1.branch [
      | then-words-numbers-eq1+in_ok-push w ↦ rw (w.found-is, w.in_ok-push.ensures.items) (MarkedSoFar-next g c.args.words.now c.args.mark c.args.numbers.now c.args.base k items c.args.produced.now _ ends c.loop-index-test.true h (sym (shr_and_one (slice_index c.args.words.now (slice_index c.args.numbers.now (c.args.base + get_or items k 0))) c.args.mark) ∙ w.if-words-numbers-eq1.true))
      | else-words-numbers-eq1 w ↦ rw (w.found-is) (MarkedSoFar-left g c.args.words.now c.args.mark c.args.numbers.now c.args.base k items _ c.loop-index-test.true h (λ m. w.if-words-numbers-eq1.false (shr_and_one (slice_index c.args.words.now (slice_index c.args.numbers.now (c.args.base + get_or items k 0))) c.args.mark ∙ m)))
    ]

pub returns-clause-rising : goal.returns-clause-rising
returns-clause-rising c = λ g ends. (all_marked g c.args.words.now c.args.mark c.args.numbers.now c.args.base c.loop-index.index c.args.items.now c.loop-index.found.items c.loop-index-test.false (c.loop-index.invariant g ends)).rising

pub returns-clause-exact : goal.returns-clause-exact
returns-clause-exact c = λ g ends p.
    let m = all_marked g c.args.words.now c.args.mark c.args.numbers.now c.args.base c.loop-index.index c.args.items.now c.loop-index.found.items c.loop-index-test.false (c.loop-index.invariant g ends) in (
      λ w. let o = m.collected.sound p w in record { item = o.0; within = o.1; has_mark = o.2.0; production = o.2.1 },
      λ o. m.collected.complete o.item p o.within (o.has_mark, o.production),
    )
