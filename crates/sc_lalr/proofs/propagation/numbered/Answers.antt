use Rattle.std.proofs.Common.{◌≡◌, ◌+◌, ◌<◌, ◌++◌, ◌∷◌, [], ℕ, List, take, get_or, slice_index, length, ap, ◌∙◌, sym}
use Rattle.std.proofs.lemmas.List.{map_more, append_assoc}
use Rattle.sc_lalr.specs.Propagation.{numbers_at}
use Rattle.sc_lalr.proofs.propagation.numbered.Goals as goal

more : (old now new items numbers : List ℕ) (base k : ℕ) → k < length items → now ≡ old ++ numbers_at numbers base (take k items) → new ≡ now ++ slice_index numbers (base + get_or items k 0) ∷ [] → new ≡ old ++ numbers_at numbers base (take (k + 1) items)
more old now new items numbers base k h e f = f ∙ ap (λ zs. zs ++ slice_index numbers (base + get_or items k 0) ∷ []) e ∙ append_assoc old (numbers_at numbers base (take k items)) (slice_index numbers (base + get_or items k 0) ∷ []) ∙ ap (λ zs. old ++ zs) (sym (map_more (λ j. slice_index numbers (base + j)) items k 0 h))

pub loop-item-preserved : goal.loop-item-preserved
loop-item-preserved c = more c.args.nodes.now.items c.loop-item.nodes.items c.push.new.self.items c.args.items.now c.args.numbers.now c.args.base c.loop-item.item-index c.loop-item-test.true c.loop-item.invariant c.in_ok-push.ensures.items
