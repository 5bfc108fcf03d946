use Rattle.std.proofs.Common.{◌≡◌, ◌<◌, ◌+◌, ◌++◌, ◌∷◌, [], ℕ, List, length, map, get_or, take, ap, ◌∙◌, sym}
use Rattle.std.proofs.lemmas.List.{map_more}
use Rattle.lr_tables.specs.Grammar.{production_at}
use Rattle.lr_tables.specs.declared.grammar.Grammar.{Grammar}
use Rattle.sc_lalr.proofs.reduction.produced.Goals as goal

more : (g : Grammar) (items now new : List ℕ) (k p : ℕ) → k < length items → now ≡ map (production_at g) (take k items) → p ≡ production_at g (get_or items k 0) → new ≡ now ++ p ∷ [] → new ≡ map (production_at g) (take (k + 1) items)
more g items now new k p h e f n = n ∙ ap (λ zs. zs ++ p ∷ []) e ∙ ap (λ q. map (production_at g) (take k items) ++ q ∷ []) f ∙ sym (map_more (production_at g) items k 0 h)

pub loop-item-preserved : goal.loop-item-preserved
loop-item-preserved c = more c.args.grammar.now c.args.items.now c.loop-item.produced.items c.push.new.self.items c.loop-item.item-index c.production_at.result c.loop-item-test.true c.loop-item.invariant c.production_at.ensures c.in_ok-push.ensures.items
