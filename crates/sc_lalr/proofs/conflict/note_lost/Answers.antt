use Rattle.std.proofs.Common.{◌≡◌, ◌+◌, ◌<◌, ◌++◌, ◌∷◌, [], ℕ, List, map, take, get_or, length, ap, ◌∙◌, sym}
use Rattle.std.proofs.lemmas.List.{map_more, append_assoc}
use Rattle.lr_tables.specs.declared.grammar.Conflict.{Conflict}
use Rattle.sc_lalr.specs.Tables.{conflict_at}
use Rattle.sc_lalr.proofs.conflict.note_lost.Goals as goal

more : (f : ℕ → Conflict) (old now new : List Conflict) (items : List ℕ) (k : ℕ) → k < length items → now ≡ old ++ map f (take k items) → new ≡ now ++ f (get_or items k 0) ∷ [] → new ≡ old ++ map f (take (k + 1) items)
more f old now new items k h e p = p ∙ ap (λ zs. zs ++ f (get_or items k 0) ∷ []) e ∙ append_assoc old (map f (take k items)) (f (get_or items k 0) ∷ []) ∙ ap (λ zs. old ++ zs) (sym (map_more f items k 0 h))

pub loop-production-preserved : goal.loop-production-preserved
loop-production-preserved c = more (conflict_at c.args.state c.args.terminal.0 c.args.kept) c.args.conflicts.now.items c.loop-production.conflicts.items c.push.new.self.items c.args.lost.now c.loop-production.production-index c.loop-production-test.true c.loop-production.invariant c.in_ok-push.ensures.items
