use Rattle.std.proofs.Common.{◌≡◌, ◌<◌, ◌+◌, ◌++◌, ◌∷◌, [], ℕ, List, Option, length, map, get_or, take, ap, ◌∙◌, sym, arith}
use Rattle.std.proofs.lemmas.List.{map_more}
use Rattle.lr_tables.specs.declared.grammar.Grammar.{Grammar}
use Rattle.sc_lalr.specs.Propagation.{behind_of}
use Rattle.sc_lalr.proofs.lookahead.behind.Goals as goal

more : (g : Grammar) (sources : List ℕ) (now new : List (Option ℕ)) (k : ℕ) (o : Option ℕ) → k < length sources → now ≡ map (behind_of g) (take k sources) → o ≡ behind_of g (get_or sources k 0) → new ≡ now ++ o ∷ [] → new ≡ map (behind_of g) (take (k + 1) sources)
more g sources now new k o h e f n = n ∙ ap (λ zs. zs ++ o ∷ []) e ∙ ap (λ q. map (behind_of g) (take k sources) ++ q ∷ []) f ∙ sym (map_more (behind_of g) sources k 0 h)

pub nonzero_rem-source : goal.nonzero_rem-source
nonzero_rem-source c = omega (arith, c.requires.within c.loop-source.source-index 0 c.loop-source-test.true)

pub loop-source-preserved : goal.loop-source-preserved
loop-source-preserved c = more c.args.grammar.now c.args.sources.now c.loop-source.symbols.items c.push.new.self.items c.loop-source.source-index c.after.result c.loop-source-test.true c.loop-source.invariant c.after.ensures.symbol c.in_ok-push.ensures.items
