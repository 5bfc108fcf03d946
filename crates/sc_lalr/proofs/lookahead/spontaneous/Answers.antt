use Rattle.std.proofs.Common.{◌≡◌, ◌↔◌, ◌<◌, ℕ, List, Option, Some, None, length, map, get_or, replicate, subst, ap, ◌∙◌, refl, rules, sym, arith}
use Rattle.std.proofs.lemmas.List.{get_or-map, length-replicate, take_all}
use Rattle.lr_tables.specs.declared.grammar.Grammar.{Grammar}
use Rattle.sc_items.proofs.Exploring.{after_small}
use Rattle.sc_lalr.specs.Propagation.{Seeds, behind_of}
use Rattle.sc_lalr.specs.Marks.{HasMark}
use Rattle.sc_lalr.proofs.Looking.{Seeds-none, Seeds-left, Seeds-more}
use Rattle.sc_lalr.proofs.lookahead.spontaneous.Goals as goal
use Rattle.sc_lalr.proofs.lookahead.spontaneous.Goals.{in-Some, in-None}

-- what was taken once is what stands behind
behind_at : (g : Grammar) (sources : List ℕ) (behind : List (Option ℕ)) (k : ℕ) (o : Option ℕ) → behind ≡ map (behind_of g) sources → k < length sources → get_or behind k None ≡ o → behind_of g (get_or sources k 0) ≡ o
behind_at g sources behind k o e h is = sym (get_or-map (behind_of g) sources k 0 None h) ∙ ap (λ zs. get_or zs k None) (sym e) ∙ is

pub loop-index-init : goal.loop-index-init
loop-index-init c =
    let words : c.in_ok-words.words.items ≡ replicate (length c.args.nodes.now.places.items) 0 = c.in_ok-words.ensures.items_if_clones_equal (λ y e. e) ∙ ap (λ n. replicate n 0) (c.len.ensures ∙ c.args.nodes.now.places.ok.0) in
    rw words (length-replicate {A = ℕ} (length c.args.nodes.now.places.items) 0, Seeds-none c.args.grammar.now c.args.nodes.now c.args.opened.now c.args.first.now (length c.args.nodes.now.places.items))

pub bounds-first-next : goal.bounds-first-next
bounds-first-next c = omega (arith, c.requires.first, after_small c.args.grammar.now _ c.in-Some.next c.requires.grammar (behind_at c.args.grammar.now c.args.sources.now c.args.behind.now c.loop-index.index (Some c.in-Some.next) c.requires.behind c.loop-index-test.true c.in-Some.is))

pub offset_bounds-first-next : goal.offset_bounds-first-next
offset_bounds-first-next c =
    let within : c.in-Some.next < length c.args.first.now = omega (arith, c.requires.first, after_small c.args.grammar.now _ c.in-Some.next c.requires.grammar (behind_at c.args.grammar.now c.args.sources.now c.args.behind.now c.loop-index.index (Some c.in-Some.next) c.requires.behind c.loop-index-test.true c.in-Some.is)) in
    search rules

pub seed-requires-clause-fits : goal.seed-requires-clause-fits
seed-requires-clause-fits c = c.requires.fits c.loop-index.index 0 c.loop-index-test.true

pub loop-index-preserved : goal.loop-index-preserved
loop-index-preserved c =
    let g = c.args.grammar.now in
    let nodes = c.args.nodes.now in
    let opened = c.args.opened.now in
    let first = c.args.first.now in
    let k = c.loop-index.index in
    let sources = c.args.sources.now in
    let h = c.loop-index.invariant in
    let behind : (o : Option ℕ) → get_or c.args.behind.now k None ≡ o → behind_of g (get_or sources k 0) ≡ o = λ o is. behind_at g sources c.args.behind.now k o c.requires.behind c.loop-index-test.true is in
    elim c.match-behind-index.branch [
      | in-None w ↦ rw (ap (λ v. v.items) w.words-is) (h.0, Seeds-left g nodes opened first sources c.loop-index.words.items k c.loop-index-test.true (behind None w.in-None.is) h.1)
      | in-Some w ↦ rw (ap (λ v. v.items) w.words-is) (w.seed.ensures.long ∙ h.0, Seeds-more g nodes opened first sources c.loop-index.words.items _ k w.in-Some.next _ c.loop-index-test.true (behind (Some w.in-Some.next) w.in-Some.is) refl w.seed.ensures h.1)
    ]

pub returns-clause-seeds : goal.returns-clause-seeds
returns-clause-seeds c = λ b v. subst (λ zs. HasMark c.loop-index.words.items b v ↔ Seeds c.args.grammar.now c.args.nodes.now c.args.opened.now c.args.first.now zs b v) (take_all c.loop-index.index c.args.sources.now c.loop-index-test.false) (c.loop-index.invariant.1 b v)
