use Rattle.std.proofs.Common.{◌≡◌, ◌↔◌, ◌<◌, ◌*◌, ◌+◌, ◌/◌, ◌%◌, map, ℕ, List, length, get_or, ap, ◌∙◌, sym, arith, subst}
use Rattle.std.specs.List.{Contains}
use Rattle.std.proofs.lemmas.List.Elements.{Contains-get_or}
use Rattle.std.proofs.lemmas.Nat.{mod_below}
use Rattle.lr_tables.specs.Tables.{First}
use Rattle.lr_tables.specs.declared.grammar.Grammar.{Grammar}
use Rattle.sc_items.specs.Kernel.{IsOpened}
use Rattle.sc_items.specs.States.{kernels_of}
use Rattle.sc_lalr.specs.First.{IsLeading}
use Rattle.sc_lalr.specs.Marks.{HasMark}
use Rattle.sc_lalr.specs.Propagation.{AreSources, IsPropagation, behind_of}
use Rattle.sc_lalr.proofs.Looking.{AreLookaheadsBelow-push, lookahead_exact, seed_fits, source_fits}
use Rattle.sc_lalr.proofs.lookahead.lookaheads.Goals as goal

-- each source is the place of an item
within_of : (g : Grammar) (states : List (List ℕ)) (sources view : List ℕ) → AreSources g states sources → view ≡ sources → (k d : ℕ) → k < length view → get_or view k d % length g.entries.now < length g.entries.now
within_of g states sources view h e k d k_in = mod_below (get_or view k d) (length g.entries.now) (source_fits g states (get_or view k d) (h.sound (get_or view k d) (subst (λ zs. Contains zs (get_or view k d)) e (Contains-get_or view k d k_in)))).positive

pub behind-requires-clause-within : goal.behind-requires-clause-within
behind-requires-clause-within c = within_of c.args.grammar.now (kernels_of c.args.states.now) c.in_ok-sources.sources.items c.deref.result.now (c.in_ok-sources.ensures (kernels_of c.args.states.now) c.requires.nodes) c.deref.ensures.value

pub spontaneous-requires-clause-behind : goal.spontaneous-requires-clause-behind
spontaneous-requires-clause-behind c = c.deref-in-loop-block-4.ensures.value ∙ c.in_ok-behind.ensures ∙ ap (map (behind_of c.args.grammar.now)) (c.deref.ensures.value ∙ sym c.deref-in-loop-block-3.ensures.value)

pub spontaneous-requires-clause-fits : goal.spontaneous-requires-clause-fits
spontaneous-requires-clause-fits c = λ k d h.
    let g = c.args.grammar.now in
    let states = kernels_of c.args.states.now in
    let p = get_or c.deref-in-loop-block-3.result.now k d in
    let there = subst (λ zs. Contains zs p) c.deref-in-loop-block-3.ensures.value (Contains-get_or c.deref-in-loop-block-3.result.now k d h) in
    seed_fits g states c.args.nodes.now c.deref-in-loop-block-2.result.now p c.requires.nodes (subst (IsOpened g) (sym c.deref-in-loop-block-2.ensures.value) c.in_ok-opened.ensures.rows) ((c.in_ok-sources.ensures states c.requires.nodes).sound p there)

pub spontaneous-requires-clause-first : goal.spontaneous-requires-clause-first
spontaneous-requires-clause-first c = ap length c.deref-in-loop-block-5.ensures.value ∙ c.in_ok-first.ensures.len ∙ ap length c.deref-in-loop-block.ensures.value ∙ c.in_ok-leading.ensures.leading.long

pub spread-requires-clause-long : goal.spread-requires-clause-long
spread-requires-clause-long c = c.in_ok-words.ensures.len ∙ sym (ap length c.deref-in-loop-block-6.ensures.value ∙ c.in_ok-edges.ensures.rows.long)

pub loop-block-preserved : goal.loop-block-preserved
loop-block-preserved c =
    let g = c.args.grammar.now in
    let states = kernels_of c.args.states.now in
    let nodes = c.args.nodes.now in
    let n = c.loop-block.block in
    let leading : IsLeading g c.deref-in-loop-block.result.now = subst (IsLeading g) (sym c.deref-in-loop-block.ensures.value) c.in_ok-leading.ensures.leading in
    let first : (b x : ℕ) → b < 64 → n * 64 + b < g.terminals → HasMark c.deref-in-loop-block-5.result.now b x ↔ First g (n * 64 + b) x = λ b x b_in t_in.
    subst (λ zs. HasMark zs b x ↔ First g (n * 64 + b) x) (sym c.deref-in-loop-block-5.ensures.value) (c.in_ok-first.ensures.exact g b x leading b_in (omega (arith, t_in, leading.long))) in
    rw c.in_ok-push.ensures.items (AreLookaheadsBelow-push g states nodes n c.loop-block.rows.items c.spread.new.words c.loop-block.invariant (c.in_ok-spread.ensures.long ∙ c.in_ok-words.ensures.len) (λ b u s i b_in t_in.
    lookahead_exact g states nodes (n * 64 + b) b c.deref-in-loop-block-2.result.now c.deref-in-loop-block-6.result.now c.deref-in-loop-block-5.result.now c.in_ok-words.words.items c.spread.new.words.items c.deref-in-loop-block-3.result.now
    c.requires.nodes (subst (IsOpened g) (sym c.deref-in-loop-block-2.ensures.value) c.in_ok-opened.ensures.rows)
    (subst (IsPropagation g states nodes) (sym c.deref-in-loop-block-6.ensures.value) c.in_ok-edges.ensures.rows) (λ x. first b x b_in t_in)
    (subst (AreSources g states) (sym c.deref-in-loop-block-3.ensures.value) (c.in_ok-sources.ensures states c.requires.nodes)) (c.in_ok-words.ensures.seeds b) c.in_ok-spread.ensures u s i))

pub returns : goal.returns
returns c =
    let h = c.loop-block.invariant in
    let e : c.loop-block.block ≡ c.args.grammar.now.terminals / 64 + 1 = omega arith in
    record { long = h.long ∙ e; each = h.each; exact = h.exact }

pub sources-requires-clause-nodes : goal.sources-requires-clause-nodes
sources-requires-clause-nodes c = record { states = kernels_of c.args.states.now; are = c.requires.nodes }
