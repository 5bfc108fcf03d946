use Rattle.std.proofs.Common.{rules, All, Some, slice_get, get_or, slice_index, Vec, List, [], refl, ◌≡◌, ◌<◌, ◌++◌, ◌∷◌, ℕ, length, subst, sym, ◌∙◌, arith}
use Rattle.std.specs.List.{Contains}
use Rattle.std.specs.declared.alloc.Global.{Global}
use Rattle.std.proofs.lemmas.List.{nil_from_length, get_or_default}
use Rattle.std.proofs.lemmas.List.Elements.{All-contains, Contains-get_or, Contains-push}
use Rattle.std.proofs.lemmas.Option.{slice_get_read}
use Rattle.sc_items.specs.Reach.{EdgesWithin}
use Rattle.sc_lalr.proofs.Spreading.{Spreading, Spreading-begin, Spreading-step, IsSpread-done}
use Rattle.sc_lalr.proofs.spread.spread.Goals as goal

-- a node that waits is one of the graph
waits_within : (edges : List (Vec ℕ Global)) (old words waiting rest : List ℕ) (node : ℕ) → Spreading edges old words waiting → waiting ≡ rest ++ node ∷ [] → node < length edges
waits_within edges old words waiting rest node h e = h.within node (rw e (Contains-push rest node))

pub loop-node-init : goal.loop-node-init
loop-node-init c = Spreading-begin c.args.edges.now c.args.words.now.items c.in_ok-waiting.waiting.items c.in_ok-waiting.ensures

-- the row of a node leads to nodes of the graph
row_fits : (edges : List (Vec ℕ Global)) (node : ℕ) (row : Vec ℕ Global) → EdgesWithin edges → node < length edges → row ≡ get_or edges node row → (v : ℕ) → Contains row.items v → v < length edges
row_fits edges node row h node_in e v w = All-contains (λ x. x < length edges) row.items v (subst (λ (r : Vec ℕ Global). All (λ x. x < length edges) r.items) (sym e) (h.within node row node_in)) w

row_at : (edges : List (Vec ℕ Global)) (node : ℕ) (row : Vec ℕ Global) → node < length edges → row ≡ get_or edges node row → slice_get edges node ≡ Some row
row_at edges node row h e = slice_get_read edges (length edges) node row refl h e

pub index-word-requires : goal.index-word-requires
index-word-requires c = omega (arith, waits_within c.args.edges.now c.args.words.now.items c.loop-node.words.items c.loop-node.waiting.items c.pop.new.self.items c.in-Some.node c.loop-node.invariant c.in-Some.ensures.items, c.loop-node.invariant.long, c.requires.long, c.loop-node.words.ok.0)

pub bounds-edges-node : goal.bounds-edges-node
bounds-edges-node c = waits_within c.args.edges.now c.args.words.now.items c.loop-node.words.items c.loop-node.waiting.items c.pop.new.self.items c.in-Some.node c.loop-node.invariant c.in-Some.ensures.items

pub offset_bounds-edges-node : goal.offset_bounds-edges-node
offset_bounds-edges-node c =
    let within : c.in-Some.node < length c.args.edges.now = waits_within c.args.edges.now c.args.words.now.items c.loop-node.words.items c.loop-node.waiting.items c.pop.new.self.items c.in-Some.node c.loop-node.invariant c.in-Some.ensures.items in
    search rules

pub pass-requires : goal.pass-requires
pass-requires c = λ k d h.
    let node_in = waits_within c.args.edges.now c.args.words.now.items c.loop-node.words.items c.loop-node.waiting.items c.pop.new.self.items c.in-Some.node c.loop-node.invariant c.in-Some.ensures.items in
    let there = row_fits c.args.edges.now c.in-Some.node c.index-edges-node.result c.requires.edges node_in c.index-edges-node.is (get_or c.deref.result.now k d) (subst (λ zs. Contains zs (get_or c.deref.result.now k d)) c.deref.ensures.value (Contains-get_or c.deref.result.now k d h)) in
    omega (arith, there, c.loop-node.invariant.long, c.requires.long, c.loop-node.words.ok.0)

pub loop-node-preserved : goal.loop-node-preserved
loop-node-preserved c =
    let edges = c.args.edges.now in
    let node = c.in-Some.node in
    let words = c.loop-node.words.items in
    let node_in = waits_within edges c.args.words.now.items words c.loop-node.waiting.items c.pop.new.self.items node c.loop-node.invariant c.in-Some.ensures.items in
    let word : c.index-word.result.now ≡ slice_index words node = c.index-word.ensures ∙ get_or_default words node c.index-word.result.now 0 (omega (arith, node_in, c.loop-node.invariant.long, c.requires.long)) in
    Spreading-step edges c.args.words.now.items words c.pass.new.words.items c.pop.new.self.items c.pass.new.waiting.items node c.index-edges-node.result
    (subst (Spreading edges c.args.words.now.items words) c.in-Some.ensures.items c.loop-node.invariant)
    (row_at edges node c.index-edges-node.result node_in c.index-edges-node.is)
    (row_fits edges node c.index-edges-node.result c.requires.edges node_in c.index-edges-node.is)
    (rw (sym word, sym c.deref.ensures.value) c.in_ok-pass.ensures)

pub returns : goal.returns
returns c =
    let none : c.loop-node.waiting.items ≡ [] = nil_from_length c.loop-node.waiting.items (sym c.loop-node.waiting.ok.0 ∙ c.in_default.ensures.cases.0) in
    IsSpread-done c.args.edges.now c.args.words.now.items c.loop-node.words.items (subst (Spreading c.args.edges.now c.args.words.now.items c.loop-node.words.items) none c.loop-node.invariant)
