use Rattle.std.specs.declared.alloc.Global.{Global}
use Rattle.std.proofs.lemmas.Option.{slice_get_read}
use Rattle.std.proofs.lemmas.List.{nil_from_length}
use Rattle.sc_items.specs.Reach.{EdgesWithin, Marks}
use Rattle.std.proofs.Common.{rules, vec_len, slice_get, get_or, All, Vec, List, Some, refl, ◌≡◌, ◌<◌, [], ℕ, length, subst, sym, ◌∙◌}
use Rattle.sc_items.proofs.Reaching.{Progress, Progress-begin, Progress-step, Progress-within, IsReached-done}
use Rattle.sc_items.proofs.reach.reachable.Goals as goal

pub loop-node-init : goal.loop-node-init
loop-node-init c = Progress-begin c.args.edges.now c.args.starts.now c.in_ok-reached.reached.items c.reach.new.reached.items c.new-pending.result.items c.reach.new.pending.items (c.in_ok-reached.ensures.items_if_clones_equal (λ y e. e)) c.new-pending.ensures.items c.in_ok-reach.ensures

pub bounds-edges-node : goal.bounds-edges-node
bounds-edges-node c = Progress-within c.args.edges.now c.args.starts.now c.loop-node.reached.items c.loop-node.pending.items c.pop.new.self.items c.in-Some.node c.loop-node.invariant c.in-Some.ensures.items

pub offset_bounds-edges-node : goal.offset_bounds-edges-node
offset_bounds-edges-node c =
    let within : c.in-Some.node < length c.args.edges.now = Progress-within c.args.edges.now c.args.starts.now c.loop-node.reached.items c.loop-node.pending.items c.pop.new.self.items c.in-Some.node c.loop-node.invariant c.in-Some.ensures.items in
    search rules

row_within : (edges : List (Vec ℕ Global)) (node k d n : ℕ) (row : Vec ℕ Global) (items : List ℕ) → EdgesWithin edges → node < length edges → row ≡ get_or edges node row → items ≡ row.items → n ≡ length edges → k < length items → get_or items k d < n
row_within edges node k d n row items h node_in e f g k_in =
    let at_row = h.within node row node_in in
    let row_same = sym e in
    rw (f, g) (subst (λ (r : Vec ℕ Global). All (λ v. v < length edges) r.items) row_same at_row k d (subst (λ xs. k < length xs) f k_in))

row_at : (edges : List (Vec ℕ Global)) (node : ℕ) (row : Vec ℕ Global) → node < length edges → row ≡ get_or edges node row → slice_get edges node ≡ Some row
row_at edges node row h e = slice_get_read edges (length edges) node row refl h e

pub reach-requires-in-Some : goal.reach-requires-in-Some
reach-requires-in-Some c = λ k d h.
    let within : c.in-Some.node < length c.args.edges.now = Progress-within c.args.edges.now c.args.starts.now c.loop-node.reached.items c.loop-node.pending.items c.pop.new.self.items c.in-Some.node c.loop-node.invariant c.in-Some.ensures.items in
    row_within c.args.edges.now c.in-Some.node k d (vec_len c.loop-node.reached) c.index-edges-node.result c.deref.result.now c.requires.edges within c.index-edges-node.is c.deref.ensures.value (c.loop-node.reached.ok.0 ∙ c.loop-node.invariant.long) h

pub loop-node-preserved : goal.loop-node-preserved
loop-node-preserved c =
    let within : c.in-Some.node < length c.args.edges.now = Progress-within c.args.edges.now c.args.starts.now c.loop-node.reached.items c.loop-node.pending.items c.pop.new.self.items c.in-Some.node c.loop-node.invariant c.in-Some.ensures.items in
    Progress-step c.args.edges.now c.args.starts.now c.loop-node.reached.items c.reach-in-Some.new.reached.items c.pop.new.self.items c.reach-in-Some.new.pending.items c.in-Some.node c.index-edges-node.result
    (subst (Progress c.args.edges.now c.args.starts.now c.loop-node.reached.items) c.in-Some.ensures.items c.loop-node.invariant)
    (row_at c.args.edges.now c.in-Some.node c.index-edges-node.result within c.index-edges-node.is)
    (subst (Marks c.loop-node.reached.items c.reach-in-Some.new.reached.items c.pop.new.self.items c.reach-in-Some.new.pending.items) c.deref.ensures.value c.in_ok-reach-2.ensures)

pub returns-clause-exact : goal.returns-clause-exact
returns-clause-exact c =
    let none : c.loop-node.pending.items ≡ [] = nil_from_length c.loop-node.pending.items (sym c.loop-node.pending.ok.0 ∙ c.in_default.ensures.cases.0) in
    IsReached-done c.args.edges.now c.args.starts.now c.loop-node.reached.items (subst (Progress c.args.edges.now c.args.starts.now c.loop-node.reached.items) none c.loop-node.invariant)
