use Rattle.std.proofs.Common.{◌≡◌, ◌<◌, ◌+◌, ℕ, Vec, List, Some, slice_get, get_or, length, ap, ◌∙◌, sym, arith, subst}
use Rattle.std.specs.List.{Contains}
use Rattle.std.specs.Option.{option_map}
use Rattle.std.specs.declared.alloc.Global.{Global}
use Rattle.std.proofs.lemmas.Option.{slice_get-map, same_Some}
use Rattle.std.proofs.lemmas.List.Elements.{Contains-get_or}
use Rattle.sc_base.proofs.Growth.{Extends-keeps}
use Rattle.sc_items.specs.Kernel.{AreMoved, lists}
use Rattle.sc_items.specs.Found.{IsGotoRow}
use Rattle.sc_items.proofs.Finding.{Found-next}
use Rattle.sc_items.proofs.Exploring.{Explored-begin, Explored-step, closure_of, members_list, members_of, members_within, after_small}
use Rattle.sc_items.proofs.Opening.{TakenBelow-none, TakenBelow-more, TakenBelow-done, taken_at}
use Rattle.sc_items.proofs.search.explored.Goals as goal

kernel_at : (keys : List (Vec ℕ Global)) (s : ℕ) (v : Vec ℕ Global) → slice_get keys s ≡ Some v → slice_get (lists keys) s ≡ Some v.items
kernel_at keys s v at = slice_get-map (λ (w : Vec ℕ Global). w.items) keys s ∙ ap (option_map (λ (w : Vec ℕ Global). w.items)) at

pub reachable-requires-clause-starts : goal.reachable-requires-clause-starts
reachable-requires-clause-starts c = λ k d h.
    let at = kernel_at c.args.kernels.now.keys c.args.state c.index.result.now c.index.ensures in
    let there = Contains-get_or c.deref.result.now k d h in
    omega (arith, c.requires.opened.long, c.requires.found.within c.args.state (get_or c.deref.result.now k d) c.index.result.now.items at (subst (λ zs. Contains zs (get_or c.deref.result.now k d)) c.deref.ensures.value there))

pub loop-symbol-init : goal.loop-symbol-init
loop-symbol-init c =
    let at = kernel_at c.args.kernels.now.keys c.args.state c.index.result.now c.index.ensures in
    rw c.in_ok-gotos.ensures.items (Explored-begin c.args.grammar.now (lists c.args.kernels.now.keys) c.args.state c.index.result.now.items c.requires.found at, TakenBelow-none c.args.grammar.now c.in_ok-members.members.items c.moved.new.rows.items (subst (λ zs. AreMoved c.args.grammar.now zs c.moved.new.rows.items) c.deref-3.ensures.value c.in_ok-moved.ensures))

pub moved-requires-clause-within : goal.moved-requires-clause-within
moved-requires-clause-within c = λ k d h.
    let there = Contains-get_or c.deref-3.result.now k d h in
    let long : length c.in_ok-items.items.items ≡ length c.args.grammar.now.entries.now = sym c.in_ok-items.items.ok.0 ∙ c.in_ok-items.ensures.len ∙ c.requires.opened.long in
    members_within (length c.args.grammar.now.entries.now) c.in_ok-members.members.items c.in_ok-items.items.items c.deref-2.result.now c.deref-2.ensures.value long c.in_ok-members.ensures (get_or c.deref-3.result.now k d) (subst (λ zs. Contains zs (get_or c.deref-3.result.now k d)) c.deref-3.ensures.value there)

pub moved-requires-clause-rising : goal.moved-requires-clause-rising
moved-requires-clause-rising c = rw c.deref-3.ensures.value c.in_ok-members.ensures.rising

pub loop-symbol-preserved : goal.loop-symbol-preserved
loop-symbol-preserved c =
    let g = c.args.grammar.now in
    let kernel = c.index.result.now.items in
    let items = c.in_ok-members.members.items in
    let x = c.loop-symbol.symbol in
    let at = kernel_at c.args.kernels.now.keys c.args.state c.index.result.now c.index.ensures in
    let closure = closure_of g c.args.opened.now kernel c.deref.result.now c.in_ok-items.items.items c.requires.opened c.deref.ensures.value c.in_ok-items.ensures.exact in
    let taken = c.loop-symbol.invariant.1 in
    let within : x < length c.loop-symbol.next.items = omega (arith, taken.long, c.loop-symbol-test.true) in
    let moved = taken_at g items x c.loop-symbol.next.items c.index_mut.result.now c.replace-kernel.result taken within c.index_mut.ensures.value c.replace-kernel.ensures.value in
    let empty = ap (λ (v : Vec ℕ Global). v.items) c.replace-kernel.ensures.after ∙ c.new.ensures.items in
    rw c.in_ok-push.ensures.items (
      Explored-step g (lists c.args.kernels.now.keys) (lists c.loop-symbol.kernels.keys) (lists c.goto.new.kernels.keys) c.args.state x c.loop-symbol.gotos.items kernel items c.replace-kernel.result.items c.in_ok-goto.field-0 at
          (members_of g kernel items c.in_ok-items.items.items c.deref-2.result.now c.deref-2.ensures.value c.in_ok-members.ensures closure) c.loop-symbol.invariant.0 moved c.in_ok-goto.ensures,
      TakenBelow-more g items x c.loop-symbol.next.items c.replace-kernel.new.dest taken within empty,
    )

pub returns-clause-found : goal.returns-clause-found
returns-clause-found c = Found-next c.args.grammar.now _ c.args.state c.loop-symbol.symbol c.loop-symbol.invariant.0.found (λ i x e. let small = after_small c.args.grammar.now i x c.requires.grammar e in omega arith)

pub returns-clause-state : goal.returns-clause-state
returns-clause-state c =
    let g = c.args.grammar.now in
    let kernel = c.index.result.now.items in
    let at = kernel_at c.args.kernels.now.keys c.args.state c.index.result.now c.index.ensures in
    let h = c.loop-symbol.invariant.0 in
    let same = same_Some h.kernel kernel (sym h.kernel_at ∙ at) in
    let n : c.loop-symbol.symbol ≡ g.terminals + g.nonterminals = omega arith in
    let closure = closure_of g c.args.opened.now kernel c.deref.result.now c.in_ok-items.items.items c.requires.opened c.deref.ensures.value c.in_ok-items.ensures.exact in
    let long : length c.in_ok-items.items.items ≡ length g.entries.now = sym c.in_ok-items.items.ok.0 ∙ c.in_ok-items.ensures.len ∙ c.requires.opened.long in
    record {
      kernel = kernel;
      kernel_at = Extends-keeps c.args.state kernel at h.keeps;
      long = long;
      items = closure;
      members = members_list g kernel c.in_ok-members.members.items c.in_ok-items.items.items c.deref-2.result.now c.deref-2.ensures.value long c.in_ok-members.ensures closure;
      gotos = subst (λ k. IsGotoRow g (lists c.loop-symbol.kernels.keys) c.args.state kernel c.loop-symbol.gotos.items k) n (subst (λ zs. IsGotoRow g (lists c.loop-symbol.kernels.keys) c.args.state zs c.loop-symbol.gotos.items c.loop-symbol.symbol) same h.row_is);
    }

pub returns-clause-next : goal.returns-clause-next
returns-clause-next c = let n : c.loop-symbol.symbol ≡ c.args.grammar.now.terminals + c.args.grammar.now.nonterminals = omega arith in TakenBelow-done c.args.grammar.now c.in_ok-members.members.items c.loop-symbol.symbol c.loop-symbol.next.items n c.loop-symbol.invariant.1
