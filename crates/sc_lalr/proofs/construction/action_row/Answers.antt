use Rattle.std.proofs.Common.{map, sym, ◌≡◌, ◌<◌, ◌+◌, ◌*◌, ◌/◌, ◌%◌, ◌↔◌, ◌++◌, ◌∷◌, [], ℕ, List, Vec, Some, slice_get, slice_index, length, get_or, ap, ◌∙◌, refl, arith, subst}
use Rattle.std.specs.List.{Contains}
use Rattle.std.specs.declared.alloc.Global.{Global}
use Rattle.std.proofs.lemmas.List.Elements.{Contains-get_or}
use Rattle.std.proofs.lemmas.List.{length-map}
use Rattle.std.proofs.lemmas.Option.{slice_get_read}
use Rattle.std.proofs.lemmas.Nat.{div-add-mod', mod_below}
use Rattle.lr_tables.specs.Grammar.{production_at}
use Rattle.lr_tables.specs.Tables.{CanReduce}
use Rattle.lr_tables.specs.declared.grammar.Grammar.{Grammar}
use Rattle.sc_items.specs.Kernel.{IsListOf}
use Rattle.sc_items.specs.States.{kernels_of}
use Rattle.sc_lalr.specs.Propagation.{AreNodes, AreLookaheads}
use Rattle.sc_lalr.specs.declared.nodes.Nodes.{Nodes}
use Rattle.sc_lalr.proofs.Placing.{node_of, node_in, number_in}
use Rattle.sc_lalr.specs.Tables.{AreEnds, EndsIn, IsMarkedEnd, conflicts_at, kept_of}
use Rattle.sc_lalr.proofs.Deciding.{RowSoFar-begin, RowSoFar-step, AreConflicts-next, can_reduce}
use Rattle.sc_lalr.proofs.construction.action_row.Goals as goal

-- an element of a list of ends
end_below : (g : Grammar) (states : List (List ℕ)) (s : ℕ) (ends view : List ℕ) (k d : ℕ) → view ≡ ends → k < length view → IsListOf (length g.entries.now) (EndsIn g states s) ends → Contains ends (get_or view k d)
end_below g states s ends view k d e h list = subst (λ zs. Contains zs (get_or view k d)) e (Contains-get_or view k d h)

-- the words of a terminal
row_of : (rows : List (Vec ℕ Global)) (t n : ℕ) (row : Vec ℕ Global) → length rows ≡ n / 64 + 1 → t < n → row ≡ get_or rows (t / 64) row → slice_get rows (t / 64) ≡ Some row
row_of rows t n row long h e = slice_get_read rows (length rows) (t / 64) row refl (omega arith) e

reduce_is : (g : Grammar) (states : List (List ℕ)) (nodes : Nodes) (numbers_view : List ℕ) (s t : ℕ) (rows : List (Vec ℕ Global)) (row : Vec ℕ Global) (ends ends_view found words_view : List ℕ) → AreNodes g states nodes → numbers_view ≡ nodes.numbers.items → AreLookaheads g states nodes rows → t < g.terminals → slice_get rows (t / 64) ≡ Some row → ends_view ≡ ends → words_view ≡ row.items → IsListOf (length g.entries.now) (EndsIn g states s) ends → ((p : ℕ) → Contains found p ↔ IsMarkedEnd g words_view (t % 64) numbers_view (s * length g.entries.now) ends_view p) → (p : ℕ) → Contains found p ↔ CanReduce g states s t p
reduce_is g states nodes numbers_view s t rows row ends ends_view found words_view are d ahead t_in at e f list exact p =
    let same : t / 64 * 64 + t % 64 ≡ t = div-add-mod' t 64 in
    let can = can_reduce g states nodes s (t / 64) (t % 64) rows row ends are ahead at (mod_below t 64 (omega arith)) (rw same t_in) list p in
    let here : Contains found p ↔ IsMarkedEnd g row.items (t % 64) nodes.numbers.items (s * length g.entries.now) ends p = subst (λ ns. Contains found p ↔ IsMarkedEnd g row.items (t % 64) ns (s * length g.entries.now) ends p) d (subst (λ zs. Contains found p ↔ IsMarkedEnd g zs (t % 64) numbers_view (s * length g.entries.now) ends p) f (subst (λ zs. Contains found p ↔ IsMarkedEnd g words_view (t % 64) numbers_view (s * length g.entries.now) zs p) e (exact p))) in
    (λ w. subst (λ x. CanReduce g states s x p) same (can.0 (here.0 w)), λ r. here.1 (can.1 (subst (λ x. CanReduce g states s x p) (sym same) r)))

pub loop-terminal-init : goal.loop-terminal-init
loop-terminal-init c = rw c.in_ok-row.ensures.items (RowSoFar-begin c.args.grammar.now (kernels_of c.args.states.now) c.args.state c.args.conflicts.now.items c.requires.conflicts)

pub produced-requires : goal.produced-requires
produced-requires c = λ k d h. c.in_ok-ends.ensures.below (get_or c.deref.result.now k d) (end_below c.args.grammar.now (kernels_of c.args.states.now) c.args.state c.in_ok-ends.ends.items c.deref.result.now k d c.deref.ensures.value h c.in_ok-ends.ensures)

pub productions-requires-clause-produced : goal.productions-requires-clause-produced
productions-requires-clause-produced c = ap length (c.deref-in-loop-terminal-2.ensures.value ∙ c.in_ok-produced.ensures) ∙ length-map c.deref.result.now (production_at c.args.grammar.now) ∙ ap length (c.deref.ensures.value ∙ sym c.deref-in-loop-terminal.ensures.value)

-- the ends with their productions, as they are lent
ends_are : (g : Grammar) (states : List (List ℕ)) (s : ℕ) (ends view view2 produced produced_view : List ℕ) → IsListOf (length g.entries.now) (EndsIn g states s) ends → view ≡ ends → view2 ≡ ends → produced_view ≡ produced → produced ≡ map (production_at g) view → AreEnds g view2 produced_view
ends_are g states s ends view view2 produced produced_view list e e2 f h = subst (λ zs. AreEnds g zs produced_view) (sym e2) (record {
  rising = list.rising;
  within = λ k d k_in. list.below (get_or ends k d) (Contains-get_or ends k d k_in);
  at_end = λ k d k_in. record { none = (list.sound (get_or ends k d) (Contains-get_or ends k d k_in)).at_end };
  produced_are = f ∙ h ∙ ap (map (production_at g)) e;
})

numbers_fit : (g : Grammar) (states : List (List ℕ)) (nodes : Nodes) (s : ℕ) (ends view numbers : List ℕ) → AreNodes g states nodes → s < length states → IsListOf (length g.entries.now) (EndsIn g states s) ends → view ≡ ends → numbers ≡ nodes.numbers.items → (k d : ℕ) → k < length view → s * length g.entries.now + get_or view k d < length numbers
numbers_fit g states nodes s ends view numbers are s_in list e f k d h =
    omega (arith, ap length f, number_in g states nodes are s (get_or view k d) s_in (list.below (get_or view k d) (end_below g states s ends view k d e h list)))

pub productions-requires-clause-numbers : goal.productions-requires-clause-numbers
productions-requires-clause-numbers c = numbers_fit c.args.grammar.now (kernels_of c.args.states.now) c.args.nodes.now c.args.state c.in_ok-ends.ends.items c.deref-in-loop-terminal.result.now c.deref-in-loop-terminal-4.result.now c.requires.nodes c.requires.state c.in_ok-ends.ensures c.deref-in-loop-terminal.ensures.value c.deref-in-loop-terminal-4.ensures.value

words_fit : (g : Grammar) (states : List (List ℕ)) (nodes : Nodes) (s t : ℕ) (rows : List (Vec ℕ Global)) (row : Vec ℕ Global) (ends view numbers words : List ℕ) → AreNodes g states nodes → AreLookaheads g states nodes rows → slice_get rows t ≡ Some row → IsListOf (length g.entries.now) (EndsIn g states s) ends → view ≡ ends → numbers ≡ nodes.numbers.items → words ≡ row.items → (k d : ℕ) → k < length view → slice_index numbers (s * length g.entries.now + get_or view k d) < length words
words_fit g states nodes s t rows row ends view numbers words are ahead at list e f m k d h =
    let i = get_or view k d in
    let there = end_below g states s ends view k d e h list in
    let node = node_of g states nodes are s i (list.sound i there).has (list.below i there) in
    let within : slice_index nodes.numbers.items (s * length g.entries.now + i) < length words = omega (arith, node_in (length g.entries.now) nodes (slice_index nodes.numbers.items (s * length g.entries.now + i)) s i node, ahead.each t row at, ap length m) in
    rw f within

pub productions-requires-clause-words : goal.productions-requires-clause-words
productions-requires-clause-words c =
    let g = c.args.grammar.now in
    let at = row_of c.args.ahead.now c.loop-terminal.terminal g.terminals c.index-ahead-terminal.result c.requires.ahead.long c.loop-terminal-test.true c.index-ahead-terminal.is in
    words_fit g (kernels_of c.args.states.now) c.args.nodes.now c.args.state (c.loop-terminal.terminal / 64) c.args.ahead.now c.index-ahead-terminal.result c.in_ok-ends.ends.items c.deref-in-loop-terminal.result.now c.deref-in-loop-terminal-4.result.now c.deref-in-loop-terminal-3.result.now c.requires.nodes c.requires.ahead at c.in_ok-ends.ensures c.deref-in-loop-terminal.ensures.value c.deref-in-loop-terminal-4.ensures.value c.deref-in-loop-terminal-3.ensures.value

pub loop-terminal-preserved : goal.loop-terminal-preserved
loop-terminal-preserved c =
    let g = c.args.grammar.now in
    let states = kernels_of c.args.states.now in
    let s = c.args.state in
    let t = c.loop-terminal.terminal in
    let shift = c.goto-shift.result in
    let found = c.in_ok-found.found.items in
    let at = row_of c.args.ahead.now t g.terminals c.index-ahead-terminal.result c.requires.ahead.long c.loop-terminal-test.true c.index-ahead-terminal.is in
    let ends = ends_are g states s c.in_ok-ends.ends.items c.deref.result.now c.deref-in-loop-terminal.result.now c.in_ok-produced.produced.items c.deref-in-loop-terminal-2.result.now c.in_ok-ends.ensures c.deref.ensures.value c.deref-in-loop-terminal.ensures.value c.deref-in-loop-terminal-2.ensures.value c.in_ok-produced.ensures in
    let can = reduce_is g states c.args.nodes.now c.deref-in-loop-terminal-4.result.now s t c.args.ahead.now c.index-ahead-terminal.result c.in_ok-ends.ends.items c.deref-in-loop-terminal.result.now found c.deref-in-loop-terminal-3.result.now c.requires.nodes c.deref-in-loop-terminal-4.ensures.value c.requires.ahead c.loop-terminal-test.true at c.deref-in-loop-terminal.ensures.value c.deref-in-loop-terminal-3.ensures.value c.in_ok-ends.ensures (c.in_ok-found.ensures.exact g ends) in
    let next = RowSoFar-step g states s t c.loop-terminal.row.items c.loop-terminal.conflicts.items shift found c.requires.states.exact c.requires.state c.loop-terminal-test.true (c.goto-shift.ensures.exact g c.requires.grammar c.requires.states) (c.in_ok-found.ensures.rising g ends) can c.loop-terminal.invariant in
    let row_is : c.push.new.self.items ≡ c.loop-terminal.row.items ++ kept_of shift found ∷ [] = c.in_ok-push.ensures.items ∙ ap (λ a. c.loop-terminal.row.items ++ a ∷ []) (c.kept.ensures ∙ ap (kept_of shift) c.deref-in-loop-terminal-5.ensures.value) in
    let conflicts_is : c.note_conflicts.new.conflicts.items ≡ c.loop-terminal.conflicts.items ++ conflicts_at s t shift found = c.in_ok-note_conflicts.ensures ∙ ap (λ zs. c.loop-terminal.conflicts.items ++ conflicts_at s t shift zs) c.deref-in-loop-terminal-6.ensures.value in
    rw (row_is, conflicts_is) next

pub returns-clause-actions : goal.returns-clause-actions
returns-clause-actions c = let e : c.loop-terminal.terminal ≡ c.args.grammar.now.terminals = omega arith in record { long = c.loop-terminal.invariant.actions.long ∙ e; each = c.loop-terminal.invariant.actions.each }

pub returns-clause-conflicts : goal.returns-clause-conflicts
returns-clause-conflicts c = AreConflicts-next c.args.grammar.now (kernels_of c.args.states.now) c.args.state c.loop-terminal.terminal c.loop-terminal.conflicts.items c.loop-terminal-test.false c.loop-terminal.invariant.conflicts_are
