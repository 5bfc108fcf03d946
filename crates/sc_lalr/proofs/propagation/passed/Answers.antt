use Rattle.std.proofs.Common.{◌≡◌, ◌<◌, ◌+◌, ◌*◌, ◌/◌, ◌%◌, ◌++◌, ℕ, List, Vec, Option, Some, None, MatchOption, IfSome, length, get_or, ap, ◌∙◌, sym, refl, arith, rules, subst}
use Rattle.std.specs.List.{Contains}
use Rattle.std.specs.declared.alloc.Global.{Global}
use Rattle.std.proofs.lemmas.Option.{none-some, slice_get_read, slice_get_within}
use Rattle.std.proofs.lemmas.Nat.{div_below}
use Rattle.std.proofs.lemmas.List.Elements.{Contains-get_or}
use Rattle.lr_tables.specs.Grammar.{after}
use Rattle.lr_tables.specs.Tables.{IsGoto, NoGoto}
use Rattle.lr_tables.specs.declared.grammar.Grammar.{Grammar}
use Rattle.sc_items.specs.Kernel.{IsOpened}
use Rattle.lr_tables.proofs.Members.{no_member}
use Rattle.sc_items.specs.States.{kernels_of}
use Rattle.sc_items.proofs.Opening.{begun_within, after_within}
use Rattle.sc_lalr.specs.Propagation.{AreNodes, along_part, into_part}
use Rattle.sc_lalr.specs.declared.nodes.Nodes.{Nodes}
use Rattle.sc_lalr.proofs.Placing.{node_place, number_in, some_entries}
use Rattle.sc_lalr.proofs.Passing.{passes_none, passes_exact, row_opens}
use Rattle.sc_lalr.proofs.propagation.passed.Goals as goal

-- the facts that the function has of its node
module _ (g : Grammar) (states : List (List ℕ)) (nodes : Nodes) (u p : ℕ) (are : AreNodes g states nodes) (u_in : u < length nodes.places.items) (e : p ≡ get_or nodes.places.items u p) where
  below : p < length states * length g.entries.now
  below = (node_place g states nodes are u p u_in e).0

  positive : 0 < length g.entries.now
  positive = some_entries (length states) (length g.entries.now) p below

  state_in : p / length g.entries.now < length states
  state_in = div_below p (length g.entries.now) (length states) positive below

  item_in : p % length g.entries.now < length g.entries.now
  item_in = (node_place g states nodes are u p u_in e).1.within

pub nonzero_div-state : goal.nonzero_div-state
nonzero_div-state c = omega (arith, positive c.args.grammar.now (kernels_of c.args.states.now) c.args.nodes.now c.args.node c.index-place.result.now c.requires.nodes c.requires.node c.index-place.ensures)

pub nonzero_rem-item : goal.nonzero_rem-item
nonzero_rem-item c = omega (arith, positive c.args.grammar.now (kernels_of c.args.states.now) c.args.nodes.now c.args.node c.index-place.result.now c.requires.nodes c.requires.node c.index-place.ensures)

pub after-requires-clause-within : goal.after-requires-clause-within
after-requires-clause-within c = omega (arith, item_in c.args.grammar.now (kernels_of c.args.states.now) c.args.nodes.now c.args.node c.index-place.result.now c.requires.nodes c.requires.node c.index-place.ensures)

pub returns-in_default : goal.returns-in_default
returns-in_default c =
    let g = c.args.grammar.now in
    let states = kernels_of c.args.states.now in
    let p = c.index-place.result.now in
    let n = length g.entries.now in
    λ v. (
      λ w. absurd (no_member v (subst (λ zs. Contains zs v) c.new.ensures.items w)),
      λ q. absurd (passes_none g states c.args.nodes.now c.args.node v (p / n) (p % n) (node_place g states c.args.nodes.now c.requires.nodes c.args.node p c.requires.node c.index-place.ensures).1
          (λ x e. none-some x (c.in_default.ensures.symbol ∙ e)) q),
    )

along_fits : (g : Grammar) (states : List (List ℕ)) (nodes : Nodes) (s i x : ℕ) (to : Option ℕ) (view : List ℕ) → AreNodes g states nodes → view ≡ nodes.numbers.items → after g i ≡ Some x → MatchOption to (NoGoto g states s x) (IsGoto g states s x) → IfSome to (λ state. state * length g.entries.now + (i + 1) < length view)
along_fits g states nodes s i x None view are f over goto = search rules
along_fits g states nodes s i x (Some t) view are f over goto = omega (arith, ap length f, number_in g states nodes are t (i + 1) (slice_get_within states t goto.target goto.target_at) (after_within g i x over))

pub along-requires : goal.along-requires
along-requires c =
    let g = c.args.grammar.now in
    let p = c.index-place.result.now in
    let n = length g.entries.now in
    along_fits g (kernels_of c.args.states.now) c.args.nodes.now (p / n) (p % n) c.in-Some.symbol c.goto.result c.deref.result.now c.requires.nodes c.deref.ensures.value (sym c.in-Some.ensures.symbol) (c.goto.ensures.exact g c.requires.grammar c.requires.states)

into_fits : (g : Grammar) (states : List (List ℕ)) (nodes : Nodes) (opened : List (Vec ℕ Global)) (row : Vec ℕ Global) (s i : ℕ) (numbers view : List ℕ) → AreNodes g states nodes → IsOpened g opened → numbers ≡ nodes.numbers.items → s < length states → i < length g.entries.now → row ≡ get_or opened i row → view ≡ row.items → (k d : ℕ) → k < length view → s * length g.entries.now + get_or view k d < length numbers
into_fits g states nodes opened row s i numbers view are rows f s_in i_in row_is view_is k d h =
    let at = slice_get_read opened (length opened) i row refl (omega (arith, rows.long, i_in)) row_is in
    let opens = (row_opens g opened i row view rows at view_is (get_or view k d)).0 (Contains-get_or view k d h) in
    omega (arith, ap length f, number_in g states nodes are s (get_or view k d) s_in (begun_within g (get_or view k d) opens.symbol opens.begins))

pub into_opened-requires : goal.into_opened-requires
into_opened-requires c =
    let g = c.args.grammar.now in
    let states = kernels_of c.args.states.now in
    let p = c.index-place.result.now in
    let n = length g.entries.now in
    into_fits g states c.args.nodes.now c.args.opened.now c.index-opened-item.result (p / n) (p % n) c.deref-2.result.now c.deref-3.result.now c.requires.nodes c.requires.opened c.deref-2.ensures.value
    (state_in g states c.args.nodes.now c.args.node p c.requires.nodes c.requires.node c.index-place.ensures)
    (item_in g states c.args.nodes.now c.args.node p c.requires.nodes c.requires.node c.index-place.ensures)
    c.index-opened-item.is c.deref-3.ensures.value

joined : (numbers view view2 targets nodes row : List ℕ) (n i base : ℕ) (to next : Option ℕ) → view ≡ numbers → view2 ≡ numbers → targets ≡ along_part view n i to → nodes ≡ targets ++ into_part view2 base next row → nodes ≡ along_part numbers n i to ++ into_part numbers base next row
joined numbers view view2 targets nodes row n i base to next e f h k = k ∙ ap (λ zs. targets ++ into_part zs base next row) f ∙ ap (λ zs. zs ++ into_part numbers base next row) (h ∙ ap (λ zs. along_part zs n i to) e)

pub returns : goal.returns
returns c =
    let g = c.args.grammar.now in
    let states = kernels_of c.args.states.now in
    let nodes = c.args.nodes.now in
    let p = c.index-place.result.now in
    let n = length g.entries.now in
    let at = slice_get_read c.args.opened.now (length c.args.opened.now) (p % n) c.index-opened-item.result refl (omega (arith, c.requires.opened.long, item_in g states nodes c.args.node p c.requires.nodes c.requires.node c.index-place.ensures)) c.index-opened-item.is in
    passes_exact g states nodes c.args.node (p / n) (p % n) c.in-Some.symbol c.goto.result c.after-2.result c.deref-3.result.now
    c.requires.states.exact
    c.requires.nodes
    (node_place g states nodes c.requires.nodes c.args.node p c.requires.node c.index-place.ensures).1
    (sym c.in-Some.ensures.symbol)
    (c.goto.ensures.exact g c.requires.grammar c.requires.states)
    c.after-2.ensures.symbol
    (row_opens g c.args.opened.now (p % n) c.index-opened-item.result c.deref-3.result.now c.requires.opened at c.deref-3.ensures.value)
    c.into_opened.new.nodes.items
    (joined nodes.numbers.items c.deref.result.now c.deref-2.result.now c.in_ok-targets.targets.items c.into_opened.new.nodes.items c.deref-3.result.now n (p % n) (p / n * n) c.goto.result c.after-2.result c.deref.ensures.value c.deref-2.ensures.value c.in_ok-targets.ensures c.in_ok-into_opened.ensures)
