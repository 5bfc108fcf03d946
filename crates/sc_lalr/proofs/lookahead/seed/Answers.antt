use Rattle.std.proofs.Common.{◌≡◌, ◌<◌, ◌+◌, ◌*◌, ◌/◌, ◌%◌, ℕ, List, Vec, length, get_or, set, slice_index, take, refl, sym, ap, ◌∙◌, subst, arith}
use Rattle.std.specs.Int.RustNames.{bit_or}
use Rattle.std.specs.declared.alloc.Global.{Global}
use Rattle.std.proofs.lemmas.Option.{slice_get_read}
use Rattle.std.proofs.lemmas.List.{get_or_default, map_more, take_all}
use Rattle.std.proofs.lemmas.List.Elements.{Contains-get_or}
use Rattle.std.proofs.lemmas.Nat.{mod_below}
use Rattle.lr_tables.specs.declared.grammar.Grammar.{Grammar}
use Rattle.lr_tables.proofs.Members.{map_has}
use Rattle.sc_items.specs.Kernel.{IsOpened}
use Rattle.sc_items.proofs.Opening.{begun_within}
use Rattle.sc_lalr.specs.Marks.{IsGiven}
use Rattle.sc_lalr.specs.Propagation.{SeedFits, numbers_at, opened_part}
use Rattle.sc_lalr.specs.declared.nodes.Nodes.{Nodes}
use Rattle.sc_lalr.proofs.Passing.{row_opens}
use Rattle.sc_lalr.proofs.Looking.{opened_is}
use Rattle.sc_lalr.proofs.Spreading.{IsGiven-none, IsGiven-more}
use Rattle.sc_lalr.proofs.lookahead.seed.Goals as goal

number_is : (numbers : List ℕ) (i u : ℕ) → i < length numbers → u ≡ get_or numbers i u → u ≡ slice_index numbers i
number_is numbers i u h e = e ∙ get_or_default numbers i u 0 h

-- the facts of the row that is read
module _ (g : Grammar) (nodes : Nodes) (opened : List (Vec ℕ Global)) (p : ℕ) (row : Vec ℕ Global) (view : List ℕ) (are : IsOpened g opened) (fits : SeedFits g nodes opened p) (row_is : row ≡ get_or opened (p % length g.entries.now) row) (view_is : view ≡ row.items) where
  part : opened_part g nodes.numbers.items opened p ≡ numbers_at nodes.numbers.items (p / length g.entries.now * length g.entries.now) view
  part =
      let at = slice_get_read opened (length opened) (p % length g.entries.now) row refl (omega (arith, are.long, mod_below p (length g.entries.now) fits.place.positive)) row_is in
      opened_is g nodes.numbers.items opened p row view at view_is

  number_in : (k d : ℕ) → k < length view → p / length g.entries.now * length g.entries.now + get_or view k d < length nodes.numbers.items
  number_in k d h =
      let at = slice_get_read opened (length opened) (p % length g.entries.now) row refl (omega (arith, are.long, mod_below p (length g.entries.now) fits.place.positive)) row_is in
      let opens = (row_opens g opened (p % length g.entries.now) row view are at view_is (get_or view k d)).0 (Contains-get_or view k d h) in
      omega (arith, begun_within g (get_or view k d) opens.symbol opens.begins, fits.place.fits)

  -- the node that is read
  node_at : (k u : ℕ) → k < length view → u ≡ get_or nodes.numbers.items (p / length g.entries.now * length g.entries.now + get_or view k 0) u → (u ≡ slice_index nodes.numbers.items (p / length g.entries.now * length g.entries.now + get_or view k 0)) × (u < length nodes.places.items)
  node_at k u h e =
      let is = number_is nodes.numbers.items (p / length g.entries.now * length g.entries.now + get_or view k 0) u (number_in k 0 h) e in
      (is, fits.within u (rw (part, is) (map_has (λ j. slice_index nodes.numbers.items (p / length g.entries.now * length g.entries.now + j)) (get_or view k 0) view (Contains-get_or view k 0 h))))

pub loop-item-init : goal.loop-item-init
loop-item-init c = IsGiven-none c.args.words.now.items c.args.word

pub index-requires : goal.index-requires
index-requires c = omega (arith, c.args.nodes.now.numbers.ok.0, number_in c.args.grammar.now c.args.nodes.now c.args.opened.now c.args.source c.index-opened-source.result c.deref-item-items.result.now c.requires.opened c.requires.fits c.index-opened-source.is c.deref-item-items.ensures.value c.loop-item.item-index 0 c.loop-item-test.true)

pub overflow_add-base : goal.overflow_add-base
overflow_add-base c = omega (arith, c.args.nodes.now.numbers.ok, number_in c.args.grammar.now c.args.nodes.now c.args.opened.now c.args.source c.index-opened-source.result c.deref-item-items.result.now c.requires.opened c.requires.fits c.index-opened-source.is c.deref-item-items.ensures.value c.loop-item.item-index 0 c.loop-item-test.true)

pub index_mut-requires : goal.index_mut-requires
index_mut-requires c = omega (arith, (node_at c.args.grammar.now c.args.nodes.now c.args.opened.now c.args.source c.index-opened-source.result c.deref-item-items.result.now c.requires.opened c.requires.fits c.index-opened-source.is c.deref-item-items.ensures.value c.loop-item.item-index c.index.result.now c.loop-item-test.true c.index.ensures).1, c.loop-item.invariant.long, c.requires.len, c.loop-item.words.ok.0)

pub loop-item-preserved : goal.loop-item-preserved
loop-item-preserved c =
    let view = c.deref-item-items.result.now in
    let numbers = c.args.nodes.now.numbers.items in
    let base = c.args.source / length c.args.grammar.now.entries.now * length c.args.grammar.now.entries.now in
    let words = c.loop-item.words.items in
    let node = c.index.result.now in
    let at = node_at c.args.grammar.now c.args.nodes.now c.args.opened.now c.args.source c.index-opened-source.result c.deref-item-items.result.now c.requires.opened c.requires.fits c.index-opened-source.is c.deref-item-items.ensures.value c.loop-item.item-index c.index.result.now c.loop-item-test.true c.index.ensures in
    let within : node < length words = omega (arith, at.1, c.loop-item.invariant.long, c.requires.len) in
    let word : c.index_mut.result.now ≡ slice_index words node = number_is words node c.index_mut.result.now within c.index_mut.ensures.value in
    let given = IsGiven-more c.args.words.now.items words _ (numbers_at numbers base (take c.loop-item.item-index view)) c.args.word node c.loop-item.invariant within (ap (λ z. set words node (bit_or z c.args.word)) word) in
    rw (map_more (λ j. slice_index numbers (base + j)) view c.loop-item.item-index 0 c.loop-item-test.true, sym at.0) given

pub returns : goal.returns
returns c =
    let view = c.deref-item-items.result.now in
    let nodes = c.args.nodes.now in
    let base = c.args.source / length c.args.grammar.now.entries.now * length c.args.grammar.now.entries.now in
    rw (part c.args.grammar.now nodes c.args.opened.now c.args.source c.index-opened-source.result view c.requires.opened c.requires.fits c.index-opened-source.is c.deref-item-items.ensures.value)
    (subst (λ zs. IsGiven c.args.words.now.items c.loop-item.words.items (numbers_at nodes.numbers.items base zs) c.args.word) (take_all c.loop-item.item-index view c.loop-item-test.false) c.loop-item.invariant)
