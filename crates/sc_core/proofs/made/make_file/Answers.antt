use Rattle.std.proofs.Common.{arith, ap, ap₂, sym, ◌∙◌, ◌≡◌, ◌+◌, ◌-◌, ◌/◌, suc, ◌++◌, string_bytes}
use Rattle.std.proofs.lemmas.List.{append-nil}
use Rattle.sc_core.proofs.MadeItems.{item-more}
use Rattle.sc_core.specs.Made.{first_line, items_from, item_text, next}
use Rattle.sc_core.proofs.made.make_file.Goals as goal

pub loop-index-init : goal.loop-index-init
loop-index-init c = record {
  small = omega (arith, c.from-state.ensures, c.ranges.items.fits);
  rest =
      let none : c.args.items - 0 ≡ c.args.items = omega arith in
      ap (λ bytes. bytes ++ items_from (c.args.items - 0) 0 c.from-state.result) c.in_ok-file.ensures.ok
      ∙ ap₂ (λ n x. first_line ++ items_from n 0 x) none c.from-state.ensures;
}

pub next-state-requires : goal.next-state-requires
next-state-requires c = c.loop-index.invariant.small

pub loop-index-preserved : goal.loop-index-preserved
loop-index-preserved c =
    let file = string_bytes c.loop-index.file in
    let more : c.args.items - c.loop-index.index ≡ suc (c.args.items - (c.loop-index.index + 1)) = omega (arith, c.loop-index-test.true) in
    let item_is = c.as_str.ensures.value ∙ c.in_ok-item.ensures ∙ ap (λ x. item_text c.loop-index.index (x / 65536)) c.next-state.ensures in
    record {
      small = omega (arith, c.next-state.ensures);
      rest =
          ap (λ bytes. bytes ++ items_from (c.args.items - (c.loop-index.index + 1)) (c.loop-index.index + 1) c.next-state.result) (c.in_ok-push_str.ensures.bytes ∙ ap (λ bytes. file ++ bytes) item_is)
          ∙ ap (λ x. file ++ item_text c.loop-index.index (next c.loop-index.state / 65536) ++ items_from (c.args.items - (c.loop-index.index + 1)) (c.loop-index.index + 1) x) c.next-state.ensures
          ∙ item-more (c.args.items - c.loop-index.index) (c.args.items - (c.loop-index.index + 1)) c.loop-index.index c.loop-index.state file _ more c.loop-index.invariant.rest;
    }

pub returns : goal.returns
returns c =
    let none : c.args.items - c.loop-index.index ≡ 0 = omega arith in
    sym (append-nil (string_bytes c.loop-index.file)) ∙ ap (λ n. string_bytes c.loop-index.file ++ items_from n c.loop-index.index c.loop-index.state) (sym none) ∙ c.loop-index.invariant.rest
