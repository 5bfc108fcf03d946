use Rattle.std.proofs.Common.{◌-◌, ◌<◌, ◌∙◌, length, arith}
use Rattle.std.proofs.lemmas.List.{length-set}
use Rattle.sc_guarded.proofs.BlockLemmas.{IsBlock-Keeps, blocks-more, own-Keeps}
use Rattle.sc_model.proofs.SetLemmas.{Keeps-trans}
use Rattle.sc_guarded.proofs.blocks.block_ends.Goals as goal

pub loop-index-preserved : goal.loop-index-preserved
loop-index-preserved g c =
    let items = c.args.items.now in
    let ends = c.loop-index.ends.items in
    let i = c.loop-index.index - 1 in
    let was = c.loop-index.invariant in
    let later = c.block_end.ensures.keeps in
    let within : i < length items = omega (arith, c.loop-index-test.true, c.loop-index.auto.index) in
    record {
      keeps = Keeps-trans was.keeps later;
      long = length-set ends i c.in_ok-end.end ∙ was.long;
      blocks = blocks-more items ends i c.in_ok-end.end was.long within c.in_ok-end.ensures.block
          (λ k from below. IsBlock-Keeps items later (own-Keeps items was.keeps c.requires) (was.blocks k (omega (arith, from, c.loop-index-test.true)) below));
    }
