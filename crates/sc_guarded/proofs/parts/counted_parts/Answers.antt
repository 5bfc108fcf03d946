use Rattle.std.proofs.Common.{◌∙◌, sym, subst, length, arith}
use Rattle.std.proofs.lemmas.Bool.{true≢false}
use Rattle.sc_base.specs.declared.id.Cond.{Cond}
use Rattle.sc_guarded.proofs.NextLemmas.{ArePartsBelow-more, parts-all, parts-last, parts-last-are, parts-none}
use Rattle.sc_guarded.proofs.WalkLemmas.{before-taken, parts-over, walk-counted, walk-end, walks-more, walks-none}
use Rattle.sc_model.proofs.SetLemmas.{Keeps-trans}
use Rattle.sc_model.specs.Sets.{IsCond}
use Rattle.sc_guarded.proofs.parts.counted_parts.Goals as goal

pub loop-index-init : goal.loop-index-init
loop-index-init g c = record {
  parts = parts-none c.requires.cond_own c.new-parts.ensures.items;
  walk = walks-none c.args.ends.now c.args.from c.args.cond c.new-parts.result.items c.args.steps.now (omega (arith, c.requires.from, c.requires.blocks.long));
}

pub take_part-requires-clause-item_own : goal.take_part-requires-clause-item_own
take_part-requires-clause-item_own g c =
    let P : Cond × g.row.T.Denot → Type 0 = λ item. IsCond (g.C.Conditions.sets c.args.conds.now) item.0.0 in
    c.loop-index.invariant.parts.keeps.own _ (subst P (sym c.index-items-index.is) (c.requires.own c.loop-index.index c.index-items-index.result c.loop-index-test.true))

pub loop-index-preserved : goal.loop-index-preserved
loop-index-preserved g c =
    let made = c.in_ok-left.ensures in
    let was = c.loop-index.invariant in
    let index = c.loop-index.index in
    let item = c.index-items-index.result in
    record {
      parts = parts-over item was.parts c.take_part.ensures.keeps c.requires.own (c.requires.blocks.each index c.loop-index-test.true) c.index-items-index.is made.parts made.own made.taken made.rest;
      walk = walks-more was.walk c.requires.blocks c.loop-index-test.true (omega (arith, c))
          (before-taken item.0 index c.loop-index.parts.items c.take_part.new.parts.items c.take_part.ensures.keeps (λ never. true≢false (sym (c.is_never.ensures.1 never) ∙ c.if-is_never.false)) made.taken made.rest);
    }

pub returns-in_err-left-clause-keeps : goal.returns-in_err-left-clause-keeps
returns-in_err-left-clause-keeps g c = Keeps-trans c.loop-index.invariant.parts.keeps c.take_part.ensures.keeps

pub returns-then-is_never-clause-parts : goal.returns-then-is_never-clause-parts
returns-then-is_never-clause-parts g c = ArePartsBelow-more (omega (arith, c.loop-index-test.true)) c.loop-index.invariant.parts.are

pub returns-then-is_never-clause-next : goal.returns-then-is_never-clause-next
returns-then-is_never-clause-next g c = parts-all c.loop-index.invariant.parts (c.is_never.ensures.0 c.if-is_never.true)

pub returns-then-is_never-clause-counted : goal.returns-then-is_never-clause-counted
returns-then-is_never-clause-counted g c = let walk = c.loop-index.invariant.walk in walk-counted c.loop-index.parts.items walk (walk.needed (c.is_never.ensures.0 c.if-is_never.true)) (λ less. c.loop-index.invariant.parts.are.below)

pub returns-then-is_never-2-clause-parts : goal.returns-then-is_never-2-clause-parts
returns-then-is_never-2-clause-parts g c =
    ArePartsBelow-more (omega (arith, c.loop-index.invariant.walk.most, c.requires.blocks.long)) c.loop-index.invariant.parts.are

pub returns-then-is_never-2-clause-next : goal.returns-then-is_never-2-clause-next
returns-then-is_never-2-clause-next g c = parts-all c.loop-index.invariant.parts (c.is_never-2.ensures.0 c.if-is_never-2.true)

pub returns-then-is_never-2-clause-counted : goal.returns-then-is_never-2-clause-counted
returns-then-is_never-2-clause-counted g c = let walk = c.loop-index.invariant.walk in walk-counted c.loop-index.parts.items walk (walk.needed (c.is_never-2.ensures.0 c.if-is_never-2.true)) (λ less. c.loop-index.invariant.parts.are.below)

pub returns-clause-parts : goal.returns-clause-parts
returns-clause-parts g c =
    parts-last-are c.loop-index.invariant.parts (omega (arith, c.loop-index.invariant.walk.most, c.requires.blocks.long, c.loop-index-test.false)) (λ never. true≢false (sym (c.is_never-2.ensures.1 never) ∙ c.if-is_never-2.false)) c.in_ok-push.ensures.items

pub returns-clause-next : goal.returns-clause-next
returns-clause-next g c =
    parts-last c.loop-index.invariant.parts (omega (arith, c.loop-index.invariant.walk.most, c.requires.blocks.long, c.loop-index-test.false)) c.in_ok-push.ensures.items

pub returns-clause-counted : goal.returns-clause-counted
returns-clause-counted g c = walk-end (length c.args.items.now) c.loop-index.invariant.walk (sym c.requires.blocks.long) c.loop-index-test.false c.in_ok-push.ensures.items
