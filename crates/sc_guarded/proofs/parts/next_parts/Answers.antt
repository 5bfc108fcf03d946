use Rattle.std.proofs.Common.{◌∙◌, sym, subst, arith}
use Rattle.std.proofs.lemmas.Bool.{true≢false}
use Rattle.sc_base.specs.declared.id.Cond.{Cond}
use Rattle.sc_guarded.proofs.NextLemmas.{ArePartsBelow-more, parts-all, parts-last, parts-last-are, parts-more, parts-none}
use Rattle.sc_model.proofs.SetLemmas.{Keeps-trans}
use Rattle.sc_model.specs.Sets.{IsCond}
use Rattle.sc_guarded.proofs.parts.next_parts.Goals as goal

pub loop-index-init : goal.loop-index-init
loop-index-init g c = parts-none c.requires.cond_own c.new-parts.ensures.items

pub take_part-requires-clause-item_own : goal.take_part-requires-clause-item_own
take_part-requires-clause-item_own g c =
    let P : Cond × g.row.T.Denot → Type 0 = λ item. IsCond (g.C.Conditions.sets c.args.conds.now) item.0.0 in
    c.loop-index.invariant.keeps.own _ (subst P (sym c.index-items-index.is) (c.requires.own c.loop-index.index c.index-items-index.result c.loop-index-test.true))

pub loop-index-preserved : goal.loop-index-preserved
loop-index-preserved g c =
    let made = c.in_ok-left.ensures in
    parts-more c.index-items-index.result c.loop-index.invariant c.take_part.ensures.keeps c.requires.own c.loop-index-test.true c.index-items-index.is made.parts made.own made.taken made.rest

pub returns-in_err-left-clause-keeps : goal.returns-in_err-left-clause-keeps
returns-in_err-left-clause-keeps g c = Keeps-trans c.loop-index.invariant.keeps c.take_part.ensures.keeps

pub returns-then-is_never-clause-parts : goal.returns-then-is_never-clause-parts
returns-then-is_never-clause-parts g c = ArePartsBelow-more (omega arith) c.loop-index.invariant.are

pub returns-then-is_never-clause-next : goal.returns-then-is_never-clause-next
returns-then-is_never-clause-next g c = parts-all c.loop-index.invariant (c.is_never.ensures.0 c.if-is_never.true)

pub returns-then-is_never-2-clause-parts : goal.returns-then-is_never-2-clause-parts
returns-then-is_never-2-clause-parts g c = ArePartsBelow-more (omega arith) c.loop-index.invariant.are

pub returns-then-is_never-2-clause-next : goal.returns-then-is_never-2-clause-next
returns-then-is_never-2-clause-next g c = parts-all c.loop-index.invariant (c.is_never-2.ensures.0 c.if-is_never-2.true)

pub returns-clause-parts : goal.returns-clause-parts
returns-clause-parts g c = parts-last-are c.loop-index.invariant (omega arith) (λ never. true≢false (sym (c.is_never-2.ensures.1 never) ∙ c.if-is_never-2.false)) c.in_ok-push.ensures.items

pub returns-clause-next : goal.returns-clause-next
returns-clause-next g c = parts-last c.loop-index.invariant (omega arith) c.in_ok-push.ensures.items
