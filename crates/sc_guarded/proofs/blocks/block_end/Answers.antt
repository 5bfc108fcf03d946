use Rattle.std.proofs.Common.{◌≡◌, ◌∙◌, sym, arith}
use Rattle.std.proofs.lemmas.Bool.{eqb-true, true≢false}
use Rattle.sc_guarded.specs.Blocks.{cond_at}
use Rattle.sc_guarded.proofs.BlockLemmas.{IsBlock-Keeps, Reaches-Keeps, block-ends, block-same, cond_at-get, never-within, outside-told, own-Keeps, reaches-first, reaches-over, within-never}
use Rattle.sc_model.proofs.SetLemmas.{Keeps-refl, Keeps-trans}
use Rattle.sc_guarded.proofs.blocks.block_end.Goals as goal

pub loop-end-init : goal.loop-end-init
loop-end-init g c = record { keeps = Keeps-refl (g.C.Conditions.sets c.args.conds.now); reaches = reaches-first c.args.items.now c.requires.head (omega arith) }

pub loop-end-preserved : goal.loop-end-preserved
loop-end-preserved g c =
    let items = c.args.items.now in
    let was = c.loop-end.invariant in
    let later = c.apply_without.ensures.keeps in
    let keeps = Keeps-trans was.keeps later in
    let own = own-Keeps items was.keeps c.requires.own in
    let told = outside-told items c.args.head c.loop-end.end c.index-items-head.result c.index-items-end.result later own c.requires.head c.loop-end-test.true c.in_ok-outside.ensures.meaning in
    record {
      keeps = keeps;
      reaches = reaches-over items (Reaches-Keeps items later own was.reaches) (IsBlock-Keeps items keeps c.requires.own (c.requires.behind c.loop-end.end was.reaches.behind c.loop-end-test.true))
          (within-never told (c.is_never.ensures.0 c.if-not-is_never.false));
    }

pub returns-then-eq-clause-block : goal.returns-then-eq-clause-block
returns-then-eq-clause-block g c =
    let items = c.args.items.now in
    let was = c.loop-end.invariant in
    let same : cond_at items c.loop-end.end ≡ cond_at items c.args.head =
    cond_at-get items c.loop-end.end c.index-items-end.result c.loop-end-test.true ∙ (eqb-true _ _ (sym c.eq.ensures ∙ c.if-eq.true) ∙ sym (cond_at-get items c.args.head c.index-items-head.result c.requires.head))
    in
    block-same items was.reaches (IsBlock-Keeps items was.keeps c.requires.own (c.requires.behind c.loop-end.end was.reaches.behind c.loop-end-test.true)) same

pub returns-then-not-is_never-clause-block : goal.returns-then-not-is_never-clause-block
returns-then-not-is_never-clause-block g c =
    let items = c.args.items.now in
    let later = c.apply_without.ensures.keeps in
    let own = own-Keeps items c.loop-end.invariant.keeps c.requires.own in
    let told = outside-told items c.args.head c.loop-end.end c.index-items-head.result c.index-items-end.result later own c.requires.head c.loop-end-test.true c.in_ok-outside.ensures.meaning in
    block-ends items (Reaches-Keeps items later own c.loop-end.invariant.reaches) (λ below within. true≢false (sym (c.is_never.ensures.1 (never-within told within)) ∙ c.if-not-is_never.true))

pub returns-then-not-is_never-clause-keeps : goal.returns-then-not-is_never-clause-keeps
returns-then-not-is_never-clause-keeps g c = Keeps-trans c.loop-end.invariant.keeps c.apply_without.ensures.keeps

pub returns-clause-block : goal.returns-clause-block
returns-clause-block g c = block-ends c.args.items.now c.loop-end.invariant.reaches (λ below within. absurd (omega (arith, below, c.loop-end-test.false)))
