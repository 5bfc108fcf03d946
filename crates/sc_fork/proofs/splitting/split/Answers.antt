use Rattle.std.proofs.Common.{◌≡◌, ◌∙◌, ap, length}
use Rattle.sc_fork.proofs.NumberLemmas.{parts-numbered}
use Rattle.sc_fork.proofs.PhaseLemmas.{parts-look, parts-rise}
use Rattle.sc_fork.proofs.SplitLemmas.{part-more, part-all, parts-within, split-events, split-own}
use Rattle.sc_fork.specs.Seen.{parts_of}
use Rattle.sc_merge.specs.declared.subparser.Subparser.{Subparser}
use Rattle.sc_fork.proofs.splitting.split.Goals as goal

pub loop-part-preserved : goal.loop-part-preserved
loop-part-preserved g c =
    part-more c.args.parent.now c.in_ok-held.held c.deref-part-items.result.now c.loop-part.part-index _ c.loop-part.pieces.items c.push.new.self.items c.loop-part-test.true
    c.loop-part.invariant c.in_ok-held.ensures c.in_ok-push.ensures.items

pub returns : goal.returns
returns g c =
    let s = g.C.Conditions.sets in
    let parent = c.args.parent.now in
    let parts = c.in_ok-parts.parts.items in
    let keeps = c.next_parts.ensures.keeps in
    let found = c.in_ok-parts.ensures in
    let same : c.whole.inside.cond ≡ parent.cond = ap (λ (p : Subparser). p.cond) (c.whole.view_is ∙ c.head-whole.ensures) in
    let next = rw same at found.next in
    let all : c.loop-part.pieces.items ≡ parts_of parent parts =
    part-all parent c.deref-part-items.result.now parts c.loop-part.part-index c.loop-part.pieces.items c.deref-part-items.ensures.value c.loop-part-test.false c.loop-part.invariant
    in
    rw all (record {
      pieces = λ lines.
          split-events (s c.args.conds.now) (s c.next_parts.new.conds) lines c.args.source.now parent c.args.from parts c.requires.phase c.requires.from keeps next found.some found.rising found.own;
      own = split-own (s c.args.conds.now) (s c.next_parts.new.conds) c.args.source.now parent c.args.from parts c.requires.from keeps next found.some found.rising found.own;
      numbered = λ numbers has. parts-numbered numbers parent has parts;
      phases =
          parts-look parent c.args.from (length c.args.source.now.list.now) parts
          (parts-within (s c.args.conds.now) (s c.next_parts.new.conds) c.args.source.now parent c.args.from parts c.requires.from keeps next found.some found.rising);
      order = parts-rise parent parts found.rising;
      keeps = keeps;
    })
