use Rattle.std.proofs.Common.{◌≡◌, ◌<◌, ℕ, List, length, get_or, set, slice_index, take, ap, ◌∙◌, arith}
use Rattle.std.specs.Int.RustNames.{bit_or}
use Rattle.std.proofs.lemmas.List.{get_or_default, take_more}
use Rattle.sc_lalr.proofs.Spreading.{IsPassed-none, IsPassed-skip, IsPassed-mark}
use Rattle.sc_lalr.proofs.spread.pass.Goals as goal
use Rattle.sc_lalr.proofs.spread.pass.Goals.{then-old-joined+in_ok-push, else-old-joined}

-- the word that was read
word_at : (words : List ℕ) (node old : ℕ) → node < length words → old ≡ get_or words node old → old ≡ slice_index words node
word_at words node old within e = e ∙ get_or_default words node old 0 within

pub loop-node-init : goal.loop-node-init
loop-node-init c = IsPassed-none c.args.words.now.items c.args.waiting.now.items c.args.word

pub loop-node-preserved : goal.loop-node-preserved
loop-node-preserved c =
    let k = c.loop-node.node-index in
    let nodes = c.args.nodes.now in
    let h = c.loop-node.invariant in
    let node = get_or nodes k 0 in
    let words = c.loop-node.words.items in
    let within : node < length words = omega (arith, c.requires k 0 c.loop-node-test.true, h.given.long, c.args.words.now.ok.0) in
    let old : c.index-old.result.now ≡ slice_index words node = word_at words node c.index-old.result.now within c.index-old.ensures in
    let joined : c.joined-joined.result ≡ bit_or (slice_index words node) c.args.word = c.joined-joined.ensures.value ∙ ap (λ z. bit_or z c.args.word) old in
    elim c.if-old-joined.branch [
      | then-old-joined+in_ok-push w ↦ rw (take_more nodes k 0 c.loop-node-test.true) (IsPassed-mark _ words _ _ c.loop-node.waiting.items _ (take k nodes) c.args.word node h within
          (omega (arith, old, joined, w.if-old-joined.true)) (omega (arith, joined, c.joined-joined.ensures.small)) (ap (λ v. v.items) w.words-is ∙ ap (set words node) joined) (ap (λ v. v.items) w.waiting-is ∙ w.in_ok-push.ensures.items))
      | else-old-joined w ↦ rw (w.words-is, w.waiting-is, take_more nodes k 0 c.loop-node-test.true) (IsPassed-skip _ words _ _ (take k nodes) c.args.word node h (omega (arith, old, joined, w.if-old-joined.false)))
    ]
