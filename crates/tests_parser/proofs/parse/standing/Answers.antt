use Rattle.std.proofs.Common.{◌<◌, ◌+◌, ℕ, arith}
use Rattle.tests_parser.proofs.ParseLemmas.{all-pushed, branch-below}
use Rattle.tests_parser.proofs.parse.standing.Goals as goal
use Rattle.tests_parser.proofs.parse.standing.Goals.{in-Choice+in-Some-chosen, in-Choice+in-None, in_default-read}

pub chosen-requires-clause-own : goal.chosen-requires-clause-own
chosen-requires-clause-own g c = c.requires.own.each _ _ c.in-Choice.ensures

pub index-requires : goal.index-requires
index-requires g c =
    let below = c.in-Some-chosen.ensures c.loop-id.id (branch-below c.args.trees.now c.loop-id.id c.in-Choice.branches.now c.children_first.ensures c.in-Choice.ensures) in
    omega (arith, below)

pub loop-id-preserved : goal.loop-id-preserved
loop-id-preserved g c = record {
  long = omega (arith, c.in_ok-push.ensures.len, c.loop-id.invariant.long);
  within = all-pushed (λ (id : ℕ). id < c.args.root.0 + 1) c.loop-id.standing.items c.push.new.self.items c.match-read.stands c.in_ok-push.ensures.items c.loop-id.invariant.within low;
}
  where
    low : c.match-read.stands < c.args.root.0 + 1
    low = elim c.match-read.branch [
      | in-Choice+in-Some-chosen w ↦
          let below = w.in-Some-chosen.ensures c.loop-id.id (branch-below c.args.trees.now c.loop-id.id w.in-Choice.branches.now c.children_first.ensures w.in-Choice.ensures) in
          let item = c.loop-id.invariant.within w.in-Some-chosen.tree.0 0 (omega (arith, below, c.loop-id.invariant.long)) in
          omega (arith, item, w.index.ensures, w.stands-is)
      | in-Choice+in-None w ↦ omega arith
      | in_default-read w ↦ omega arith
    ]
