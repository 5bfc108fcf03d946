use Rattle.std.proofs.Common.{◌<◌, All, take}
use Rattle.sc_parse.specs.Weights.{ActsBy}
use Rattle.sc_parse.proofs.reductions.reducing.Given as goal

abbrev pub invariant-loop-at : goal.invariant-loop-at
invariant-loop-at l = record {
  some : 0 < l.at;
  by : All (ActsBy l.steps.core.source l.rule l.steps.core.subparsers) (take l.at l.numbers);
}
