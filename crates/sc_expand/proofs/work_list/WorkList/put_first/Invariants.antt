use Rattle.std.proofs.Common.{◌≡◌, ◌++◌, drop}
use Rattle.sc_expand.proofs.work_list.WorkList.put_first.Given as goal

abbrev pub invariant-loop-index : goal.invariant-loop-index
invariant-loop-index l = record {
  front : l.self-inside.front.items ≡ drop l.index l.tokens ++ l.initial.self-inside.front.items;
  behind : l.self-inside.behind ≡ l.initial.self-inside.behind;
}
