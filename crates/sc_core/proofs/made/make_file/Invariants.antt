use Rattle.std.proofs.Common.{◌≡◌, ◌<◌, ◌^◌, ◌-◌, ◌++◌, string_bytes}
use Rattle.sc_core.specs.Made.{items_from, made_bytes}
use Rattle.sc_core.proofs.made.make_file.Given as goal

abbrev pub invariant-loop-index : goal.invariant-loop-index
invariant-loop-index l = record {
  small : l.state < 2 ^ 32;
  rest : string_bytes l.file ++ items_from (l.items - l.index) l.index l.state ≡ made_bytes l.items;
}
