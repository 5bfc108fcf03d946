use Rattle.std.proofs.Common.{◌≡◌, [], All, length}
use Rattle.std.specs.Global.{Vec}
use Rattle.std.specs.Prelude.{ℕ}
use Rattle.sc_parse.proofs.rows.Rows.new.Given as goal

abbrev pub invariant-loop : goal.invariant-loop
invariant-loop l = record {
  empty : All (λ (row : Vec ℕ). row.items ≡ []) l.rows.items;
  long : length l.rows.items ≡ l.counter;
}
