use Rattle.std.proofs.Common.{◌≡◌, ℕ, ◌&&◌, List, take}
use Rattle.std.specs.List.{list_any}
use Rattle.sc_guarded.specs.Items.{items_at}
use Rattle.sc_if.specs.Decided.{is_left_over}
use Rattle.sc_model.specs.Sets.{IsCond, IsConfig, Keeps}
use Rattle.sc_if.proofs.answers.having_defined.Given as goal

-- those of the elements so far
abbrev pub invariant-loop-index : goal.invariant-loop-index
invariant-loop-index g l =
    let old = g.C.Conditions.sets l.fn.conds in
    let now = g.C.Conditions.sets l.conds in
    record {
      keeps : Keeps old now;
      own : IsCond now l.found.0;
      meaning : (c : List ℕ) → IsConfig old.arities c → now.has l.found.0 c ≡ (old.has l.live.0 c && list_any (is_left_over l.names) (items_at old (take l.index l.list) c));
    }
