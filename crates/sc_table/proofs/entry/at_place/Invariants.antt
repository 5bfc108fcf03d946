use Rattle.std.proofs.Common.{◌==◌, ◌&&◌, nat_lt}
use Rattle.std.specs.Prelude.{slice_index}
use Rattle.sc_model.specs.Sets.{Denotes, Keeps}
use Rattle.sc_table.proofs.entry.at_place.Given as goal

abbrev pub invariant-loop-option : goal.invariant-loop-option
invariant-loop-option g l =
    let sets = g.C.Conditions.sets in
    record {
      keeps : Keeps (sets l.fn.conds) (sets l.conds);
      meaning : Denotes (sets l.conds) l.cond.0 (λ c. nat_lt (slice_index c l.variable) l.option && (slice_index l.places (slice_index c l.variable) == l.place));
    }
