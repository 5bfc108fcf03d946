use Rattle.std.proofs.Common.{◌≡◌, ◌<◌, ℕ, List, All, Some, length, map, slice_get, take}
use Rattle.sc_base.specs.declared.fault.Fault.{Fault}
use Rattle.sc_guarded.specs.Items.{faults_at, seen_fault}
use Rattle.sc_model.specs.Sets.{IsConfig, IsCond, Keeps}
use Rattle.sc_model.specs.Fault as model
use Rattle.sc_show.specs.Order.{MayFollow}
use Rattle.sc_text.specs.Layout.{IsAscending}
use Rattle.sc_show.proofs.merge.merged.Given as goal

abbrev pub invariant-loop-fault : goal.invariant-loop-fault
invariant-loop-fault g l =
    let sets = g.C.Conditions.sets in
    record {
      keeps : Keeps (sets l.fn.conds) (sets l.conds);
      own : All (λ (fault : Fault). IsCond (sets l.conds) fault.cond.0) l.merged.items;
      placed : All (λ (fault : Fault). fault.place.file.0 < length l.files) l.merged.items;
      ascending : IsAscending (map (seen_fault l.files) l.merged.items);
      later : (fault : model.Fault) → slice_get (map (seen_fault l.files) l.fault-items) l.fault-index ≡ Some fault → MayFollow (map (seen_fault l.files) l.merged.items) fault;
      same : (c : List ℕ) → IsConfig (sets l.fn.conds).arities c
          → map (seen_fault l.files) (faults_at (sets l.conds) l.merged.items c) ≡ map (seen_fault l.files) (faults_at (sets l.fn.conds) (take l.fault-index l.fault-items) c);
    }
