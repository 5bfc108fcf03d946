use Rattle.std.proofs.Common.{take}
use Rattle.sc_fork.specs.Reducing.{BindsUnder}
use Rattle.sc_model.specs.Growth.{Extends}
use Rattle.sc_model.specs.Sets.{Keeps}
use Rattle.sc_scope.specs.Numbered.{levels_made, HasNumbers}
use Rattle.sc_scope.specs.Search.{OwnsLevels}
use Rattle.sc_scope.specs.Seen.{levels_in}
use Rattle.sc_fork.proofs.reducing.bind_under.Given as goal

abbrev pub invariant-loop-name : goal.invariant-loop-name
invariant-loop-name g l =
    let s = g.C.Conditions.sets in
    record {
      keeps : Keeps (s l.fn.conds) (s l.conds);
      own : OwnsLevels (s l.conds) (levels_in l.scopes);
      numbered : HasNumbers l.numbers l.scopes;
      grows : Extends (levels_made l.fn.numbers) (levels_made l.numbers);
      binds : BindsUnder (s l.fn.conds) (s l.conds) l.cond l.kind (take l.name-index l.names) (levels_in l.fn.scopes) (levels_in l.scopes);
    }
