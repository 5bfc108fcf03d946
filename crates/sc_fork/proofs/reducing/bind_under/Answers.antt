use Rattle.std.proofs.Common.{refl}
use Rattle.sc_base.proofs.Growth.{Extends-refl, Extends-trans}
use Rattle.sc_model.proofs.SetLemmas.{Keeps-refl, Keeps-trans}
use Rattle.sc_scope.specs.Seen.{levels_in}
use Rattle.sc_fork.proofs.MarkLemmas.{binds-nothing, binds-more}
use Rattle.sc_fork.proofs.reducing.bind_under.Goals as goal

pub loop-name-init : goal.loop-name-init
loop-name-init g c = record {
  keeps = Keeps-refl _;
  own = c.requires.own;
  numbered = c.requires.numbered;
  grows = Extends-refl _;
  binds = binds-nothing _ c.args.cond c.args.kind _ (levels_in c.args.scopes.now) refl;
}

pub loop-name-preserved : goal.loop-name-preserved
loop-name-preserved g c =
    let s = g.C.Conditions.sets in
    record {
      keeps = Keeps-trans c.loop-name.invariant.keeps c.bind_one.ensures.keeps;
      own = c.bind_one.ensures.own;
      numbered = c.bind_one.ensures.numbered;
      grows = Extends-trans c.loop-name.invariant.grows c.bind_one.ensures.numbers;
      binds = binds-more (s c.args.conds.now) (s c.loop-name.conds) (s c.bind_one.new.conds) c.args.cond c.args.kind c.args.names.now c.loop-name.name-index _
          (levels_in c.args.scopes.now) (levels_in c.loop-name.scopes) (levels_in c.bind_one.new.scopes) c.loop-name.invariant.keeps c.requires.cond c.requires.names c.loop-name-test.true
          c.loop-name.invariant.binds c.in_ok-bind_one.ensures.binds;
    }
