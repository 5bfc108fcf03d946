use Rattle.std.proofs.Common.{List, map, subst, sym}
use Rattle.std.proofs.lemmas.List.{take_all}
use Rattle.sc_base.specs.declared.id.Cond.{Cond}
use Rattle.sc_base.specs.declared.id.TreeId.{TreeId}
use Rattle.sc_guarded.specs.Items.{items_at}
use Rattle.sc_model.proofs.SetLemmas.{Keeps-trans, IsConfig-Keeps}
use Rattle.sc_tree.proofs.GuardedLemmas.{own-joined}
use Rattle.sc_tree.proofs.ParameterLemmas.{names-more}
use Rattle.sc_tree.specs.Parameters.{AreParameters}
use Rattle.sc_tree.specs.Views.{line_of}
use Rattle.sc_tree.proofs.parameters.parameter_names.Goals as goal

pub returns-in_err-found-clause-keeps : goal.returns-in_err-found-clause-keeps
returns-in_err-found-clause-keeps g c = Keeps-trans c.loop-list.invariant.keeps c.last_name.ensures.keeps

pub returns-in_err-append-clause-keeps : goal.returns-in_err-append-clause-keeps
returns-in_err-append-clause-keeps g c = Keeps-trans c.loop-list.invariant.keeps c.last_name.ensures.keeps

pub loop-list-preserved : goal.loop-list-preserved
loop-list-preserved g c =
    let i = c.loop-list.invariant in
    let s = g.C.Conditions.sets in
    record {
      keeps = Keeps-trans i.keeps c.last_name.ensures.keeps;
      own = own-joined (s c.loop-list.conds) (s c.last_name.new.conds) c.loop-list.names.items c.in_ok-found.found.items c.append.new.self.items c.in_ok-append.ensures.items c.last_name.ensures.keeps i.own c.in_ok-found.ensures.own;
      spells = λ names files d texts is all. names-more (s c.args.conds.now) (s c.loop-list.conds) (s c.last_name.new.conds) names files (map line_of c.args.lines.now) c.args.lists.now c.loop-list.list-index _
          c.loop-list.names.items c.in_ok-found.found.items c.append.new.self.items d texts i.keeps c.last_name.ensures.keeps is c.loop-list-test.true c.requires.own i.own
          (λ ts. i.spells names files d ts is) (λ tree. c.in_ok-found.ensures.named names files d tree (IsConfig-Keeps i.keeps is)) (c.in_ok-found.ensures.none d (IsConfig-Keeps i.keeps is))
          c.in_ok-append.ensures.items all;
    }

pub returns-clause-names : goal.returns-clause-names
returns-clause-names g c = λ names files d texts is all.
    let s = g.C.Conditions.sets in
    c.loop-list.invariant.spells names files d texts is
    (subst (λ (trees : List (Cond × TreeId)). AreParameters (record { sets = s c.args.conds.now; names = names; files = files; lines = map line_of c.args.lines.now }) d (items_at (s c.args.conds.now) trees d) texts)
    {x = c.args.lists.now} (sym (take_all c.loop-list.list-index c.args.lists.now c.loop-list-test.false)) all)
