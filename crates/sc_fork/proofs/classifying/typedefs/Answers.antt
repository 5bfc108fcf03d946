use Rattle.std.proofs.Common.{◌≡◌, true, is_some}
use Rattle.sc_fork.proofs.KindLemmas.{types-found}
use Rattle.sc_lalr.specs.Tables.{action_of}
use Rattle.sc_merge.specs.declared.subparser.Subparser.{Subparser}
use Rattle.sc_stack.specs.Entries.{state_of}
use Rattle.sc_fork.proofs.classifying.typedefs.Goals as goal

pub typedef_under-requires-clause-own : goal.typedef_under-requires-clause-own
typedef_under-requires-clause-own g c = (rw (← c.parent.view_is) at c.requires.levels).each c.item.result.1.now.spelling.0

pub returns-clause-meaning : goal.returns-clause-meaning
returns-clause-meaning g c =
    let s = g.C.Conditions.sets in
    let p : Subparser = record { cond = c.parent.inside.cond; stack = c.parent.inside.stack.now; scopes = c.parent.inside.scopes.now; phase = c.parent.inside.phase } in
    let accepted : is_some (action_of c.args.source.now.tables.now (state_of p.stack) 1) ≡ true = cc (c.action.ensures, c.state.ensures, c.if-is_none.ensures) in
    rw (← c.parent.view_is)
    (types-found (s c.args.conds.now) (s c.typedef_under.new.conds) c.args.source.now p c.args.at (c.item.result.0, c.item.result.1.now) c.typedef_under.result c.item.ensures accepted
    (rw (← c.parent.view_is) at c.requires.own) c.typedef_under.ensures.meaning)
