use Rattle.std.proofs.Common.{List, All, sym, subst}
use Rattle.sc_base.specs.declared.id.Cond.{Cond}
use Rattle.sc_base.specs.declared.token.Token.{Token}
use Rattle.sc_fork.proofs.OwnLemmas.{items-own}
use Rattle.sc_fork.proofs.StartLemmas.{first-numbered, starts, start-owns}
use Rattle.sc_fork.specs.Owns.{HasC11Tables, AreTerminals}
use Rattle.sc_guarded.specs.Blocks.{AreBlocks}
use Rattle.sc_lalr.specs.declared.tables.Tables.{Tables}
use Rattle.sc_merge.specs.Merges.{tables_with}
use Rattle.sc_model.specs.Sets.{IsCond}
use Rattle.sc_fork.proofs.fork.Core.start.Goals as goal

pub invariant_of-result : goal.invariant_of-result
invariant_of-result g c = λ usable. first-numbered (g.C.Conditions.sets c.new.new.conds) c.args.live c.new-3.result _ c.in_ok-rows.ensures

pub returns-clause-start : goal.returns-clause-start
returns-clause-start g c = λ lines files.
    starts (tables_with (g.C.Conditions.sets c.new.new.conds) lines c.args.names.now files) _ c.args.live (c.new.ensures.keeps.own _ c.requires.live) c.in_ok-rows.ensures c.new-2.ensures.items

pub returns-clause-own : goal.returns-clause-own
returns-clause-own g c =
    let sets = g.C.Conditions.sets c.new.new.conds in
    let keeps = c.new.ensures.keeps in
    let made = c.in_ok-source.ensures in
    let source = c.in_ok-source.source in
    λ count.
    start-owns sets count _ c.args.live
    (record {
      tables = subst (λ (t : Tables). HasC11Tables t) (sym made.tables) c.requires.tables;
      standard = c.args.standard;
      names = c.args.names.now;
      terminals = subst (λ (list : List (Cond × Token)). AreTerminals c.args.standard c.args.names.now list source.terminals.items) (sym made.list) made.terminals;
    })
    (subst (λ (list : List (Cond × Token)). All (λ (item : Cond × Token). IsCond sets item.0.0) list) (sym made.list) (items-own c.args.list.now keeps c.requires.items))
    (subst (λ (list : List (Cond × Token)). AreBlocks sets list source.blocks) (sym made.list) made.blocks) (keeps.own _ c.requires.live) c.in_ok-rows.ensures c.new-2.ensures.items
