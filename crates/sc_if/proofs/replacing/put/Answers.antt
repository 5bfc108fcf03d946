use Rattle.std.proofs.Common.{sym, ◌∙◌}
use Rattle.sc_if.proofs.AlikeReplacing.{AreAlike-Keeps, IsAlike-Keeps, definedness-same}
use Rattle.sc_if.proofs.Replacements.{IsHeldList-Keeps, put-at}
use Rattle.sc_model.proofs.SetLemmas.{IsConfig-Keeps, Keeps-trans}
use Rattle.sc_table.proofs.Growth.{IsTable-Keeps}
use Rattle.sc_table.specs.Table.{macros_at}
use Rattle.sc_if.proofs.replacing.put.Goals as goal

pub put_number-requires-clause-list : goal.put_number-requires-clause-list
put_number-requires-clause-list g c = λ k d h. c.defined.ensures.keeps.own _ (c.requires.list.own k d h)

pub returns-in_err-put_number-in-Defined-clause-table : goal.returns-in_err-put_number-in-Defined-clause-table
returns-in_err-put_number-in-Defined-clause-table g c = IsTable-Keeps c.put_number.ensures.keeps c.defined.ensures.table

pub returns-in_ok-put_number-in-Defined-clause-table : goal.returns-in_ok-put_number-in-Defined-clause-table
returns-in_ok-put_number-in-Defined-clause-table g c = IsTable-Keeps c.put_number.ensures.keeps c.defined.ensures.table

pub returns-in_ok-put_number-in-Defined-clause-keeps : goal.returns-in_ok-put_number-in-Defined-clause-keeps
returns-in_ok-put_number-in-Defined-clause-keeps g c = Keeps-trans c.defined.ensures.keeps c.put_number.ensures.keeps

pub returns-in_ok-put_number-in-Defined-clause-list : goal.returns-in_ok-put_number-in-Defined-clause-list
returns-in_ok-put_number-in-Defined-clause-list g c =
    c.in_ok-put_number-in-Defined.ensures.list c.args.names.now c.requires.digits (IsHeldList-Keeps c.defined.ensures.keeps c.requires.list)

pub returns-in_ok-put_number-in-Defined-clause-at : goal.returns-in_ok-put_number-in-Defined-clause-at
returns-in_ok-put_number-in-Defined-clause-at g c = λ x listed.
    let now = IsConfig-Keeps c.defined.ensures.keeps listed in
    put-at (g.C.Conditions.sets c.args.conds.now) (g.C.Conditions.sets c.defined.new.conds) (g.C.Conditions.sets c.put_number.new.conds) c.args.names.now (macros_at (g.C.Conditions.sets c.args.conds.now) c.args.names.now c.args.table.now x) c.args.digits.one c.args.digits.zero c.in-Defined.token c.in-Defined.name c.args.piece
    c.args.live c.in_ok-defined-in-Defined.defined c.args.list.now c.put_number.new.list x
    c.defined.ensures.keeps c.requires.list.own c.requires.live_own listed c.in-Defined.is (c.in_ok-defined-in-Defined.ensures.meaning.at x now) (c.in_ok-put_number-in-Defined.ensures.at x now)

pub returns-in_ok-put_number-in-Defined-clause-alike : goal.returns-in_ok-put_number-in-Defined-clause-alike
returns-in_ok-put_number-in-Defined-clause-alike g c = λ x y p q live same list.
    let old = g.C.Conditions.sets c.args.conds.now in
    let names = c.args.names.now in
    let keeps = c.defined.ensures.keeps in
    let meaning = c.in_ok-defined-in-Defined.ensures.meaning in
    c.in_ok-put_number-in-Defined.ensures.alike x y (IsConfig-Keeps keeps p) (IsConfig-Keeps keeps q) (IsAlike-Keeps keeps p q c.args.live c.requires.live_own live)
    (λ is. meaning.at x (IsConfig-Keeps keeps p)
    ∙ (definedness-same (macros_at old names c.args.table.now x) (macros_at old names c.args.table.now y) names c.in-Defined.token c.in-Defined.name c.args.piece c.in-Defined.is (same (sym (keeps.at c.args.live.0 x c.requires.live_own p) ∙ is))
    ∙ sym (meaning.at y (IsConfig-Keeps keeps q))))
    (AreAlike-Keeps keeps p q c.args.list.now c.requires.list.own list)
