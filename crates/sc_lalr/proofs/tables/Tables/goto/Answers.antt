use Rattle.std.proofs.Common.{Some, None, sym, ◌∙◌}
use Rattle.sc_items.proofs.Reading.{read_is}
use Rattle.sc_lalr.proofs.Tabling.{entry_at, entry_past, entry_short}
use Rattle.sc_lalr.proofs.tables.Tables.goto.Goals as goal

pub returns-in_err-get : goal.returns-in_err-get
returns-in_err-get c =
    let rows = c.args.self.now.gotos.items in
    let at = read_is rows c.deref.result.now c.args.state None c.deref.ensures.value c.in_err-get.ensures.lookup in
    c.from_residual.ensures ∙ sym (entry_past rows c.args.state c.args.nonterminal.0 at)

pub returns-in_err-get-2 : goal.returns-in_err-get-2
returns-in_err-get-2 c =
    let rows = c.args.self.now.gotos.items in
    let row = c.in_ok-get.field-0 in
    let at = read_is rows c.deref.result.now c.args.state (Some row) c.deref.ensures.value c.in_ok-get.ensures.lookup in
    let short = read_is row.now.items c.deref-2.result.now c.args.nonterminal.0 None c.deref-2.ensures.value c.in_err-get-2.ensures.lookup in
    c.from_residual-in_err-get-2.ensures ∙ sym (entry_short rows c.args.state c.args.nonterminal.0 row.now at short)

pub returns : goal.returns
returns c =
    let rows = c.args.self.now.gotos.items in
    let row = c.in_ok-get.field-0 in
    let at = read_is rows c.deref.result.now c.args.state (Some row) c.deref.ensures.value c.in_ok-get.ensures.lookup in
    let there = read_is row.now.items c.deref-2.result.now c.args.nonterminal.0 (Some c.in_ok-get-2.field-0) c.deref-2.ensures.value c.in_ok-get-2.ensures.lookup in
    sym (entry_at rows c.args.state c.args.nonterminal.0 row.now c.in_ok-get-2.field-0.now at there)
