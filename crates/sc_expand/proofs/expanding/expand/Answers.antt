use Rattle.std.proofs.Common.{length, subst, sym, ◌∙◌}
use Rattle.sc_expand.proofs.AlikeLemmas.{IsAlike-Keeps, all-back}
use Rattle.sc_expand.proofs.Ending.{bared}
use Rattle.sc_expand.proofs.ExpandLemmas.{answer-alike, answer-held, answer-some, done-empty, done-expanded, hidden-held, source-defines}
use Rattle.sc_expand.proofs.Facts.{IsConfig-Keeps, IsTable-Extends, IsTable-Keeps, Keeps-trans, err_from_is_err_and, macros_at-Extends, macros_at-Keeps}
use Rattle.sc_expand.proofs.FootprintLemmas.{text-stops}
use Rattle.sc_expand.proofs.PlainTables.{entry_names, within-table}
use Rattle.sc_expand.proofs.SpanFootprints.{apart-stops}
use Rattle.sc_expand.proofs.Terms.{AreAlike, Cond, IsAlike, Token, macros_at, provenance_of, seen_hidden}
use Rattle.sc_expand.proofs.expanding.expand.Goals as goal

pub settle-requires-clause-held : goal.settle-requires-clause-held
settle-requires-clause-held g c =
    let names = c.args.names.now in
    let h = c.in_ok-hidden.ensures in
    hidden-held (g.C.Conditions.sets c.args.conds.now) names c.in_ok-sets.sets (length c.args.files.now) c.in_ok-hidden.hidden c.args.list.now h.tokens (h.held names c.requires.held) c.requires.own c.requires.placed

pub close-requires : goal.close-requires
close-requires g c = record { own = c.in_ok-settled.ensures.held.rest.own; under_own = c.settle.ensures.keeps.own _ c.requires.live_own }

pub returns : goal.returns
returns g c =
    let s = g.C.Conditions.sets c.args.conds.now in
    let new = g.C.Conditions.sets c.settle.new.conds in
    let last = g.C.Conditions.sets c.close.new.conds in
    let n = c.args.names.now in
    let later = c.settle.new.names in
    let hides = c.in_ok-sets.sets in
    let now = c.settle.new.sets in
    let files = c.args.files.now in
    let macros = macros_at s n c.args.table.now in
    let list = c.args.list.now in
    let live = c.args.live in
    let work = c.in_ok-hidden.hidden in
    let h = c.in_ok-hidden.ensures in
    let settled = c.in_ok-settled.settled in
    let is = c.in_ok-settled.ensures in
    let more = c.in_ok-closed.closed in
    let is_closed = c.in_ok-closed.ensures.closed in
    let expanded = c.in_ok-expanded.expanded in
    let f = c.in_ok-expanded.ensures in
    let first = c.settle.ensures.keeps in
    let second = c.close.ensures.keeps in
    let live_own = c.requires.live_own in
    record {
      expands = λ config listed here.
          done-expanded s new last n later hides now files macros config work settled list live more expanded h.tokens h.unhidden f.list f.faults first second is.held live_own listed is_closed is.settles here;
      others = λ config listed other.
          done-empty s new last n later hides now files macros config work settled list live more expanded h.tokens h.unhidden f.list f.faults first second is.held live_own listed is_closed is.settles other;
      held = answer-held new last later now (length files) settled live.0 more expanded second is.held f.list f.faults is_closed;
      some = answer-some new last later now (length files) settled live.0 more expanded second is.held f.list f.faults is_closed;
      stops = tt;
      alike = λ one two p q here there same defines.
          let looks = source-defines s n files hides one (macros one) (macros two) work list h.tokens h.unhidden defines in
          let start = all-back (λ (x : Cond × Token). IsAlike s one two x.0) bared work (subst (AreAlike s one two) (sym h.tokens) same) in
          answer-alike new last later now (length files) settled live.0 more expanded second is.held f.list f.faults is_closed one two (IsConfig-Keeps first p) (IsConfig-Keeps first q) (IsAlike-Keeps first p q live_own (here ∙ sym there))
          (is.alike one two p q here there start looks);
      keeps = Keeps-trans first second;
      names = c.settle.ensures.names;
      table = IsTable-Extends c.settle.ensures.names (IsTable-Keeps (Keeps-trans first second) c.requires.table);
      still = λ config text listed. macros_at-Extends c.settle.ensures.names (IsTable-Keeps (Keeps-trans first second) c.requires.table) config text ∙ macros_at-Keeps {names = n} (Keeps-trans first second) c.requires.table config text listed;
    }

pub returns-in_err-settled-clause-table : goal.returns-in_err-settled-clause-table
returns-in_err-settled-clause-table g c = IsTable-Extends c.settle.ensures.names (IsTable-Keeps c.settle.ensures.keeps c.requires.table)

pub returns-in_err-settled-clause-still : goal.returns-in_err-settled-clause-still
returns-in_err-settled-clause-still g c = λ config text listed. macros_at-Extends c.settle.ensures.names (IsTable-Keeps c.settle.ensures.keeps c.requires.table) config text ∙ macros_at-Keeps {names = c.args.names.now} c.settle.ensures.keeps c.requires.table config text listed

pub returns-in_err-closed-clause-table : goal.returns-in_err-closed-clause-table
returns-in_err-closed-clause-table g c = IsTable-Extends c.settle.ensures.names (IsTable-Keeps (Keeps-trans c.settle.ensures.keeps c.close.ensures.keeps) c.requires.table)

pub returns-in_err-closed-clause-still : goal.returns-in_err-closed-clause-still
returns-in_err-closed-clause-still g c = λ config text listed.
    let keeps = Keeps-trans c.settle.ensures.keeps c.close.ensures.keeps in
    macros_at-Extends c.settle.ensures.names (IsTable-Keeps keeps c.requires.table) config text ∙ macros_at-Keeps {names = c.args.names.now} keeps c.requires.table config text listed

pub returns-in_err-expanded-clause-table : goal.returns-in_err-expanded-clause-table
returns-in_err-expanded-clause-table g c = IsTable-Extends c.settle.ensures.names (IsTable-Keeps (Keeps-trans c.settle.ensures.keeps c.close.ensures.keeps) c.requires.table)

pub returns-in_err-expanded-clause-still : goal.returns-in_err-expanded-clause-still
returns-in_err-expanded-clause-still g c = λ config text listed.
    let keeps = Keeps-trans c.settle.ensures.keeps c.close.ensures.keeps in
    macros_at-Extends c.settle.ensures.names (IsTable-Keeps keeps c.requires.table) config text ∙ macros_at-Keeps {names = c.args.names.now} keeps c.requires.table config text listed

pub returns-in_err-settled-clause-stops : goal.returns-in_err-settled-clause-stops
returns-in_err-settled-clause-stops g c =
    let s = g.C.Conditions.sets c.args.conds.now in
    let names = c.args.names.now in
    let h = c.in_ok-hidden.ensures in
    let p = err_from_is_err_and c.from_residual-in_err-settled.result c.from_residual-in_err-settled.ensures.1 in
    let table = c.args.table.now in
    let macros = macros_at s names table in
    let hides = c.in_ok-sets.sets in
    let work = c.in_ok-hidden.hidden in
    let stop = c.in_err-settled.field-0.0 in
    let at_name = apart-stops (seen_hidden names hides) (provenance_of c.args.files.now) macros (entry_names names table.entries.entries) (within-table s names table) s c.args.live.0 work c.args.limit stop c.in_err-settled.ensures.stops in
    let stops = text-stops s names c.args.files.now hides macros c.args.live.0 work c.args.list.now c.args.limit stop h.tokens h.unhidden at_name in
    rw (p.1, p.2) stops

pub returns-in_err-closed-clause-stops : goal.returns-in_err-closed-clause-stops
returns-in_err-closed-clause-stops g c =
    let p = err_from_is_err_and c.from_residual-in_err-closed.result c.from_residual-in_err-closed.ensures.1 in
    rw (p.1, p.2) tt

pub returns-in_err-closed-clause-keeps : goal.returns-in_err-closed-clause-keeps
returns-in_err-closed-clause-keeps g c = Keeps-trans c.settle.ensures.keeps c.close.ensures.keeps

pub returns-in_err-expanded-clause-keeps : goal.returns-in_err-expanded-clause-keeps
returns-in_err-expanded-clause-keeps g c = Keeps-trans c.settle.ensures.keeps c.close.ensures.keeps
