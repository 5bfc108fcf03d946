use Rattle.std.proofs.Common.{◌∙◌, [], None, All, ap, refl, sym, subst, arith}
use Rattle.sc_core.proofs.Failing.{held_or, may-hold}
use Rattle.sc_core.proofs.ParsedFiles.{c11-conflicts, c11-is, c11-parser}
use Rattle.sc_core.proofs.texts.conflicts_text.Goals as goal
use Rattle.sc_core.specs.Texts.{setting_of}
use Rattle.sc_model.specs.Space.{Space}
use Rattle.sc_show.specs.Conflicts.{conflict_pieces}
use Rattle.sc_lalr.specs.Tables.{conflicts_of}
use Rattle.sc_show.proofs.ConflictLines.{are_named, conflict_lines}
use Rattle.sc_show.specs.Pieces.{IsLine}
use Rattle.sc_model.specs.declared.standard.Standard.TheVariants.{C11}

pub show_conflicts-requires : goal.show_conflicts-requires
show_conflicts-requires c =
    let tables = c.in_ok-tables.ensures in
    are_named {g = tables.are.grammar} {tables = c.in_ok-tables.tables} (record { states = tables.states; exact = tables.are.exact }) (omega (arith, tables.are.terminals))

-- it is about no files
no-space : Space
no-space = record { variables = []; include = []; branches = 0; include_depth = 0; date = []; time = []; standard = C11; valid = None }

pub returns : goal.returns
unfolding no-space
returns c = λ holds.
    let tables = c.in_ok-tables.ensures in
    let written = c.in_ok-show_conflicts.ensures.lines in
    record {
      lines = subst (All IsLine) (sym written) (conflict_lines (conflicts_of c.in_ok-tables.tables));
      setting = setting_of no-space [] (c11-parser C11 tables) (held_or holds (λ name. None));
      held = may-hold holds (λ name. None);
      has = tt;
      text = record { c11 = c11-is C11 tables; written = written ∙ ap conflict_pieces (sym (c11-conflicts C11 tables)); verdict = refl };
    }
