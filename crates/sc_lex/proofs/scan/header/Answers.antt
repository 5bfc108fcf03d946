use Rattle.std.proofs.Common.{sym, subst}
use Rattle.c11_tokens.specs.Lex.{is_header, is_delimited}
use Rattle.sc_lex.specs.Scan.{IsLongestFront}
use Rattle.sc_lex.proofs.Fronts.{either}
use Rattle.sc_lex.proofs.scan.header.Goals as goal

pub returns : goal.returns
returns c =
    subst (IsLongestFront is_header c.args.text.now) (sym c.max.ensures)
    (either (is_delimited 60 62) (is_delimited 34 34) c.args.text.now _ _ c.delimited.ensures c.delimited-2.ensures)
