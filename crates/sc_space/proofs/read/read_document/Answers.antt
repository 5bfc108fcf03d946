use Rattle.std.proofs.Common.{◌∙◌}
use Rattle.sc_space.proofs.Reading.{read_document-text, read_document-no_text}
use Rattle.sc_space.proofs.read.read_document.Goals as goal

pub returns-in_default : goal.returns-in_default
returns-in_default c = read_document-no_text _ c.if-bytes-gt-LARGEST_FILE.false c.in_default.ensures.cases.0

pub returns-in-Ok-table_from_str : goal.returns-in-Ok-table_from_str
returns-in-Ok-table_from_str c =
    read_document-text c.args.bytes.now c.if-bytes-gt-LARGEST_FILE.false c.in-Ok.ensures.cases.1 ∙ rw (← c.in-Ok.ensures.cases.0, c.in-Ok-table_from_str.ensures.ok)
