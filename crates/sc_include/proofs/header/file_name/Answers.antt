use Rattle.std.proofs.Common.{rules}
use Rattle.sc_include.proofs.FileNames.{file_name-some, file_name-none}
use Rattle.sc_include.proofs.header.file_name.Goals as goal

pub returns-clause-some : goal.returns-clause-some
returns-clause-some c = rw c.ok.ensures.value (file_name-some c.args.bytes c.from_utf8.result (search rules) c.from_utf8.ensures.ok)

pub returns-clause-none : goal.returns-clause-none
returns-clause-none c = rw c.ok.ensures.value (file_name-none c.args.bytes c.from_utf8.result (search rules) c.from_utf8.ensures.succeeds)
