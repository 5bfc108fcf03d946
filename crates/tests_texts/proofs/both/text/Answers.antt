use Rattle.std.proofs.Common.{◌≡◌, true, sym, subst}
use Rattle.std.proofs.lemmas.List.Elements.{All-nil}
use Rattle.sc_model.specs.Bytes.{has_no_newline}
use Rattle.sc_prep.specs.Printable.{ArePlainPaths}
use Rattle.tests_texts.proofs.both.text.Goals as goal

pub prepared-requires-clause-paths : goal.prepared-requires-clause-paths
prepared-requires-clause-paths g c = subst ArePlainPaths (sym c.in_ok-files.ensures) (All-nil (λ path. has_no_newline path ≡ true))

pub show_tokens-requires-clause-files : goal.show_tokens-requires-clause-files
show_tokens-requires-clause-files g c = c.in_ok-prepared.ensures.shown.paths

pub show_tokens-requires-clause-list : goal.show_tokens-requires-clause-list
show_tokens-requires-clause-list g c = c.in_ok-prepared.ensures.shown.list
