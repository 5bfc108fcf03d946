use Rattle.std.proofs.Common.{append-nil}
use Rattle.std.proofs.lemmas.List.{map_push}
use Rattle.sc_space.specs.Seen.{seen_variable}
use Rattle.sc_space.specs.SpaceFile.{read_variables}
use Rattle.sc_space.proofs.Reading.{read_variables-more}
use Rattle.sc_space.proofs.Soundness.{ascending_names}
use Rattle.sc_space.proofs.TextLists.{are_texts, the_texts}
use Rattle.sc_space.proofs.variables.read_variables.Goals as goal

pub loop-name-preserved : goal.loop-name-preserved
loop-name-preserved c = λ texts are.
    let read = rw c.as_str.ensures.value at (c.in_ok-read_variable.ensures texts are) in
    rw (c.in_ok-push.ensures.items, map_push seen_variable)
    (read_variables-more texts _ _ _ _ _ _ (rw c.in-Some.ensures.steps at (c.loop-name.invariant texts are)) read)

pub returns-clause-ascending : goal.returns-clause-ascending
unfolding read_variables
returns-clause-ascending c =
    ascending_names the_texts c.args.table.now.entries _ c.len.ensures.ordered (rw (c.in-None.ensures.steps.0, append-nil) at (c.loop-name.invariant the_texts are_texts))
