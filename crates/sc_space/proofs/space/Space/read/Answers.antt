use Rattle.std.proofs.Common.{◌≤◌, length, map, arith}
use Rattle.std.proofs.lemmas.Result.{err_from_is_err_and}
use Rattle.std.proofs.lemmas.List.{length-map}
use Rattle.sc_space.specs.Seen.{seen_variable}
use Rattle.sc_space.specs.SpaceFile.{read_space}
use Rattle.sc_space.proofs.Reading.{refused_first, check_number-many, check_number-few}
use Rattle.sc_space.proofs.Soundness.{sound_answer}
use Rattle.sc_space.proofs.TextLists.{are_texts, the_texts}
use Rattle.sc_space.proofs.space.Space.read.Goals as goal

pub returns-in_err-document-clause-answer : goal.returns-in_err-document-clause-answer
unfolding read_space
returns-in_err-document-clause-answer c = λ texts are.
    let p = err_from_is_err_and c.from_residual.result c.from_residual.ensures.1 in
    rw (p.1, p.2) (refused_first _ _ _ c.in_err-document.ensures)

pub returns-in_err-check_keys-clause-answer : goal.returns-in_err-check_keys-clause-answer
unfolding read_space
returns-in_err-check_keys-clause-answer c = λ texts are.
    let p = err_from_is_err_and c.from_residual-in_err-check_keys.result c.from_residual-in_err-check_keys.ensures.1 in
    rw (p.1, p.2, c.in_ok-document.ensures) (refused_first _ _ _ c.in_err-check_keys.ensures)

pub returns-in_err-variables_table-clause-answer : goal.returns-in_err-variables_table-clause-answer
unfolding read_space
returns-in_err-variables_table-clause-answer c = λ texts are.
    let p = err_from_is_err_and c.from_residual-in_err-variables_table.result c.from_residual-in_err-variables_table.ensures.1 in
    rw (p.1, p.2, c.in_ok-document.ensures, c.in_ok-check_keys.ensures) (refused_first _ _ _ c.in_err-variables_table.ensures)

pub returns-in_err-variables-clause-answer : goal.returns-in_err-variables-clause-answer
unfolding read_space
returns-in_err-variables-clause-answer c = λ texts are.
    let p = err_from_is_err_and c.from_residual-in_err-variables.result c.from_residual-in_err-variables.ensures.1 in
    rw (p.1, p.2, c.in_ok-document.ensures, c.in_ok-check_keys.ensures, c.in_ok-variables_table.ensures) (refused_first _ _ _ (c.in_err-variables.ensures.answer texts are))

pub returns-then-len-gt-MOST_VARIABLES-clause-answer :
    goal.returns-then-len-gt-MOST_VARIABLES-clause-answer
unfolding read_space
returns-then-len-gt-MOST_VARIABLES-clause-answer c = λ texts are.
    let vs = c.in_ok-variables.variables in
    rw (
      c.in_ok-document.ensures,
      c.in_ok-check_keys.ensures,
      c.in_ok-variables_table.ensures,
      c.in_ok-variables.ensures.answer texts are,
      check_number-many vs.items (omega (arith, c.if-len-gt-MOST_VARIABLES.true, c.len.ensures, vs.ok.0)),
    )

pub returns-clause-answer : goal.returns-clause-answer
unfolding read_space
returns-clause-answer c = λ texts are.
    let vs = c.in_ok-variables.variables in
    rw (
      c.in_ok-document.ensures,
      c.in_ok-check_keys.ensures,
      c.in_ok-variables_table.ensures,
      c.in_ok-variables.ensures.answer texts are,
      check_number-few vs.items (omega (arith, c.if-len-gt-MOST_VARIABLES.false, c.len.ensures, vs.ok.0)),
    )
    c.with_settings.ensures

pub returns-clause-sound : goal.returns-clause-sound
returns-clause-sound c =
    let vs = c.in_ok-variables.variables in
    let few : length (map seen_variable vs.items) ≤ 1024 = omega (arith, length-map vs.items seen_variable, c.if-len-gt-MOST_VARIABLES.false, c.len.ensures, vs.ok.0) in
    sound_answer the_texts are_texts _ _ _ c.with_settings.result (c.in_ok-variables.ensures.answer the_texts are_texts) few c.in_ok-variables.ensures.ascending c.with_settings.ensures
