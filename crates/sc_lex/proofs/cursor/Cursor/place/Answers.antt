use Rattle.std.proofs.Common.{◌∙◌}
use Rattle.sc_lex.specs.Logical.{stored_of}
use Rattle.sc_lex.proofs.CursorLemmas.{stored-first}
use Rattle.sc_lex.proofs.Splices.{first_position}
use Rattle.sc_lex.proofs.cursor.Cursor.place.Goals as goal

pub returns-clause-first : goal.returns-clause-first
returns-clause-first c = λ m ms is.
    let end = c.skip_return.new.self in
    first_position (stored_of c.skip_splices.new.self) (record { line = end.line; column = end.column })
    (λ n ns e. stored-first end.wanted end.line end.column end.rest.now c.skip_return.ensures.none n ns (c.skip_return.ensures.same ∙ e))
    c.skip_splices.ensures.first m ms (c.skip_splices.ensures.same ∙ is)
