use Rattle.std.proofs.Common.{map, sym, ◌∙◌}
use Rattle.sc_if.proofs.Pieces.{stays}
use Rattle.sc_if.specs.Replaced.{unhidden}
use Rattle.sc_if.proofs.piece.first_piece.Goals as goal

pub returns-then-not-is_defined-clause-some : goal.returns-then-not-is_defined-clause-some
returns-then-not-is_defined-clause-some c = λ macros.
    let names = c.args.names.now in
    stays macros (unhidden names c.args.token) (map (unhidden names) c.args.behind.now) (sym c.is_defined.ensures ∙ c.if-not-is_defined.true)
