use Rattle.std.proofs.Common.{arith}
use Rattle.std.proofs.lemmas.Option.{slice_get-get_or}
use Rattle.sc_grammar.specs.C11.{productions}
use Rattle.sc_grammar.specs.Production.{places_from}
use Rattle.sc_grammar.proofs.lookup.place.Goals as goal

pub returns : goal.returns
returns c = slice_get-get_or (places_from 0 productions) c.args.count 0 (omega (arith, c.requires))
