use Rattle.std.proofs.Common.{refl}
use Rattle.std.proofs.lemmas.List.{take_rest}
use Rattle.sc_lex.proofs.CursorLemmas.{takes-newline, takes-other}
use Rattle.sc_lex.proofs.cursor.Cursor.take_first.Goals as goal

pub returns-then-self-clause-takes : goal.returns-then-self-clause-takes
returns-then-self-clause-takes c =
    let s = c.args.self.now in
    takes-other s.wanted _ s.line s.column s.rest.now _ c.requires.some c.requires.no_return (take_rest s.rest.now 1) refl c.if-self.true

pub returns-else-self-clause-takes : goal.returns-else-self-clause-takes
returns-else-self-clause-takes c =
    let s = c.args.self.now in
    takes-newline s.wanted _ s.line s.column s.rest.now _ c.requires.some c.requires.no_return (take_rest s.rest.now 1) refl c.if-self.false
