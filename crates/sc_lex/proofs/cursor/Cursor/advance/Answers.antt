use Rattle.std.proofs.Common.{drop, ap, ◌∙◌}
use Rattle.std.proofs.lemmas.List.{drop-drop}
use Rattle.sc_lex.specs.Logical.{logical_of}
use Rattle.sc_lex.proofs.CursorLemmas.{Takes-drop}
use Rattle.sc_lex.proofs.cursor.Cursor.advance.Goals as goal

pub loop-preserved : goal.loop-preserved
loop-preserved c =
    Takes-drop (logical_of c.loop.self) _ _ c.next.ensures ∙ ap (drop 1) c.loop.invariant ∙ drop-drop 1 c.loop.counter (logical_of c.args.self.now)
