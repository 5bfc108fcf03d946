use Rattle.std.proofs.Common.{◌/◌, length, take, drop, sym, ◌∙◌}
use Rattle.std.proofs.lemmas.List.{take-append-drop}
use Rattle.sc_source.proofs.SinkLemmas.{WritesCut-prefix, WritesCut-refused}
use Rattle.sc_source.proofs.memory_sink.MemorySinkSink.write.Goals as goal

pub returns-then-next_call_fails-clause-err : goal.returns-then-next_call_fails-clause-err
returns-then-next_call_fails-clause-err c =
    let half = length c.args.piece.now / 2 in
    WritesCut-prefix c.note.result _ _ _ (take half c.args.piece.now) (drop half c.args.piece.now) (take-append-drop half c.args.piece.now) c.note.ensures.ok c.note.ensures.err

pub returns-then-is_err-clause-err : goal.returns-then-is_err-clause-err
returns-then-is_err-clause-err c = WritesCut-refused c.note-2.result _ _ _ (sym c.is_err.ensures.value ∙ c.if-is_err.true) c.note-2.ensures.err
