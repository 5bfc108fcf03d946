use Rattle.std.proofs.Common.{Result, Ok, Err, OnOk, OnErr}
use Rattle.sc_source.proofs.SinkLemmas.{WritesCut-None}
use Rattle.sc_source.proofs.std_sink.StdSinkSink.TheImpl.Goals as goal

on_either : {T E P : Type 0} (r : Result T E) → P → OnOk r P × OnErr r P
on_either (Ok x) p = (p, tt)
on_either (Err e) p = (tt, p)

-- a sink that tells nothing gives what is said of a log
pub write-tells : goal.write-tells
write-tells g c = record {
  ok = (on_either c.result tt).0;
  err = (on_either c.result (WritesCut-None c.args.piece.now)).1;
  counted = c.ensures.counted;
  failed = c.ensures.failed;
  stays = c.ensures.stays;
}
