-- What a read's failure means for a run.
use Rattle.sc_base.specs.declared.stop.Stop.{Stop}
use Rattle.sc_base.specs.declared.stop.Stop.TheVariants as stop
use Rattle.sc_source.specs.declared.source.SourceStop.{SourceStop}
use Rattle.sc_source.specs.declared.source.SourceStop.TheVariants.{Failed, OutOfMemory}

abbrev pub stop_of : SourceStop → Stop
stop_of Failed = stop.ReadFault
stop_of OutOfMemory = stop.OutOfMemory
