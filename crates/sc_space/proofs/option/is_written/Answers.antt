use Rattle.sc_space.proofs.Reading.{same_bytes-bytes_eq}
use Rattle.sc_space.proofs.option.is_written.Goals as goal

pub returns-in-Number : goal.returns-in-Number
returns-in-Number c = rw (c.in-Number.is, same_bytes-bytes_eq, ← c.format.ensures.text) c.eq-in-Number.ensures

pub returns-in-Undefined : goal.returns-in-Undefined
returns-in-Undefined c = rw (c.in-Undefined.is, same_bytes-bytes_eq) c.eq.ensures
