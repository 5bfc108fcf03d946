use Rattle.sc_space.proofs.Reading.{same_bytes-bytes_eq}
use Rattle.sc_space.proofs.option.same_option.Goals as goal

pub returns-in-Text-Text : goal.returns-in-Text-Text
returns-in-Text-Text c =
    let d = c.in-Text-Text in
    rw (d.is-0, d.is-1, same_bytes-bytes_eq, ← c.as_str.ensures.value, ← c.as_str-in-Text-Text.ensures.value) c.eq.ensures
