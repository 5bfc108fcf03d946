use Rattle.sc_space.proofs.Reading.{same_bytes-differ}
use Rattle.sc_space.proofs.read.is_known_key.Goals as goal

pub returns-in_default : goal.returns-in_default
returns-in_default c =
    rw (same_bytes-differ _ _ c.in_default.not-variables, same_bytes-differ _ _ c.in_default.not-include, same_bytes-differ _ _ c.in_default.not-branches, same_bytes-differ _ _ c.in_default.not-include_depth, same_bytes-differ _ _ c.in_default.not-date, same_bytes-differ _ _ c.in_default.not-time, same_bytes-differ _ _ c.in_default.not-standard, same_bytes-differ _ _ c.in_default.not-valid)
