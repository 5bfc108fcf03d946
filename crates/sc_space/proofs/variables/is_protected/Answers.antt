use Rattle.sc_space.specs.SpaceFile.{is_protected}
use Rattle.sc_space.proofs.Reading.{same_bytes-differ}
use Rattle.sc_space.proofs.variables.is_protected.Goals as goal

pub returns-in_default : goal.returns-in_default
unfolding is_protected
returns-in_default c =
    rw (same_bytes-differ _ _ c.in_default.not-defined, same_bytes-differ _ _ c.in_default.not-text, same_bytes-differ _ _ c.in_default.not-text-2, same_bytes-differ _ _ c.in_default.not-text-3, same_bytes-differ _ _ c.in_default.not-text-4, same_bytes-differ _ _ c.in_default.not-text-5, same_bytes-differ _ _ c.in_default.not-text-6, same_bytes-differ _ _ c.in_default.not-text-7, same_bytes-differ _ _ c.in_default.not-text-8)
