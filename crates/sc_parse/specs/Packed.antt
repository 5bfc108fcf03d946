-- Events as two numbers.
use Rattle.std.specs.Prelude.{ℕ, zero, suc}
use Rattle.sc_fork.specs.declared.event.Event.{Event}
use Rattle.sc_fork.specs.declared.event.Event.TheVariants.{Split, Reduce, Shift, Classify, Merge}

-- The second number is that of what is done, or the other number of a merge and four more.
abbrev pub unpacked : ℕ → ℕ → Event
unpacked number zero = Split number
unpacked number (suc zero) = Reduce number
unpacked number (suc (suc zero)) = Shift number
unpacked number (suc (suc (suc zero))) = Classify number
unpacked number (suc (suc (suc (suc other)))) = Merge number other
