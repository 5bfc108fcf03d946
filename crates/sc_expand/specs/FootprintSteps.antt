-- How much is still to be scanned, with so many tokens of the whole list at its end.
use Rattle.std.specs.Prelude.{ℕ, ◌<◌, nat_le, List, length, if◌then◌else◌}
use Rattle.c11_macros.specs.Hidden.{Hidden}
use Rattle.sc_expand.specs.Plain.{State, expanding, scanning, waiting}

-- What is still to be scanned of the whole list. With a call that waits, it follows the call.
abbrev pub bottom : {P : Type 0} → State P → List (Hidden P)
bottom (scanning out work) = work
bottom (waiting out work w) = work
bottom (expanding out work w n s) = work

-- more than so many tokens are still to be scanned, or a call waits
abbrev pub IsPending : {P : Type 0} → State P → ℕ → Type 0
IsPending (scanning out work) left = left < length work
IsPending (waiting out work w) left = Unit {0}
IsPending (expanding out work w n s) left = Unit {0}

abbrev pub lower_of : ℕ → ℕ → ℕ
lower_of n left = if nat_le n left then n else left
