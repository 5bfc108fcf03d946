-- Steps of which each may fail.
use Rattle.std.specs.Prelude.{Result, Ok, Err}

abbrev pub result_map : {A B E : Type 0} → (A → B) → Result A E → Result B E
result_map f (Ok a) = Ok (f a)
result_map f (Err e) = Err e

-- what a step makes of the result of the one before, whose failure stays
abbrev pub result_and_then : {A B E : Type 0} → (A → Result B E) → Result A E → Result B E
result_and_then f (Ok a) = f a
result_and_then f (Err e) = Err e
