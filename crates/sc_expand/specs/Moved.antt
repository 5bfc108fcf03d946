-- What is kept of the places of an expansion's tokens, mapped to something else that is kept of
-- them.
use Rattle.std.specs.Prelude.{◌≡◌, List, map, Result, Ok, Err}
use Rattle.c11_macros.specs.Hidden.{Failure, Hidden, Provenance}

-- the place and the mark of a token that a substitution put in are told as well by what it is
-- mapped to
pub record IsKept {P Q : Type 0} (one : Provenance P) (two : Provenance Q) (f : P → Q) : Type 0 where
  pub place : (p : P) → two.place (f p) ≡ one.place p
  pub mark : (p : P) → f (one.mark p) ≡ two.mark (f p)

abbrev pub moved : {P Q : Type 0} → (P → Q) → Hidden P → Hidden Q
moved f t = record { kind = t.kind; spelling = t.spelling; space = t.space; place = f t.place; hide = t.hide }

abbrev pub moved_failure : {P Q : Type 0} → (P → Q) → Failure P → Failure Q
moved_failure f failure = record { cause = failure.cause; place = f failure.place }

abbrev pub moved_answer : {P Q : Type 0} → (P → Q) → Result (List (Hidden P)) (Failure P) → Result (List (Hidden Q)) (Failure Q)
moved_answer f (Ok ts) = Ok (map (moved f) ts)
moved_answer f (Err failure) = Err (moved_failure f failure)
