-- The expansion of the tokens of a text (C11 6.10.3.4).
use Rattle.std.specs.Prelude.{◌≡◌, List, map, Result, Ok, Err}
use Rattle.c11_macros.specs.Expansion.{Expands}
use Rattle.c11_macros.specs.Hidden.{Failure, Hidden, Provenance, no_names}
use Rattle.c11_macros.specs.Macros.{Macros}
use Rattle.sc_model.specs.Fault.{Fault}
use Rattle.sc_model.specs.Token.{Place, Token}

-- nothing but the place is kept
abbrev pub place_alone : Provenance Place
place_alone = record { place = λ p. p; mark = λ p. p }

-- a token of the text hides no name
abbrev pub unhidden : Token → Hidden Place
unhidden t = record { kind = t.kind; spelling = t.spelling; space = t.space; place = t.place; hide = no_names }

-- a token behind the expansion
abbrev pub token_of : Hidden Place → Token
token_of t = record { kind = t.kind; spelling = t.spelling; space = t.space; place = t.place }

abbrev pub fault_of : Failure Place → Fault
fault_of failure = record { cause = failure.cause; place = failure.place }

abbrev pub text_of_answer : Result (List (Hidden Place)) (Failure Place) → Result (List Token) Fault
text_of_answer (Ok ts) = Ok (map token_of ts)
text_of_answer (Err failure) = Err (fault_of failure)

-- with these macros the tokens of a text become these, or have this first fault
pub record TextExpands (macros : Macros) (text : List Token) (r : Result (List Token) Fault) : Type 0 where
  pub answer : Result (List (Hidden Place)) (Failure Place)
  pub expands : Expands place_alone macros (map unhidden text) answer
  pub is : r ≡ text_of_answer answer
