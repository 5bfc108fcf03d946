-- A run has one way to go on.
use Rattle.std.proofs.Common.{◌≡◌, ◌⊎◌, List, Result, inl, inr, refl, sym}
use Rattle.c11_parsing.specs.LR.{LR, Point, answered, Reaches, here, later}
use Rattle.c11_parsing.specs.Parser.{Parser}
use Rattle.c11_parsing.specs.Trees.{Tree}
use Rattle.sc_model.specs.Fault.{Fault}
use Rattle.sc_model.specs.Token.{Place, Token}

pub one_way : (m : Parser) (end : Place) (x y z : Point) → Reaches m end x y → Reaches m end x z → Reaches m end y z ⊎ Reaches m end z y
one_way m end x y z here e = inl e
one_way m end x y z (later d) here = inr (later d)
one_way m end x y z (later d) (later e) = one_way m end _ y z d e

answer_is_last : (m : Parser) (end : Place) (a b : Result Tree Fault) → Reaches m end (answered a) (answered b) → a ≡ b
answer_is_last m end a b here = refl

pub one_answer : (m : Parser) (end : Place) (ts : List Token) (a b : Result Tree Fault) → LR m end ts a → LR m end ts b → a ≡ b
one_answer m end ts a b d e = elim (one_way m end _ (answered a) (answered b) d.run e.run) [
  | inl to ↦ answer_is_last m end a b to
  | inr back ↦ sym (answer_is_last m end b a back)
]
