use Rattle.std.proofs.Common.{◌≡◌, ◌∷◌, [], All}
use Rattle.sc_base.specs.declared.id.Cond.{Cond}
use Rattle.sc_base.specs.declared.token.Token.{Token}
use Rattle.sc_base.specs.Seen.{IsHeld}
use Rattle.sc_model.specs.Sets.{IsCond}
use Rattle.tests_parser.proofs.parse.list_of.Given as goal

abbrev pub invariant-loop-under : goal.invariant-loop-under
invariant-loop-under g l = record {
  arities : (g.C.Conditions.sets l.conds).arities ≡ 2 ∷ (2 ∷ (2 ∷ []));
  items : All (λ (item : Cond × Token). IsCond (g.C.Conditions.sets l.conds) item.0.0) l.list;
  held : All (λ (item : Cond × Token). IsHeld l.names item.1) l.list;
}
