use Rattle.std.proofs.Common.{ℕ, List, All}
use Rattle.sc_base.specs.declared.id.Cond.{Cond}
use Rattle.sc_base.specs.declared.token.Token.{Token}
use Rattle.sc_base.specs.Seen.{IsHeld}
use Rattle.sc_model.specs.Sets.{Sets, IsCond}
use Rattle.tests_parser.proofs.parse.add_tokens.Given as goal

abbrev pub invariant-loop-token : goal.invariant-loop-token
invariant-loop-token l = record {
  items : (sets : Sets) → IsCond sets l.fn.cond.0 → All (λ (item : Cond × Token). IsCond sets item.0.0) l.initial.list → All (λ (item : Cond × Token). IsCond sets item.0.0) l.list;
  held : (names : List (List ℕ)) → All (IsHeld names) l.token-items → All (λ (item : Cond × Token). IsHeld names item.1) l.initial.list
      → All (λ (item : Cond × Token). IsHeld names item.1) l.list;
}
