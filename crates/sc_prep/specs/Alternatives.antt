-- The tokens that the configurations have in a list.
use Rattle.std.specs.Prelude.{ℕ, List, All, map}
use Rattle.sc_base.specs.declared.token.Token.{Token}
use Rattle.sc_base.specs.declared.id.Cond.{Cond}
use Rattle.sc_guarded.specs.Items.{items_at}
use Rattle.sc_hoist.specs.declared.branch.Branch.{Branch}
use Rattle.sc_if.specs.Decided.{tokens_at}
use Rattle.sc_model.specs.Sets.{Sets, IsCond}
use Rattle.sc_prep.specs.declared.alternatives.Alternative.{Alternative}

abbrev pub alternative_tokens : Alternative → Cond × List Token
alternative_tokens a = (a.cond, a.tokens.items)

-- a branch, with the tokens of the list at its places
abbrev pub branch_tokens : List (Cond × Token) → Branch → Cond × List Token
branch_tokens list branch = (branch.cond, tokens_at list branch.places.items)

-- the tokens of each alternative that has the configuration
abbrev pub tokens_in : Sets → List Alternative → List ℕ → List (List Token)
tokens_in s alternatives c = items_at s (map alternative_tokens alternatives) c

abbrev pub OwnsEach : Sets → List Alternative → Type 0
OwnsEach s alternatives = All (λ a. IsCond s a.cond.0) alternatives

-- each token of each alternative is as this says
abbrev pub EachToken : (Token → Type 0) → List Alternative → Type 0
EachToken P alternatives = All (λ a. All P a.tokens.items) alternatives
