-- What a condition denotes, said by another test.
use Rattle.std.proofs.Common.{◌≡◌, ℕ, Bool, List, ◌∙◌}
use Rattle.sc_model.specs.Sets.{Sets, IsConfig, Denotes}

-- a test that agrees with another at every configuration
pub Denotes-as : {s : Sets} {a : ℕ} {f : List ℕ → Bool} (g : List ℕ → Bool) → Denotes s a f → ((c : List ℕ) → IsConfig s.arities c → f c ≡ g c) → Denotes s a g
Denotes-as g d same = record { own = d.own; at = λ c listed. d.at c listed ∙ same c listed }
