-- Why an #if has more branches than the limit: what waits before one of its items.
use Rattle.std.specs.Prelude.{◌≡◌, ℕ, ◌+◌, ◌≤◌, Bool, true, List, All, AllPairs, Some, length, map, slice_get, take}
use Rattle.c11_expressions.specs.Parts.{IsPart, Part}
use Rattle.sc_base.specs.declared.id.Cond.{Cond}
use Rattle.sc_base.specs.declared.stop.Stop.{Stop}
use Rattle.sc_base.specs.declared.stop.Stop.TheVariants.{BranchesFull, ReadFault, OutOfMemory}
use Rattle.sc_base.specs.declared.token.Token.{Token}
use Rattle.sc_guarded.specs.Items.{items_at}
use Rattle.sc_if.specs.Symbols.{symbol_at}
use Rattle.sc_model.specs.Sets.{Sets, IsConfig}
use Rattle.sc_model.specs.declared.standard.Standard.{Standard}

-- the configuration has the item, and this waits before it behind those in front
pub record HasPart (standard : Standard) (s : Sets) (names : List (List ℕ)) (front : List (Cond × Token)) (item : Cond × Token) (p : List ℕ × Part) : Type 0 where
  pub has : s.has item.0.0 p.0 ≡ true
  pub part : IsPart (symbol_at standard names item.1) (map (symbol_at standard names) (items_at s front p.0)) p.1

-- Before one item at least so many configurations of a test have something that waits, no two the
-- same.
pub record HasParts (standard : Standard) (s : Sets) (names : List (List ℕ)) (list : List (Cond × Token)) (test : List ℕ → Bool) (count : ℕ) : Type 0 where
  pub index : ℕ
  pub item : Cond × Token
  pub is : slice_get list index ≡ Some item
  pub parts : List (List ℕ × Part)
  pub many : count ≤ length parts
  pub listed : All (λ p. IsConfig s.arities p.0) parts
  pub among : All (λ p. test p.0 ≡ true) parts
  pub each : All (HasPart standard s names (take index list) item) parts
  pub apart : AllPairs (λ p q. p.1 ≡ q.1 → ⊥) parts

-- why there is no answer: before one item more waits than the limit, or no memory
abbrev pub RefusesAt : Standard → Sets → List (List ℕ) → List (Cond × Token) → (List ℕ → Bool) → ℕ → Stop → Type 0
RefusesAt standard s names list test limit (BranchesFull count) = (count ≡ limit + 1) × HasParts standard s names list test (limit + 1)
RefusesAt standard s names list test limit ReadFault = ⊥
RefusesAt standard s names list test limit OutOfMemory = Unit {0}
