-- What configurations put out of a token that they expand alike is one element of the list.
use Rattle.std.specs.Prelude.{◌≡◌, ℕ, true, List}
use Rattle.c11_directives.specs.Footprints.{SourceFootprint}
use Rattle.sc_base.specs.declared.id.Cond.{Cond}
use Rattle.sc_base.specs.declared.token.Token.{Token}
use Rattle.sc_expand.specs.Thin.{IsNth}
use Rattle.sc_model.specs.Sets.{IsConfig, Sets}

-- the n-th element that the one has of a list, and the m-th that the other has, is one
abbrev pub HaveOne : Sets → List (Cond × Token) → (c d : List ℕ) (n m : ℕ) → Type 0
HaveOne s list c d n m = (i : ℕ) × IsNth s list c n i × IsNth s list d m i

-- Of a token at one place, with one footprint, each token that configurations of the condition put
-- out is one element.
pub record IsThin (s : Sets) (list : List (Cond × Token)) (live : ℕ) (puts : List ℕ → SourceFootprint → (index number : ℕ) → Type 0) : Type 0 where
  pub one : (c d : List ℕ) → IsConfig s.arities c → IsConfig s.arities d → s.has live c ≡ true → s.has live d ≡ true → (f : SourceFootprint) (index n m : ℕ)
      → puts c f index n → puts d f index m → HaveOne s list c d n m
