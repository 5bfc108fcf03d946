-- The tokens of an expansion (Prosser): each has a hide set, the names of the macros that it came
-- from.
use Rattle.std.specs.Prelude.{ℕ, ◌&&◌, ◌||◌, Bool, false, List}
use Rattle.sc_model.specs.declared.cause.Cause.{Cause}
use Rattle.sc_model.specs.declared.kind.Kind.{Kind}
use Rattle.sc_model.specs.Bytes.{same_bytes}
use Rattle.sc_model.specs.Token.{Place}

-- a set of names, seen through the test whether it has one
abbrev pub HideSet : Type 0
HideSet = List ℕ → Bool

abbrev pub no_names : HideSet
no_names name = false

abbrev pub with_name : HideSet → List ℕ → HideSet
with_name set name other = set other || same_bytes name other

abbrev pub union : HideSet → HideSet → HideSet
union one two name = one name || two name

abbrev pub meet : HideSet → HideSet → HideSet
meet one two name = one name && two name

-- What is kept of the place where a token stands: the place itself is in it, and a token that a
-- substitution put in is marked.
pub record Provenance (P : Type 0) : Type 0 where
  pub place : P → Place
  pub mark : P → P

pub record Hidden (P : Type 0) : Type 0 where
  pub kind : Kind
  pub spelling : List ℕ
  -- white space or a newline stands before it
  pub space : Bool
  pub place : P
  pub hide : HideSet

-- why an expansion is refused, and where
pub record Failure (P : Type 0) : Type 0 where
  pub cause : Cause
  pub place : P

abbrev pub failure_at : {P : Type 0} → Cause → Hidden P → Failure P
failure_at cause t = record { cause = cause; place = t.place }
