-- Steps that may fail, of which none does.
use Rattle.std.proofs.Common.{◌≡◌, ap, refl, [], ◌∷◌, length, arith, List}
use Rattle.std.specs.Prelude.{Bool}
use Rattle.clap.specs.Faults.{check_fault, defaults_fault, level_fault, settle_fault, walk_fault}
use Rattle.clap.specs.Simple.{Shape}
use Rattle.clap.specs.Walk.{Held, Names, Text, finished, settled, walk, walk_from}
use Rattle.clap.specs.Kinds.{Kinds, or_else}
use Rattle.clap.specs.declared.error.ErrorKind.{ErrorKind}

pub not_empty : (k : ErrorKind) (ks : Kinds) → k ∷ ks ≡ [] → ⊥
not_empty k ks e = let h : length (k ∷ ks) ≡ 0 = ap length e in omega arith

-- where neither of two steps fails
pub both : (a b : Kinds) → or_else a b ≡ [] → (a ≡ []) × (b ≡ [])
both [] b e = (refl, e)
both (k ∷ ks) b e = absurd (not_empty k ks e)

-- a level of a parse where no step fails
pub record IsFaultless (s : Shape) (names : Names) (h : Held) (words : List Text) (has : Bool) (below : Kinds) : Type 0 where
  pub walks : walk_fault s names (walk_from h) words ≡ []
  pub enters : below ≡ []
  pub settles : settle_fault s.rules s.args_override_self (walk s.rules names h words).held ≡ []
  pub checks : check_fault s (finished s.rules (walk s.rules names h words).held) has ≡ []

pub level_steps : (s : Shape) (names : Names) (h : Held) (words : List Text) (has : Bool) (below : Kinds) → level_fault s names h words has below ≡ []
    → IsFaultless s names h words has below
level_steps s names h words has below e =
    let end = (walk s.rules names h words).held in
    let settle = settle_fault s.rules s.args_override_self end in
    let defaults = defaults_fault (settled s.rules end).rows s.rules in
    let check = check_fault s (finished s.rules end) has in
    let walked = both (walk_fault s names (walk_from h) words) (or_else below (or_else settle (or_else defaults check))) e in
    let entered = both below (or_else settle (or_else defaults check)) walked.1 in
    let settled = both settle (or_else defaults check) entered.1 in
    record { walks = walked.0; enters = entered.0; settles = settled.0; checks = (both defaults check settled.1).1 }
