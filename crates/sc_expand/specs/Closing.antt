-- Lists that wait for what follows them, where nothing follows (C11 6.10.3p10, p11).
use Rattle.std.specs.Prelude.{◌≡◌, ℕ, ◌<◌, ◌&&◌, not, Bool, true, false, List, [], ◌∷◌, All, map, take, if◌then◌else◌}
use Rattle.c11_macros.specs.Hidden.{Failure}
use Rattle.sc_expand.specs.Seen.{failures_at}
use Rattle.sc_base.specs.declared.id.Cond.{Cond}
use Rattle.sc_base.specs.declared.place.Place.{Place}
use Rattle.sc_base.specs.Seen.{IsHeld}
use Rattle.sc_guarded.specs.Items.{items_at}
use Rattle.sc_guarded.specs.declared.expanded.Expanded.{Expanded}
use Rattle.sc_hoist.specs.Alike.{AreAlike, AreAlikeFaults}
use Rattle.sc_model.specs.Sets.{IsCond, IsConfig, IsNever, Sets}
use Rattle.sc_model.specs.declared.cause.Cause.TheVariants.{UnterminatedCall}
use Rattle.sc_subst.specs.declared.hidden.Hidden.{Hidden}

-- the list has more than one item
abbrev pub is_several : {A : Type 0} → List A → Bool
is_several [] = false
is_several (x ∷ []) = false
is_several (x ∷ (y ∷ ys)) = true

-- the call of this name is not closed
abbrev pub unclosed_at : Hidden → Failure Place
unclosed_at h = record { cause = UnterminatedCall; place = h.token.place }

-- At a configuration of a condition its list is a name alone, which stays, or begins with a call
-- that is not closed.
pub record IsClosed (old new : Sets) (rest : List (Cond × Hidden)) (under : ℕ) (e : Expanded) : Type 0 where
  pub list : (c : List ℕ) → IsConfig old.arities c → items_at new e.list c
      ≡ (if old.has under c && not (is_several (items_at old rest c)) then map (λ h. h.token) (items_at old rest c) else [])
  pub faults : (c : List ℕ) → IsConfig old.arities c → failures_at new e.faults.items c
      ≡ (if old.has under c && is_several (items_at old rest c) then map unclosed_at (take 1 (items_at old rest c)) else [])
  pub own : All (λ item. IsCond new item.0.0) e.list
  pub some : All (λ item. IsNever new item.0.0 → ⊥) e.list
  pub held : (names : List (List ℕ)) → All (λ item. IsHeld names item.1.token) rest → All (λ item. IsHeld names item.1) e.list
  pub placed : (files : ℕ) → All (λ item. item.1.token.place.file.0 < files) rest → All (λ item. item.1.place.file.0 < files) e.list
  pub faults_placed : (files : ℕ) → All (λ item. item.1.token.place.file.0 < files) rest → All (λ f. f.place.file.0 < files) e.faults.items
  pub faults_some : All (λ f. IsNever new f.cond.0 → ⊥) e.faults.items
  pub faults_own : All (λ f. IsCond new f.cond.0) e.faults.items
  pub alike : (c d : List ℕ) → IsConfig old.arities c → IsConfig old.arities d → old.has under c ≡ old.has under d
      → AreAlike old c d rest → AreAlike new c d e.list × AreAlikeFaults new c d e.faults.items
