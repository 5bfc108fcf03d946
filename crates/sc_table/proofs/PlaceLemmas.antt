-- The configurations of the options at one place.
use Rattle.std.proofs.Common.{◌≡◌, ℕ, ◌+◌, ◌<◌, ◌≤◌, ◌==◌, ◌&&◌, ◌||◌, Bool, true, false, nat_lt, List, length, Some, refl, ap, sym, ◌∙◌, arith, inl, inr}
use Rattle.std.proofs.lemmas.Bool.{cases_eq, eq-eqb, ne_eqb, lt-ltb, le-ltb}
use Rattle.std.proofs.lemmas.Bool.Decides.{nat_tests}
use Rattle.std.proofs.lemmas.Option.{slice_get-get_or}
use Rattle.std.specs.Option.{option_and_then}
use Rattle.std.specs.Prelude.{slice_index, Option}
use Rattle.std.specs.declared.rc.Rc.{Rc}
use Rattle.sc_macro.specs.declared.definition.Definition.{Definition}
use Rattle.sc_table.specs.Table.{definition_at, option_at}

lt-more : (k i : ℕ) → (k ≡ i → ⊥) → nat_lt k (i + 1) ≡ nat_lt k i
lt-more k i differs = grind (arith, nat_tests)

lt-here : (i : ℕ) → nat_lt i (i + 1) ≡ true
lt-here i = lt-ltb i (i + 1) (omega arith)

not-here : (i : ℕ) → nat_lt i i ≡ false
not-here i = le-ltb i i (omega arith)

-- one option more
pub place-more : (places : List ℕ) (k i place : ℕ)
    → ((slice_index places i == place) && (k == i) || (nat_lt k i && (slice_index places k == place))) ≡ (nat_lt k (i + 1) && (slice_index places k == place))
place-more places k i place =
    elim (cases_eq k i) [
      | inl same ↦ rw (same, not-here i, lt-here i, eq-eqb i i refl) (alone (slice_index places i == place))
      | inr other ↦ rw (lt-more k i other, ne_eqb k i other) (neither (slice_index places i == place) (nat_lt k i && (slice_index places k == place)))
    ]
  where
    alone : (b : Bool) → (b && true || false) ≡ b
    alone true = refl
    alone false = refl

    neither : (b c : Bool) → (b && false || c) ≡ c
    neither true c = refl
    neither false c = refl

pub place-none : (places : List ℕ) (k place : ℕ) → false ≡ (nat_lt k 0 && (slice_index places k == place))
place-none places k place = rw (le-ltb k 0 (omega arith)) refl

pub place-all : (places : List ℕ) (k i place : ℕ) → k < i → (nat_lt k i && (slice_index places k == place)) ≡ (slice_index places k == place)
place-all places k i place below = rw (lt-ltb k i below) refl

-- the definition of an option is that of its place
pub option_at-place : {A : Type 0} (places : List ℕ) (definitions : List (Option (Rc Definition A))) (k : ℕ) → k < length places → definition_at definitions (slice_index places k) ≡ option_at places definitions k
option_at-place places definitions k within = ap (option_and_then (definition_at definitions)) (sym (slice_get-get_or places k 0 within))
