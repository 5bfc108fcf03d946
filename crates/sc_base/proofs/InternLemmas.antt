-- What a look-up and an insertion in a set say of the list of what its keys stand for.
use Rattle.std.proofs.Common.{◌≡◌, ℕ, suc, ◌+◌, ◌<◌, ◌||◌, Bool, true, false, not, cond, List, [], ◌∷◌, ◌++◌, map, length, slice_get, slice_index_or, Some, Contains, position, inl, inr, refl, sym, ap, subst, ◌∙◌, arith, if◌then◌else◌}
use Rattle.std.specs.Bool.{Decides}
use Rattle.std.specs.List.{list_any, position_or_len}
use Rattle.std.specs.Option.{option_map}
use Rattle.std.proofs.lemmas.Bool.{cases_Bool, ltb-true, true≢false, false≢true}
use Rattle.std.proofs.lemmas.Option.{cond_some, slice_get-map, slice_get-get_or, slice_get_within, get_or_from_slice_get}
use Rattle.std.proofs.lemmas.List.{map-append, get_or-map, length-map}
use Rattle.std.proofs.lemmas.List.Folds.{list_any_at}
use Rattle.std.proofs.lemmas.List.Sums.{passes_at_first}
use Rattle.indexmap.specs.IndexSet.{insert_key}
use Rattle.sc_model.specs.Growth.{Extends, IsOneToOne}
use Rattle.sc_base.specs.Interns.{Interns, known, fresh}
use Rattle.sc_base.proofs.Growth.{Extends-refl, Extends-push, IsOneToOne-push}

-- the item where `position` says passes the test
position_passes : {X : Type 0} (p : X → Bool) (xs : List X) (i : ℕ) → position p xs ≡ Some i → (x : X) × (slice_get xs i ≡ Some x) × (p x ≡ true)
position_passes p [] i h = cc
position_passes p (x ∷ xs) i h =
    let found = cond_some _ (position_or_len p (x ∷ xs)) i h in
    let within = ltb-true _ _ found.0 in
    (slice_index_or (x ∷ xs) (position_or_len p (x ∷ xs)) x, ap (slice_get (x ∷ xs)) (sym found.1) ∙ slice_get-get_or (x ∷ xs) _ x within, passes_at_first p (x ∷ xs) x within)

-- nothing passes, so the first place that does is the end
position_or_len-none : {X : Type 0} (p : X → Bool) (xs : List X) → list_any p xs ≡ false → position_or_len p xs ≡ length xs
position_or_len-none p [] h = refl
position_or_len-none p (x ∷ xs) h = by (p x) (list_any p xs) h (position_or_len-none p xs)
  where
    by : (a b : Bool) → (a || b) ≡ false → (b ≡ false → position_or_len p xs ≡ length xs) → cond (not a) (1 + position_or_len p xs) 0 ≡ length (x ∷ xs)
    by true b h rest = absurd (true≢false h)
    by false b h rest = let e = rest h in omega arith

-- A set whose keys are compared by what they stand for.
module _ {X T : Type 0} (view : X → T) (eq : T → T → Bool) (decides : (a b : T) → Decides (eq a b) (a ≡ b)) where
  -- what was found stands at its place
  pub known_at : (item : T) (keys : List X) (i : ℕ) → position (λ k. eq item (view k)) keys ≡ Some i → slice_get (map view keys) i ≡ Some item
  known_at item keys i h =
      let at = position_passes (λ k. eq item (view k)) keys i h in
      slice_get-map view keys i ∙ ap (option_map view) at.1 ∙ ap Some (sym ((decides item (view at.0)).0 at.2))

  -- what some key stands for, and what none does
  there : (item : T) (keys : List X) → list_any (λ k. eq item (view k)) keys ≡ true → Contains (map view keys) item
  there item [] h = absurd (false≢true h)
  there item (x ∷ xs) h = elim (cases_Bool (eq item (view x))) [
    | inl same ↦ (0, omega arith, sym ((decides item (view x)).0 same))
    | inr other ↦ (let rest = there item xs (sym (ap (λ b. b || list_any (λ k. eq item (view k)) xs) other) ∙ h) in (suc rest.0, omega (arith, rest.1), rest.2))
  ]

  absent : (item : T) (keys : List X) → list_any (λ k. eq item (view k)) keys ≡ false → Contains (map view keys) item → ⊥
  absent item [] h has = absurd (omega (arith, has.1))
  absent item (x ∷ xs) h has =
      let within : has.0 < length (x ∷ xs) = omega (arith, has.1, length-map (x ∷ xs) view) in
      let same = sym (get_or-map view (x ∷ xs) has.0 x item within) ∙ has.2 in
      true≢false (sym (list_any_at (λ k. eq item (view k)) (x ∷ xs) has.0 x within ((decides _ _).1 (sym same))) ∙ h)

  -- an insertion adds an item once
  pub Interns-insert : (keys new : List X) (v : X) → new ≡ insert_key (λ x y. eq (view x) (view y)) keys v → Interns (map view keys) (map view new) (view v)
  Interns-insert keys new v inserted =
      let after : Bool → List X = λ b. if b then keys else keys ++ v ∷ [] in
      elim (cases_Bool (list_any (λ k. eq (view v) (view k)) keys)) [
        | inl old ↦ known (there (view v) keys old) (ap (map view) (inserted ∙ ap after old))
        | inr new ↦ fresh (absent (view v) keys new) (ap (map view) (inserted ∙ ap after new) ∙ map-append view keys (v ∷ []))
      ]

  -- and answers its place
  pub stored_at : (new : List X) (i : ℕ) (v : X) → (k : X) × (slice_get new i ≡ Some k) × (eq (view v) (view k) ≡ true) → slice_get (map view new) i ≡ Some (view v)
  stored_at new i v at = slice_get-map view new i ∙ ap (option_map view) at.1 ∙ ap Some (sym ((decides _ _).0 at.2))

  -- which is the end for an item that was not there
  pub fresh_at : (keys : List X) (item : T) (i : ℕ) → i ≡ position_or_len (λ k. eq item (view k)) keys → (Contains (map view keys) item → ⊥) → i ≡ length (map view keys)
  fresh_at keys item i at lacks = elim (cases_Bool (list_any (λ k. eq item (view k)) keys)) [
    | inl old ↦ absurd (lacks (there item keys old))
    | inr new ↦ at ∙ position_or_len-none (λ k. eq item (view k)) keys new ∙ sym (length-map keys view)
  ]

-- an item that stands at an id is known
pub Interns-known : {A : Type 0} (old : List A) (item : A) (i : ℕ) → slice_get old i ≡ Some item → Interns old old item
Interns-known old item i at = known (i, slice_get_within old i item at, get_or_from_slice_get old i item item at) refl

pub Extends-Interns : {A : Type 0} {old new : List A} {item : A} → Interns old new item → Extends old new
Extends-Interns {A} {old} (known has same) = subst (Extends old) (sym same) (Extends-refl old)
Extends-Interns {A} {old} {new} {item} (fresh lacks last) = subst (Extends old) (sym last) (Extends-push old item)

pub IsOneToOne-Interns : {A : Type 0} {old new : List A} {item : A} → Interns old new item → IsOneToOne old → IsOneToOne new
IsOneToOne-Interns (known has same) apart = subst IsOneToOne (sym same) apart
IsOneToOne-Interns {A} {old} {new} {item} (fresh lacks last) apart = subst IsOneToOne (sym last) (IsOneToOne-push old item apart lacks)
