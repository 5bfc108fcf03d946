-- The definitions of a variable's options, which may be none.
use Rattle.std.proofs.Common.{◌≡◌, ℕ, zero, suc, List, [], ◌∷◌, map, slice_get, Option, Some, None, All, refl, sym, ap, subst, ◌∙◌, arith}
use Rattle.std.proofs.lemmas.List.Elements.{All-head, All-tail}
use Rattle.std.specs.Option.{option_map}
use Rattle.std.specs.Prelude.{IfSome}
use Rattle.std.specs.declared.rc.Rc.{Rc}
use Rattle.c11_macros.specs.Macros as model
use Rattle.sc_macro.specs.declared.definition.Definition.{Definition}
use Rattle.sc_macro.specs.Seen.{IsHeldDefinition, seen_definition}
use Rattle.sc_model.specs.Growth.{Extends, IsOneToOne}
use Rattle.sc_table.specs.Table.{AreHeldOptions, AreOptionsNamed, seen_options}
use Rattle.sc_table.proofs.Growth.{seen_definition-Extends}

-- the values that are there
abbrev pub somes : {A : Type 0} → List (Option A) → List A
somes [] = []
somes (None ∷ os) = somes os
somes (Some a ∷ os) = a ∷ somes os

abbrev pub seen_list : {A : Type 0} → List (List ℕ) → List (Option (Rc Definition A)) → List (Option model.Definition)
seen_list names list = map (λ o. option_map (λ shared. seen_definition names shared.value) o) list

options-somes : {A : Type 0} (names : List (List ℕ)) (list : List (Option (Rc Definition A))) → seen_options names list ≡ somes (seen_list names list)
options-somes names [] = refl
options-somes names (None ∷ list) = options-somes names list
options-somes names (Some shared ∷ list) = ap (λ ds. seen_definition names shared.value ∷ ds) (options-somes names list)

pub seen_list-Extends : {A : Type 0} {names more : List (List ℕ)} → Extends names more → (list : List (Option (Rc Definition A))) → All (λ o. IfSome o (λ shared. IsHeldDefinition names shared.value)) list
    → seen_list more list ≡ seen_list names list
seen_list-Extends grows [] held = refl
seen_list-Extends {A} {names} {more} grows (None ∷ list) held =
    ap (λ (ds : List (Option model.Definition)). None ∷ ds) (seen_list-Extends grows list (All-tail (λ (o : Option (Rc Definition A)). IfSome o (λ shared. IsHeldDefinition names shared.value)) None list held))
seen_list-Extends {A} {names} {more} grows (Some shared ∷ list) held =
    let P : Option (Rc Definition A) → Type 0 = λ o. IfSome o (λ shared. IsHeldDefinition names shared.value) in
    ap (λ d. Some d ∷ seen_list more list) (seen_definition-Extends grows shared.value (All-head P (Some shared) list held))
    ∙ ap (λ ds. Some (seen_definition names shared.value) ∷ ds) (seen_list-Extends grows list (All-tail P (Some shared) list held))

tail-differs : {A : Type 0} (x : A) (xs : List A) → IsOneToOne (x ∷ xs) → IsOneToOne xs
tail-differs x xs one = record { same = λ i j a at_i at_j. let both : suc i ≡ suc j = one.same (suc i) (suc j) a at_i at_j in omega (arith, both) }

differs-more : {A : Type 0} (x : A) (xs : List A) → ((j : ℕ) → slice_get xs j ≡ Some x → ⊥) → IsOneToOne xs → IsOneToOne (x ∷ xs)
differs-more {A} x xs lacks one = record { same = by }
  where
    by : (i j : ℕ) (a : A) → slice_get (x ∷ xs) i ≡ Some a → slice_get (x ∷ xs) j ≡ Some a → i ≡ j
    by zero zero a at_i at_j = refl
    by zero (suc j) a at_i at_j = absurd (lacks j (at_j ∙ sym at_i))
    by (suc i) zero a at_i at_j = absurd (lacks i (at_i ∙ sym at_j))
    by (suc i) (suc j) a at_i at_j = ap suc (one.same i j a at_i at_j)

some-at : {A : Type 0} (os : List (Option A)) (j : ℕ) (a : A) → slice_get (somes os) j ≡ Some a → (k : ℕ) × (slice_get os k ≡ Some (Some a))
some-at [] j a at = absurd (cc)
some-at (None ∷ os) j a at = let more = some-at os j a at in (suc more.0, more.1)
some-at (Some x ∷ os) zero a at = (0, ap Some at)
some-at (Some x ∷ os) (suc j) a at = let more = some-at os j a at in (suc more.0, more.1)

pub somes-differ : {A : Type 0} (os : List (Option A)) → IsOneToOne os → IsOneToOne (somes os)
somes-differ [] one = record { same = λ i j x at_i at_j. absurd (cc) }
somes-differ (None ∷ os) one = somes-differ os (tail-differs None os one)
somes-differ (Some x ∷ os) one =
    differs-more x (somes os)
    (λ j at. let place = some-at os j x at in let same : 0 ≡ suc place.0 = one.same 0 (suc place.0) (Some x) refl place.1 in omega (arith, same))
    (somes-differ os (tail-differs (Some x) os one))

pub options-named : {A : Type 0} (names : List (List ℕ)) (list : List (Option (Rc Definition A))) → AreHeldOptions names list → IsOneToOne (seen_list names list) → AreOptionsNamed names list
options-named names list held one = (held, subst IsOneToOne (sym (options-somes names list)) (somes-differ (seen_list names list) one))
