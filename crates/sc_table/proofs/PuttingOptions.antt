-- A definition that is put among those of a variable's options.
use Rattle.std.proofs.Common.{◌≡◌, ℕ, ◌+◌, ◌<◌, List, [], ◌∷◌, ◌++◌, All, Contains, length, map, take, get_or, slice_get, Option, Some, None, refl, ap, sym, subst, ◌∙◌, arith, inl, inr}
use Rattle.std.proofs.lemmas.List.{get_or-map, length-append, length-map, map-append, take-map, take_more, take_all}
use Rattle.std.proofs.lemmas.List.Elements.{All-head, All-push, All-tail, Contains-push_cases}
use Rattle.std.proofs.lemmas.Option.{same_Some, slice_get-get_or, slice_get-map}
use Rattle.std.specs.Option.{option_and_then, option_map}
use Rattle.std.specs.Prelude.{IfSome}
use Rattle.std.specs.declared.rc.Rc.{Rc}
use Rattle.c11_macros.specs.Macros as model
use Rattle.sc_base.proofs.Growth.{IsOneToOne-push}
use Rattle.sc_macro.specs.declared.definition.Definition.{Definition}
use Rattle.sc_macro.specs.Seen.{IsHeldDefinition, seen_definition}
use Rattle.sc_model.proofs.ListLemmas.{slice_get-front, slice_get-seam}
use Rattle.sc_model.specs.Growth.{Extends, IsOneToOne}
use Rattle.sc_table.specs.Start.{FindsOption, PutsOption}
use Rattle.sc_table.specs.Table.{AreHeldOptions, definition_at, seen_shared}
use Rattle.sc_table.proofs.Growth.{option_held, seen_stored}

module _ {A : Type 0} where
  -- what stands at a place
  pub seen-place : (names : List (List ℕ)) (definitions : List (Option (Rc Definition A))) (place : ℕ) (o : Option (Rc Definition A)) → place < length definitions → o ≡ get_or definitions place o
      → slice_get (map (seen_shared names) definitions) place ≡ Some (seen_shared names o)
  seen-place names definitions place o within is =
      let f : Option (Rc Definition A) → Option model.Definition = seen_shared names in
      slice_get-get_or (map f definitions) place (f o) (omega (arith, within, length-map definitions f))
      ∙ ap Some (get_or-map f definitions place o (f o) within ∙ ap f (sym is))

  -- one more that is another
  pub seen-none : (names : List (List ℕ)) (definitions : List (Option (Rc Definition A))) (place : ℕ) (o this : Option (Rc Definition A)) → place < length definitions → o ≡ get_or definitions place o
      → (seen_shared names o ≡ seen_shared names this → ⊥) → (Contains (map (seen_shared names) (take place definitions)) (seen_shared names this) → ⊥)
      → Contains (map (seen_shared names) (take (place + 1) definitions)) (seen_shared names this) → ⊥
  seen-none names definitions place o this within is differs none has =
      let f : Option (Rc Definition A) → Option model.Definition = seen_shared names in
      let more : map f (take (place + 1) definitions) ≡ map f (take place definitions) ++ f o ∷ [] =
      ap (map f) (take_more definitions place o within ∙ ap (λ (x : Option (Rc Definition A)). take place definitions ++ x ∷ []) (sym is)) ∙ map-append f (take place definitions) (o ∷ []) in
      elim (Contains-push_cases (map f (take place definitions)) (f o) (f this) (subst (λ ds. Contains ds (f this)) more has)) [
        | inl before ↦ none before
        | inr same ↦ differs same
      ]

  -- it is there
  pub puts-found : (definitions : List (Option (Rc Definition A))) (o : Option (Rc Definition A)) (place : ℕ) → place < length definitions
      → ((names : List (List ℕ)) → IsOneToOne names → AreHeldOptions names definitions → IfSome o (λ shared. IsHeldDefinition names shared.value) → FindsOption names definitions o (Some place))
      → PutsOption definitions definitions o place
  puts-found definitions o place within finds = record {
    within = within;
    longer = omega arith;
    kept = λ k below. refl;
    at = finds;
    held = λ names held own. held;
    differ = λ names one held own differ. differ;
  }

  -- it is new
  pub puts-new : (definitions : List (Option (Rc Definition A))) (o : Option (Rc Definition A))
      → ((names : List (List ℕ)) → IsOneToOne names → AreHeldOptions names definitions → IfSome o (λ shared. IsHeldDefinition names shared.value) → FindsOption names definitions o None)
      → PutsOption definitions (definitions ++ o ∷ []) o (length definitions)
  puts-new definitions o lacks = record {
    within = omega (arith, length-append definitions (o ∷ []));
    longer = omega (arith, length-append definitions (o ∷ []));
    kept = λ k below. slice_get-front definitions (o ∷ []) k below;
    at = λ names one held own.
        let f : Option (Rc Definition A) → Option model.Definition = seen_shared names in
        slice_get-map f (definitions ++ o ∷ []) (length definitions) ∙ ap (option_map f) (slice_get-seam definitions o []);
    held = λ names held own. All-push (λ (o : Option (Rc Definition A)). IfSome o (λ shared. IsHeldDefinition names shared.value)) definitions o held own;
    differ = λ names one held own differ.
        let f : Option (Rc Definition A) → Option model.Definition = seen_shared names in
        subst IsOneToOne (sym (map-append f definitions (o ∷ []))) (IsOneToOne-push (map f definitions) (f o) differ (lacks names one held own));
  }

  -- ---- what the options of a variable say

  abbrev pub said_at : List (List ℕ) → List (Option (Rc Definition A)) → ℕ → Option model.Definition
  said_at names definitions place = option_map (seen_definition names) (definition_at definitions place)

  pub said-put : (names : List (List ℕ)) (definitions : List (Option (Rc Definition A))) (place : ℕ) (o : Option (Rc Definition A)) → slice_get (map (seen_shared names) definitions) place ≡ Some (seen_shared names o)
      → said_at names definitions place ≡ seen_shared names o
  said-put names definitions place o at = by (slice_get definitions place) (sym (slice_get-map (seen_shared names) definitions place) ∙ at)
    where
      by : (found : Option (Option (Rc Definition A))) → option_map (seen_shared names) found ≡ Some (seen_shared names o)
          → option_map (seen_definition names) (option_and_then (option_map (λ shared. shared.value)) found) ≡ seen_shared names o
      by None is = absurd (cc)
      by (Some None) is = same_Some _ _ is
      by (Some (Some shared)) is = same_Some _ _ is

  said-kept : (names more : List (List ℕ)) (old new : List (Option (Rc Definition A))) (place : ℕ) → Extends names more → AreHeldOptions names old → slice_get new place ≡ slice_get old place
      → said_at more new place ≡ said_at names old place
  said-kept names more old new place grows held kept =
      ap (λ (o : Option (Option (Rc Definition A))). option_map (seen_definition more) (option_and_then (option_map (λ shared. shared.value)) o)) kept
      ∙ seen_stored grows (definition_at old place) (option_held grows old place held)

  pub said-all : (names more : List (List ℕ)) (old new : List (Option (Rc Definition A))) (places : List ℕ) → Extends names more → AreHeldOptions names old → ((k : ℕ) → k < length old → slice_get new k ≡ slice_get old k)
      → All (λ place. place < length old) places → map (said_at more new) places ≡ map (said_at names old) places
  said-all names more old new [] grows held kept within = refl
  said-all names more old new (place ∷ places) grows held kept within =
      let here = said-kept names more old new place grows held (kept place (All-head (λ place. place < length old) place places within)) in
      let later = said-all names more old new places grows held kept (All-tail (λ place. place < length old) place places within) in
      ap (λ d. d ∷ map (said_at more new) places) here ∙ ap (λ ds. said_at names old place ∷ ds) later
