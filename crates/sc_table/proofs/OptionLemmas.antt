-- The definitions of a variable's options, of which one more is added.
use Rattle.std.proofs.Common.{◌≡◌, ℕ, zero, suc, ◌+◌, ◌<◌, ◌≤◌, ◌==◌, false, List, [], ◌∷◌, ◌++◌, append-nil, Contains, take, drop, length, get_or, Option, Some, None, IfSome, refl, ap, sym, subst, ◌∙◌, arith, if◌then◌else◌}
use Rattle.std.proofs.Math.Seq.{drop-cons}
use Rattle.std.proofs.lemmas.Bool.Decides.{nat_tests}
use Rattle.std.proofs.lemmas.List.{take_more, take_all, length-take-le, take-append-drop}
use Rattle.std.proofs.lemmas.List.Elements.{Contains-append_left}
use Rattle.std.specs.Option.{option_map, option_to_list}
use Rattle.std.specs.declared.rc.Rc.{Rc}
use Rattle.sc_macro.specs.declared.definition.Definition.{Definition}
use Rattle.sc_macro.specs.Seen.{seen_definition}
use Rattle.sc_model.specs.Growth.{IsOneToOne}
use Rattle.sc_table.specs.Table.{definition_at, seen_options}
use Rattle.sc_table.proofs.OneToOne.{lacks-without}

zero_differs : (n : ℕ) → (suc n == 0) ≡ false
zero_differs n = grind (arith, nat_tests)

differs_zero : (n : ℕ) → (0 == suc n) ≡ false
differs_zero n = grind (arith, nat_tests)

same_suc : (m n : ℕ) → (suc m == suc n) ≡ (m == n)
same_suc m n = grind (arith, nat_tests)

module _ {A : Type 0} where
  value_of : Option (Rc Definition A) → Option Definition
  value_of o = option_map (λ (shared : Rc Definition A). shared.value) o

  definition_at-push : (options : List (Option (Rc Definition A))) (o : Option (Rc Definition A)) (k : ℕ)
      → option_to_list (definition_at (options ++ o ∷ []) k) ≡ option_to_list (definition_at options k) ++ (if k == length options then option_to_list (option_map (λ (shared : Rc Definition A). shared.value) o) else [])
  definition_at-push [] o zero = refl
  definition_at-push [] o (suc k) = sym (ap (λ b. if b then option_to_list (option_map (λ (shared : Rc Definition A). shared.value) o) else []) (zero_differs k))
  definition_at-push (x ∷ options) o zero =
      sym (ap (λ b. option_to_list (definition_at (x ∷ options) 0) ++ (if b then option_to_list (option_map (λ (shared : Rc Definition A). shared.value) o) else [])) (differs_zero (length options)) ∙ append-nil (option_to_list (definition_at (x ∷ options) 0)))
  definition_at-push (x ∷ options) o (suc k) =
      definition_at-push options o k ∙ ap (λ b. option_to_list (definition_at options k) ++ (if b then option_to_list (option_map (λ (shared : Rc Definition A). shared.value) o) else [])) (sym (same_suc k (length options)))

  seen_options-append : (names : List (List ℕ)) (xs ys : List (Option (Rc Definition A))) → seen_options names (xs ++ ys) ≡ seen_options names xs ++ seen_options names ys
  seen_options-append names [] ys = refl
  seen_options-append names (None ∷ xs) ys = seen_options-append names xs ys
  seen_options-append names (Some shared ∷ xs) ys = ap (λ ds. seen_definition names shared.value ∷ ds) (seen_options-append names xs ys)

  module _ (options : List (Option (Rc Definition A))) (i : ℕ) (o : Option (Rc Definition A)) (within : i < length options) (is : o ≡ get_or options i o) where
    one_more : take (i + 1) options ≡ take i options ++ o ∷ []
    one_more = take_more options i o within ∙ ap (λ (x : Option (Rc Definition A)). take i options ++ x ∷ []) (sym is)

    pub definition_at-more : (k : ℕ) → option_to_list (definition_at (take (i + 1) options) k)
        ≡ option_to_list (definition_at (take i options) k) ++ (if k == i then option_to_list (option_map (λ (shared : Rc Definition A). shared.value) o) else [])
    definition_at-more k =
        ap (λ (os : List (Option (Rc Definition A))). option_to_list (definition_at os k)) one_more
        ∙ (definition_at-push (take i options) o k
        ∙ ap (λ (n : ℕ). option_to_list (definition_at (take i options) k) ++ (if k == n then option_to_list (option_map (λ (shared : Rc Definition A). shared.value) o) else [])) (length-take-le i options (omega arith)))

    module _ (names : List (List ℕ)) where
      pub seen_options-more : seen_options names (take (i + 1) options) ≡ seen_options names (take i options) ++ seen_options names (o ∷ [])
      seen_options-more = ap (seen_options names) one_more ∙ seen_options-append names (take i options) (o ∷ [])

      pub lacks-options : IsOneToOne (seen_options names options) → IfSome o (λ shared. Contains (seen_options names (take i options)) (seen_definition names shared.value) → ⊥)
      lacks-options one = by o is
        where
          whole : (shared : Rc Definition A) → Some shared ≡ get_or options i o → seen_options names options ≡ seen_options names (take i options) ++ seen_definition names shared.value ∷ seen_options names (drop (suc i) options)
          whole shared same =
              ap (seen_options names) (sym (take-append-drop i options))
              ∙ (seen_options-append names (take i options) (drop i options)
              ∙ ap (λ (os : List (Option (Rc Definition A))). seen_options names (take i options) ++ seen_options names os)
              (drop-cons options i o within ∙ ap (λ (x : Option (Rc Definition A)). x ∷ drop (suc i) options) (sym same)))

          by : (x : Option (Rc Definition A)) → x ≡ get_or options i o → IfSome x (λ shared. Contains (seen_options names (take i options)) (seen_definition names shared.value) → ⊥)
          by None same = tt
          by (Some shared) same = λ has.
              let x = seen_definition names shared.value in
              let xs = seen_options names (take i options) in
              let ys = seen_options names (drop (suc i) options) in
              lacks-without xs ys x (subst IsOneToOne (whole shared same) one) (Contains-append_left xs ys x has)

pub all_options : {A : Type 0} (options : List A) (i : ℕ) → length options ≤ i → take i options ≡ options
all_options options i past = take_all i options past
