-- Each line that asks whether its group is taken is decided.
use Rattle.std.proofs.Common.{◌≡◌, ℕ, ◌⊎◌, inl, inr, not, Bool, List, map, Option, Some, None, is_some, Result, Ok, Err, refl, ap}
use Rattle.std.specs.Option.{option_map}
use Rattle.c11_directives.specs.Behind.{behind_name}
use Rattle.c11_directives.specs.Lines.{Line, hash_of, test_of}
use Rattle.c11_directives.specs.Pre.{Context, Decides, State, decision_of, expression, if_defined, if_undefined, no_name, operand_of, place_in}
use Rattle.c11_directives.specs.declared.directive.Test.{Test}
use Rattle.c11_directives.specs.declared.directive.Test.TheVariants.{Expression, Defined, Undefined}
use Rattle.c11_expressions.proofs.OneLine.{some_line}
use Rattle.c11_macros.specs.Expansion.{IsWithin}
use Rattle.c11_macros.specs.Text.{place_alone, unhidden}
use Rattle.sc_model.specs.Fault.{Fault, fault_at}
use Rattle.sc_model.specs.Token.{Token}
use Rattle.sc_model.specs.declared.cause.Cause.TheVariants.{BadDirective}

module _ (context : Context) (s : State) (names : List (List ℕ)) (line : Line) (hash : Token) (within : IsWithin names s.macros) (at : hash_of line ≡ Some hash) where
  abbrev IsDecided : Type 0
  IsDecided = (r : Result Bool Fault) × Decides context s line r

  by_value : test_of line ≡ Some Expression → IsDecided
  by_value which =
      let d = some_line (place_in s hash) place_alone s.macros names within (map unhidden (behind_name line)) in
      (decision_of d.0, expression hash d.0 which at d.1)

  unnamed : (test_of line ≡ Some Defined) ⊎ (test_of line ≡ Some Undefined) → operand_of line ≡ None → IsDecided
  unnamed which none =
      let fault = fault_at BadDirective (place_in s hash) in
      (Err fault, no_name fault which none (record { cause_is = refl; place_is = ap (option_map (place_in s)) at }))

  by_name : (which : (test_of line ≡ Some Defined) ⊎ (test_of line ≡ Some Undefined)) (o : Option (List ℕ)) → operand_of line ≡ o → IsDecided
  by_name which None is = unnamed which is
  by_name (inl named) (Some name) is = (Ok (is_some (s.macros name)), if_defined name named is)
  by_name (inr named) (Some name) is = (Ok (not (is_some (s.macros name))), if_undefined name named is)

  pub some_decision : (test : Test) → test_of line ≡ Some test → IsDecided
  some_decision Expression asked = by_value asked
  some_decision Defined asked = by_name (inl asked) (operand_of line) refl
  some_decision Undefined asked = by_name (inr asked) (operand_of line) refl
