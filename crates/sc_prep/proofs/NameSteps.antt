-- Whether the name of a line is a macro, under all configurations at once and seen at each (C11
-- 6.10.1).
use Rattle.std.proofs.Common.{◌≡◌, ℕ, ◌&&◌, Bool, true, false, List, [], ◌∷◌, map, Option, Some, None, is_some, not, Ok, Err, inl, inr, refl, sym, ap, subst, ◌∙◌, if◌then◌else◌, is_none}
use Rattle.sc_base.specs.declared.fault.Fault as base
use Rattle.sc_base.specs.declared.place.Place as base_place
use Rattle.sc_model.specs.Token.{Token}
use Rattle.sc_prep.proofs.ExpressionMoves.{asked-at}
use Rattle.sc_prep.proofs.Facts.{IsConfig-Keeps, and-false, and-true, macros_at-Keeps}
use Rattle.sc_prep.proofs.Machine.{right-none}
use Rattle.sc_prep.proofs.StageRefusals.{FaultsAt, no-fault, one-fault}
use Rattle.sc_prep.proofs.Terms.{BadDirective, Cond, Context, Decides, DecidesAt, Definition, Denotes, IsConfig, IsTable, Keeps, Line, Machine, Macros, Sets, Simulates, SimulatesOneOf, SimulatesStep, State, Walk, deciding_done, deciding_fails, deciding_idle, fault_at, faults_at, hash_of, if_defined, if_undefined, is_taken, macros_at, name_test, no_name, operand_of, option_map, place_in, seen_fault, seen_place, test_of}

module _ (x : Context) (l : Line) (s : State) where
  name-decides : (wanted : Bool) (name : List ℕ) → test_of l ≡ Some (name_test wanted) → operand_of l ≡ Some name → Decides x s l (Ok (is_taken s.macros wanted name))
  name-decides true name asks operand = if_defined name asks operand
  name-decides false name asks operand = if_undefined name asks operand

  no-name-decides : (wanted : Bool) (hash : Token) → test_of l ≡ Some (name_test wanted) → operand_of l ≡ None → hash_of l ≡ Some hash
      → Decides x s l (Err (fault_at BadDirective hash.place))
  no-name-decides true hash asks operand at = no_name _ (inl asks) operand (record { cause_is = refl; place_is = ap (option_map (place_in s)) at })
  no-name-decides false hash asks operand at = no_name _ (inr asks) operand (record { cause_is = refl; place_is = ap (option_map (place_in s)) at })

taken-same : (macros others : Macros) (wanted : Bool) (name : List ℕ) → macros name ≡ others name → is_taken macros wanted name ≡ is_taken others wanted name
taken-same macros others wanted name same = ap (λ (d : Option Definition). if wanted then is_some d else not (is_some d)) same

module _ {old s : Sets} (keeps : Keeps old s) (w : Walk) (among live : Cond) (live_is : Denotes s live.0 (λ c. old.has among.0 c && old.has w.prepared.live.0 c))
    (names files : List (List ℕ)) (x : Context) (l : Line) (wanted : Bool) (asks : test_of l ≡ Some (name_test wanted)) where
  -- where it names a macro, or none
  pub decides-by-name : {new : Sets} {next : Walk} (name : List ℕ) → operand_of l ≡ Some name → Keeps old new → IsTable old names w.table → (taken : Cond)
      → Denotes new taken.0 (λ c. is_taken (macros_at s names w.table c) wanted name && s.has live.0 c)
      → SimulatesStep names old w new next (λ _ _ m. m)
      → SimulatesOneOf files names old w names new next (λ c m n. DecidesAt x l (old.has among.0 c && is_none m.fault) m (new.has taken.0 c) n)
  decides-by-name {new} name operand later is taken taken_is still = record {
    owns = still.owns;
    table = still.table is;
    at = λ c m listed simulates. record {
      machine = m;
      done = by c m simulates (old.has among.0 c && is_none m.fault) refl
          (taken_is.at c (IsConfig-Keeps later listed)
          ∙ (ap (λ b. b && s.has live.0 c) (taken-same (macros_at s names w.table c) (macros_at old names w.table c) wanted name (macros_at-Keeps keeps is c name listed))
          ∙ ap (λ b. is_taken (macros_at old names w.table c) wanted name && b) (asked-at keeps w among live live_is c m listed simulates)));
      simulates = still.at files c m listed is simulates;
    };
  }
    where
      by : (c : List ℕ) (m : Machine) → Simulates old names files w c m → (asked : Bool) → (old.has among.0 c && is_none m.fault) ≡ asked
          → new.has taken.0 c ≡ (is_taken (macros_at old names w.table c) wanted name && (old.has among.0 c && is_none m.fault))
          → DecidesAt x l (old.has among.0 c && is_none m.fault) m (new.has taken.0 c) m
      by c m simulates true asked is =
          let clean = right-none (old.has among.0 c) m.fault asked in
          let same = taken-same (macros_at old names w.table c) m.state.macros wanted name (simulates.macros clean name) in
          let takes : new.has taken.0 c ≡ is_taken m.state.macros wanted name =
          is ∙ (ap (λ b. is_taken (macros_at old names w.table c) wanted name && b) asked ∙ (and-true (is_taken (macros_at old names w.table c) wanted name) ∙ same)) in
          deciding_done asked (subst (λ b. Decides x m.state l (Ok b)) (sym takes) (name-decides x l m.state wanted name asks operand))
      by c m simulates false asked is =
          deciding_idle asked (is ∙ (ap (λ b. is_taken (macros_at old names w.table c) wanted name && b) asked ∙ and-false (is_taken (macros_at old names w.table c) wanted name)))

  -- where it names nothing
  pub refuses-no-name : (new : Sets) (hash : Token) (place : base_place.Place) → operand_of l ≡ None → hash_of l ≡ Some hash → seen_place files place ≡ hash.place → (never : Cond)
      → ((c : List ℕ) → IsConfig old.arities c → new.has never.0 c ≡ false)
      → (c : List ℕ) (m : Machine) → IsConfig old.arities c → Simulates old names files w c m
      → FaultsAt s files (record { cond = live; cause = BadDirective; place = place } ∷ []) c m (DecidesAt x l (old.has among.0 c && is_none m.fault) m (new.has never.0 c))
  refuses-no-name new hash place operand hashed placed never nothing c m listed simulates = by (old.has among.0 c && is_none m.fault) refl
    where
      fault : base.Fault
      fault = record { cond = live; cause = BadDirective; place = place }

      told-by : (b : Bool) → s.has live.0 c ≡ b → map (seen_fault files) (faults_at s (fault ∷ []) c) ≡ (if b then seen_fault files fault ∷ [] else [])
      told-by true has = ap (λ b. map (seen_fault files) (if b then fault ∷ [] else [])) has
      told-by false has = ap (λ b. map (seen_fault files) (if b then fault ∷ [] else [])) has

      by : (asked : Bool) → (old.has among.0 c && is_none m.fault) ≡ asked
          → FaultsAt s files (fault ∷ []) c m (DecidesAt x l (old.has among.0 c && is_none m.fault) m (new.has never.0 c))
      by true asked = one-fault (fault_at BadDirective hash.place) (told-by true (asked-at keeps w among live live_is c m listed simulates ∙ asked) ∙ ap (λ p. fault_at BadDirective p ∷ []) placed) (right-none (old.has among.0 c) m.fault asked)
          (deciding_fails (fault_at BadDirective hash.place) asked (nothing c listed) (no-name-decides x l m.state wanted hash asks operand hashed))
      by false asked = no-fault (told-by false (asked-at keeps w among live live_is c m listed simulates ∙ asked))
          (deciding_idle asked (nothing c listed))
