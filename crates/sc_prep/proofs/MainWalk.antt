-- What walking the main file comes to.
use Rattle.std.proofs.Common.{◌≡◌, ℕ, true, List, [], ◌∷◌, Some, None, Ok, Err, refl, sym, ap, ◌∙◌}
use Rattle.sc_prep.proofs.BetweenRuns.{enters-run}
use Rattle.sc_prep.proofs.Facts.{macros_at-Extends}
use Rattle.sc_prep.proofs.SettledText.{text-empty}
use Rattle.sc_prep.proofs.Terms.{Enters, Extends, Fault, File, Files, Includes, IsBegun, IsOrdinary, IsOutcomeOf, IsRefused, IsTable, Machine, MacroTable, NotFound, OpenRuns, Pre, Prepared, RunAt, Sets, Space, context_of, entered, fault_at, file_with, first_place, found_or, initial_macros, initial_state, macros_at, missing, search, start}
use Rattle.sc_prep.specs.Includes.{EntersAt, inert, left_out, enters}

-- the main file is found
pub finds-main : (outside : Files) (main : List ℕ) (f : File) → f.name ≡ main → outside main ≡ Some f.bytes → search outside (main ∷ []) ≡ Some f
finds-main outside main f named there = ap (found_or None main) there ∙ ap (λ name. Some (file_with name f.bytes)) (sym named)

module _ (s : Sets) (names files : List (List ℕ)) (p : Prepared) (space : Space) (outside : Files) (main config : List ℕ) where
  -- what stands at a configuration that is refused
  pub refused-ordinary : (fault : Fault) → Includes (context_of space outside) (main ∷ []) (first_place main) (initial_state space main config) (Err fault)
      → IsRefused s names files p fault config → IsOrdinary s names files p (Pre space outside main config) config
  refused-ordinary fault includes is = record {
    answer = Err fault;
    preprocessed = record { end = Err fault; walked = includes; is = refl };
    stands = is.faults;
    live = is.live;
  }

  -- no file has the name
  pub missing-ordinary : outside main ≡ None → IsRefused s names files p (fault_at NotFound (first_place main)) config → IsOrdinary s names files p (Pre space outside main config) config
  missing-ordinary none is = refused-ordinary (fault_at NotFound (first_place main)) (missing (ap (found_or None main) none)) is

  includes-main : (f : File) {r : _} → f.name ≡ main → outside main ≡ Some f.bytes → Enters (context_of space outside) f (initial_state space main config) r
      → Includes (context_of space outside) (main ∷ []) (first_place main) (initial_state space main config) r
  includes-main f named there walks = entered f (finds-main outside main f named there) refl walks

  -- the main file was entered
  pub entered-ordinary : {n : Machine} → EntersAt (context_of space outside) main 0 (start (initial_state space main config)) true n → IsOutcomeOf s files p config n
      → (runs : OpenRuns) → (n.fault ≡ None → RunAt s names files runs p.list config n.state)
      → IsOrdinary s names files p (Pre space outside main config) config
  entered-ordinary (inert inactive) outcome runs text = cc
  entered-ordinary (left_out acting once) outcome runs text = cc
  entered-ordinary (enters f (Ok t) acting named there again walks) outcome runs text = record {
    answer = Ok t.output;
    preprocessed = record { end = Ok t; walked = includes-main f named there walks; is = refl };
    stands = ((text-empty _ _ _ _ _ (enters-run walks) (text refl).text).1, outcome.fault);
    live = outcome.live;
  }
  entered-ordinary (enters f (Err fault) acting named there again walks) outcome runs text = record {
    answer = Err fault;
    preprocessed = record { end = Err fault; walked = includes-main f named there walks; is = refl };
    stands = outcome.fault;
    live = outcome.live;
  }

-- the macros of a table that was made from a space are its first ones
pub begins-as : {s : Sets} {names more : List (List ℕ)} {table : MacroTable} (space : Space) (main config : List ℕ) → Extends names more → IsTable s names table
    → ((name : List ℕ) → macros_at s names table config name ≡ initial_macros space config name) → IsBegun s more table config (initial_state space main config)
begins-as space main config grows is initial = record { macros = λ name. macros_at-Extends grows is config name ∙ initial name; output = refl; run = refl; once = refl }
