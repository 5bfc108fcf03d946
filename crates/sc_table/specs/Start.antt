-- The macros with which the configurations of a space start.
use Rattle.std.specs.Prelude.{◌≡◌, ℕ, ◌<◌, ◌≤◌, List, length, map, Contains, IfSome, Option, None, Some, slice_get}
use Rattle.std.specs.Option.{option_map}
use Rattle.c11_macros.specs.Macros.{Definition, Macros}
use Rattle.std.specs.declared.rc.Rc.{Rc}
use Rattle.sc_macro.specs.declared.definition.Definition as code
use Rattle.sc_macro.specs.Seen.{IsHeldDefinition, seen_definition}
use Rattle.sc_model.specs.Growth.{IsOneToOne}
use Rattle.sc_model.specs.Sets.{Sets, IsConfig}
use Rattle.sc_table.specs.declared.entry.Entry.{Entry}
use Rattle.sc_table.specs.declared.table.MacroTable.{MacroTable}
use Rattle.sc_table.specs.Table.{AreHeldOptions, IsTable, IsMade, IsNamed, macros_at, seen_shared, stored_at}

-- the place of a definition among these, or none where it is none of them
abbrev pub FindsOption : {A : Type 0} → List (List ℕ) → List (Option (Rc code.Definition A)) → Option (Rc code.Definition A) → Option ℕ → Type 0
FindsOption names definitions o None = Contains (map (seen_shared names) definitions) (seen_shared names o) → ⊥
FindsOption names definitions o (Some place) = slice_get (map (seen_shared names) definitions) place ≡ Some (seen_shared names o)

-- Each definition stays at its place, and this one has one. No two are the same, if none were.
pub record PutsOption {A : Type 0} (old new : List (Option (Rc code.Definition A))) (o : Option (Rc code.Definition A)) (place : ℕ) : Type 0 where
  pub within : place < length new
  pub longer : length old ≤ length new
  pub kept : (k : ℕ) → k < length old → slice_get new k ≡ slice_get old k
  pub at : (names : List (List ℕ)) → IsOneToOne names → AreHeldOptions names old → IfSome o (λ shared. IsHeldDefinition names shared.value)
      → slice_get (map (seen_shared names) new) place ≡ Some (seen_shared names o)
  pub held : (names : List (List ℕ)) → AreHeldOptions names old → IfSome o (λ shared. IsHeldDefinition names shared.value) → AreHeldOptions names new
  pub differ : (names : List (List ℕ)) → IsOneToOne names → AreHeldOptions names old → IfSome o (λ shared. IsHeldDefinition names shared.value)
      → IsOneToOne (map (seen_shared names) old) → IsOneToOne (map (seen_shared names) new)

-- At each store over variables with so many options the table has these macros.
pub record IsStarted (arities : List ℕ) (names : List (List ℕ)) (table : MacroTable) (macros : List ℕ → Macros) : Type 0 where
  pub sound : (s : Sets) → s.arities ≡ arities → IsTable s names table
  pub at : (s : Sets) (config text : List ℕ) → s.arities ≡ arities → IsConfig arities config → macros_at s names table config text ≡ macros config text

-- At each such store the entry says this.
pub record IsEntry (arities : List ℕ) (names : List (List ℕ)) (entry : Entry) (says : List ℕ → Option Definition) : Type 0 where
  pub made : (s : Sets) → s.arities ≡ arities → IsMade s entry
  pub named : IsNamed names entry
  pub at : (s : Sets) (config : List ℕ) → s.arities ≡ arities → option_map (seen_definition names) (stored_at s entry config) ≡ says config
