-- Which macros are defined at a configuration.
use Rattle.std.specs.Prelude.{◌≡◌, ℕ, ◌<◌, List, [], ◌∷◌, All, map, length, Option, Some, None, IfSome, is_some, slice_get, slice_index, if◌then◌else◌}
use Rattle.std.specs.Option.{option_and_then, option_map}
use Rattle.std.specs.declared.rc.Rc.{Rc}
use Rattle.c11_macros.specs.Macros as model
use Rattle.c11_macros.specs.Macros.{Macros}
use Rattle.sc_base.specs.declared.id.Name.{Name}
use Rattle.sc_guarded.specs.Items.{items_at}
use Rattle.sc_macro.specs.declared.definition.Definition.{Definition}
use Rattle.sc_macro.specs.Seen.{IsHeldDefinition, seen_definition, text_of}
use Rattle.sc_model.specs.Bytes.{same_bytes}
use Rattle.sc_model.specs.Growth.{IsOneToOne}
use Rattle.sc_model.specs.Sets.{Sets, IsConfig, Denotes}
use Rattle.sc_table.specs.declared.entry.Entry.{Entry}
use Rattle.sc_table.specs.declared.entry.Entry.TheVariants.{Everywhere, Options, Parts}
use Rattle.sc_table.specs.declared.table.MacroTable.{MacroTable}
use Rattle.sc_table.specs.Parts.{Part, valued, AreParts, AreNamed}

-- the definition at a place, if it is one
abbrev pub definition_at : {A : Type 0} → List (Option (Rc Definition A)) → ℕ → Option Definition
definition_at definitions place = option_and_then (option_map (λ shared. shared.value)) (slice_get definitions place)

-- the definition of an option, whose place these tell
abbrev pub option_at : {A : Type 0} → List ℕ → List (Option (Rc Definition A)) → ℕ → Option Definition
option_at places definitions k = option_and_then (definition_at definitions) (slice_get places k)

abbrev pub seen_shared : {A : Type 0} → List (List ℕ) → Option (Rc Definition A) → Option model.Definition
seen_shared names o = option_map (λ shared. seen_definition names shared.value) o

-- the definitions of the options, in order
abbrev pub seen_options : {A : Type 0} → List (List ℕ) → List (Option (Rc Definition A)) → List model.Definition
seen_options names [] = []
seen_options names (None ∷ options) = seen_options names options
seen_options names (Some shared ∷ options) = seen_definition names shared.value ∷ seen_options names options

-- what an entry says at a configuration
abbrev pub stored_at : Sets → Entry → List ℕ → Option Definition
stored_at s (Everywhere shared) config = Some shared.value
stored_at s (Options variable places definitions) config = option_at places.items definitions.items (slice_index config variable)
stored_at s (Parts parts defined) config = slice_get (items_at s (valued parts.items) config) 0

-- the first entry of a name tells
abbrev pub macros_in : Sets → List (List ℕ) → List (Name × Entry) → List ℕ → Macros
macros_in s names [] config text = None
macros_in s names (e ∷ entries) config text =
    if same_bytes (text_of names e.0) text then option_map (seen_definition names) (stored_at s e.1 config) else macros_in s names entries config text

-- the macros of a configuration
abbrev pub macros_at : Sets → List (List ℕ) → MacroTable → List ℕ → Macros
macros_at s names table config text = macros_in s names table.entries.entries config text

-- the conditions of an entry are the store's
abbrev pub IsMade : Sets → Entry → Type 0
IsMade s (Everywhere shared) = Unit {0}
IsMade s (Options variable places definitions) = (variable < length s.arities) × (length places.items ≡ slice_index s.arities variable)
IsMade s (Parts parts defined) = AreParts s (valued parts.items) × IfSome defined (λ cond. Denotes s cond.0 (λ config. is_some (slice_get (items_at s (valued parts.items) config) 0)))

abbrev pub AreHeldOptions : {A : Type 0} → List (List ℕ) → List (Option (Rc Definition A)) → Type 0
AreHeldOptions names options = All (λ option. IfSome option (λ shared. IsHeldDefinition names shared.value)) options

abbrev pub AreOptionsNamed : {A : Type 0} → List (List ℕ) → List (Option (Rc Definition A)) → Type 0
AreOptionsNamed names options = AreHeldOptions names options × IsOneToOne (seen_options names options)

-- the table of texts holds what an entry names, and no two of its definitions are the same
abbrev pub IsNamed : List (List ℕ) → Entry → Type 0
IsNamed names (Everywhere shared) = IsHeldDefinition names shared.value
IsNamed names (Options variable places definitions) = AreOptionsNamed names definitions.items
IsNamed names (Parts parts defined) = AreNamed names (valued parts.items)

-- what a table keeps for the store of conditions and the table of texts
pub record IsTable (s : Sets) (names : List (List ℕ)) (table : MacroTable) : Type 0 where
  pub held : All (λ e. e.0.0 < length names) table.entries.entries
  pub made : All (λ e. IsMade s e.1) table.entries.entries
  pub named : All (λ e. IsNamed names e.1) table.entries.entries

-- the macros of old, where what the table says did not change
abbrev pub IsStill : Sets → Sets → List (List ℕ) → MacroTable → MacroTable → Type 0
IsStill old new names was table = (config : List ℕ) (text : List ℕ) → IsConfig old.arities config → macros_at new names table config text ≡ macros_at old names was config text

-- the name has these parts, and each other name has what it had
pub record Puts (s : Sets) (names : List (List ℕ)) (old new : MacroTable) (name : Name) (parts : List Part) : Type 0 where
  pub table : IsTable s names new
  pub at : (config text : List ℕ) → macros_at s names new config text
      ≡ (if same_bytes (text_of names name) text then slice_get (map (seen_definition names) (items_at s parts config)) 0 else macros_at s names old config text)
