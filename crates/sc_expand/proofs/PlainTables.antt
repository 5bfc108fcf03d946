-- Finitely many names are defined by a table, at each configuration.
use Rattle.std.proofs.Common.{◌≡◌, ℕ, ◌||◌, Bool, true, false, List, [], ◌∷◌, map, Some, refl, sym, ap, ◌∙◌, if◌then◌else◌}
use Rattle.sc_expand.proofs.Facts.{same_bytes-refl, same_bytes-true}
use Rattle.sc_expand.proofs.Terms.{Definition, IsWithin, MacroTable, Name, Sets, list_any, macros_at, macros_in, option_map, same_bytes, seen_definition, stored_at, text_of}
use Rattle.sc_table.specs.declared.entry.Entry.{Entry}

-- the names of the entries
abbrev pub entry_names : List (List ℕ) → List (Name × Entry) → List (List ℕ)
entry_names names entries = map (λ e. text_of names e.0) entries

same_bytes-turned : (one two : List ℕ) → same_bytes one two ≡ true → same_bytes two one ≡ true
same_bytes-turned one two same = ap (λ text. same_bytes text one) (sym (same_bytes-true one two same)) ∙ same_bytes-refl one

entries-within : (s : Sets) (names : List (List ℕ)) (entries : List (Name × Entry)) (config text : List ℕ) (d : Definition) → macros_in s names entries config text ≡ Some d → list_any (same_bytes text) (entry_names names entries) ≡ true
entries-within s names [] config text d is = cc
entries-within s names (e ∷ entries) config text d is = by (same_bytes (text_of names e.0) text) refl is (entries-within s names entries config text d)
  where
    by : (b : Bool) → same_bytes (text_of names e.0) text ≡ b → (if b then option_map (seen_definition names) (stored_at s e.1 config) else macros_in s names entries config text) ≡ Some d
        → (macros_in s names entries config text ≡ Some d → list_any (same_bytes text) (entry_names names entries) ≡ true)
        → (same_bytes text (text_of names e.0) || list_any (same_bytes text) (entry_names names entries)) ≡ true
    by true here is later = ap (λ b. b || list_any (same_bytes text) (entry_names names entries)) (same_bytes-turned (text_of names e.0) text here)
    by false other is later = or-later (same_bytes text (text_of names e.0)) (later is)
      where
        or-later : (b : Bool) → list_any (same_bytes text) (entry_names names entries) ≡ true → (b || list_any (same_bytes text) (entry_names names entries)) ≡ true
        or-later true found = refl
        or-later false found = found

pub within-table : (s : Sets) (names : List (List ℕ)) (table : MacroTable) (config : List ℕ) → IsWithin (entry_names names table.entries.entries) (macros_at s names table config)
within-table s names table config = record { each = λ text d is. entries-within s names table.entries.entries config text d is }
