-- What a printer adds to its text, and the lines of the items that it prints.
--
-- Conditions of a store with the same configurations are one, so a condition goes by its id. Its
-- number in the text is its place in the list of those that have a number, and likewise for files.
use Rattle.std.specs.Prelude.{◌≡◌, ℕ, ◌<◌, ◌≤◌, List, [], ◌∷◌, ◌++◌, length, map, All, Some, slice_get}
use Rattle.std.specs.List.{concat}
use Rattle.sc_base.specs.declared.fault.Fault as base
use Rattle.sc_base.specs.declared.id.Cond.{Cond}
use Rattle.sc_base.specs.declared.id.FileId.{FileId}
use Rattle.sc_base.specs.declared.place.Place as declared_place
use Rattle.sc_guarded.specs.Items.{faults_at, seen_fault}
use Rattle.sc_base.specs.declared.token.Token.{Token}
use Rattle.sc_base.specs.Seen.{text_at}
use Rattle.sc_model.specs.Growth.{Extends}
use Rattle.sc_text.specs.Answer.{Condition}
use Rattle.sc_text.specs.Layout.{Counts, Introduces, LaysOut, HasOrder, IsAscending}
use Rattle.sc_model.specs.Sets.{Sets, IsConfig, IsNever, Keeps, DependsFrom}
use Rattle.sc_model.specs.Space.{Space}
use Rattle.sc_text.specs.Text.{TextLine, line_text, token_line, fault_line, condition_numbered, file_numbered}
use Rattle.sc_show.specs.declared.printer.Printer.{Printer}
use Rattle.sc_show.specs.Prints.{IsTable, Prints, printed_place}

-- the sets of conditions, in the order of their numbers
abbrev pub tests_of : Sets → List Cond → List Condition
tests_of s conditions = map (λ (a : Cond). s.has a.0) conditions

-- what a line says under a condition at a place of a file: the line, once the condition and the
-- file have numbers
pub record Item : Type 0 where
  pub cond : Cond
  pub file : FileId
  pub line : ℕ → ℕ → TextLine

abbrev pub token_item : Cond → declared_place.Place → List ℕ → Item
token_item cond place spelling = record { cond = cond; file = place.file; line = λ number file. token_line number (printed_place file place) spelling }

abbrev pub list_item : List (List ℕ) → Cond × Token → Item
list_item names item = token_item item.0 item.1.place (text_at names item.1.spelling.0)

abbrev pub fault_item : base.Fault → Item
fault_item f = record { cond = f.cond; file = f.place.file; line = λ number file. fault_line number f.cause (printed_place file f.place) }

-- the lines of items by the numbers of their conditions and files, none for one that no
-- configuration has
pub data AreLinesOf (s : Sets) (conditions : List Cond) (files : List FileId) : List Item → List TextLine → Type 0 where
  no_line : AreLinesOf s conditions files [] []
  without_line : (item : Item) (items : List Item) (lines : List TextLine) → IsNever s item.cond.0 → AreLinesOf s conditions files items lines
      → AreLinesOf s conditions files (item ∷ items) lines
  line_of : (item : Item) (number file : ℕ) (items : List Item) (lines : List TextLine) → 0 < number → slice_get conditions number ≡ Some item.cond → slice_get files file ≡ Some item.file
      → AreLinesOf s conditions files items lines → AreLinesOf s conditions files (item ∷ items) (item.line number file ∷ lines)

-- how many conditions and files have a number
abbrev pub counts_of : Printer → Counts
counts_of printer = record { conditions = length printer.conditions.keys; files = length printer.files.keys }

-- each condition that got a number depends on no variable before this one
pub record AreFrom (s : Sets) (old new : List Cond) (from : ℕ) : Type 0 where
  pub each : (n : ℕ) (a : Cond) → length old ≤ n → slice_get new n ≡ Some a → DependsFrom s a.0 from

-- conditions got these numbers, after the lines that they need, which keep their order as the store
-- and the numbers grow
pub record Introduced (space : Space) (old new : Sets) (p q : Printer) (numbers : List ℕ) : Type 0 where
  pub lines : List TextLine
  pub wrote : q.text.items ≡ p.text.items ++ concat (map line_text lines)
  pub introduces : Introduces (counts_of p) (map condition_numbered numbers) lines (counts_of q)
  pub ordered : (s : Sets) (conditions : List Cond) → Keeps new s → Extends q.conditions.keys conditions → All (HasOrder space (tests_of s conditions)) lines
  pub table : IsTable new q.conditions.keys
  pub grows : Extends p.conditions.keys q.conditions.keys
  pub same_files : q.files.keys ≡ p.files.keys
  pub same_trees : q.trees.keys ≡ p.trees.keys
  pub prints : (files : List (List ℕ)) (before : List TextLine) → Prints space old files p before → Prints space new files q (before ++ lines)

-- a file got its number, after the line that it needs
pub record IntroducedFile (files : List (List ℕ)) (p q : Printer) (number : ℕ) : Type 0 where
  pub lines : List TextLine
  pub wrote : q.text.items ≡ p.text.items ++ concat (map line_text lines)
  pub introduces : Introduces (counts_of p) (file_numbered number ∷ []) lines (counts_of q)
  pub ordered : (space : Space) (tests : List Condition) → All (HasOrder space tests) lines
  pub grows : Extends p.files.keys q.files.keys
  pub same_conditions : q.conditions.keys ≡ p.conditions.keys
  pub same_trees : q.trees.keys ≡ p.trees.keys
  pub prints : (space : Space) (s : Sets) (before : List TextLine) → Prints space s files p before → Prints space s files q (before ++ lines)

-- lines were printed that show these, each after the lines that it needs, which keep their order as
-- the store and the numbers grow
pub record LaidLines (space : Space) (old new : Sets) (files : List (List ℕ)) (p q : Printer) (shown : List TextLine) : Type 0 where
  pub lines : List TextLine
  pub wrote : q.text.items ≡ p.text.items ++ concat (map line_text lines)
  pub laid : LaysOut (counts_of p) shown lines (counts_of q)
  pub ordered : (s : Sets) (conditions : List Cond) → Keeps new s → Extends q.conditions.keys conditions → All (HasOrder space (tests_of s conditions)) lines
  pub table : IsTable new q.conditions.keys
  pub grows : Extends p.conditions.keys q.conditions.keys
  pub files_grow : Extends p.files.keys q.files.keys
  pub prints : (before : List TextLine) → Prints space old files p before → Prints space new files q (before ++ lines)

-- the items were printed; their lines say the same as the store and the numbers grow
pub record LaidOut (space : Space) (old new : Sets) (files : List (List ℕ)) (p q : Printer) (items : List Item) : Type 0 where
  pub shown : List TextLine
  pub laid : LaidLines space old new files p q shown
  pub are : (s : Sets) (conditions : List Cond) (names : List FileId) → Keeps new s → Extends q.conditions.keys conditions → Extends q.files.keys names → AreLinesOf s conditions names items shown
  pub same_trees : q.trees.keys ≡ p.trees.keys

-- The faults as they are printed: ordered by the bytes of the name of the file, line, column and
-- code, one for each pair of cause and place, so that its condition is the whole set.
pub record AreMerged (s : Sets) (files : List (List ℕ)) (faults merged : List base.Fault) : Type 0 where
  pub ascending : IsAscending (map (seen_fault files) merged)
  pub same : (c : List ℕ) → IsConfig s.arities c → map (seen_fault files) (faults_at s merged c) ≡ map (seen_fault files) (faults_at s faults c)
