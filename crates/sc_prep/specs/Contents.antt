-- What was read of files.
use Rattle.std.specs.Prelude.{◌≡◌, ℕ, ◌<◌, List, map, length, All, Option, Some, None, slice_get, Ok, Err}
use Rattle.std.specs.Option.{option_and_then}
use Rattle.c11_directives.specs.Lines.{Group, IsTree}
use Rattle.c11_directives.specs.Pre.{Context, State, Enters, file_with}
use Rattle.c11_tokens.specs.Lex.{Lexed, end_position}
use Rattle.sc_base.specs.declared.id.FileId.{FileId}
use Rattle.sc_base.specs.declared.place.Place.{Place}
use Rattle.sc_base.specs.declared.token.Token as base
use Rattle.sc_base.specs.Seen.{seen, seen_place}
use Rattle.sc_lines.specs.Branches.{HasBranches}
use Rattle.sc_lines.specs.Nests.{seen_lines}
use Rattle.sc_lines.specs.Split.{AreLines}
use Rattle.sc_model.specs.declared.cause.Cause.{Cause}
use Rattle.sc_model.specs.declared.standard.Standard.{Standard}
use Rattle.sc_model.specs.Fault.{fault_at}
use Rattle.sc_model.specs.Outside.{Files, largest_file}
use Rattle.sc_model.specs.Token as plain
use Rattle.sc_model.specs.Token.{Lexeme, in_file}
use Rattle.sc_prep.specs.declared.content.Content.{Content}
use Rattle.sc_prep.specs.declared.content.Content.TheVariants as content
use Rattle.sc_prep.specs.declared.content.Contents.{Contents}
use Rattle.sc_prep.specs.declared.content.FileLines.{FileLines}
use Rattle.sc_prep.specs.declared.content.Reading.{Reading}
use Rattle.sc_prep.specs.declared.content.Reading.TheVariants as reading
use Rattle.sc_prep.specs.Printable.{IsPlaced, IsPlainOrNewline}

-- where a file with these bytes ends
abbrev pub end_of_file : List ℕ → List ℕ → plain.Place
end_of_file name bytes = record { file = name; position = end_position bytes }

-- the tokens and the end are those of a file with these bytes, and its lines nest
pub record AreLinesOf (standard : Standard) (names files : List (List ℕ)) (name bytes : List ℕ) (lines : FileLines) : Type 0 where
  pub few : largest_file < length bytes → ⊥
  pub lexemes : List Lexeme
  pub lexed : Lexed bytes (Ok lexemes)
  pub tokens : map (seen names files) lines.tokens.items ≡ map (in_file name) lexemes
  pub group : Group
  pub tree : IsTree (seen_lines standard names files lines.tokens.items) group
  pub ends : seen_place files lines.end ≡ end_of_file name bytes

-- whoever enters a file with these bytes has this fault
abbrev pub RefusesAll : Standard → List (List ℕ) → List ℕ → List ℕ → Cause → Place → Type 0
RefusesAll standard files name bytes cause place = (x : Context) (s : State) → x.standard ≡ standard
    → Enters x (file_with name bytes) s (Err (fault_at cause (seen_place files place)))

-- what is kept of a name, where these are the bytes of its file, or no file has the name
pub data IsContent (standard : Standard) (names files : List (List ℕ)) (name : List ℕ) : Option (List ℕ) → Option Content → Type 0 where
  absent : IsContent standard names files name None None
  refused : (bytes : List ℕ) (cause : Cause) (place : Place) → RefusesAll standard files name bytes cause place
      → IsContent standard names files name (Some bytes) (Some (content.Refused cause place))
  nested : (bytes : List ℕ) (found : FileLines) → AreLinesOf standard names files name bytes found
      → IsContent standard names files name (Some bytes) (Some (content.Lines found))

-- the tables hold the tokens, which stand in this file as its end does, and their lines are told
-- with their branches
pub record AreHeldLines (standard : Standard) (names : List (List ℕ)) (files : ℕ) (file : FileId) (lines : FileLines) : Type 0 where
  pub placed : All (IsPlaced names files) lines.tokens.items
  pub inside : All (λ (t : base.Token). t.place.file ≡ file) lines.tokens.items
  pub end_inside : lines.end.file ≡ file
  pub plain : All (IsPlainOrNewline names) lines.tokens.items
  pub lines_are : AreLines standard names lines.tokens.items lines.lines.items
  pub branches : (paths : List (List ℕ)) → HasBranches (seen_lines standard names paths lines.tokens.items) lines.lines.items

abbrev pub IsHeldContent : Standard → List (List ℕ) → ℕ → FileId → Content → Type 0
IsHeldContent standard names files file (content.Lines found) = AreHeldLines standard names files file found
IsHeldContent standard names files file (content.Refused cause place) = place.file ≡ file

-- where the file ends; of one that is refused, a place in it
abbrev pub end_place : Content → Place
end_place (content.Lines found) = found.end
end_place (content.Refused cause place) = place

abbrev pub known : Reading → Option (Option Content)
known reading.Unread = None
known reading.Absent = Some None
known (reading.Held shared) = Some (Some shared.value)

-- what is known of the name of this number: its file's content, or that no file has it
abbrev pub content_at : Contents → ℕ → Option (Option Content)
content_at contents file = option_and_then known (slice_get contents.readings.items file)

-- what is kept is what these files hold
pub record Agrees (standard : Standard) (names files : List (List ℕ)) (held : Files) (contents : Contents) : Type 0 where
  pub each : (file : ℕ) (name : List ℕ) (c : Option Content) → slice_get files file ≡ Some name → content_at contents file ≡ Some c
      → IsContent standard names files name (held name) c

-- What is kept is what a source holds that tells it, and of any other what it may hold. The tables
-- hold it.
pub record AreContents (standard : Standard) (names files : List (List ℕ)) (holds : Option Files) (contents : Contents) : Type 0 where
  pub some : (held : Files) × Agrees standard names files held contents
  pub told : (held : Files) → holds ≡ Some held → Agrees standard names files held contents
  pub held : (file : FileId) (c : Content) → content_at contents file.0 ≡ Some (Some c) → IsHeldContent standard names (length files) file c
  pub named : (file : ℕ) (c : Option Content) → content_at contents file ≡ Some c → file < length files

-- what was kept stays
pub record KeepsContents (old new : Contents) : Type 0 where
  pub each : (file : ℕ) (c : Option Content) → content_at old file ≡ Some c → content_at new file ≡ Some c

-- the reading of a number is this, and that of each other stays
pub record IsKept (old : List Reading) (file : ℕ) (c : Option Content) (new : List Reading) : Type 0 where
  pub here : option_and_then known (slice_get new file) ≡ Some c
  pub others : (i : ℕ) → (i ≡ file → ⊥) → option_and_then known (slice_get new i) ≡ option_and_then known (slice_get old i)

-- what was read of a name is what a source holds that tells it, and the tables hold it
pub record IsReading (standard : Standard) (names files : List (List ℕ)) (holds : Option Files) (file : FileId) (c : Option Content) : Type 0 where
  pub bytes : Option (List ℕ)
  pub content : (name : List ℕ) → slice_get files file.0 ≡ Some name → IsContent standard names files name bytes c
  pub told : (held : Files) (name : List ℕ) → holds ≡ Some held → slice_get files file.0 ≡ Some name → held name ≡ bytes
  pub held : (x : Content) → c ≡ Some x → IsHeldContent standard names (length files) file x

-- of each number the same is known
pub record ReadsSame (old new : List Reading) : Type 0 where
  pub each : (i : ℕ) → option_and_then known (slice_get new i) ≡ option_and_then known (slice_get old i)
