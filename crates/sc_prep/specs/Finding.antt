-- The files of headers, seen at one configuration.
use Rattle.std.specs.Prelude.{◌≡◌, ℕ, ◌≤◌, ◌==◌, ◌||◌, is_none, Bool, true, false, List, [], ◌∷◌, length, Option, Some, None, slice_get}
use Rattle.std.specs.List.{position}
use Rattle.std.specs.Option.{option_to_list}
use Rattle.c11_directives.specs.Pre.{File, search}
use Rattle.c11_headers.specs.Headers.{candidates}
use Rattle.sc_base.specs.declared.id.FileId.{FileId}
use Rattle.sc_include.specs.declared.header.Header.{Header}
use Rattle.sc_include.specs.Seen.{seen_header}
use Rattle.sc_model.specs.declared.standard.Standard.{Standard}
use Rattle.sc_model.specs.Outside.{Files}
use Rattle.sc_model.specs.Sets.{Sets, IsCond, IsConfig}
use Rattle.sc_prep.specs.Contents.{Agrees, AreContents, KeepsContents}
use Rattle.sc_prep.specs.Includes.{ArePartsOf, files_at}
use Rattle.sc_prep.specs.Naming.{headers_in}
use Rattle.sc_prep.specs.Printable.{ArePlainPaths}
use Rattle.sc_prep.specs.declared.including.Part.{Part}
use Rattle.sc_prep.specs.declared.content.Contents.{Contents}
use Rattle.sc_prep.specs.declared.finding.Found.{Found}
use Rattle.sc_prep.specs.declared.naming.Named.{Named}

-- the file of the first of these names that one has
pub data IsSearched (held : Files) (files candidates : List (List ℕ)) : Option FileId → Type 0 where
  absent : search held candidates ≡ None → IsSearched held files candidates None
  present : (file : FileId) (f : File) → search held candidates ≡ Some f → slice_get files file.0 ≡ Some f.name → IsSearched held files candidates (Some file)

-- what is found of a configuration's headers, of which it has one at most: its file, or that none
-- is there
pub data FindsAll (held : Files) (files : List (List ℕ)) (including : List ℕ) (directories : List (List ℕ)) : List Header → List FileId → Bool → Type 0 where
  none : FindsAll held files including directories [] [] false
  missing : (h : Header) → IsSearched held files (candidates (seen_header h) including directories) None → FindsAll held files including directories (h ∷ []) [] true
  found : (h : Header) (file : FileId) → IsSearched held files (candidates (seen_header h) including directories) (Some file)
      → FindsAll held files including directories (h ∷ []) (file ∷ []) false

-- the parts are of the store's conditions and the kept contents, and at each configuration those of
-- its header
pub record AreFound (standard : Standard) (old : Sets) (named : List Named) (including : List ℕ) (directories names files : List (List ℕ)) (contents : Contents)
    (new : Sets) (found : Found) : Type 0 where
  pub parts : ArePartsOf new contents found.parts.items
  pub missing : IsCond new found.missing.0
  pub at : (held : Files) (c : List ℕ) → Agrees standard names files held contents → IsConfig old.arities c → length (headers_in old named c) ≤ 1
      → FindsAll held files including directories (headers_in old named c) (files_at new found.parts.items c) (new.has found.missing.0 c)

-- Names were looked up: what was read stays, and no other name came to the table.
pub record LooksUp (standard : Standard) (names files : List (List ℕ)) (contents : Contents) (holds : Option Files) (more more_files : List (List ℕ))
    (later : Contents) (asked : List (List ℕ)) : Type 0 where
  pub contents_are : AreContents standard more more_files holds later
  pub reads : KeepsContents contents later
  pub paths : ArePlainPaths asked → ArePlainPaths files → ArePlainPaths more_files

-- the index of the first part of this file
abbrev pub part_of : List Part → ℕ → Option ℕ
part_of parts file = position (λ part. part.file.0 == file) parts

-- the file of a search, if one was found, is entered by one header's configurations more
pub record AddsFile (old : Sets) (cond : ℕ) (file : Option FileId) (was : Found) (new : Sets) (next : Found) : Type 0 where
  pub missing_own : IsCond new next.missing.0
  pub files_here : (c : List ℕ) → IsConfig old.arities c → old.has cond c ≡ true → files_at old was.parts.items c ≡ [] → files_at new next.parts.items c ≡ option_to_list file
  pub missing_here : (c : List ℕ) → IsConfig old.arities c → old.has cond c ≡ true → new.has next.missing.0 c ≡ (old.has was.missing.0 c || is_none file)
  pub files_others : (c : List ℕ) → IsConfig old.arities c → old.has cond c ≡ false → files_at new next.parts.items c ≡ files_at old was.parts.items c
  pub missing_others : (c : List ℕ) → IsConfig old.arities c → old.has cond c ≡ false → new.has next.missing.0 c ≡ old.has was.missing.0 c
