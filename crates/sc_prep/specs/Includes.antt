-- What an #include does, seen at one configuration.
use Rattle.std.specs.Prelude.{◌≡◌, ℕ, ◌<◌, Bool, true, false, List, [], ◌∷◌, All, length, map, Some, Result, Ok, Err, slice_get, AllPairs}
use Rattle.c11_directives.specs.Behind.{Says}
use Rattle.c11_directives.specs.declared.directive.Directive.TheVariants as directive
use Rattle.c11_directives.specs.Lines.{Line, hash_of}
use Rattle.c11_directives.specs.Pre.{Context, State, File, Carries, Enters, back, is_once_file, search}
use Rattle.c11_headers.specs.Headers.{Header, header_of, candidates}
use Rattle.c11_macros.specs.Results.{result_map}
use Rattle.sc_base.specs.declared.id.FileId.{FileId}
use Rattle.sc_guarded.specs.Items.{items_at}
use Rattle.sc_model.specs.Fault.{Fault}
use Rattle.sc_model.specs.Sets.{Sets, IsCond}
use Rattle.sc_model.specs.Token.{Token}
use Rattle.sc_prep.specs.Contents.{content_at}
use Rattle.sc_prep.specs.declared.content.Contents.{Contents}
use Rattle.sc_prep.specs.declared.including.Part.{Part}
use Rattle.sc_prep.specs.Machine.{Machine, acts, arriving}

-- the files that a configuration enters
abbrev pub files_at : Sets → List Part → List ℕ → List FileId
files_at s parts config = items_at s (map (λ part. (part.cond, part.file)) parts) config

-- the conditions are the store's, and what was read of each file is kept
pub record ArePartsOf (s : Sets) (contents : Contents) (parts : List Part) : Type 0 where
  pub own : All (λ part. IsCond s part.cond.0) parts
  pub kept : All (λ part. content_at contents part.file.0 ≡ Some (Some part.content.value)) parts

-- each file is entered once
abbrev pub AreOnce : List Part → Type 0
AreOnce parts = AllPairs (λ one other. one ≡ other → ⊥) (map (λ part. part.file) parts)

-- They are files of a line at this depth, each of which is entered once, and none where files may
-- be no deeper.
pub record AreEntered (s : Sets) (contents : Contents) (depth deepest : ℕ) (list : List Part) : Type 0 where
  pub parts : ArePartsOf s contents list
  pub once : AreOnce list
  pub deep : 0 < length list → depth < deepest

-- What an #include finds at a configuration: one file, or its refusal; nothing where the machine
-- does nothing.
pub data Finds (x : Context) (l : Line) (files : List (List ℕ)) (m : Machine) : List FileId → Machine → Type 0 where
  inert : acts m ≡ false → Finds x l files m [] m
  refused : (fault : Fault) → acts m ≡ true → Carries x l m.state directive.Include (Err fault) → Finds x l files m [] (arriving m (Err fault))
  found : (file : FileId) (ts : List Token) (header : Header) (hash : Token) (f : File) → acts m ≡ true → Says m.state.macros l (Ok ts) → header_of ts ≡ Ok header
      → m.state.depth < x.include_depth → hash_of l ≡ Some hash → search x.files (candidates header m.state.file x.include) ≡ Some f
      → slice_get files file.0 ≡ Some f.name → Finds x l files m (file ∷ []) m

-- The file of this name is entered at a depth, unless it is one that is entered no more, where the
-- configuration is one of these.
pub data EntersAt (x : Context) (name : List ℕ) (depth : ℕ) (m : Machine) : Bool → Machine → Type 0 where
  elsewhere : EntersAt x name depth m false m
  inert : {has : Bool} → acts m ≡ false → EntersAt x name depth m has m
  left_out : acts m ≡ true → is_once_file m.state name ≡ true → EntersAt x name depth m true m
  enters : (f : File) (e : Result State Fault) → acts m ≡ true → f.name ≡ name → x.files name ≡ Some f.bytes → is_once_file m.state name ≡ false → Enters x f (record m.state { depth = depth }) e
      → EntersAt x name depth m true (arriving m (result_map (back m.state) e))
