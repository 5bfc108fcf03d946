-- The files that are entered no more, seen at one configuration.
use Rattle.std.specs.Prelude.{◌≡◌, ℕ, ◌<◌, ◌&&◌, ◌||◌, not, Bool, List, All}
use Rattle.std.specs.List.{list_any}
use Rattle.sc_base.specs.Seen.{text_at}
use Rattle.sc_model.specs.Bytes.{same_bytes}
use Rattle.sc_model.specs.Sets.{Sets, Denotes, IsConfig, IsCond}
use Rattle.sc_prep.specs.declared.once.OnceFile.{OnceFile}

-- the file of this name is this one
abbrev pub is_marked : Sets → (files : List (List ℕ)) → (config name : List ℕ) → OnceFile → Bool
is_marked s files config name o = s.has o.cond.0 config && same_bytes name (text_at files o.file.0)

-- or one of these
abbrev pub once_at : Sets → (files : List (List ℕ)) → List OnceFile → (config name : List ℕ) → Bool
once_at s files once config name = list_any (is_marked s files config name) once

-- the conditions are the store's
abbrev pub OwnsOnce : Sets → List OnceFile → Type 0
OwnsOnce s once = All (λ (o : OnceFile). IsCond s o.cond.0) once

-- there are so many files
abbrev pub AreOnceHeld : ℕ → List OnceFile → Type 0
AreOnceHeld files once = All (λ (o : OnceFile). o.file.0 < files) once

-- a file is one of them in more configurations
pub record MarksFile (old : Sets) (was : List OnceFile) (file cond : ℕ) (new : Sets) (next : List OnceFile) : Type 0 where
  pub own : OwnsOnce new next
  pub at : (files : List (List ℕ)) (c name : List ℕ) → IsConfig old.arities c
      → once_at new files next c name ≡ ((old.has cond c && same_bytes name (text_at files file)) || once_at old files was c name)
  pub held : (files : ℕ) → file < files → AreOnceHeld files was → AreOnceHeld files next

-- the configurations of a condition in which a file is none of them
pub record IsWithout (old : Sets) (files : List (List ℕ)) (once : List OnceFile) (file cond : ℕ) (new : Sets) (rest : ℕ) : Type 0 where
  pub is : Denotes new rest (λ c. old.has cond c && not (once_at old files once c (text_at files file)))
