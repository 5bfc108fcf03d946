-- What a call does that walks lines and the files that they include.
use Rattle.std.specs.Prelude.{◌≡◌, ℕ, ◌≤◌, ◌+◌, List, Option}
use Rattle.c11_directives.specs.Pre.{Context}
use Rattle.c11_directives.specs.Reaches.{Moment}
use Rattle.sc_expand.specs.Stops.{HasConfigs}
use Rattle.sc_model.specs.Growth.{Extends}
use Rattle.sc_model.specs.Outside.{Files}
use Rattle.sc_model.specs.Sets.{Sets, Keeps}
use Rattle.sc_model.specs.Space.{Space}
use Rattle.sc_model.specs.Token.{Place}
use Rattle.sc_prep.specs.Contents.{Agrees, KeepsContents}
use Rattle.sc_prep.specs.Machine.{Machine}
use Rattle.sc_prep.specs.Printable.{AllPass, ArePlainPaths, is_plain}
use Rattle.sc_prep.specs.Simulates.{IsContext, Leads, PlainEach}
use Rattle.sc_prep.specs.Thin.{KeepsSharesOf, WherePutOut}
use Rattle.sc_prep.specs.declared.content.Contents.{Contents}
use Rattle.sc_prep.specs.declared.walk.Walk.{Walk}
use Rattle.sc_space.specs.Sound.{IsSound}

-- At every outcome the source holds what it held, reads that failed are counted, and the tables of
-- names and of files only grow.
pub record ReadsFiles (held holds : Option Files) (failed fails : ℕ) (texts more_texts paths more_paths : List (List ℕ)) : Type 0 where
  pub kept : holds ≡ held
  pub counted : failed ≤ fails
  pub names : Extends texts more_texts
  pub files : Extends paths more_paths

-- What a walk did from one point to a later one: each machine that it simulated from there did
-- this. What it put out is spelled on one line, as the names of files are, where what was given is.
pub record Gone (space : Space) (old : Sets) (names files : List (List ℕ)) (walk : Walk) (contents : Contents) (new : Sets) (more more_files : List (List ℕ)) (next : Walk) (now : Contents)
    (given : Type 0) (from : Machine → Type 0) (does : Context → List ℕ → Machine → Machine → Type 0) : Type 0 where
  pub keeps : Keeps old new
  pub names_grow : Extends names more
  pub files_grow : Extends files more_files
  pub read : KeepsContents contents now
  pub leads : (x : Context) → IsContext space x → Agrees space.standard more more_files x.files now → Leads files names old walk more_files more new next from (does x)
  pub plain : given → (x : Context) → IsContext space x → Agrees space.standard more more_files x.files now → IsSound space → ArePlainPaths files → PlainEach old names files walk from
      → AllPass (is_plain names) walk.prepared.list → AllPass (is_plain more) next.prepared.list
  pub paths : given → (x : Context) → IsContext space x → Agrees space.standard more more_files x.files now → IsSound space → ArePlainPaths files → PlainEach old names files walk from → ArePlainPaths more_files

-- Where there are no more configurations than branches, items that two configurations share stay
-- shared, and so do what both put out where they come to one text.
pub record PutsOnce (space : Space) (old : Sets) (names files : List (List ℕ)) (walk : Walk) (new : Sets) (more more_files : List (List ℕ)) (next : Walk) (now : Contents)
    (from : Machine → Type 0) (apart : Type 0) (comes : Context → List ℕ → Machine → List Place → Moment → Type 0) (shared : (c d : List ℕ) (index n m : ℕ) → Type 0) : Type 0 where
  pub shares : (x : Context) → IsContext space x → Agrees space.standard more more_files x.files now → (HasConfigs old.arities (space.branches + 1) → ⊥)
      → KeepsSharesOf from files names old walk more_files more new next
  pub put : (x : Context) → IsContext space x → Agrees space.standard more more_files x.files now → (HasConfigs old.arities (space.branches + 1) → ⊥) → apart
      → WherePutOut files names old walk from (comes x) new next shared
