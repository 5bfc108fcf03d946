-- What can be printed of a file.
use Rattle.std.specs.Prelude.{◌≡◌, ℕ, ◌<◌, ◌||◌, Bool, true, List, All}
use Rattle.std.specs.List.{AllByRecursion}
use Rattle.c11_directives.specs.Pre.{State}
use Rattle.c11_tokens.specs.Lex.{is_newline}
use Rattle.sc_base.specs.declared.fault.Fault as base
use Rattle.sc_base.specs.declared.id.Cond.{Cond}
use Rattle.sc_base.specs.declared.token.Token.{Token}
use Rattle.sc_base.specs.Seen.{IsHeld, text_at}
use Rattle.sc_expand.specs.OneLine.{AreOneLine}
use Rattle.sc_guarded.specs.Printable.{IsShowable, IsShowableFault, AreApart}
use Rattle.sc_model.specs.Bytes.{has_no_newline}
use Rattle.sc_model.specs.Sets.{Sets}
use Rattle.sc_model.specs.Token as model
use Rattle.sc_prep.specs.declared.once.OnceFile.{OnceFile}
use Rattle.sc_prep.specs.declared.open_runs.OpenRuns.{OpenRuns}
use Rattle.sc_prep.specs.declared.prepared.Prepared.{Prepared}
use Rattle.sc_prep.specs.Once.{AreOnceHeld}
use Rattle.sc_prep.specs.Pragmas.{ArePragmasPlaced}
use Rattle.sc_prep.specs.Read.{tokens_read}
use Rattle.sc_prep.specs.declared.walk.Walk.{Walk}
use Rattle.sc_subst.specs.declared.hidden.Hidden.{Hidden}
use Rattle.sc_subst.specs.Seen.{IsHeldHidden}

-- the tables hold the token's texts and its file, of which there are so many
pub record IsPlaced (names : List (List ℕ)) (files : ℕ) (t : Token) : Type 0 where
  pub held : IsHeld names t
  pub file : t.place.file.0 < files

-- the token is spelled on one line
abbrev pub is_plain : List (List ℕ) → Token → Bool
is_plain names t = has_no_newline (text_at names t.spelling.0)

-- a newline, or spelled on one line
abbrev pub IsPlainOrNewline : List (List ℕ) → Token → Type 0
IsPlainOrNewline names t = (is_newline t.kind || is_plain names t) ≡ true

-- each token of the list passes the test
abbrev pub AllPass : (Token → Bool) → List (Cond × Token) → Type 0
AllPass test list = All (λ item. test item.1 ≡ true) list

abbrev pub ArePlaced : List (List ℕ) → ℕ → List (Cond × Token) → Type 0
ArePlaced names files list = All (λ item. IsPlaced names files item.1) list

-- the tables hold what was read, gathered and held
pub record HoldsRuns (names : List (List ℕ)) (files : ℕ) (runs : OpenRuns) : Type 0 where
  pub gathered : All (λ (item : Cond × Hidden). IsHeldHidden names runs.sets item.1 × (item.1.token.place.file.0 < files)) runs.gathered
  pub held : All (λ (f : base.Fault). f.place.file.0 < files) runs.held.items
  pub pragmas : ArePragmasPlaced files runs.pragmas
  pub read : All (IsPlaced names files) (tokens_read runs.read)

-- the tables hold what is open and prepared and the files that are entered no more, and the tokens
-- that were put out pass the test
pub record AreHeld (names : List (List ℕ)) (files : ℕ) (test : Token → Bool) (unended : OpenRuns) (marked : List OnceFile) (p : Prepared) : Type 0 where
  pub runs : HoldsRuns names files unended
  pub list : ArePlaced names files p.list
  pub passed : AllPass test p.list
  pub faults : All (λ (f : base.Fault). f.place.file.0 < files) p.faults.items
  pub once : AreOnceHeld files marked

abbrev pub any_token : Token → Bool
any_token t = true

-- the tables hold what is kept of the walk
abbrev pub IsHeldWalk : List (List ℕ) → ℕ → (Token → Bool) → Walk → Type 0
IsHeldWalk names files test w = AreHeld names files test w.runs w.once.items w.prepared

-- from one walk to the next only tokens of the line are read, and none is put out
abbrev pub StaysHeld : List (List ℕ) → List Token → Walk → Walk → Type 0
StaysHeld names line old new = (files : ℕ) (test : Token → Bool) → All (IsPlaced names files) line
    → IsHeldWalk names files test old → IsHeldWalk names files test new

-- the names of files are on one line
abbrev pub ArePlainPaths : List (List ℕ) → Type 0
ArePlainPaths paths = All (λ path. has_no_newline path ≡ true) paths

-- a token that is spelled on one line, and stands in a file whose name is
pub record IsPlainToken (t : model.Token) : Type 0 where
  pub spelling : has_no_newline t.spelling ≡ true
  pub file : has_no_newline t.place.file ≡ true

-- the macros and the text of the state, and the name of its file, are spelled on one line
pub record IsPlainState (s : State) : Type 0 where
  pub macros : AreOneLine s.macros
  pub run : AllByRecursion IsPlainToken s.run
  pub file : has_no_newline s.file ≡ true

-- all of it can be shown
pub record CanBeShown (s : Sets) (names files : List (List ℕ)) (p : Prepared) : Type 0 where
  pub list : All (IsShowable s names files) p.list
  pub faults : All (IsShowableFault s files) p.faults.items
  pub apart : AreApart s p.faults.items
  pub paths : ArePlainPaths files
