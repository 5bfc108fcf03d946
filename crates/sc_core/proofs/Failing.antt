-- Why there is no text of what is asked for.
use Rattle.std.proofs.Common.{◌≡◌, ◌∙◌, ◌≤◌, ℕ, ◌+◌, arith, true, List, Option, Some, None, Ok, Err, inl, inr, refl, sym, ap}
use Rattle.std.specs.Option.{unwrap_or}
use Rattle.sc_args.specs.Words.{Asked, project, asked_of}
use Rattle.sc_core.specs.declared.run_error.RunError.{RunError}
use Rattle.sc_core.specs.declared.run_error.RunError.TheVariants as error
use Rattle.sc_core.specs.Ordinary.{Setting}
use Rattle.sc_core.specs.Outcome.{FailsFor, FailsWith, FillsBranches, IsOn, Job, MayHold, Reading, RefusesSpace, WhereTold, absent, job_of, refused}
use Rattle.sc_core.specs.RunError.{branches_line, line_of, space_line}
use Rattle.sc_core.specs.Texts.{FailsInSpace, FailsToChoose, FillsIn, ReadsSpace, RefusesAnySpace, TellsRefusal, setting_of}
use Rattle.sc_model.specs.Outside.{Files, Rose}
use Rattle.sc_model.specs.Space.{Space}
use Rattle.sc_space.specs.declared.fault.SpaceStop.{SpaceStop}
use Rattle.sc_space.specs.declared.fault.SpaceStop.TheVariants as stop
use Rattle.sc_space.specs.Seen.{Refuses, seen_fault}
use Rattle.sc_space.specs.SpaceFile as file
use Rattle.sc_space.specs.SpaceFile.{read_space}
use Rattle.sc_space.specs.Texts.{AreTexts, Texts}

-- ---- files that a source may hold

-- those that it tells, or these
abbrev pub held_or : Option Files → Files → Files
held_or holds files = unwrap_or holds files

pub may-hold : (holds : Option Files) (files : Files) → MayHold holds (held_or holds files)
may-hold holds files told is = ap (λ (h : Option Files). unwrap_or h files) is

-- what it answers at a name is held there
pub held-at : (holds : Option Files) (name : List ℕ) (bytes : Option (List ℕ)) → ((files : Files) → holds ≡ Some files → bytes ≡ files name) → held_or holds (λ _. bytes) name ≡ bytes
held-at None name bytes answer = refl
held-at (Some files) name bytes answer = sym (answer files refl)

-- a source that answers this at the name
module _ (holds : Option Files) (name : List ℕ) (bytes : Option (List ℕ)) (answer : (files : Files) → holds ≡ Some files → bytes ≡ files name) where
  pub reads-space : (text : List ℕ) (space : Space) → bytes ≡ Some text → ((texts : Texts) → AreTexts texts → read_space texts text ≡ Ok space) → ReadsSpace holds name space
  reads-space text space is read =
      record { files = held_or holds (λ _. bytes); held = may-hold holds (λ _. bytes); has = record { bytes = text; held = held-at holds name bytes answer ∙ is; read = read } }

  pub absent-space : bytes ≡ None → RefusesAnySpace holds name (line_of error.NoSpace)
  absent-space is = record { files = held_or holds (λ _. bytes); held = may-hold holds (λ _. bytes); why = absent (held-at holds name bytes answer ∙ is) refl }

  pub refused-space : (text line : List ℕ) (fault : file.Fault) → bytes ≡ Some text → ((texts : Texts) → AreTexts texts → read_space texts text ≡ Err fault) → line ≡ space_line fault → RefusesAnySpace holds name line
  refused-space text line fault is read told =
      record { files = held_or holds (λ _. bytes); held = may-hold holds (λ _. bytes); why = refused text fault (held-at holds name bytes answer ∙ is) read told }

  -- what refuses a space is told
  pub refusal-fails : (before after : ℕ) (text : List ℕ) → bytes ≡ Some text → (stop : SpaceStop) → ((texts : Texts) → AreTexts texts → Refuses stop (read_space texts text)) → (e : RunError) → TellsRefusal stop e
      → FailsInSpace holds before after name e
  refusal-fails before after text is (stop.Fault fault) read (error.BadSpace line) told = refused-space text line.items (seen_fault fault) is read told
  refusal-fails before after text is (stop.Fault fault) read (error.Usage words) told = absurd told
  refusal-fails before after text is (stop.Fault fault) read error.BadFile told = absurd told
  refusal-fails before after text is (stop.Fault fault) read error.BadCount told = absurd told
  refusal-fails before after text is (stop.Fault fault) read error.NoSpace told = absurd told
  refusal-fails before after text is (stop.Fault fault) read (error.BranchesFull line) told = absurd told
  refusal-fails before after text is (stop.Fault fault) read error.ReadFault told = absurd told
  refusal-fails before after text is (stop.Fault fault) read error.OutOfMemory told = absurd told
  refusal-fails before after text is stop.OutOfMemory read error.OutOfMemory told = tt
  refusal-fails before after text is stop.OutOfMemory read (error.BadSpace line) told = absurd told
  refusal-fails before after text is stop.OutOfMemory read (error.Usage words) told = absurd told
  refusal-fails before after text is stop.OutOfMemory read error.BadFile told = absurd told
  refusal-fails before after text is stop.OutOfMemory read error.BadCount told = absurd told
  refusal-fails before after text is stop.OutOfMemory read error.NoSpace told = absurd told
  refusal-fails before after text is stop.OutOfMemory read (error.BranchesFull line) told = absurd told
  refusal-fails before after text is stop.OutOfMemory read error.ReadFault told = absurd told

-- ---- there is no setting

-- the space file gives no space
pub space-fails : (job : Job) (reading : Reading) (name : List ℕ) → job.reads ≡ true → ((files : Files) (line : List ℕ) → RefusesSpace files name line → job.refuses files line)
    → (e : RunError) → FailsInSpace reading.holds reading.before reading.after name e → FailsFor job reading e
space-fails job reading name reads refuses (error.Usage text) fails = fails
space-fails job reading name reads refuses error.BadFile fails = fails
space-fails job reading name reads refuses error.BadCount fails = fails
space-fails job reading name reads refuses error.NoSpace fails = record { files = fails.files; held = fails.held; why = refuses fails.files _ fails.why }
space-fails job reading name reads refuses (error.BadSpace line) fails = record { files = fails.files; held = fails.held; why = refuses fails.files line.items fails.why }
space-fails job reading name reads refuses (error.BranchesFull line) fails = absurd fails
space-fails job reading name reads refuses error.ReadFault fails = (reads, fails)
space-fails job reading name reads refuses error.OutOfMemory fails = tt

-- the words choose no configuration
pub choice-fails : (reading : Reading) (name main : List ℕ) (choices : List (List ℕ)) (space : Space) → ReadsSpace reading.holds name space → (e : RunError) → FailsToChoose space choices e
    → FailsFor (job_of (project name main choices)) reading e
choice-fails reading name main choices space is (error.Usage text) fails = fails
choice-fails reading name main choices space is error.BadFile fails = fails
choice-fails reading name main choices space is error.BadCount fails = fails
choice-fails reading name main choices space is error.NoSpace fails = absurd fails
choice-fails reading name main choices space is (error.BadSpace line) fails =
    record { files = is.files; held = is.held; why = inr (inl (record { space = space; fault = fails.0; has_space = is.has; read = fails.1.0; told = fails.1.1 })) }
choice-fails reading name main choices space is (error.BranchesFull line) fails = absurd fails
choice-fails reading name main choices space is error.ReadFault fails = absurd fails
choice-fails reading name main choices space is error.OutOfMemory fails = tt

-- ---- there are too many branches

pub fills-job : (job : Job) (fills : Setting → Type 0) (holds : Option Files) (name main line : List ℕ) (space : Space) → ((s : Setting) → IsOn holds name main s → job.has holds s)
    → ((s : Setting) → WhereTold holds s.files (fills s) → job.fills holds s) → ReadsSpace holds name space → FillsIn fills holds space main → line ≡ branches_line (space.branches + 1) → FillsBranches job holds line
fills-job job fills holds name main line space has why is full told = record {
  setting = setting_of space main full.parser is.files;
  held = is.held;
  has = has (setting_of space main full.parser is.files) (record { files = is.files; held = is.held; has_space = is.has; main_is = refl });
  configs = full.configs;
  why = why (setting_of space main full.parser is.files) (full.why is.files);
  told = told;
}

-- ---- of what was asked

pub fails-with : (asked : Asked) (reading : Reading) (words : List (List ℕ)) → asked_of words ≡ Ok asked → (e : RunError) → FailsFor (job_of asked) reading e → FailsWith reading words e
fails-with asked reading words is (error.Usage text) fails = absurd fails
fails-with asked reading words is error.BadFile fails = absurd fails
fails-with asked reading words is error.BadCount fails = absurd fails
fails-with asked reading words is error.NoSpace fails = record { asked = asked; asked_is = is; fails = fails }
fails-with asked reading words is (error.BadSpace line) fails = record { asked = asked; asked_is = is; fails = fails }
fails-with asked reading words is (error.BranchesFull line) fails = record { asked = asked; asked_is = is; fails = fails }
fails-with asked reading words is error.ReadFault fails = record { asked = asked; asked_is = is; fails = fails }
fails-with asked reading words is error.OutOfMemory fails = tt

-- a count that rose in a part of a time rose in all of it
pub rose-before : (before mid after : ℕ) → before ≤ mid → Rose mid after → Rose before after
rose-before before mid after least (inl more) = inl (omega arith)
rose-before before mid after least (inr full) = inr full
