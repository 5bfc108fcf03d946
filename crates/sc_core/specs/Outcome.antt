-- What a run of the program does, by its status.
use Rattle.std.specs.Prelude.{◌≡◌, ◌⊎◌, ℕ, ◌+◌, Bool, true, false, List, [], ◌∷◌, codes, map, All, Option, Some, None, Ok, Err}
use Rattle.c11_directives.specs.Listed.{IsRefusedBy, SaysValid}
use Rattle.sc_args.specs.Words.{Asked, tokens, parse, project as project_tree, conflicts, make, usage, bad_file, bad_count, asked_of}
use Rattle.sc_core.specs.declared.run_error.RunError.{RunError}
use Rattle.sc_core.specs.declared.run_error.RunError.TheVariants as error
use Rattle.sc_core.specs.declared.status.Status.{Status}
use Rattle.sc_core.specs.declared.status.Status.TheVariants.{Accepted, Refused, BadWords, BadSpace, BranchesFull, ReadFault, WriteFault, OutOfMemory}
use Rattle.sc_core.specs.CommandTexts.{IsConflictsText, IsParseText, IsProjectText, IsSummaryText, IsTokensText, made_setting}
use Rattle.sc_core.specs.Made.{made_space}
use Rattle.sc_core.specs.Ordinary.{HasManyBranches, HasManyConfigs, HasManyFootprints, Setting}
use Rattle.sc_core.specs.RunError.{branches_line, line_of, status_of, space_line}
use Rattle.sc_model.specs.declared.cause.Cause.{Cause}
use Rattle.sc_model.specs.Outside.{Files, Rose, Write, Writes, WritesPart, whole_write}
use Rattle.sc_model.specs.Sets.{IsConfig}
use Rattle.sc_model.specs.Space.{Space, arities_of}
use Rattle.sc_show.specs.Pieces.{IsLine}
use Rattle.sc_source.specs.Sink.{WritesCut}
use Rattle.sc_space.specs.Config.{read_config}
use Rattle.sc_space.specs.SpaceFile as file
use Rattle.sc_space.specs.Texts.{AreTexts, Texts}

-- ---- the outside of a run

-- what the source holds, where it tells, and how many reads failed before and after
pub record Reading : Type 0 where
  pub holds : Option Files
  pub before : ℕ
  pub after : ℕ

-- the writes to a sink before and after, where it tells, and how many failed
pub record Writing : Type 0 where
  pub old : Option (List Write)
  pub new : Option (List Write)
  pub before : ℕ
  pub after : ℕ

-- the source may hold these files: where it tells what it holds, they are that
abbrev pub MayHold : Option Files → Files → Type 0
MayHold holds files = (told : Files) → holds ≡ Some told → files ≡ told

-- this is so where the source tells that it holds these files
abbrev pub WhereTold : Option Files → Files → Type 0 → Type 0
WhereTold holds files P = holds ≡ Some files → P

-- ---- the space file

-- it is held, and it is read as this space
pub record HasSpace (files : Files) (name : List ℕ) (space : Space) : Type 0 where
  pub bytes : List ℕ
  pub held : files name ≡ Some bytes
  pub read : (texts : Texts) → AreTexts texts → file.read_space texts bytes ≡ Ok space

-- The setting has this main file, and the space that files which the source may hold have under
-- this name. A source that doesn't tell may hold others by the time that the main file is read.
pub record IsOn (holds : Option Files) (name main : List ℕ) (s : Setting) : Type 0 where
  pub files : Files
  pub held : MayHold holds files
  pub has_space : HasSpace files name s.space
  pub main_is : s.main ≡ main

-- the space file is not held or is refused, and the line tells why
pub data RefusesSpace (files : Files) (name line : List ℕ) : Type 0 where
  absent : files name ≡ None → line ≡ line_of error.NoSpace → RefusesSpace files name line
  refused : (bytes : List ℕ) (fault : file.Fault) → files name ≡ Some bytes → ((texts : Texts) → AreTexts texts → file.read_space texts bytes ≡ Err fault) → line ≡ space_line fault → RefusesSpace files name line

-- the space file is held and read, the words that choose a configuration are refused, and the line
-- tells the fault
pub record RefusesChoices (files : Files) (name : List ℕ) (choices : List (List ℕ)) (line : List ℕ) : Type 0 where
  pub space : Space
  pub fault : file.Fault
  pub has_space : HasSpace files name space
  pub read : read_config space choices ≡ Err fault
  pub told : line ≡ space_line fault

-- Why no configuration of a space is listed: its text says nothing of some, or it holds nowhere,
-- which is told as this fault.
pub data ListsNone (space : Space) (none : file.Fault) : file.Fault → Type 0 where
  unsaid_somewhere : (cause : Cause) → IsRefusedBy space cause → ListsNone space none (file.bad_valid cause)
  nowhere : ((config : List ℕ) → IsConfig (arities_of space) config → SaysValid space config (Ok false)) → ListsNone space none none

-- why a configuration is not listed
pub data IsUnlisted (space : Space) (config : List ℕ) : file.Fault → Type 0 where
  unsaid_there : (cause : Cause) → SaysValid space config (Err cause) → IsUnlisted space config (file.bad_valid cause)
  not_there : SaysValid space config (Ok false) → IsUnlisted space config file.invalid

-- the space file is held and read, it lists no configuration, and the line tells why
pub record RefusesAll (files : Files) (name line : List ℕ) : Type 0 where
  pub space : Space
  pub fault : file.Fault
  pub has_space : HasSpace files name space
  pub why : ListsNone space file.no_configuration fault
  pub told : line ≡ space_line fault

-- it does not list the configuration that words choose
pub record RefusesConfig (files : Files) (name : List ℕ) (choices : List (List ℕ)) (line : List ℕ) : Type 0 where
  pub space : Space
  pub config : List ℕ
  pub fault : file.Fault
  pub has_space : HasSpace files name space
  pub read : read_config space choices ≡ Ok config
  pub why : IsUnlisted space config fault
  pub told : line ≡ space_line fault

-- ---- jobs

-- What the words of a command ask for.
pub record Job : Type 1 where
  -- whether files are read for it
  pub reads : Bool
  -- it has this setting, with what the source may hold
  pub has : Option Files → Setting → Type 0
  -- these files, or other words, refuse it a setting, and the line tells why
  pub refuses : Files → List ℕ → Type 0
  -- the pieces are its text, and it is told whether all is accepted
  pub text : Setting → List (List ℕ) → Bool → Type 0
  -- there are more branches than the space allows
  pub fills : Option Files → Setting → Type 0

-- For one configuration there are never too many branches.
abbrev pub job_of : Asked → Job
job_of (tokens space main) = record {
  reads = true;
  has = λ holds. IsOn holds space main;
  refuses = λ files line. RefusesSpace files space line ⊎ RefusesAll files space line;
  text = IsTokensText;
  fills = λ holds s. WhereTold holds s.files (HasManyFootprints s);
}
job_of (parse space main) = record {
  reads = true;
  has = λ holds. IsOn holds space main;
  refuses = λ files line. RefusesSpace files space line ⊎ RefusesAll files space line;
  text = IsParseText;
  fills = λ holds s. WhereTold holds s.files (HasManyBranches s);
}
job_of (project_tree space main choices) = record {
  reads = true;
  has = λ holds. IsOn holds space main;
  refuses = λ files line. RefusesSpace files space line ⊎ (RefusesChoices files space choices line ⊎ RefusesConfig files space choices line);
  text = IsProjectText choices;
  fills = λ holds s. ⊥;
}
job_of conflicts = record {
  reads = false;
  has = λ holds s. Unit {0};
  refuses = λ files line. ⊥;
  text = IsConflictsText;
  fills = λ holds s. ⊥;
}
job_of (make items) = record {
  reads = false;
  has = λ holds s. s.space ≡ made_space;
  refuses = λ files line. ⊥;
  text = λ s. IsSummaryText items (made_setting items s);
  fills = λ holds s. HasManyBranches (made_setting items s);
}

-- In a setting that the job has, the pieces are the lines of its text.
pub record HasTextOf (job : Job) (holds : Option Files) (pieces : List (List ℕ)) (accepted : Bool) : Type 0 where
  pub lines : All IsLine pieces
  pub setting : Setting
  pub held : MayHold holds setting.files
  pub has : job.has holds setting
  pub text : job.text setting pieces accepted

-- files that the source may hold refuse the job, and the line tells why
pub record RefusesJob (job : Job) (holds : Option Files) (line : List ℕ) : Type 0 where
  pub files : Files
  pub held : MayHold holds files
  pub why : job.refuses files line

-- In a setting that the job has, there are more configurations than branches and more branches than
-- the space allows, and the line tells how many these may be.
pub record FillsBranches (job : Job) (holds : Option Files) (line : List ℕ) : Type 0 where
  pub setting : Setting
  pub held : MayHold holds setting.files
  pub has : job.has holds setting
  pub configs : HasManyConfigs setting.space
  pub why : job.fills holds setting
  pub told : line ≡ branches_line (setting.space.branches + 1)

-- why the job has no text
abbrev pub FailsFor : Job → Reading → RunError → Type 0
FailsFor job reading (error.Usage text) = ⊥
FailsFor job reading error.BadFile = ⊥
FailsFor job reading error.BadCount = ⊥
FailsFor job reading error.NoSpace = RefusesJob job reading.holds (line_of error.NoSpace)
FailsFor job reading (error.BadSpace line) = RefusesJob job reading.holds line.items
FailsFor job reading (error.BranchesFull line) = FillsBranches job reading.holds line.items
FailsFor job reading error.ReadFault = (job.reads ≡ true) × Rose reading.before reading.after
FailsFor job reading error.OutOfMemory = Unit {0}

-- ---- what was asked for

-- The words ask for a job, and the pieces are the lines of its text.
pub record HasText (holds : Option Files) (words : List (List ℕ)) (pieces : List (List ℕ)) (accepted : Bool) : Type 0 where
  pub asked : Asked
  pub asked_is : asked_of words ≡ Ok asked
  pub text : HasTextOf (job_of asked) holds pieces accepted

-- the words ask for a job, and there is this reason that it has no text
pub record FailsAsked (reading : Reading) (words : List (List ℕ)) (why : RunError) : Type 0 where
  pub asked : Asked
  pub asked_is : asked_of words ≡ Ok asked
  pub fails : FailsFor (job_of asked) reading why

-- why there is no text
abbrev pub FailsWith : Reading → List (List ℕ) → RunError → Type 0
FailsWith reading words (error.Usage text) = asked_of words ≡ Err usage
FailsWith reading words error.BadFile = asked_of words ≡ Err bad_file
FailsWith reading words error.BadCount = asked_of words ≡ Err bad_count
FailsWith reading words error.OutOfMemory = Unit {0}
FailsWith reading words why = FailsAsked reading words why

-- ---- the outcome

-- the line is written, or a prefix of it by a write that failed
pub data WritesLine (err : Writing) (line : List ℕ) : Type 0 where
  whole : Writes err.old err.new (whole_write line ∷ []) → WritesLine err line
  cut : WritesCut err.old err.new line → Rose err.before err.after → WritesLine err line

-- all lines are written whole, each by one write
pub record Prints (reading : Reading) (words : List (List ℕ)) (out : Writing) (accepted : Bool) : Type 0 where
  pub pieces : List (List ℕ)
  pub text : HasText reading.holds words pieces accepted
  pub written : Writes out.old out.new (map whole_write pieces)

-- a prefix of the text is written, and nothing after the failure
pub record PrintsPart (reading : Reading) (words : List (List ℕ)) (out : Writing) : Type 0 where
  pub pieces : List (List ℕ)
  pub accepted : Bool
  pub text : HasText reading.holds words pieces accepted
  pub written : WritesPart out.old out.new pieces
  pub failed : Rose out.before out.after

-- nothing is put out, and the error output gets one line
pub record EndsWithError (reading : Reading) (words : List (List ℕ)) (status : Status) (out err : Writing) : Type 0 where
  pub error : RunError
  pub status_is : status ≡ status_of error
  pub why : FailsWith reading words error
  pub silent : out.new ≡ out.old
  pub told : WritesLine err (line_of error)

-- What a run does, by its status. The output gets the text alone, and the error output the line of
-- a run without a whole text.
abbrev pub Outcome : Reading → List (List ℕ) → Writing → Writing → Status → Type 0
Outcome reading words out err Accepted = Prints reading words out true × (err.new ≡ err.old)
Outcome reading words out err Refused = Prints reading words out false × (err.new ≡ err.old)
Outcome reading words out err BadWords = EndsWithError reading words BadWords out err
Outcome reading words out err BadSpace = EndsWithError reading words BadSpace out err
Outcome reading words out err BranchesFull = EndsWithError reading words BranchesFull out err
Outcome reading words out err ReadFault = EndsWithError reading words ReadFault out err
Outcome reading words out err WriteFault = PrintsPart reading words out × WritesLine err (codes "superc: write fault\n")
Outcome reading words out err OutOfMemory = EndsWithError reading words OutOfMemory out err
