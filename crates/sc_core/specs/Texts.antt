-- What the text of a command is, before it is written.
use Rattle.std.specs.Prelude.{◌≡◌, ◌⊎◌, true, false, ◌<◌, ◌≤◌, ◌+◌, ℕ, not, List, [], ◌∷◌, length, map, All, IfSome, Option, Some, None, Result, Ok, Err}
use Rattle.c11_directives.specs.Footprints.{HasFootprints, ValidHas}
use Rattle.c11_directives.specs.Listed.{IsListed}
use Rattle.c11_parsing.specs.Parser.{Parser}
use Rattle.c11_parsing.specs.Trees.{Tree}
use Rattle.sc_args.specs.Words.{Asked}
use Rattle.sc_base.specs.declared.fault.Fault as base
use Rattle.sc_base.specs.declared.id.TreeId.{TreeId}
use Rattle.sc_base.specs.declared.stop.Stop.{Stop}
use Rattle.sc_base.specs.declared.stop.Stop.TheVariants.{BranchesFull, ReadFault, OutOfMemory}
use Rattle.sc_core.specs.declared.tree_texts.ParsedFile.{ParsedFile}
use Rattle.sc_core.specs.Cut.{first_config, last_config}
use Rattle.sc_core.specs.Made.{made_name, made_space}
use Rattle.sc_core.specs.Ordinary.{HasClasses, HasFewClasses, HasManyConfigs, Setting, Translates}
use Rattle.sc_core.specs.RunError.{branches_line, line_of, space_line}
use Rattle.sc_fork.specs.Outcomes.{RootReads}
use Rattle.sc_fork.specs.Parsers.{IsC11Parser}
use Rattle.sc_guarded.specs.Items as guarded
use Rattle.sc_guarded.specs.Items.{faults_at}
use Rattle.sc_guarded.specs.Printable.{IsShowableFault, AreApart}
use Rattle.sc_model.specs.Bytes.{has_no_newline}
use Rattle.sc_model.specs.Fault.{Fault}
use Rattle.sc_model.specs.Sets.{Sets, IsConfig}
use Rattle.sc_project.specs.Layout.{LaysOut}
use Rattle.sc_show.specs.declared.summary.Summary.{Summary}
use Rattle.sc_show.specs.FaultCount.{AreFaultsOf}
use Rattle.sc_show.specs.PlainText.{IsPlainAnswer}
use Rattle.sc_text.specs.Answer.{Answer, At, HasSoundChoices, IsRooted, ShownTree, tree_parts}
use Rattle.sc_text.specs.Layout.{IsTextOf}
use Rattle.sc_show.specs.TreeShows.{AreShowableLeaves}
use Rattle.sc_space.specs.Config.{read_config}
use Rattle.sc_space.specs.declared.fault.SpaceStop.{SpaceStop}
use Rattle.sc_space.specs.declared.fault.SpaceStop.TheVariants as stop
use Rattle.sc_space.specs.Seen.{seen_fault}
use Rattle.sc_space.specs.SpaceFile as file
use Rattle.sc_tree.specs.Lines.{Line, OwnsBranches}
use Rattle.sc_tree.specs.Reads.{Tables}
use Rattle.sc_tree.specs.Walks.{is_choice}
use Rattle.sc_core.specs.declared.run_error.RunError.{RunError}
use Rattle.sc_core.specs.declared.run_error.RunError.TheVariants as error
use Rattle.sc_core.specs.declared.output.Output.{Output}
use Rattle.sc_core.specs.CommandTexts.{HasNoFault, IsSummaryText, IsTokensText, IsTranslation, Tells, size_in}
use Rattle.sc_core.specs.Outcome.{HasSpace, HasText, HasTextOf, ListsNone, MayHold, RefusesSpace, WhereTold, job_of}
use Rattle.sc_model.specs.Outside.{Files, Rose}
use Rattle.sc_model.specs.Space.{Space, arities_of}
use Rattle.sc_show.specs.Pieces.{split_lines_after}

abbrev pub lines_of : Output → List (List ℕ)
lines_of text = split_lines_after text.lines.items

-- the text is what the words ask for
abbrev pub IsAnswer : Option Files → List (List ℕ) → Output → Type 0
IsAnswer holds words text = HasText holds words (lines_of text) (not text.is_refused)

-- it is the text of what is asked for
abbrev pub IsAnswerFor : Option Files → Asked → Output → Type 0
IsAnswerFor holds asked text = HasTextOf (job_of asked) holds (lines_of text) (not text.is_refused)

-- ---- the setting

-- a main file in a space
abbrev pub setting_of : Space → List ℕ → Parser → Files → Setting
setting_of space main parser files = record { space = space; files = files; main = main; parser = parser }

-- files that the source may hold have this space file
pub record ReadsSpace (holds : Option Files) (name : List ℕ) (space : Space) : Type 0 where
  pub files : Files
  pub held : MayHold holds files
  pub has : HasSpace files name space

-- files that the source may hold refuse a space, and the line tells why
pub record RefusesAnySpace (holds : Option Files) (name line : List ℕ) : Type 0 where
  pub files : Files
  pub held : MayHold holds files
  pub why : RefusesSpace files name line

-- why the space file of this name gives no space
abbrev pub FailsInSpace : Option Files → ℕ → ℕ → List ℕ → RunError → Type 0
FailsInSpace holds before after name error.NoSpace = RefusesAnySpace holds name (line_of error.NoSpace)
FailsInSpace holds before after name (error.BadSpace line) = RefusesAnySpace holds name line.items
FailsInSpace holds before after name error.ReadFault = Rose before after
FailsInSpace holds before after name error.OutOfMemory = Unit {0}
FailsInSpace holds before after name _ = ⊥

-- why the words choose no configuration of the space
abbrev pub FailsToChoose : Space → List (List ℕ) → RunError → Type 0
FailsToChoose space choices (error.BadSpace line) = (fault : file.Fault) × ((read_config space choices ≡ Err fault) × (line.items ≡ space_line fault))
FailsToChoose space choices error.OutOfMemory = Unit {0}
FailsToChoose space choices _ = ⊥

-- why a space lists nothing: no configuration is listed, for which this is told where the text of
-- the space refuses none, or the text has too many footprints
abbrev pub FailsToList : Space → file.Fault → RunError → Type 0
FailsToList space none (error.BadSpace line) = (fault : file.Fault) × (ListsNone space none fault × (line.items ≡ space_line fault))
FailsToList space none (error.BranchesFull line) = HasManyConfigs space × HasFootprints (IsConfig (arities_of space)) (ValidHas space) (space.branches + 1) × (line.items ≡ branches_line (space.branches + 1))
FailsToList space none error.OutOfMemory = Unit {0}
FailsToList space none _ = ⊥

-- why a space of one configuration has no text: that is not listed, or a read failed
abbrev pub FailsAlone : ℕ → ℕ → Space → RunError → Type 0
FailsAlone before after space error.ReadFault = Rose before after
FailsAlone before after space e = FailsToList space file.invalid e

-- what a stop is told as
abbrev pub TellsStop : Stop → RunError → Type 0
TellsStop ReadFault error.ReadFault = Unit {0}
TellsStop OutOfMemory error.OutOfMemory = Unit {0}
TellsStop (BranchesFull count) (error.BranchesFull line) = line.items ≡ branches_line count
TellsStop _ _ = ⊥

-- what a fault of a space is told as
abbrev pub TellsFault : file.Fault → RunError → Type 0
TellsFault fault (error.BadSpace line) = line.items ≡ space_line fault
TellsFault fault _ = ⊥

-- what a refusal of a space file or of words is told as
abbrev pub TellsRefusal : SpaceStop → RunError → Type 0
TellsRefusal (stop.Fault fault) (error.BadSpace line) = line.items ≡ space_line (seen_fault fault)
TellsRefusal stop.OutOfMemory error.OutOfMemory = Unit {0}
TellsRefusal _ _ = ⊥

-- ---- tokens

-- the text of the tokens of a main file, in files that the source may hold
pub record TellsTokens (holds : Option Files) (space : Space) (main : List ℕ) (text : Output) : Type 0 where
  pub files : Files
  pub held : MayHold holds files
  pub text_of : (parser : Parser) → IsTokensText (setting_of space main parser files) (lines_of text) (not text.is_refused)

-- ---- trees

-- at the configuration the file has its tree and no fault, or its fault alone
abbrev pub Stands : Tables → Option TreeId → List base.Fault → List ℕ → Result Tree Fault → Type 0
Stands w root faults config (Ok tree) = (faults_at w.sets faults config ≡ []) × RootReads w config root tree
Stands w root faults config (Err fault) = map (guarded.seen_fault w.files) (faults_at w.sets faults config) ≡ fault ∷ []

-- the configuration has what ordinary translation gives there
pub record IsTranslated (s : Setting) (w : Tables) (root : Option TreeId) (faults : List base.Fault) (config : List ℕ) : Type 0 where
  pub ordinary : Result Tree Fault
  pub translated : Translates s config ordinary
  pub stands : Stands w root faults config ordinary

-- Each listed configuration has it, and the others have no fault. The file has so many classes, no
-- more than branches.
pub record AreTranslated (holds : Option Files) (space : Space) (main : List ℕ) (w : Tables) (root : Option TreeId) (faults : List base.Fault) (most : ℕ) : Type 0 where
  pub parser : Parser
  pub c11 : IsC11Parser space.standard parser
  pub files : Files
  pub held : MayHold holds files
  pub each : (config : List ℕ) → IsListed space config → IsTranslated (setting_of space main parser files) w root faults config
  pub others : (config : List ℕ) → IsConfig w.sets.arities config → IsListed space config ⊎ (faults_at w.sets faults config ≡ [])
  pub classes : HasClasses (setting_of space main parser files) most
  pub few : most ≤ space.branches

-- Each of these configurations has its tree and no fault, or one fault. Where there is a root, some
-- of them has a tree.
pub record HasAnswers (is_listed : List ℕ → Type 0) (w : Tables) (root : Option TreeId) (faults : List base.Fault) : Type 0 where
  pub each : (config : List ℕ) → is_listed config → (result : Result Tree Fault) × Stands w root faults config result
  pub some : (id : TreeId) → root ≡ Some id → (config : List ℕ) × (is_listed config × ((tree : Tree) × Stands w root faults config (Ok tree)))

-- what a parsed file is, seen through the tables
abbrev pub seen_by : Sets → (names files : List (List ℕ)) → ParsedFile → Tables
seen_by s names files p = record { sets = s; names = names; files = files; lines = p.trees }

-- all of it can be shown
pub record CanShowTree (s : Sets) (names files : List (List ℕ)) (p : ParsedFile) : Type 0 where
  pub leaves : AreShowableLeaves names files p.trees
  pub branches : OwnsBranches s p.trees
  pub root : IfSome p.root (λ id. id.0 < length p.trees)
  pub faults : All (IsShowableFault s files) p.faults.items
  pub apart : AreApart s p.faults.items
  pub paths : All (λ path. has_no_newline path ≡ true) files

-- where there is a tree, the store is what is laid out of it at the configuration, with the other
-- root
pub data IsLaid (w : Tables) (config : List ℕ) (trees : List Line) : Option TreeId → Option TreeId → Type 0 where
  no_tree : IsLaid w config trees None None
  tree_laid : (id root : TreeId) → LaysOut w.sets w.lines config id.0 0 trees root.0 → IsLaid w config trees (Some id) (Some root)

-- Another parsed file has the same faults, a tree where the first has one, which at every
-- configuration is that of the first at this one, and no choices. Its tree is laid out.
pub record IsPlain (w : Tables) (config : List ℕ) (old p : ParsedFile) : Type 0 where
  pub faults : p.faults.items ≡ old.faults.items
  pub reads : (tree : Tree) → RootReads w config old.root tree → RootReads (record w { lines = p.trees }) config p.root tree
  pub plain : All (λ line. is_choice line ≡ false) p.trees
  pub laid : IsLaid w config p.trees old.root p.root

-- the text of a tree in this space, which lists some configuration, and whether one has a fault
pub record TellsTree (holds : Option Files) (space : Space) (main : List ℕ) (text : Output) : Type 0 where
  pub answer : Answer tree_parts
  pub text_of : IsTextOf space (lines_of text) answer
  pub verdict : Tells (not text.is_refused) (HasNoFault space answer)
  pub parser : Parser
  pub c11 : IsC11Parser space.standard parser
  pub files : Files
  pub held : MayHold holds files
  pub right : IsTranslation (setting_of space main parser files) answer (not text.is_refused)
  pub few : HasFewClasses (setting_of space main parser files)

-- The choices of such a text are sound, and it has a root where a configuration is accepted.
pub record TellsChoices (holds : Option Files) (space : Space) (main : List ℕ) (text : Output) : Type 0 where
  pub tells : TellsTree holds space main text
  pub choices : HasSoundChoices space tells.answer.body.parts
  pub rooted : IsRooted (IsListed space) tells.answer

-- In a space of one configuration the text is that of its result, a tree or a fault.
pub record TellsPlain (holds : Option Files) (space : Space) (main : List ℕ) (text : Output) : Type 0 where
  pub tells : TellsTree holds space main text
  pub result : Result ShownTree Fault
  pub same : At tells.answer (first_config space) result
  pub plain : IsPlainAnswer tells.answer (first_config space) result

-- the summary of a file that was parsed: what it says of the configurations of all first and of all
-- last options, how many different faults there are, and the classes
pub record Summarizes (s : Sets) (names files : List (List ℕ)) (p : ParsedFile) (count : ℕ) (m : Summary) : Type 0 where
  pub items_are : m.items ≡ count
  pub first : (o : Result Tree Fault) → Stands (seen_by s names files p) p.root p.faults.items (first_config made_space) o → m.first ≡ size_in o
  pub last : (o : Result Tree Fault) → Stands (seen_by s names files p) p.root p.faults.items (last_config made_space) o → m.last ≡ size_in o
  pub different : List Fault
  pub of : AreFaultsOf s files p.faults.items different
  pub many : length different ≡ m.faults
  pub classes : m.classes ≡ p.classes

-- the summary of a file that is made, in files that the source may hold
pub record TellsSummary (holds : Option Files) (items : ℕ) (text : Output) : Type 0 where
  pub parser : Parser
  pub files : Files
  pub held : MayHold holds files
  pub text_of : IsSummaryText items (setting_of made_space made_name parser files) (lines_of text) (not text.is_refused)

-- ---- too many branches

-- There are more configurations than branches. Where the source tells what it holds, there are too
-- many branches.
pub record FillsIn (fills : Setting → Type 0) (holds : Option Files) (space : Space) (main : List ℕ) : Type 0 where
  pub configs : HasManyConfigs space
  pub parser : Parser
  pub why : (files : Files) → WhereTold holds files (fills (setting_of space main parser files))

-- why a file in this space gives nothing
abbrev pub StopsIn : (Setting → Type 0) → Option Files → ℕ → ℕ → Space → List ℕ → Stop → Type 0
StopsIn fills holds before after space main (BranchesFull count) = (count ≡ space.branches + 1) × FillsIn fills holds space main
StopsIn fills holds before after space main ReadFault = Rose before after
StopsIn fills holds before after space main OutOfMemory = Unit {0}

-- why a space has no text: it lists none, its file has too many branches, or a read failed
abbrev pub FailsUnder : (Setting → Type 0) → Option Files → ℕ → ℕ → Space → List ℕ → RunError → Type 0
FailsUnder fills holds before after space main error.ReadFault = Rose before after
FailsUnder fills holds before after space main (error.BranchesFull line) =
    FailsToList space file.no_configuration (error.BranchesFull line)
    ⊎ (FillsIn fills holds space main × (line.items ≡ branches_line (space.branches + 1)))
FailsUnder fills holds before after space main e = FailsToList space file.no_configuration e
