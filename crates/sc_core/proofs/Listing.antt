-- The configurations that a condition lists are those of the text of a space.
use Rattle.std.proofs.Common.{◌≡◌, ◌≤◌, ◌⊎◌, ◌&&◌, Option, inl, inr, ℕ, Bool, true, false, List, [], Ok, Err, refl, sym, ap, ◌∙◌, subst}
use Rattle.std.proofs.lemmas.Bool.{and_parts, cases_Bool}
use Rattle.c11_directives.proofs.ListedLaws.{says-unique}
use Rattle.c11_directives.specs.Footprints.{FilesHave, Has, of_files, of_valid}
use Rattle.c11_directives.specs.Listed.{HasListed, IsListed, SaysValid}
use Rattle.c11_directives.specs.Pre.{Pre}
use Rattle.sc_base.specs.declared.stop.Stop.{Stop}
use Rattle.sc_base.specs.declared.stop.Stop.TheVariants.{BranchesFull, ReadFault, OutOfMemory}
use Rattle.sc_core.proofs.Failing.{fills-job, rose-before}
use Rattle.sc_core.proofs.Filling.{any-parser}
use Rattle.sc_core.specs.declared.run_error.RunError.{RunError}
use Rattle.sc_core.specs.declared.run_error.RunError.TheVariants as error
use Rattle.sc_core.specs.Ordinary.{HasManyFootprints, Setting}
use Rattle.sc_core.specs.Outcome.{FailsFor, HasSpace, IsOn, IsUnlisted, Job, ListsNone, Reading, WhereTold, job_of, not_there, nowhere, unsaid_somewhere, unsaid_there}
use Rattle.sc_args.specs.Words.{project}
use Rattle.sc_core.proofs.Cuts.{first-formed, never-fills, one-config, says-cut}
use Rattle.sc_core.specs.Cut.{cut_space, first_config}
use Rattle.sc_core.specs.RunError.{branches_line, space_line}
use Rattle.sc_core.specs.Texts.{FailsAlone, FailsToList, FailsUnder, FillsIn, ReadsSpace, StopsIn, TellsFault, TellsStop, setting_of}
use Rattle.sc_guarded.specs.Items.{faults_at}
use Rattle.sc_model.proofs.SetLemmas.{IsConfig-Keeps, IsConfig-kept}
use Rattle.sc_model.specs.Outside.{Files}
use Rattle.sc_model.specs.Sets.{IsConfig, IsNever, Keeps, Sets}
use Rattle.sc_model.specs.Space.{Space, arities_of}
use Rattle.sc_prep.proofs.Stopping.{footprints-as, stops-among, stops-as}
use Rattle.sc_prep.specs.Closes.{has_none}
use Rattle.sc_prep.specs.declared.prepared.Prepared.{Prepared}
use Rattle.sc_prep.specs.Footprints.{StopsAmong}
use Rattle.sc_prep.specs.Preprocesses.{IsLeftOut, IsOrdinary, IsPreparedFrom}
use Rattle.sc_prep.specs.Valid.{IsOf, IsValidSet}
use Rattle.sc_space.specs.Config.{read_config}
use Rattle.sc_space.specs.Sound.{IsSound}
use Rattle.sc_space.specs.SpaceFile as file

module _ {s : Sets} {space : Space} {live : ℕ} (valid : IsValidSet s space live) (arities : s.arities ≡ arities_of space) where
  formed-in : (config : List ℕ) → IsConfig (arities_of space) config → IsConfig s.arities config
  formed-in config formed = subst (λ ns. IsConfig ns config) (sym arities) formed

  pub has-listed : (config : List ℕ) → IsListed space config → s.has live config ≡ true
  has-listed config listed =
      let same : Ok (s.has live config) ≡ Ok true = says-unique space (valid.says config (formed-in config listed.formed)) listed.valid in
      cc

  pub listed-of : (config : List ℕ) → IsConfig s.arities config → s.has live config ≡ true → IsListed space config
  listed-of config formed has = record {
    formed = subst (λ ns. IsConfig ns config) arities formed;
    valid = subst (λ b. SaysValid space config (Ok b)) has (valid.says config formed);
  }

  -- some configuration is listed
  pub some-listed : (IsNever s live → ⊥) → HasListed space
  some-listed some = record {
    each = λ config formed. (s.has live config, valid.says config (formed-in config formed));
    some = λ none. some (record {
      none = λ config formed. elim (cases_Bool (s.has live config)) [
        | inl has ↦ absurd (none config (listed-of config formed has))
        | inr out ↦ out
      ];
    });
  }

  -- or the text holds nowhere
  pub none-listed : (fault : file.Fault) → IsNever s live → ListsNone space fault fault
  none-listed fault never = nowhere (λ config formed.
      let there = formed-in config formed in
      subst (λ b. SaysValid space config (Ok b)) (never.none config there) (valid.says config there))

  -- each configuration is listed, or it was left out
  pub listed-or-out : {t : Sets} {p : Prepared} (keeps : Keeps s t) → ((config : List ℕ) → IsConfig s.arities config → s.has live config ≡ false → IsLeftOut t p config)
      → (config : List ℕ) → IsConfig t.arities config → IsListed space config ⊎ (faults_at t p.faults.items config ≡ [])
  listed-or-out keeps others config formed =
      let before = IsConfig-kept keeps formed in
      elim (cases_Bool (s.has live config)) [
        | inl has ↦ inl (listed-of config before has)
        | inr out ↦ inr (others config before out).faults
      ]

  -- what those of the condition have in the files is had
  pub files-stop : (outside : Files) (main : List ℕ) (limit : ℕ) (stop : Stop) → StopsAmong (IsOf s live) (FilesHave space outside main) limit stop
      → StopsAmong (IsConfig (arities_of space)) (Has space outside main) limit stop
  files-stop outside main limit stop stops =
      stops-among limit stop (λ config f one has. subst (λ ns. IsConfig ns config) arities one.formed)
      (stops-as (λ at. at) (Has space outside main) limit stop (λ config f one has. of_files (listed-of config one.formed one.has) has) stops)

-- what preprocessing under this condition gives at the listed configurations, and at the others
module _ {old s : Sets} {space : Space} {live : ℕ} (valid : IsValidSet old space live) (arities : old.arities ≡ arities_of space) (keeps : Keeps old s) {names files : List (List ℕ)} {p : Prepared}
    {holds : Option Files} {main : List ℕ} (from : IsPreparedFrom old live s names files p space holds main)
    (is_live : (config : List ℕ) → IsConfig old.arities config → s.has p.live.0 config ≡ (old.has live config && has_none s p.faults.items config)) where
  pub formed-before : (config : List ℕ) → IsListed space config → IsConfig old.arities config
  formed-before config listed = subst (λ ns. IsConfig ns config) (sym arities) listed.formed

  pub formed-now : (config : List ℕ) → IsListed space config → IsConfig s.arities config
  formed-now config listed = IsConfig-Keeps keeps (formed-before config listed)

  pub prepared-ordinary : (config : List ℕ) → IsListed space config → IsOrdinary s names files p (Pre space from.outside main config) config
  prepared-ordinary config listed = from.ordinary config (formed-before config listed) (has-listed valid arities config listed)

  pub prepared-listed : (config : List ℕ) → IsConfig s.arities config → s.has p.live.0 config ≡ true → IsListed space config
  prepared-listed config formed is =
      let before = IsConfig-kept keeps formed in
      listed-of valid arities config before (and_parts (old.has live config) (has_none s p.faults.items config) (sym (is_live config before) ∙ is)).0

  pub prepared-live : (config : List ℕ) → IsListed space config → s.has p.live.0 config ≡ has_none s p.faults.items config
  prepared-live config listed = is_live config (formed-before config listed) ∙ ap (λ b. b && has_none s p.faults.items config) (has-listed valid arities config listed)

  pub prepared-others : (config : List ℕ) → IsConfig s.arities config → IsListed space config ⊎ ((faults_at s p.faults.items config ≡ []) × (s.has p.live.0 config ≡ false))
  prepared-others config formed =
      let before = IsConfig-kept keeps formed in
      elim (cases_Bool (old.has live config)) [
        | inl has ↦ inl (listed-of valid arities config before has)
        | inr out ↦ (let left = from.others config before out in inr (left.faults, left.live))
      ]

-- what a fault that lists none is told as
pub none-fails : (space : Space) (none fault : file.Fault) → ListsNone space none fault → (e : RunError) → TellsFault fault e → FailsToList space none e
none-fails space none fault why (error.BadSpace line) told = (fault, (why, told))
none-fails space none fault why (error.Usage text) told = absurd told
none-fails space none fault why error.BadFile told = absurd told
none-fails space none fault why error.BadCount told = absurd told
none-fails space none fault why error.NoSpace told = absurd told
none-fails space none fault why (error.BranchesFull line) told = absurd told
none-fails space none fault why error.ReadFault told = absurd told
none-fails space none fault why error.OutOfMemory told = absurd told

-- a space lists nothing
pub list-fails : (job : Job) (fills : Setting → Type 0) (reading : Reading) (name main : List ℕ) (space : Space) (none : file.Fault) → ((s : Setting) → IsOn reading.holds name main s → job.has reading.holds s)
    → ((s : Setting) → WhereTold reading.holds s.files (fills s) → job.fills reading.holds s) → ((s : Setting) → HasManyFootprints s → fills s)
    → ((files : Files) (line : List ℕ) (fault : file.Fault) → HasSpace files name space → ListsNone space none fault → line ≡ space_line fault → job.refuses files line)
    → ReadsSpace reading.holds name space → (e : RunError) → FailsToList space none e → FailsFor job reading e
list-fails job fills reading name main space none has why of refuses is (error.Usage text) fails = fails
list-fails job fills reading name main space none has why of refuses is error.BadFile fails = fails
list-fails job fills reading name main space none has why of refuses is error.BadCount fails = fails
list-fails job fills reading name main space none has why of refuses is error.NoSpace fails = absurd fails
list-fails job fills reading name main space none has why of refuses is (error.BadSpace line) fails =
    record { files = is.files; held = is.held; why = refuses is.files line.items fails.0 is.has fails.1.0 fails.1.1 }
list-fails job fills reading name main space none has why of refuses is (error.BranchesFull line) fails =
    fills-job job fills reading.holds name main line.items space has why is
    (record {
      configs = fails.0;
      parser = any-parser;
      why = λ files told. of (setting_of space main any-parser files) (footprints-as (λ at. at) (λ config f formed has. of_valid has) fails.1);
    })
    fails.2
list-fails job fills reading name main space none has why of refuses is error.ReadFault fails = absurd fails
list-fails job fills reading name main space none has why of refuses is error.OutOfMemory fails = tt

-- ---- a space with one configuration

-- a condition that has one has it
pub one-listed : {s : Sets} {space : Space} {live : ℕ} → IsValidSet s space live → s.arities ≡ arities_of space → IsConfig (arities_of space) (first_config space)
    → ((c : List ℕ) → IsConfig (arities_of space) c → c ≡ first_config space) → (IsNever s live → ⊥) → IsListed space (first_config space)
one-listed {s} {space} {live} valid arities formed one some = by (s.has live (first_config space)) refl
  where
    here : IsConfig s.arities (first_config space)
    here = subst (λ ns. IsConfig ns (first_config space)) (sym arities) formed

    by : (b : Bool) → s.has live (first_config space) ≡ b → IsListed space (first_config space)
    by true has = listed-of valid arities (first_config space) here has
    by false out = absurd (some (record {
      none = λ c is. subst (λ d. s.has live d ≡ false) (sym (one c (subst (λ ns. IsConfig ns c) arities is))) out;
    }))

module _ {space : Space} {config : List ℕ} (formed : IsConfig (arities_of space) config) where
  -- why it lists none is why it does not list the configuration
  pub unlisted : (fault : file.Fault) → ListsNone (cut_space space config) file.invalid fault → IsUnlisted space config fault
  unlisted _ (unsaid_somewhere cause by) =
      let here = one-config space config formed by.config by.formed in
      unsaid_there cause (says-cut formed (subst (λ c. SaysValid (cut_space space config) c (Err cause)) here by.says))
  unlisted _ (nowhere each) = not_there (says-cut formed (each (first_config (cut_space space config)) (first-formed space config formed)))

  -- it lists this one, if the space that is cut to it lists its first one
  pub chosen-listed : {only : Space} → only ≡ cut_space space config → IsListed only (first_config only) → IsListed space config
  chosen-listed is listed = record { formed = formed; valid = says-cut formed (subst (λ (o : Space). IsListed o (first_config o)) is listed).valid }

-- the chosen configuration is not listed
pub unlisted-fails : (reading : Reading) (name main : List ℕ) (choices : List (List ℕ)) (space : Space) (config : List ℕ) → IsConfig (arities_of space) config → read_config space choices ≡ Ok config
    → IsSound (cut_space space config) → ReadsSpace reading.holds name space → (e : RunError) → FailsToList (cut_space space config) file.invalid e → FailsFor (job_of (project name main choices)) reading e
unlisted-fails reading name main choices space config formed read sound is (error.Usage text) fails = fails
unlisted-fails reading name main choices space config formed read sound is error.BadFile fails = fails
unlisted-fails reading name main choices space config formed read sound is error.BadCount fails = fails
unlisted-fails reading name main choices space config formed read sound is error.NoSpace fails = absurd fails
unlisted-fails reading name main choices space config formed read sound is (error.BadSpace line) fails = record {
  files = is.files;
  held = is.held;
  why = inr (inr (record { space = space; config = config; fault = fails.0; has_space = is.has; read = read; why = unlisted formed fails.0 fails.1.0; told = fails.1.1 }));
}
unlisted-fails reading name main choices space config formed read sound is (error.BranchesFull line) fails = absurd (never-fills (cut_space space config) (one-config space config formed) sound fails.0)
unlisted-fails reading name main choices space config formed read sound is error.ReadFault fails = absurd fails
unlisted-fails reading name main choices space config formed read sound is error.OutOfMemory fails = tt

-- the same, where reading may have failed too
pub alone-fails : (reading : Reading) (name main : List ℕ) (choices : List (List ℕ)) (space : Space) (config : List ℕ) → IsConfig (arities_of space) config
    → read_config space choices ≡ Ok config
    → IsSound (cut_space space config) → ReadsSpace reading.holds name space → (mid : ℕ) → reading.before ≤ mid → (e : RunError)
    → FailsAlone mid reading.after (cut_space space config) e
    → FailsFor (job_of (project name main choices)) reading e
alone-fails reading name main choices space config formed read sound is mid least error.ReadFault fails =
    (refl, rose-before reading.before mid reading.after least fails)
alone-fails reading name main choices space config formed read sound is mid least e fails =
    unlisted-fails reading name main choices space config formed read sound is e fails

-- ---- a space of one configuration that has no text

pub unlisted-alone : (before after : ℕ) (space : Space) (e : RunError) → FailsToList space file.invalid e → FailsAlone before after space e
unlisted-alone before after space error.ReadFault fails = absurd fails
unlisted-alone before after space e fails = fails

pub stopped-alone : (fills : Setting → Type 0) (holds : Option Files) (before after : ℕ) (space : Space) (main : List ℕ) → IsSound space
    → ((c : List ℕ) → IsConfig (arities_of space) c → c ≡ first_config space)
    → (stop : Stop) → StopsIn fills holds before after space main stop → (e : RunError) → TellsStop stop e → FailsAlone before after space e
stopped-alone fills holds before after space main sound one ReadFault stops error.ReadFault told = stops
stopped-alone fills holds before after space main sound one OutOfMemory stops error.OutOfMemory told = tt
stopped-alone fills holds before after space main sound one (BranchesFull count) stops e told = absurd (never-fills space one sound stops.1.configs)
stopped-alone fills holds before after space main sound one _ stops _ told = absurd told

-- ---- a space that has no text

module _ (fills : Setting → Type 0) (holds : Option Files) (before after : ℕ) (space : Space) (main : List ℕ) where
  pub unlisted-under : (e : RunError) → FailsToList space file.no_configuration e → FailsUnder fills holds before after space main e
  unlisted-under error.ReadFault fails = absurd fails
  unlisted-under (error.BranchesFull line) fails = inl fails
  unlisted-under e fails = fails

  pub stopped-under : (stop : Stop) → StopsIn fills holds before after space main stop → (e : RunError) → TellsStop stop e
      → FailsUnder fills holds before after space main e
  stopped-under ReadFault stops error.ReadFault told = stops
  stopped-under OutOfMemory stops error.OutOfMemory told = tt
  stopped-under (BranchesFull count) stops (error.BranchesFull line) told = inr (stops.1, told ∙ ap branches_line stops.0)
  stopped-under _ stops _ told = absurd told

-- nor has the job that asks for it
pub under-fails : (job : Job) (fills : Setting → Type 0) (reading : Reading) (name main : List ℕ) (space : Space) → job.reads ≡ true
    → ((s : Setting) → IsOn reading.holds name main s → job.has reading.holds s)
    → ((s : Setting) → WhereTold reading.holds s.files (fills s) → job.fills reading.holds s) → ((s : Setting) → HasManyFootprints s → fills s)
    → ((files : Files) (line : List ℕ) (fault : file.Fault) → HasSpace files name space → ListsNone space file.no_configuration fault → line ≡ space_line fault → job.refuses files line)
    → ReadsSpace reading.holds name space → (holds : Option Files) → holds ≡ reading.holds → (mid : ℕ) → reading.before ≤ mid → (e : RunError)
    → FailsUnder fills holds mid reading.after space main e
    → FailsFor job reading e
under-fails job fills reading name main space reads has why of refuses is holds same mid least error.ReadFault fails =
    (reads, rose-before reading.before mid reading.after least fails)
under-fails job fills reading name main space reads has why of refuses is holds same mid least (error.BranchesFull line) (inl fails) =
    list-fails job fills reading name main space file.no_configuration has why of refuses is (error.BranchesFull line) fails
under-fails job fills reading name main space reads has why of refuses is holds same mid least (error.BranchesFull line) (inr fails) =
    fills-job job fills reading.holds name main line.items space has why is (subst (λ h. FillsIn fills h space main) same fails.0) fails.1
under-fails job fills reading name main space reads has why of refuses is holds same mid least e fails =
    list-fails job fills reading name main space file.no_configuration has why of refuses is e fails
