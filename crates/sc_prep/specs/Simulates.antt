-- The walk of all configurations at once is a simulation of the machine of each.
use Rattle.std.specs.Prelude.{◌≡◌, ℕ, Bool, true, false, List, [], map, reverse, All, Option, Some, None, Result, is_none, length, slice_get}
use Rattle.std.specs.Option.{option_to_list}
use Rattle.sc_prep.specs.declared.open_runs.OpenRuns.{OpenRuns}
use Rattle.sc_prep.specs.declared.prepared.Prepared.{Prepared}
use Rattle.sc_prep.specs.declared.walk.Section.{Section}
use Rattle.sc_prep.specs.declared.walk.Walk.{Walk}
use Rattle.sc_prep.specs.Machine.{Machine, Runs, RunExpands, acts, closing_run, start}
use Rattle.sc_prep.specs.Once.{OwnsOnce, once_at}
use Rattle.sc_prep.specs.Preprocesses.{OwnsList}
use Rattle.sc_prep.specs.Read.{run_at}
use Rattle.sc_guarded.specs.Items.{items_at, faults_at, seen_fault}
use Rattle.sc_base.specs.declared.fault.Fault as base_fault
use Rattle.sc_base.specs.declared.id.Cond.{Cond}
use Rattle.sc_base.specs.declared.token.Token as base_token
use Rattle.sc_base.specs.Seen.{seen}
use Rattle.sc_subst.specs.declared.hidden.Hidden as base_hidden
use Rattle.sc_table.specs.declared.table.MacroTable.{MacroTable}
use Rattle.c11_directives.specs.Lines.{Line}
use Rattle.c11_directives.specs.Pre.{Context, State, is_once_file}
use Rattle.sc_model.specs.declared.standard.Standard.{Standard}
use Rattle.sc_model.specs.Outside.{Files}
use Rattle.sc_model.specs.Space.{Space}
use Rattle.sc_prep.specs.Contents.{AreContents}
use Rattle.sc_prep.specs.Gathered.{HasText, IsLeft, held_at, hidden_at}
use Rattle.sc_prep.specs.declared.content.Contents.{Contents}
use Rattle.sc_prep.specs.Pragmas.{Awaited, AwaitsAt, OwnsPragmas}
use Rattle.sc_prep.specs.Printable.{IsHeldWalk, IsPlainState, any_token}
use Rattle.sc_prep.specs.declared.entry.Entry.{Entry}
use Rattle.sc_table.specs.Table.{IsTable, macros_at}
use Rattle.sc_model.specs.Fault.{Fault}
use Rattle.sc_model.specs.Sets.{Sets, IsConfig, IsCond}
use Rattle.sc_model.specs.Token.{Token}

abbrev pub section_at : Sets → List ℕ → Section → Bool × Bool
section_at s config section = (s.has section.around.0 config, s.has section.untaken.0 config)

-- At this configuration the walk has the fault of the machine, and else is live.
pub record IsOutcomeOf (s : Sets) (files : List (List ℕ)) (p : Prepared) (config : List ℕ) (m : Machine) : Type 0 where
  pub live : s.has p.live.0 config ≡ is_none m.fault
  pub fault : map (seen_fault files) (faults_at s p.faults.items config) ≡ option_to_list m.fault

-- a state before the first line, whose macros are those of the table at this configuration
pub record IsBegun (s : Sets) (names : List (List ℕ)) (table : MacroTable) (config : List ℕ) (first : State) : Type 0 where
  pub macros : (name : List ℕ) → macros_at s names table config name ≡ first.macros name
  pub output : first.output ≡ []
  pub run : first.run ≡ []
  pub once : first.once ≡ []

-- What this configuration has of a run: it was read, but for a part that has settled and may be
-- forgotten, and what has become of it.
pub record RunAt (s : Sets) (names files : List (List ℕ)) (runs : OpenRuns) (list : List (Cond × base_token.Token)) (config : List ℕ) (state : State) : Type 0 where
  pub run : IsLeft state.macros state.run (map (seen names files) (run_at s runs.read config))
  pub awaited : Awaited
  pub awaits : AwaitsAt s files runs.pragmas config awaited
  pub text : HasText state (hidden_at s names files runs.sets runs.gathered config) (map (seen names files) (items_at s list config)) awaited (held_at s files runs.held.items config)

-- At this configuration the walk is where the machine is. The tokens of a configuration with a
-- fault don't count.
pub record Simulates (s : Sets) (names files : List (List ℕ)) (walk : Walk) (config : List ℕ) (m : Machine) : Type 0 where
  pub active : s.has walk.group.0 config ≡ m.active
  pub acting : s.has walk.acting.0 config ≡ acts m
  pub sections : map (section_at s config) (reverse walk.sections.items) ≡ m.sections
  pub prepared : IsOutcomeOf s files walk.prepared config m
  pub text : m.fault ≡ None → RunAt s names files walk.runs walk.prepared.list config m.state
  pub macros : m.fault ≡ None → (name : List ℕ) → macros_at s names walk.table config name ≡ m.state.macros name
  pub once : m.fault ≡ None → (name : List ℕ) → once_at s files walk.once.items config name ≡ is_once_file m.state name

pub record OwnsSection (s : Sets) (section : Section) : Type 0 where
  pub around : IsCond s section.around.0
  pub untaken : IsCond s section.untaken.0

pub record OwnsRuns (s : Sets) (runs : OpenRuns) : Type 0 where
  pub gathered : All (λ (item : Cond × base_hidden.Hidden). IsCond s item.0.0) runs.gathered
  pub held : All (λ (f : base_fault.Fault). IsCond s f.cond.0) runs.held.items
  pub pragmas : OwnsPragmas s runs.pragmas
  pub read : All (λ (item : Cond × Option base_token.Token). IsCond s item.0.0) runs.read

-- the store made all conditions of the walk but for those of its table
pub record Owns (s : Sets) (walk : Walk) : Type 0 where
  pub group : IsCond s walk.group.0
  pub acting : IsCond s walk.acting.0
  pub sections : All (OwnsSection s) walk.sections.items
  pub runs : OwnsRuns s walk.runs
  pub once : OwnsOnce s walk.once.items
  pub prepared : OwnsList s walk.prepared

-- From one walk to the next, at each configuration the machine does this, whatever the names of
-- files are.
pub record SimulatesStep (names : List (List ℕ)) (old : Sets) (walk : Walk) (new : Sets) (next : Walk)
    (does : List (List ℕ) → List ℕ → Machine → Machine) : Type 0 where
  pub owns : Owns new next
  pub table : IsTable old names walk.table → IsTable new names next.table
  pub at : (files : List (List ℕ)) (config : List ℕ) (m : Machine) → IsConfig old.arities config → IsTable old names walk.table
      → Simulates old names files walk config m → Simulates new names files next config (does files config m)

-- where the machine does something, its run was closed
abbrev pub IsBetweenRuns : Machine → Type 0
IsBetweenRuns m = acts m ≡ true → m.state.run ≡ []

-- The same, where the run of each machine that does something was closed.
pub record StepsBetweenRuns (names : List (List ℕ)) (old : Sets) (walk : Walk) (new : Sets) (next : Walk)
    (does : List (List ℕ) → List ℕ → Machine → Machine) : Type 0 where
  pub owns : Owns new next
  pub table : IsTable old names walk.table → IsTable new names next.table
  pub at : (files : List (List ℕ)) (config : List ℕ) (m : Machine) → IsConfig old.arities config → IsTable old names walk.table
      → Simulates old names files walk config m → IsBetweenRuns m → Simulates new names files next config (does files config m)

-- a machine of which this holds, and the walk is where it is
pub record Arrives (s : Sets) (names files : List (List ℕ)) (walk : Walk) (config : List ℕ) (holds : Machine → Type 0) : Type 0 where
  pub machine : Machine
  pub done : holds machine
  pub simulates : Simulates s names files walk config machine

-- From one walk to the next, at each configuration the machine does one of these, with these names
-- of files. The table of texts may have grown.
pub record SimulatesOneOf (files names : List (List ℕ)) (old : Sets) (walk : Walk) (more : List (List ℕ)) (new : Sets) (next : Walk)
    (does : List ℕ → Machine → Machine → Type 0) : Type 0 where
  pub owns : Owns new next
  pub table : IsTable new more next.table
  pub at : (config : List ℕ) (m : Machine) → IsConfig old.arities config → Simulates old names files walk config m
      → Arrives new more files next config (does config m)

-- the machine's run was closed
pub record Closed (m n : Machine) : Type 0 where
  pub answer : Result (List Token) Fault
  pub expands : RunExpands m answer
  pub is : n ≡ closing_run m answer

-- the machine ran over the lines, and its last run was closed
pub record Covers (x : Context) (lines : List Line) (m n : Machine) : Type 0 where
  pub end : Machine
  pub runs : Runs x m lines end
  pub closed : Closed end n

-- what stays during a run over a space
pub record IsContext (space : Space) (x : Context) : Type 0 where
  pub include : x.include ≡ space.include
  pub depth : x.include_depth ≡ space.include_depth
  pub standard : x.standard ≡ space.standard

-- the state is in the file of an entry
pub record IsInside (files : List (List ℕ)) (entry : Entry) (s : State) : Type 0 where
  pub name : slice_get files entry.file.0 ≡ Some s.file
  pub deep : s.depth ≡ entry.depth

-- where the machine does something, it is in the file of the entry
abbrev pub IsIn : List (List ℕ) → Entry → Machine → Type 0
IsIn files entry m = acts m ≡ true → IsInside files entry m.state

-- before the lines of a file: the machine enters it, or takes none of them
pub data IsAtTop (files : List (List ℕ)) (entry : Entry) (m : Machine) : Type 0 where
  begins : (first : State) → m ≡ start first → IsInside files entry first → IsAtTop files entry m
  idles : m.active ≡ false → m.sections ≡ [] → IsAtTop files entry m

-- From one walk to the next, at each configuration whose machine is as this says, the machine does
-- one of these. The tables of names of files and of texts may have grown.
pub record Leads (files names : List (List ℕ)) (old : Sets) (walk : Walk) (more_files more : List (List ℕ)) (new : Sets) (next : Walk)
    (from : Machine → Type 0) (does : List ℕ → Machine → Machine → Type 0) : Type 0 where
  pub at : (config : List ℕ) (m : Machine) → IsConfig old.arities config → Simulates old names files walk config m → from m
      → Arrives new more more_files next config (does config m)

-- What holds between the lines of a walk: its conditions are those of the store, and the tables
-- hold the rest.
pub record IsReady (standard : Standard) (s : Sets) (names files : List (List ℕ)) (holds : Option Files) (walk : Walk) (contents : Contents) : Type 0 where
  pub owns : Owns s walk
  pub table : IsTable s names walk.table
  pub held : IsHeldWalk names (length files) any_token walk
  pub read : AreContents standard names files holds contents

-- each configuration has a machine as this says, whose macros and text are spelled on one line
pub record PlainEach (s : Sets) (names files : List (List ℕ)) (walk : Walk) (from : Machine → Type 0) : Type 0 where
  pub each : (config : List ℕ) → IsConfig s.arities config → (m : Machine) × Simulates s names files walk config m × from m × IsPlainState m.state
