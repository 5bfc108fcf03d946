-- What the stages of a line need of a walk, what they leave of it, and why they give nothing.
use Rattle.std.specs.Prelude.{◌≡◌, ℕ, ◌<◌, ◌&&◌, Bool, true, List, All, Result, Some, is_none, length, map}
use Rattle.c11_directives.specs.declared.directive.Directive.{Directive}
use Rattle.c11_directives.specs.Footprints.{DirectiveHas, HasFootprints, Spot, Used}
use Rattle.c11_directives.specs.Lines.{Line}
use Rattle.c11_directives.specs.Pre.{Context, is_said}
use Rattle.c11_macros.specs.Text.{TextExpands}
use Rattle.sc_base.specs.declared.id.Cond.{Cond}
use Rattle.sc_base.specs.declared.place.Place as base
use Rattle.sc_base.specs.declared.stop.Stop.{Stop}
use Rattle.sc_base.specs.declared.token.Token.{Token}
use Rattle.sc_base.specs.Seen.{seen, seen_place}
use Rattle.sc_expand.specs.Alike.{DefineTextAlike}
use Rattle.sc_expand.specs.Stops.{StopsBy}
use Rattle.sc_guarded.specs.Items.{items_at}
use Rattle.sc_hoist.specs.Alike.{AreAlike}
use Rattle.sc_hoist.specs.Places.{places_at}
use Rattle.sc_lines.specs.Nests.{seen_line}
use Rattle.sc_model.specs.declared.standard.Standard.{Standard}
use Rattle.sc_model.specs.Fault.{Fault}
use Rattle.sc_model.specs.Sets.{Sets, IsCond, IsConfig}
use Rattle.sc_model.specs.Token as model
use Rattle.sc_prep.specs.Apart.{AreDifferent, GathersFrom, StandApart}
use Rattle.sc_prep.specs.declared.walk.Walk.{Walk}
use Rattle.sc_prep.specs.Expressions.{DecidesAt, EvaluatesAt, ExpandsAt, ReplacesAt}
use Rattle.sc_prep.specs.Footprints.{Comes, HaveLists, StopsWalk, any_machine}
use Rattle.sc_prep.specs.Machine.{Machine, SaysAt, acts}
use Rattle.sc_prep.specs.declared.naming.Named.{Named}
use Rattle.sc_prep.specs.Naming.{NamesAt, headers_in}
use Rattle.sc_prep.specs.Printable.{AllPass, ArePlaced, IsHeldWalk, IsPlaced, any_token, is_plain}
use Rattle.sc_prep.specs.Simulates.{Owns, PlainEach, SimulatesOneOf}
use Rattle.sc_table.specs.Table.{IsTable, macros_at}

-- the conditions of the walk are the store's, and the tables hold the rest
pub record IsStored (s : Sets) (names : List (List ℕ)) (files : ℕ) (walk : Walk) : Type 0 where
  pub owns : Owns s walk
  pub table : IsTable s names walk.table
  pub held : IsHeldWalk names files any_token walk

-- from one walk to the next nothing is put out or read, and the tables hold what is kept
pub record KeepsText (names : List (List ℕ)) (files : ℕ) (walk next : Walk) : Type 0 where
  pub held : IsHeldWalk names files any_token next
  pub list : next.prepared.list ≡ walk.prepared.list
  pub runs : next.runs ≡ walk.runs

-- the machine of each configuration does one of these, and the text stays
pub record Stage (files names : List (List ℕ)) (old : Sets) (walk : Walk) (more : List (List ℕ)) (new : Sets) (next : Walk)
    (does : List ℕ → Machine → Machine → Type 0) : Type 0 where
  pub simulates : SimulatesOneOf files names old walk more new next does
  pub text : KeepsText more (length files) walk next

-- the machine of each configuration does one of these, and tokens of the line alone are read
pub record LineStage (files names : List (List ℕ)) (old : Sets) (walk : Walk) (line : List Token) (more : List (List ℕ)) (new : Sets) (next : Walk)
    (does : List ℕ → Machine → Machine → Type 0) : Type 0 where
  pub simulates : SimulatesOneOf files names old walk more new next does
  pub held : IsHeldWalk more (length files) any_token next
  pub plain : PlainEach old names files walk any_machine → AllPass (is_plain names) walk.prepared.list → AllPass (is_plain more) next.prepared.list
  pub gathers : GathersFrom line walk next

-- More configurations than the limit have something each at one place of these tokens, no two the
-- same, or there is no memory.
pub record StopsStage {K V : Type 0} (s : Sets) (names files : List (List ℕ)) (walk : Walk) (tokens : List Token)
    (comes : List ℕ → Machine → K × V → Type 0) (limit : ℕ) (stop : Stop) : Type 0 where
  pub by : StopsBy s.arities limit stop
  pub at_place : StandApart tokens → StopsWalk s names files walk any_machine comes limit stop

-- the test of a line is decided where this condition has a configuration that was not refused
pub record DecidesTest (files names : List (List ℕ)) (old : Sets) (walk : Walk) (more : List (List ℕ)) (new : Sets) (next : Walk)
    (l : Line) (among taken : ℕ) : Type 0 where
  pub own : IsCond new taken
  pub at : (x : Context) → Stage files names old walk more new next
      (λ config m n. DecidesAt x l (old.has among config && is_none m.fault) m (new.has taken config) n)

-- such a configuration's line has the footprint
abbrev pub AskedHas : Sets → ℕ → Line → List ℕ → Machine → Spot × Used → Type 0
AskedHas s among l config m f = ((s.has among config && is_none m.fault) ≡ true) × DirectiveHas m.state.macros l f

-- ---- the stages of an expression

-- a configuration of the condition that was not refused
abbrev pub is_asked : Sets → Walk → ℕ → List ℕ → Bool
is_asked s walk among c = s.has among c && s.has walk.prepared.live.0 c

-- each `defined` of a text is replaced in the configurations of a condition, or that is refused at
-- a place
pub record ReplacesDefined (names : List (List ℕ)) (old : Sets) (walk : Walk) (text : List Token) (hash : base.Place) (among : ℕ)
    (more : List (List ℕ)) (new : Sets) (next : Walk) (list : List (Cond × Token)) : Type 0 where
  pub own : All (λ item. IsCond new item.0.0) list
  pub placed : (files : ℕ) → All (IsPlaced names files) text → ArePlaced more files list
  pub different : (files : List (List ℕ)) → StandApart text → AreDifferent more files list
  pub stage : (files : List (List ℕ)) → hash.file.0 < length files → IsHeldWalk names (length files) any_token walk
      → Stage files names old walk more new next (λ config m n. ReplacesAt (map (seen names files) text) (seen_place files hash)
      (old.has among config && is_none m.fault) m (map (seen more files) (items_at new list config)) n)

-- a list expands to another in the configurations of a condition, or that is refused
pub record ExpandsText (files names : List (List ℕ)) (old : Sets) (walk : Walk) (list : List (Cond × Token)) (among : ℕ)
    (more : List (List ℕ)) (new : Sets) (next : Walk) (expanded : List (Cond × Token)) : Type 0 where
  pub own : All (λ item. IsCond new item.0.0) expanded
  pub placed : ArePlaced more (length files) expanded
  pub stage : Stage files names old walk more new next (λ config m n. ExpandsAt (map (seen names files) (items_at old list config))
      (old.has among config && is_none m.fault) m (map (seen more files) (items_at new expanded config)) n)
  pub answers : (c : List ℕ) → IsConfig old.arities c → is_asked old walk among c ≡ true
      → (answer : Result (List model.Token) Fault) × TextExpands (macros_at old names walk.table c) (map (seen names files) (items_at old list c)) answer
  pub alike : (c d : List ℕ) → IsConfig old.arities c → IsConfig old.arities d → is_asked old walk among c ≡ true → is_asked old walk among d ≡ true
      → AreAlike old c d list
      → DefineTextAlike (macros_at old names walk.table c) (macros_at old names walk.table d) (map (seen names files) (items_at old list c))
      → AreAlike new c d expanded

-- what a list comes to in the configurations of a condition, or that is refused at a place
pub record EvaluatesList (standard : Standard) (names : List (List ℕ)) (old : Sets) (walk : Walk) (list : List (Cond × Token)) (hash : base.Place) (among : ℕ)
    (new : Sets) (next : Walk) (taken : ℕ) : Type 0 where
  pub own : IsCond new taken
  pub stage : (files : List (List ℕ)) → hash.file.0 < length files → IsHeldWalk names (length files) any_token walk
      → Stage files names old walk names new next
      (λ config m n. EvaluatesAt standard (seen_place files hash) (map (seen names files) (items_at old list config))
      (old.has among config && is_none m.fault) m (new.has taken config) n)

-- ---- the stages of a line that says something behind its name

-- such a configuration's machine does something, and its line has the footprint
abbrev pub SaidHas : Line → List ℕ → Machine → Spot × Used → Type 0
SaidHas l config m f = (acts m ≡ true) × DirectiveHas m.state.macros l f

-- What the line says, in the configurations that act: so many different lists are as many different
-- footprints.
pub record SaysLine (files names : List (List ℕ)) (old : Sets) (walk : Walk) (line : List Token) (more : List (List ℕ)) (new : Sets) (next : Walk)
    (list : List (Cond × Token)) : Type 0 where
  pub own : All (λ item. IsCond new item.0.0) list
  pub placed : ArePlaced more (length files) list
  pub stage : (standard : Standard) → Stage files names old walk more new next
      (λ config m n. SaysAt (seen_line standard names files line) m (map (seen more files) (items_at new list config)) n)
  pub lists : (standard : Standard) (d : Directive) (count : ℕ) → (seen_line standard names files line).directive ≡ Some d → is_said d ≡ true → StandApart line
      → HaveLists old.arities (λ c. new.has next.acting.0 c) (λ c. places_at new list c) count
      → HasFootprints (IsConfig old.arities) (Comes old names files walk any_machine (SaidHas (seen_line standard names files line))) count

-- why it gives nothing
pub record StopsSaid (s : Sets) (names files : List (List ℕ)) (walk : Walk) (line : List Token) (limit : ℕ) (stop : Stop) : Type 0 where
  pub by : StopsBy s.arities limit stop
  pub at_place : (standard : Standard) (d : Directive) → (seen_line standard names files line).directive ≡ Some d → is_said d ≡ true → StandApart line
      → StopsWalk s names files walk any_machine (SaidHas (seen_line standard names files line)) limit stop

-- the headers that it names, in the configurations that act
pub record NamesHeaders (files names : List (List ℕ)) (old : Sets) (walk : Walk) (line : List Token) (more : List (List ℕ)) (new : Sets) (next : Walk)
    (named : List Named) : Type 0 where
  pub own : All (λ n. IsCond new n.cond.0) named
  pub at : (standard : Standard) (x : Context) → Stage files names old walk more new next
      (λ config m n. NamesAt x (seen_line standard names files line) m (headers_in new named config) n)
