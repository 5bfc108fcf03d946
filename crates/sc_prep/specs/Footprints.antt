-- To which moments a machine comes, and a walk that stops for the footprints that are had there.
use Rattle.std.specs.Prelude.{◌≡◌, ℕ, ◌+◌, ◌≤◌, Bool, true, false, List, [], ◌∷◌, All, AllPairs, None, Some, length}
use Rattle.c11_directives.specs.Footprints.{HasFootprints}
use Rattle.c11_directives.specs.Lines.{Line, conditional_of}
use Rattle.c11_directives.specs.Pre.{Context, File, is_once_file}
use Rattle.c11_directives.specs.Reaches.{FileReaches, LineReaches, Moment, at_end, at_head}
use Rattle.sc_base.specs.declared.stop.Stop.{Stop}
use Rattle.sc_base.specs.declared.stop.Stop.TheVariants.{BranchesFull, ReadFault, OutOfMemory}
use Rattle.sc_model.specs.Sets.{Sets, IsConfig}
use Rattle.sc_model.specs.Token.{Place}
use Rattle.sc_prep.specs.declared.walk.Walk.{Walk}
use Rattle.sc_prep.specs.Machine.{Machine, Runs, Takes, acts, asks_by}
use Rattle.sc_prep.specs.Simulates.{Simulates}

-- ---- the machine of one configuration

-- it comes to the moment at a line, behind these #includes
pub data ComesAt (x : Context) (m : Machine) (l : Line) : List Place → Moment → Type 0 where
  does : {chain : List Place} {k : Moment} → acts m ≡ true → conditional_of l ≡ None → LineReaches x l m.state chain k → ComesAt x m l chain k
  decides : asks_by m (conditional_of l) ≡ true → ComesAt x m l [] (at_head l m.state)

-- at one of the lines
pub data ComesIn (x : Context) (chain : List Place) (k : Moment) : Machine → List Line → Type 0 where
  here : {m : Machine} {l : Line} {ls : List Line} → ComesAt x m l chain k → ComesIn x chain k m (l ∷ ls)
  later : {m n : Machine} {l : Line} {ls : List Line} → Takes x m l n → ComesIn x chain k n ls → ComesIn x chain k m (l ∷ ls)

-- at one of the lines of a file, or behind them
pub data ComesOver (x : Context) (lines : List Line) (m : Machine) : List Place → Moment → Type 0 where
  within : {chain : List Place} {k : Moment} → ComesIn x chain k m lines → ComesOver x lines m chain k
  past_all : (n : Machine) → Runs x m lines n → acts n ≡ true → ComesOver x lines m [] (at_end n.state)

-- in the file of this name, which the machine enters at a depth
pub record ComesInside (x : Context) (name : List ℕ) (depth : ℕ) (m : Machine) (chain : List Place) (k : Moment) : Type 0 where
  pub acting : acts m ≡ true
  pub file : File
  pub named : file.name ≡ name
  pub there : x.files name ≡ Some file.bytes
  pub again : is_once_file m.state name ≡ false
  pub reaches : FileReaches x file (record m.state { depth = depth }) chain k

-- ---- all configurations

-- Whatever machine like this the walk is at in the configuration, it comes to the footprint.
abbrev pub Comes : {F : Type 0} → Sets → (names files : List (List ℕ)) → Walk → (Machine → Type 0) → (List ℕ → Machine → F → Type 0) → List ℕ → F → Type 0
Comes s names files walk from comes config f = (m : Machine) → Simulates s names files walk config m → from m → comes config m f

abbrev pub any_machine : Machine → Type 0
any_machine m = Unit {0}

-- More of the listed configurations than the limit have something each at one place, no two the
-- same.
abbrev pub StopsAmong : {K V : Type 0} → (List ℕ → Type 0) → (List ℕ → K × V → Type 0) → ℕ → Stop → Type 0
StopsAmong is_listed has limit (BranchesFull count) = HasFootprints is_listed has (limit + 1)
StopsAmong is_listed has limit ReadFault = Unit {0}
StopsAmong is_listed has limit OutOfMemory = Unit {0}

abbrev pub StopsAtPlace : {K V : Type 0} → List ℕ → (List ℕ → K × V → Type 0) → ℕ → Stop → Type 0
StopsAtPlace arities = StopsAmong (IsConfig arities)

-- Such a place is met by whatever machine like this the walk is at.
abbrev pub StopsWalk : {K V : Type 0} → Sets → (names files : List (List ℕ)) → Walk → (Machine → Type 0) → (List ℕ → Machine → K × V → Type 0) → ℕ → Stop → Type 0
StopsWalk s names files walk from comes = StopsAtPlace s.arities (Comes s names files walk from comes)

-- at least so many configurations of a test of which no two have equal lists
pub record HaveLists (arities : List ℕ) (test : List ℕ → Bool) (list : List ℕ → List ℕ) (count : ℕ) : Type 0 where
  pub configs : List (List ℕ)
  pub many : count ≤ length configs
  pub listed : All (IsConfig arities) configs
  pub among : All (λ c. test c ≡ true) configs
  pub apart : AllPairs (λ c d. list c ≡ list d → ⊥) configs

abbrev pub StopsByLists : List ℕ → (List ℕ → Bool) → (List ℕ → List ℕ) → ℕ → Stop → Type 0
StopsByLists arities test list limit (BranchesFull count) = HaveLists arities test list (limit + 1)
StopsByLists arities test list limit ReadFault = Unit {0}
StopsByLists arities test list limit OutOfMemory = Unit {0}
