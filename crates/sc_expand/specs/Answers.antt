-- What a list expands to under all configurations at once, seen at one.
use Rattle.std.specs.Prelude.{◌≡◌, ℕ, ◌<◌, List, [], ◌∷◌, All, map, Result, Ok, Err}
use Rattle.c11_macros.specs.Macros.{Macros}
use Rattle.c11_macros.specs.Text.{TextExpands}
use Rattle.sc_base.specs.Seen.{IsHeld, seen}
use Rattle.sc_guarded.specs.declared.expanded.Expanded.{Expanded}
use Rattle.sc_guarded.specs.Items.{faults_at, items_at, seen_fault}
use Rattle.sc_model.specs.Fault.{Fault}
use Rattle.sc_model.specs.Sets.{Sets, IsCond}
use Rattle.sc_model.specs.Token.{Token}

-- an answer stands in the lists of its configuration: its tokens and no fault, or its fault alone
abbrev pub Stands : Result (List Token) Fault → List Token → List Fault → Type 0
Stands (Ok tokens) items faults = (items ≡ tokens) × (faults ≡ [])
Stands (Err fault) items faults = faults ≡ fault ∷ []

-- at the configuration the lists are what this text expands to with these macros
pub record IsExpanded (s : Sets) (names files : List (List ℕ)) (e : Expanded) (macros : Macros) (text : List Token) (c : List ℕ) : Type 0 where
  pub answer : Result (List Token) Fault
  pub expands : TextExpands macros text answer
  pub stands : Stands answer (map (seen names files) (items_at s e.list c)) (map (seen_fault files) (faults_at s e.faults.items c))

-- the configuration has nothing of the lists
pub record IsEmpty (s : Sets) (e : Expanded) (c : List ℕ) : Type 0 where
  pub list : items_at s e.list c ≡ []
  pub faults : faults_at s e.faults.items c ≡ []

-- the stores made all conditions and texts, and the table of file names has so many
pub record IsHeldAnswer (s : Sets) (names : List (List ℕ)) (files : ℕ) (e : Expanded) : Type 0 where
  pub own : All (λ item. IsCond s item.0.0) e.list
  pub held : All (λ item. IsHeld names item.1) e.list
  pub placed : All (λ item. item.1.place.file.0 < files) e.list
  pub faults_own : All (λ f. IsCond s f.cond.0) e.faults.items
  pub faults_placed : All (λ f. f.place.file.0 < files) e.faults.items
