-- What the parsing of a list comes to.
use Rattle.std.specs.Prelude.{◌≡◌, ℕ, ◌+◌, ◌<◌, true, false, List, [], ◌∷◌, length, map, Some, Result, Ok, All, IfSome}
use Rattle.c11_parsing.specs.Classes.{Input, project, HasMoreClasses}
use Rattle.c11_parsing.specs.Core.{Has}
use Rattle.c11_parsing.specs.Derives.{DerivesText}
use Rattle.c11_parsing.specs.LR.{LR}
use Rattle.c11_parsing.specs.Trees.{Condition, Tree}
use Rattle.sc_base.specs.declared.fault.Fault as declared_fault
use Rattle.sc_base.specs.declared.id.Cond.{Cond}
use Rattle.sc_base.specs.declared.id.TreeId.{TreeId}
use Rattle.sc_base.specs.declared.place.Place as declared
use Rattle.sc_base.specs.declared.stop.Stop.{Stop}
use Rattle.sc_base.specs.declared.stop.Stop.TheVariants.{BranchesFull, ReadFault, OutOfMemory}
use Rattle.sc_base.specs.declared.token.Token.{Token}
use Rattle.sc_base.specs.Seen.{seen, seen_place}
use Rattle.sc_fork.specs.Outcomes.{RootReads, faults_in}
use Rattle.sc_fork.specs.Owns.{IsPlaceOf}
use Rattle.sc_fork.specs.Parsers.{c11_parser}
use Rattle.sc_guarded.specs.Items.{faults_at, seen_fault}
use Rattle.sc_lalr.specs.declared.tables.Tables as code
use Rattle.sc_lalr.specs.Tables.{tables_of}
use Rattle.sc_model.specs.Fault.{Fault}
use Rattle.sc_model.specs.Sets.{Sets, IsConfig, IsCond}
use Rattle.sc_model.specs.Token as plain
use Rattle.sc_parse.specs.declared.parsed.Parsed.{Parsed}
use Rattle.sc_parse.specs.MostClasses.{HasMostClasses}
use Rattle.sc_tree.specs.Reads.{Tables}
use Rattle.sc_model.specs.declared.standard.Standard.{Standard}

-- the list with its end is what is parsed, for the configurations that are live
pub record IsInputOf (w : Tables) (list : List (Cond × Token)) (tables : code.Tables) (standard : Standard) (end : declared.Place) (live : Cond) (input : Input) : Type 0 where
  pub states : List (List ℕ)
  pub parser : input.parser ≡ c11_parser standard (tables_of states tables)
  pub arities : input.arities ≡ w.sets.arities
  pub ends : input.end ≡ seen_place w.files end
  pub has_live : Has input input.live (w.sets.has live.0)
  pub tokens : map (λ (item : Condition × plain.Token). item.1) input.items ≡ map (λ (item : Cond × Token). seen w.names w.files item.1) list
  pub conditions : (c : List ℕ) → IsConfig w.sets.arities c → map (λ (item : Condition × plain.Token). item.0 c) input.items ≡ map (λ (item : Cond × Token). w.sets.has item.0.0 c) list
  pub files : All (λ (item : Cond × Token). item.1.place.file.0 < length w.files) list

-- LR parsing accepts the tokens of a live configuration
pub record IsAccepted (input : Input) (c : List ℕ) (tree : Tree) : Type 0 where
  pub is_config : IsConfig input.arities c
  pub live : input.live c ≡ true
  pub answer : LR input.parser input.end (project c input.items) (Ok tree)

-- The root stands for the tree of each live configuration that is accepted, and the faults are
-- those of each other one. Configurations that are not live have no fault. There is no root
-- exactly where no configuration is accepted. Each tree derives a whole text from the tokens. The
-- classes are the most at one place.
pub record IsParse (w : Tables) (input : Input) (p : Parsed) : Type 0 where
  pub trees : (c : List ℕ) (tree : Tree) → IsAccepted input c tree → RootReads w c p.root tree
  pub derivations : (c : List ℕ) (tree : Tree) → IsAccepted input c tree → DerivesText input.parser tree (project c input.items)
  pub faults : (c : List ℕ) (answer : Result Tree Fault) → IsConfig input.arities c → input.live c ≡ true
      → LR input.parser input.end (project c input.items) answer → map (seen_fault w.files) (faults_at w.sets p.faults.items c) ≡ faults_in (answer ∷ [])
  pub others : (c : List ℕ) → IsConfig input.arities c → input.live c ≡ false → faults_at w.sets p.faults.items c ≡ []
  pub some : (id : TreeId) → p.root ≡ Some id → (c : List ℕ) × ((tree : Tree) × IsAccepted input c tree)
  pub classes : HasMostClasses input p.classes

-- the conditions of the faults and the root are those of the stores, and each fault's place is that
-- of an element of the list, or the end
pub record OwnsParsed (sets : Sets) (count : ℕ) (list : List (Cond × Token)) (end : declared.Place) (p : Parsed) : Type 0 where
  pub root : IfSome p.root (λ id. id.0 < count)
  pub faults : All (λ (fault : declared_fault.Fault). IsCond sets fault.cond.0) p.faults.items
  pub places : All (λ (fault : declared_fault.Fault). IsPlaceOf list end fault.place) p.faults.items

-- why there is no answer
abbrev pub StopsFor : Input → ℕ → Stop → Type 0
StopsFor input branches (BranchesFull count) = (count ≡ branches + 1) × HasMoreClasses input branches
StopsFor input branches ReadFault = ⊥
StopsFor input branches OutOfMemory = Unit {0}
