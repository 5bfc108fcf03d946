-- In which order subparsers are reduced.
use Rattle.std.specs.Prelude.{◌≡◌, ◌<◌, ◌≤◌, ◌+◌, ◌*◌, ◌-◌, ℕ, nat_lt, List, [], ◌∷◌, length, Option, Some, All, if◌then◌else◌}
use Rattle.std.specs.Global.{Vec}
use Rattle.std.specs.List.{flat_map}
use Rattle.lr_tables.specs.declared.grammar.Action.TheVariants.{Reduce}
use Rattle.lr_tables.specs.Paths.{Path}
use Rattle.sc_fork.specs.declared.source.Source.{Source}
use Rattle.sc_fork.specs.Enabled.{LooksAt}
use Rattle.sc_fork.specs.Owns.{HasC11Tables}
use Rattle.sc_fork.specs.Seen.{action_in}
use Rattle.sc_fork.specs.View.{states_in}
use Rattle.sc_merge.specs.declared.subparser.Phase.TheVariants.{At}
use Rattle.sc_merge.specs.declared.subparser.Subparser.{Subparser}
use Rattle.sc_model.specs.Sets.{Sets}
use Rattle.sc_parse.specs.declared.reductions.Weight.{Weight}
use Rattle.sc_parse.specs.declared.steps.Steps.{Steps}
use Rattle.sc_parse.specs.Numbers.{Each, IsAt, Replaces}
use Rattle.sc_parse.specs.Runs.{GoesOn}
use Rattle.sc_tree.specs.Lines.{Line}

-- the rank of the symbol on top: a nonterminal's number, or that of their count
abbrev pub rank_of : List ℕ → ℕ
rank_of [] = 100
rank_of (x ∷ symbols) = if nat_lt x 96 then 100 else x - 96

-- the symbol on top of the stack has no higher rank
pub record IsRanked (source : Source) (rank : ℕ) (s : Subparser) : Type 0 where
  pub path : (c11 : HasC11Tables source.tables.now) → (symbols : List ℕ) × (Path c11.are.grammar c11.states (states_in s) symbols × rank_of symbols ≤ rank)

-- the subparser has this weight
pub record HasWeight (source : Source) (w : Weight) (s : Subparser) : Type 0 where
  pub height : length (states_in s) ≡ w.height
  pub ranked : IsRanked source w.rank s

-- the numbers of all weights, one weight after the other
abbrev pub numbers_of : List (Weight × Vec ℕ) → List ℕ
numbers_of entries = flat_map (λ (entry : Weight × Vec ℕ). entry.1.items) entries

-- each number is that of a subparser of the weight
pub record IsWeighed (source : Source) (rows : List (Option Subparser)) (entry : Weight × Vec ℕ) : Type 0 where
  pub low : entry.0.rank ≤ 100
  pub each : Each (HasWeight source entry.0) rows entry.1.items

abbrev pub AreWeighed : Source → List (Option Subparser) → List (Weight × Vec ℕ) → Type 0
AreWeighed source rows entries = All (IsWeighed source rows) entries

-- weights as numbers in the same order
abbrev pub number_of : Weight → ℕ
number_of w = 101 * w.height + w.rank

-- all weights are below the bound
abbrev pub AreBelow : ℕ → List (Weight × Vec ℕ) → Type 0
AreBelow bound entries = All (λ (entry : Weight × Vec ℕ). number_of entry.0 < bound) entries

-- the subparser is reduced by this production at the element that comes next
pub record IsReducing (source : Source) (p : ℕ) (s : Subparser) : Type 0 where
  pub at : ℕ
  pub phase : s.phase ≡ At at
  pub action : action_in source s at ≡ Some (Reduce p)

-- these are some numbers, and the subparser of each is reduced by this production
pub record AreReducing (source : Source) (p : ℕ) (rows : List (Option Subparser)) (numbers : List ℕ) : Type 0 where
  pub some : 0 < length numbers
  pub each : Each (IsReducing source p) rows numbers

-- whatever the subparser of the number looks at, it is reduced there by this production
abbrev pub ActsBy : Source → ℕ → List (Option Subparser) → ℕ → Type 0
ActsBy source p rows n = (s : Subparser) (at : ℕ) → LooksAt rows n s at → action_in source s at ≡ Some (Reduce p)

-- the subparsers that are gone and those that have come look at one element
pub record Moves (old new : Sets) (lines added : List Line) (j : ℕ) (before after : Steps) (gone made : List ℕ) : Type 0 where
  pub goes_on : GoesOn old new lines added (j + 1) before after
  pub replaces : Replaces before.core.subparsers after.core.subparsers gone made
  pub at : Each (IsAt j) after.core.subparsers made
