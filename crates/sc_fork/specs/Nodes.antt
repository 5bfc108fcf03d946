-- Which nodes reductions add to the store of trees.
use Rattle.std.specs.Prelude.{◌≡◌, ◌-◌, ℕ, List, Option, Some, length, reverse, slice_get, take}
use Rattle.std.specs.List.{filter_map}
use Rattle.lr_tables.specs.declared.grammar.Action.TheVariants.{Reduce as Reduction}
use Rattle.lr_tables.specs.Grammar.{Production}
use Rattle.sc_fork.specs.declared.enabled.Enabled.{Enabled}
use Rattle.sc_fork.specs.declared.enabled.Enabled.TheVariants as enabled
use Rattle.sc_fork.specs.declared.source.Source.{Source}
use Rattle.sc_fork.specs.Enabled.{Has}
use Rattle.sc_fork.specs.Seen.{action_in}
use Rattle.sc_fork.specs.View.{View}
use Rattle.sc_grammar.specs.C11.{productions}
use Rattle.sc_merge.specs.declared.subparser.Phase.TheVariants.{At}
use Rattle.sc_merge.specs.declared.subparser.Subparser.{Subparser}
use Rattle.sc_stack.specs.Entries.{Entry, values_of}
use Rattle.sc_tree.specs.Lines.{Line, AddsAtMost, node}

-- The line is added or nothing is, and nothing where it is the last one.
pub record AddsOnce (lines added : List Line) (line : Line) : Type 0 where
  pub most : AddsAtMost lines added line
  pub once : slice_get lines (length lines - 1) ≡ Some line → added ≡ lines

-- The line is the node that production p makes of the values on the stack: of those that it takes
-- the ones that are trees.
pub record IsNodeBy (p : ℕ) (stack : List Entry) (line : Line) : Type 0 where
  pub rule : Production
  pub numbered : slice_get productions (p - 1) ≡ Some rule
  pub is : line ≡ node p (filter_map (λ value. value) (reverse (values_of (take (length rule.right) stack))))

-- The subparser of the number has this stack, and reduces by production p.
pub record ReducesBy (source : Source) (rows : List (Option Subparser)) (p : ℕ) (stack : List Entry) (n : ℕ) : Type 0 where
  pub parent : Subparser
  pub at : ℕ
  pub has : Has rows n parent
  pub phase : parent.phase ≡ At at
  pub does : action_in source parent at ≡ Some (Reduction p)
  pub stands : parent.stack ≡ stack

-- the reduction of this subparser adds its own node at most
abbrev pub AddsNode : View → ℕ → List Line → List Line → Type 0
AddsNode before n lines added = (p : ℕ) (stack : List Entry) (line : Line) → ReducesBy before.source before.subparsers p stack n → IsNodeBy p stack line
    → AddsOnce lines added line

-- a reduction does
abbrev pub AddsOwnNode : List Line → List Line → Enabled → Type 0
AddsOwnNode lines added (enabled.Reduce s j p) = (line : Line) → IsNodeBy p s.stack line → AddsOnce lines added line
AddsOwnNode lines added _ = Unit {0}
