-- Reductions that pass the one tree of a right side on.
use Rattle.std.specs.Prelude.{◌≡◌, ℕ, ◌-◌, List, length, drop, slice_get, Option, None, Some}
use Rattle.lr_tables.specs.declared.grammar.Action.TheVariants.{Reduce}
use Rattle.lr_tables.specs.Grammar.{Production}
use Rattle.sc_fork.specs.declared.source.Source.{Source}
use Rattle.sc_fork.specs.Enabled.{LooksAt}
use Rattle.sc_fork.specs.Seen.{action_in}
use Rattle.sc_grammar.specs.C11.{productions}
use Rattle.sc_lalr.specs.Tables.{goto_of}
use Rattle.sc_merge.specs.declared.subparser.Subparser.{Subparser}
use Rattle.sc_stack.specs.Entries.{state_of}

-- The subparser of the number reduces by a production without a mark that has one symbol on its
-- right side, and this is the state that follows.
pub record Passes (source : Source) (rows : List (Option Subparser)) (n state : ℕ) : Type 0 where
  pub parent : Subparser
  pub at : ℕ
  pub looks : LooksAt rows n parent at
  pub number : ℕ
  pub acts : action_in source parent at ≡ Some (Reduce number)
  pub rule : Production
  pub numbered : slice_get productions (number - 1) ≡ Some rule
  pub one : length rule.right ≡ 1
  pub unmarked : rule.mark ≡ None
  pub goes : goto_of source.tables.now (state_of (drop 1 parent.stack)) rule.left ≡ Some state
