-- A core at its start.
use Rattle.std.proofs.Common.{◌≡◌, ℕ, ◌<◌, true, List, [], ◌∷◌, length, Option, Some, refl, sym, ap, ◌∙◌, subst, arith, All}
use Rattle.std.specs.Prelude.{IfSome}
use Rattle.std.proofs.lemmas.Bool.{true≢false}
use Rattle.std.proofs.lemmas.List.Elements.{All-nil, All-cons}
use Rattle.c11_parsing.specs.Classes.{Input}
use Rattle.c11_parsing.specs.Core as core
use Rattle.c11_parsing.specs.Core.{Has, IsPossible, IsStart, no_live, some_live, first_of}
use Rattle.lr_tables.specs.Paths.{lowest}
use Rattle.sc_base.specs.declared.id.Cond.{Cond}
use Rattle.sc_fork.specs.View.{View}
use Rattle.sc_fork.specs.declared.piece.Ended.{Ended}
use Rattle.sc_fork.specs.declared.source.Source.{Source}
use Rattle.sc_fork.specs.Cores.{AreRows, no_rows, full_row, AreOver, none_over, IsCore, Starts}
use Rattle.sc_fork.specs.Owns.{AllNumbered, IsOnPath, IsWithin, IsFirst, OwnsRow, OwnsEnded, IsSource, OwnsCore}
use Rattle.sc_fork.specs.Seen.{IsInput, IsSeen, IsSeenAt, next_unknown}
use Rattle.sc_fork.specs.Starts.{AreFirst, no_first, one_first}
use Rattle.sc_fork.proofs.Possible.{possible}
use Rattle.sc_guarded.specs.Blocks.{AreBlocks}
use Rattle.sc_merge.specs.declared.subparser.Subparser.{Subparser}
use Rattle.sc_merge.specs.declared.subparser.Phase.{Phase}
use Rattle.sc_merge.specs.Merges.{OwnsSubparser, OwnsValues}
use Rattle.sc_merge.specs.Phases.{phase_of}
use Rattle.sc_merge.specs.Shows.{ValuesRead, no_values}
use Rattle.sc_model.specs.Sets.{Sets, IsConfig, IsCond, IsNever}
use Rattle.sc_scope.specs.Levels.{no_bindings}
use Rattle.sc_scope.specs.Search.{OwnsLevels}
use Rattle.sc_scope.specs.Shows.{Shows, more_shown, none_shown}
use Rattle.sc_stack.specs.Entries.{Entry, states_of, values_of}
use Rattle.sc_base.specs.declared.id.TreeId.{TreeId}
use Rattle.sc_base.specs.declared.token.Token.{Token}
use Rattle.sc_scope.specs.declared.numbers.Numbers.{Numbers}
use Rattle.sc_scope.specs.Numbered.{HasNumbers}
use Rattle.sc_tree.specs.Reads.{Tables}

first-owned : (sets : Sets) (count : ℕ) (live : Cond) (s : Subparser) → IsCond sets live.0 → IsFirst live s → OwnsSubparser sets count s
first-owned sets count live s own is = record {
  cond = subst (λ (k : Cond). IsCond sets k.0) (sym is.cond) own;
  values = subst (λ (es : List Entry). OwnsValues count (values_of es)) (sym is.stack) (record { each = All-nil (λ (value : Option TreeId). IfSome value (λ id. id.0 < count)) });
  levels = subst (OwnsLevels sets) (sym is.levels) (record { each = λ name. record { each = λ k d below. absurd (omega (arith, below)) } });
}

first-seen : (w : Tables) (input : Input) (live : Cond) (s : Subparser) → input.arities ≡ w.sets.arities → IsCond w.sets live.0 → (IsNever w.sets live.0 → ⊥) → Has input input.live (w.sets.has live.0)
    → IsFirst live s → IsSeen w input s (first_of input)
first-seen w input live s arities own some has is = record {
  owns = first-owned w.sets (length w.lines) live s own is;
  has = λ c config. has c config ∙ ap (λ (k : Cond). w.sets.has k.0 c) (sym is.cond);
  possible = possible_live;
  phase = ap phase_of (sym is.phase);
  states = ap states_of (sym is.stack);
  each = each;
}
  where
    possible_live : IsPossible input input.live
    possible_live =
        let found = possible w.sets live.0 some in
        let config : IsConfig input.arities found.0 = subst (λ ns. IsConfig ns found.0) (sym arities) found.1 in
        record { config = found.0; is_config = config; has = has found.0 config ∙ found.2 }

    each : (c : List ℕ) → IsConfig input.arities c → input.live c ≡ true → IsSeenAt w input s (first_of input) c
    each c config live_here = record {
      shows = record {
        values = subst (λ (es : List Entry). ValuesRead w c (values_of es) []) (sym is.stack) no_values;
        scopes = subst (λ ls. Shows w.sets w.names c ls ([] ∷ [])) (sym is.levels) (more_shown no_bindings [] [] [] (record { same = λ name text held. refl }) none_shown);
      };
      next = next_unknown 0;
    }

pub starts : (w : Tables) (begun : View) (live : Cond) → IsCond w.sets live.0 → AreFirst w.sets live begun.subparsers → begun.ended ≡ [] → Starts w begun live
starts w begun live own first ended = record { seen = by begun.subparsers refl first }
  where
    by : (rows : List (Option Subparser)) → begun.subparsers ≡ rows → AreFirst w.sets live rows → (input : Input) → IsInput w begun.source input → Has input input.live (w.sets.has live.0)
        → (d : core.Core) × (IsStart input d × IsCore w input begun d)
    by _ same (no_first never) input is has = (
      record { rows = []; ended = [] },
      (
        no_live (λ p. true≢false (sym p.has ∙ has p.config p.is_config ∙ never.none p.config (subst (λ ns. IsConfig ns p.config) is.arities p.is_config))),
        record {
          source = is;
          rows = subst (λ (rs : List (Option Subparser)). AreRows w input rs []) (sym same) no_rows;
          ended = subst (λ (es : List Ended). AreOver w input es []) (sym ended) none_over;
        },
      ),
    )
    by _ same (one_first s some is_first) input is has =
        let seen = first-seen w input live s is.arities own some has is_first in (
          record { rows = Some (first_of input) ∷ []; ended = [] },
          (
            some_live seen.possible,
            record {
              source = is;
              rows = subst (λ (rs : List (Option Subparser)). AreRows w input rs (Some (first_of input) ∷ [])) (sym same) (full_row s (first_of input) [] [] seen no_rows);
              ended = subst (λ (es : List Ended). AreOver w input es []) (sym ended) none_over;
            },
          ),
        )

first-row : (sets : Sets) (count : ℕ) (source : Source) (live : Cond) (s : Subparser) → IsCond sets live.0 → IsFirst live s → OwnsRow sets count source s
first-row sets count source live s own is = record {
  owns = first-owned sets count live s own is;
  within = subst (λ (p : Phase). IsWithin (length source.list.now) p) (sym is.phase) (omega arith);
  path = λ c11. subst (λ (es : List Entry). IsOnPath c11.are.grammar c11.states es) (sym is.stack) (record { symbols = []; path = lowest; trees = refl });
}

pub start-owns : (sets : Sets) (count : ℕ) (begun : View) (live : Cond) → IsSource begun.source → All (λ (item : Cond × Token). IsCond sets item.0.0) begun.source.list.now
    → AreBlocks sets begun.source.list.now begun.source.blocks → IsCond sets live.0 → AreFirst sets live begun.subparsers → begun.ended ≡ [] → OwnsCore sets count begun
start-owns sets count begun live source items blocks own first ended = record {
  source = source;
  items = items;
  blocks = blocks;
  rows = λ usable. by begun.subparsers first;
  ended = λ usable. subst (All (OwnsEnded sets count begun.source)) (sym ended) (All-nil (OwnsEnded sets count begun.source));
}
  where
    by : (rows : List (Option Subparser)) → AreFirst sets live rows → All (λ (row : Option Subparser). IfSome row (OwnsRow sets count begun.source)) rows
    by _ (no_first never) = All-nil (λ (row : Option Subparser). IfSome row (OwnsRow sets count begun.source))
    by _ (one_first s some is) =
        All-cons (λ (row : Option Subparser). IfSome row (OwnsRow sets count begun.source)) (Some s) [] (first-row sets count begun.source live s own is)
        (All-nil (λ (row : Option Subparser). IfSome row (OwnsRow sets count begun.source)))

-- the first rows have numbers from any
pub first-numbered : (sets : Sets) (live : Cond) (numbers : Numbers) (rows : List (Option Subparser)) → AreFirst sets live rows → AllNumbered numbers rows
first-numbered sets live numbers _ (no_first never) = All-nil (λ (row : Option Subparser). IfSome row (λ s. HasNumbers numbers s.scopes))
first-numbered sets live numbers _ (one_first s some is) =
    All-cons (λ (row : Option Subparser). IfSome row (λ s. HasNumbers numbers s.scopes)) (Some s) [] (is.numbered numbers)
    (All-nil (λ (row : Option Subparser). IfSome row (λ s. HasNumbers numbers s.scopes)))
