-- What a subparser shows stays as the tables grow.
use Rattle.std.proofs.Common.{◌≡◌, ℕ, List, Option, sym, subst}
use Rattle.c11_parsing.specs.Bindings as plain
use Rattle.c11_parsing.specs.Trees.{Tree}
use Rattle.sc_base.specs.declared.id.TreeId.{TreeId}
use Rattle.sc_merge.specs.declared.subparser.Subparser.{Subparser}
use Rattle.sc_merge.specs.Shows.{ValueReads, silent_reads, tree_reads, ValuesRead, no_values, more_values, ShowsAt}
use Rattle.sc_model.specs.Sets.{IsConfig}
use Rattle.sc_scope.specs.Search.{OwnsLevels}
use Rattle.sc_scope.specs.Seen.{levels_in}
use Rattle.sc_scope.specs.Shows.{Shows}
use Rattle.sc_scope.proofs.ShowLemmas.{Shows-Keeps}
use Rattle.sc_tree.specs.Reads.{Tables, Grows}
use Rattle.sc_tree.proofs.ReadLemmas.{Reads-Grows}

module _ (old new : Tables) (c : List ℕ) (grows : Grows old new) (listed : IsConfig old.sets.arities c) where
  pub ValueReads-Grows : (value : Option TreeId) (tree : Option Tree) → ValueReads old c value tree → ValueReads new c value tree
  ValueReads-Grows _ _ silent_reads = silent_reads
  ValueReads-Grows _ _ (tree_reads id tree read) = tree_reads id tree (Reads-Grows old new c id.0 tree grows listed read)

  pub ValuesRead-Grows : (values : List (Option TreeId)) (trees : List (Option Tree)) → ValuesRead old c values trees → ValuesRead new c values trees
  ValuesRead-Grows _ _ no_values = no_values
  ValuesRead-Grows _ _ (more_values value values tree trees first rest) =
      more_values value values tree trees (ValueReads-Grows value tree first) (ValuesRead-Grows values trees rest)

  -- the names are the same, since a name that is new could be bound already
  pub ShowsAt-Grows : (s : Subparser) (trees : List (Option Tree)) (levels : List plain.Level) → new.names ≡ old.names → OwnsLevels old.sets (levels_in s.scopes)
      → ShowsAt old s c trees levels → ShowsAt new s c trees levels
  ShowsAt-Grows s trees levels names own shows = record {
    values = ValuesRead-Grows _ trees shows.values;
    scopes = subst (λ ns. Shows new.sets ns c (levels_in s.scopes) levels) (sym names)
        (Shows-Keeps old.names c (levels_in s.scopes) levels grows.sets listed own shows.scopes);
  }
