-- What configurations share, as the store of conditions grows and what was read is forgotten.
use Rattle.std.proofs.Common.{ℕ, List, length, refl, ap, arith}
use Rattle.sc_prep.proofs.Facts.{Extends-refl, IsConfig-Keeps, macros_at-Keeps}
use Rattle.sc_prep.proofs.SharesKept.{shares-left, shares-stay}
use Rattle.sc_prep.proofs.WalkMoves.{simulates-kept}
use Rattle.sc_prep.proofs.Terms.{Forgets, IsStored, Keeps, OpenRuns, Sets, Walk}
use Rattle.sc_prep.specs.Gathered.{forgets, keeps_all}
use Rattle.sc_prep.specs.Thin.{KeepsShares, Shares}
use Rattle.sc_prep.specs.Thin as thin

-- the store of conditions grows
module _ {files names : List (List ℕ)} {old mid : Sets} (keeps : Keeps old mid) (w : Walk) (stored : IsStored old names (length files) w) where
  pub shares-same : KeepsShares files names old w files names mid w
  shares-same = shares-stay keeps (Extends-refl names) (Extends-refl files) w w stored refl refl (λ c listed live k at here. λ _ _ i name. macros_at-Keeps keeps stored.table c name listed i)

  -- and then another stage
  pub shares-later : {more_files more : List (List ℕ)} {new : Sets} {next : Walk} → KeepsShares files names mid w more_files more new next → KeepsShares files names old w more_files more new next
  shares-later second = record {
    longer = second.longer;
    at = λ c d p q alive alive_d k l at at_d _ _ index n m shares.
        second.at c d (IsConfig-Keeps keeps p) (IsConfig-Keeps keeps q) alive alive_d k l (simulates-kept keeps w stored.owns names files c k p stored.table at)
        (simulates-kept keeps w stored.owns names files d l q stored.table at_d) tt tt index n m
        (shares-left keeps (Extends-refl names) (Extends-refl files) w w stored refl refl c d p q
        (λ _ _ i name. macros_at-Keeps keeps stored.table c name p i) (λ _ _ i name. macros_at-Keeps keeps stored.table d name q i) index n m shares);
  }

-- what was read is forgotten
shares-forgotten : {s : Sets} {names files : List (List ℕ)} {w : Walk} {runs : OpenRuns} {c d : List ℕ} {index n m : ℕ} → Forgets w.runs runs → Shares s names files w c d index n m → Shares s names files (record w { runs = runs }) c d index n m
shares-forgotten keeps_all shares = shares
shares-forgotten (forgets none clean) (thin.put one) = thin.put one
shares-forgotten (forgets none clean) (thin.waits at size span less one other) = let empty = ap length none in absurd (omega (arith, less, empty))
shares-forgotten (forgets none clean) (thin.one_held held) = thin.one_held held
shares-forgotten (forgets none clean) (thin.other_held held) = thin.other_held held

pub shares-forgets : {files names more_files more : List (List ℕ)} {old new : Sets} {w next : Walk} {runs : OpenRuns} → Forgets next.runs runs → KeepsShares files names old w more_files more new next
    → KeepsShares files names old w more_files more new (record next { runs = runs })
shares-forgets forgotten first = record {
  longer = first.longer;
  at = λ c d p q alive alive_d k l at at_d here here_d index n m shares. shares-forgotten forgotten (first.at c d p q alive alive_d k l at at_d here here_d index n m shares);
}
