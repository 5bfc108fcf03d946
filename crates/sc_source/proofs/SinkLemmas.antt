-- What a failed write leaves.
use Rattle.std.proofs.Common.{◌≡◌, ℕ, List, [], ◌∷◌, ◌++◌, false, None, Some, Result, Ok, Err, OnOk, OnErr, IsErr, sym, append-nil, ◌∙◌}
use Rattle.sc_model.specs.Outside.{Write, nothing, prefix}
use Rattle.sc_source.specs.Sink.{WritesCut}

-- nothing is told
pub WritesCut-None : (piece : List ℕ) → WritesCut None None piece
WritesCut-None piece = record { end = []; broken = nothing; writes = tt }

-- nothing was written
WritesCut-nothing : (old new : List Write) (piece : List ℕ) → new ≡ old → WritesCut (Some old) (Some new) piece
WritesCut-nothing old new piece same = record { end = []; broken = nothing; writes = same ∙ sym (append-nil old) }

module _ {T E : Type 0} (r : Result T E) (old new : List Write) (piece : List ℕ) where
  -- there was no memory to note the piece
  pub WritesCut-refused : IsErr r → OnErr r (new ≡ old) → WritesCut (Some old) (Some new) piece
  WritesCut-refused = by r
    where
      by : (r : Result T E) → IsErr r → OnErr r (new ≡ old) → WritesCut (Some old) (Some new) piece
      by (Ok x) refused same = cc
      by (Err e) refused same = WritesCut-nothing old new piece same

  -- a prefix was noted, or there was no memory for it
  pub WritesCut-prefix : (done rest : List ℕ) → done ++ rest ≡ piece → OnOk r (new ≡ old ++ record { bytes = done; whole = false } ∷ []) → OnErr r (new ≡ old)
      → WritesCut (Some old) (Some new) piece
  WritesCut-prefix done rest parts = by r
    where
      by : (r : Result T E) → OnOk r (new ≡ old ++ record { bytes = done; whole = false } ∷ []) → OnErr r (new ≡ old) → WritesCut (Some old) (Some new) piece
      by (Ok x) noted same = record { end = record { bytes = done; whole = false } ∷ []; broken = prefix done rest (sym parts); writes = noted }
      by (Err e) noted same = WritesCut-nothing old new piece same
