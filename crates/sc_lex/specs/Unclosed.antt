-- Quotes that are not closed on their line.
use Rattle.std.specs.Prelude.{◌≡◌, ℕ, ◌+◌, ◌<◌, false, List, take, drop, slice_index}
use Rattle.sc_lex.specs.declared.unclosed.UnclosedQuotes.{UnclosedQuotes}
use Rattle.c11_tokens.specs.Lex.{closes}

-- none of these quotes among the first n bytes is closed
pub record IsUnclosed (quote : ℕ) (bytes : List ℕ) (n : ℕ) : Type 0 where
  pub never : (k m : ℕ) → k < n → slice_index bytes k ≡ quote → closes quote (take m (drop (k + 1) bytes)) ≡ false

-- what is known of both kinds of quote
pub record AreUnclosed (bytes : List ℕ) (known : UnclosedQuotes) : Type 0 where
  pub single : IsUnclosed 39 bytes known.single
  pub double : IsUnclosed 34 bytes known.double
