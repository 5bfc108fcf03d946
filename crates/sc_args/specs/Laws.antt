-- What the laws say of words.
use Rattle.std.specs.Prelude.{◌≡◌, ℕ, List, None}
use Rattle.clap.specs.Lexer.{strip_byte}

-- The word doesn't begin with a hyphen, whose byte is 45.
abbrev pub IsPlainWord : List ℕ → Type 0
IsPlainWord word = strip_byte 45 word ≡ None
