-- What stands on a line of what a header name may follow.
use Rattle.std.specs.Prelude.{ℕ, ◌&&◌, List, [], ◌∷◌, codes, if◌then◌else◌}
use Rattle.sc_model.specs.Bytes.{same_bytes}
use Rattle.sc_model.specs.Token.{name_of}
use Rattle.sc_lex.specs.declared.line.LineSoFar.{LineSoFar}
use Rattle.sc_lex.specs.declared.line.LineSoFar.TheVariants.{Start, Hash, Include, Other}

-- of the spellings of the line so far
abbrev pub so_far_of : List (List ℕ) → LineSoFar
so_far_of [] = Start
so_far_of (hash ∷ []) = if same_bytes (name_of hash) (codes "#") then Hash else Other
so_far_of (hash ∷ word ∷ []) =
    if same_bytes (name_of hash) (codes "#") && same_bytes word (codes "include") then Include else Other
so_far_of (hash ∷ word ∷ more ∷ rest) = Other
