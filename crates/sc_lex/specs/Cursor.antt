-- A file from some byte on, as the later phases of translation see it (C11 5.1.1.2).
use Rattle.std.specs.Prelude.{◌≡◌, ℕ, ◌+◌, ◌==◌, ◌&&◌, ◌||◌, not, Bool, true, false, List, [], ◌∷◌, Option, Some, None, if◌then◌else◌}
use Rattle.std.specs.List.{count_by}
use Rattle.sc_model.specs.Bytes.{begins_with}
use Rattle.c11_tokens.specs.Lex.{Marked, without_splices}

-- The bytes that are left, before trigraph sequences are replaced, the first of them at this line
-- and column. A newline is wanted at the end where the byte before it is another.
abbrev pub stored : Bool → ℕ → ℕ → List ℕ → List Marked
stored wanted line column [] =
    if wanted then record { byte = 10; position = record { line = line; column = column } } ∷ [] else []
stored wanted line column (b ∷ bs) =
    if (b == 13) && begins_with (10 ∷ []) bs then stored true line (column + 1) bs
    else record { byte = b; position = record { line = line; column = column } }
    ∷ (if b == 10 then stored false (line + 1) 1 bs else stored true line (column + 1) bs)

-- what taking the next byte answers and leaves
abbrev pub Takes : List Marked → Option ℕ → List Marked → Type 0
Takes old None new = (old ≡ []) × (new ≡ [])
Takes old (Some b) new = (m : Marked) × (m.byte ≡ b) × (old ≡ m ∷ new)

-- no splice comes first
abbrev pub KeepsFirst : List Marked → Type 0
KeepsFirst [] = Unit {0}
KeepsFirst (m ∷ ms) = without_splices (m ∷ ms) ≡ m ∷ without_splices ms

-- a byte comes first with which no splice, trigraph sequence or end of line begins
abbrev pub begins_plainly : List ℕ → Bool
begins_plainly [] = false
begins_plainly (b ∷ bs) = not (b == 13 || b == 63 || b == 92)

abbrev pub newlines_of : List Marked → ℕ
newlines_of ms = count_by (λ m. m.byte == 10) ms
