-- Values of the frames on top.
use Rattle.std.proofs.Common.{◌≡◌, ℕ, zero, suc, ◌-◌, ◌<◌, List, [], ◌∷◌, ◌++◌, take, Option, ◌∙◌, ap, append_assoc, arith}
use Rattle.sc_base.specs.declared.id.TreeId.{TreeId}
use Rattle.sc_stack.specs.Entries.{Entry, values_of}

-- the value of the frame on top, then those below it
pub values_of-take : (left : ℕ) (entry : Entry) (entries : List Entry) → 0 < left
    → values_of (take left (entry ∷ entries)) ≡ entry.value ∷ values_of (take (left - 1) entries)
values_of-take zero entry entries some = absurd (omega arith)
values_of-take (suc left) entry entries some =
    let e : left ≡ suc left - 1 = omega arith in ap (λ n. entry.value ∷ values_of (take n entries)) e

-- one more value was found
pub one_more : (found more : List (Option TreeId)) (left : ℕ) (entry : Entry) (here below : List Entry) (all : List (Option TreeId))
    → 0 < left → here ≡ entry ∷ below → more ≡ found ++ entry.value ∷ [] → found ++ values_of (take left here) ≡ all
    → more ++ values_of (take (left - 1) below) ≡ all
one_more found more left entry here below all some is added before =
    let first : values_of (take left here) ≡ entry.value ∷ values_of (take (left - 1) below)
    = ap (λ entries. values_of (take left entries)) is ∙ values_of-take left entry below some in
    let joined : (found ++ entry.value ∷ []) ++ values_of (take (left - 1) below) ≡ found ++ (entry.value ∷ values_of (take (left - 1) below))
    = rw append_assoc in
    cc
