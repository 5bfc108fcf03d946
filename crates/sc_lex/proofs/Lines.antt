-- A line with one more token.
use Rattle.std.proofs.Common.{◌≡◌, ℕ, ◌==◌, ◌&&◌, Bool, true, false, cond, nat_eq, List, [], ◌∷◌, ◌++◌, codes, refl, ap}
use lib.Pointwise.{pointwise}
use Rattle.sc_model.specs.Bytes.{same_bytes}
use Rattle.sc_model.specs.Token.{name_of}
use Rattle.c11_tokens.specs.Lex.{expects_header}
use Rattle.sc_lex.specs.declared.line.LineSoFar.{LineSoFar}
use Rattle.sc_lex.specs.declared.line.LineSoFar.TheVariants.{Start, Hash, Include, Other}
use Rattle.sc_lex.specs.Line.{so_far_of}

pub same_bytes-is : (xs ys : List ℕ) → same_bytes xs ys ≡ pointwise nat_eq xs ys
same_bytes-is [] [] = refl
same_bytes-is [] (y ∷ ys) = refl
same_bytes-is (x ∷ xs) [] = refl
same_bytes-is (x ∷ xs) (y ∷ ys) = ap (λ t. (x == y) && t) (same_bytes-is xs ys)

abbrev pub is_include : LineSoFar → Bool
is_include Include = true
is_include _ = false

pub expects-so_far_of : (line : List (List ℕ)) → is_include (so_far_of line) ≡ expects_header line
expects-so_far_of [] = refl
expects-so_far_of (h ∷ []) = by (same_bytes (name_of h) (codes "#"))
  where
    by : (b : Bool) → is_include (cond b Hash Other) ≡ false
    by true = refl
    by false = refl
expects-so_far_of (h ∷ w ∷ []) = by (same_bytes (name_of h) (codes "#") && same_bytes w (codes "include"))
  where
    by : (b : Bool) → is_include (cond b Include Other) ≡ b
    by true = refl
    by false = refl
expects-so_far_of (h ∷ w ∷ x ∷ rest) = refl

-- the next state
abbrev pub so_far_after : LineSoFar → List ℕ → LineSoFar
so_far_after Start spelling = cond (same_bytes (name_of spelling) (codes "#")) Hash Other
so_far_after Hash spelling = cond (same_bytes spelling (codes "include")) Include Other
so_far_after Include spelling = Other
so_far_after Other spelling = Other

pub so_far_of-push : (line : List (List ℕ)) (spelling : List ℕ) → so_far_of (line ++ spelling ∷ []) ≡ so_far_after (so_far_of line) spelling
so_far_of-push [] spelling = refl
so_far_of-push (h ∷ []) spelling = by (same_bytes (name_of h) (codes "#"))
  where
    by : (b : Bool) → cond (b && same_bytes spelling (codes "include")) Include Other ≡ so_far_after (cond b Hash Other) spelling
    by true = refl
    by false = refl
so_far_of-push (h ∷ w ∷ []) spelling = by (same_bytes (name_of h) (codes "#") && same_bytes w (codes "include"))
  where
    by : (b : Bool) → Other ≡ so_far_after (cond b Include Other) spelling
    by true = refl
    by false = refl
so_far_of-push (h ∷ w ∷ x ∷ rest) spelling = refl
