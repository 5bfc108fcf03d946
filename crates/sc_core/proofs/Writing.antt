-- That a text is written line by line.
use Rattle.std.proofs.Common.{◌≡◌, ℕ, zero, suc, ◌<◌, ◌==◌, false, List, [], ◌∷◌, ◌++◌, map, length, take, drop, get_or, Option, Some, None, arith, sym, ap, ◌∙◌, subst, append_assoc}
use Rattle.std.proofs.lemmas.List.{map-append}
use Rattle.std.proofs.lemmas.Bool.Decides.{nat_tests}
use Rattle.std.specs.Prelude.{if◌then◌else◌}
use Rattle.sc_model.specs.Outside.{Write, Writes, whole_write}
use Rattle.sc_show.specs.Pieces.{byte_before, split_lines_after}

is_not : (x : ℕ) → (x ≡ 10 → ⊥) → (x == 10) ≡ false
is_not x other = grind (arith, nat_tests)

-- the first line ends with the first newline
pub split-first : (xs : List ℕ) (i : ℕ) → i < length xs → get_or xs i 0 ≡ 10 → ((k : ℕ) → k < i → get_or xs k 0 ≡ 10 → ⊥)
    → split_lines_after xs ≡ take (suc i) xs ∷ split_lines_after (drop (suc i) xs)
split-first [] i h ends before = absurd (omega arith)
split-first (x ∷ xs) zero h ends before = ap (λ b. if b then (x ∷ []) ∷ split_lines_after xs else byte_before x (split_lines_after xs)) (ap (λ y. y == 10) ends)
split-first (x ∷ xs) (suc i) h ends before =
    ap (λ b. if b then (x ∷ []) ∷ split_lines_after xs else byte_before x (split_lines_after xs)) (is_not x (before 0 (omega arith)))
    ∙ ap (byte_before x) (split-first xs i (omega arith) ends (λ k below. before (suc k) (omega arith)))

-- the last line has no newline
pub split-last : (xs : List ℕ) → 0 < length xs → ((k : ℕ) → k < length xs → get_or xs k 0 ≡ 10 → ⊥) → split_lines_after xs ≡ xs ∷ []
split-last [] h none = absurd (omega arith)
split-last (x ∷ []) h none = ap (λ b. if b then (x ∷ []) ∷ [] else byte_before x []) (is_not x (none 0 (omega arith)))
split-last (x ∷ (y ∷ ys)) h none =
    ap (λ b. if b then (x ∷ []) ∷ split_lines_after (y ∷ ys) else byte_before x (split_lines_after (y ∷ ys))) (is_not x (none 0 (omega arith)))
    ∙ ap (byte_before x) (split-last (y ∷ ys) (omega arith) (λ k below. none (suc k) (omega arith)))

Writes-then : (a b c : Option (List Write)) (xs ys : List Write) → Writes a b xs → Writes b c ys → Writes a c (xs ++ ys)
Writes-then None None None xs ys first second = tt
Writes-then None None (Some c) xs ys first second = absurd second
Writes-then None (Some b) c xs ys first second = absurd first
Writes-then (Some a) None c xs ys first second = absurd first
Writes-then (Some a) (Some b) None xs ys first second = absurd second
Writes-then (Some a) (Some b) (Some c) xs ys first second = second ∙ (ap (λ ws. ws ++ ys) first ∙ append_assoc a xs ys)

-- the text up to this rest was written
pub record IsWritten (text rest : List ℕ) (old new : Option (List Write)) : Type 0 where
  pub done : List (List ℕ)
  pub begins : split_lines_after text ≡ done ++ split_lines_after rest
  pub writes : Writes old new (map whole_write done)

module _ (text rest line after : List ℕ) (old mid new : Option (List Write)) (so_far : IsWritten text rest old mid) (first : split_lines_after rest ≡ line ∷ split_lines_after after) where
  pub line-written : Writes mid new (whole_write line ∷ []) → IsWritten text after old new
  line-written written = record {
    done = so_far.done ++ line ∷ [];
    begins = so_far.begins ∙ (ap (λ ls. so_far.done ++ ls) first ∙ sym (append_assoc so_far.done (line ∷ []) (split_lines_after after)));
    writes = subst (Writes old new) (sym (map-append whole_write so_far.done (line ∷ []))) (Writes-then old mid new (map whole_write so_far.done) (whole_write line ∷ []) so_far.writes written);
  }
