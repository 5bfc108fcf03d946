-- The rows of a table, and the branches that they are.
use Rattle.std.proofs.Common.{◌≡◌, ℕ, ◌<◌, ◌≤◌, List, [], ◌∷◌, ◌++◌, All, length, map, take, drop, Some, Result, Ok, Err, OnErr, refl, sym, ◌∙◌, ap, arith}
use Rattle.std.specs.Prelude.{slice_get, slice_index, slice_range}
use Rattle.std.proofs.lemmas.List.{length-map, length-take, map-append, get_or-map, get_or_push, length_push, take-take}
use Rattle.std.proofs.lemmas.List.Elements.{All-head, All-tail, All-push, All-weaker}
use Rattle.std.proofs.lemmas.Option.{slice_get-get_or, slice_get_within, get_or_from_slice_get}
use Rattle.std.proofs.lemmas.Slice.{between_is}
use Rattle.sc_diagram.specs.Diagram.{Branch, branch}
use Rattle.sc_diagram.specs.Unique.{AreRows, IsKept, IsRow, branch_at, branches_of, hash_of, kept_in}
use Rattle.sc_diagram.specs.declared.unique.Kept.{Kept}
use Rattle.sc_diagram.specs.declared.unique.Kept.TheVariants.{Pair, Range}
use Rattle.sc_diagram.specs.declared.unique.Row.{Row}

module _ {children : List ℕ} {rows : List Row} {hashes : List ℕ} (n : ℕ) (b : Branch) (are : AreRows children rows hashes) (at : slice_get (branches_of children rows) n ≡ Some b) where
  inner : n < length (branches_of children rows)
  inner = slice_get_within (branches_of children rows) n b at

  -- a branch has a hash
  pub long : n < length hashes
  long = omega (arith, inner, length-map (branches_of children rows) hash_of, ap length are.hashed)

  -- which is its number's
  pub hash_at : slice_index hashes n ≡ hash_of b
  hash_at = ap (λ hs. slice_index hs n) are.hashed ∙ get_or-map hash_of (branches_of children rows) n b 0 inner ∙ ap hash_of (get_or_from_slice_get (branches_of children rows) n b b at)

slice-kept : (old new : List ℕ) (first end : ℕ) → end ≤ length old → take (length old) new ≡ old → slice_range new first end ≡ slice_range old first end
slice-kept old new first end within kept =
    between_is new first end ∙ ap (drop first) (sym (take-take end (length old) new within) ∙ ap (take end) kept) ∙ sym (between_is old first end)

-- children that are added change none that a row has
kept_in-more : (old new : List ℕ) (kept : Kept) → IsKept (length old) kept → take (length old) new ≡ old → kept_in new kept ≡ kept_in old kept
kept_in-more old new (Pair pair) within same = refl
kept_in-more old new (Range first end) within same = slice-kept old new first end within.1 same

IsKept-more : (m n : ℕ) (kept : Kept) → m ≤ n → IsKept m kept → IsKept n kept
IsKept-more m n (Pair pair) more within = tt
IsKept-more m n (Range first end) more within = (within.0, omega (arith, within.1, more))

-- nor a branch
pub branches-kept : (old new : List ℕ) (rows : List Row) → All (IsRow (length old)) rows → take (length old) new ≡ old → branches_of new rows ≡ branches_of old rows
branches-kept old new [] are kept = refl
branches-kept old new (r ∷ rows) are kept =
    let here = All-head (IsRow (length old)) r rows are in
    let same = kept_in-more old new r.kept here.kept kept in
    let rest = branches-kept old new rows (All-tail (IsRow (length old)) r rows are) kept in
    λ i. branch r.variable (same i) ∷ rest i

pub AreRows-kept : {old new : List ℕ} {rows : List Row} {hashes : List ℕ} → take (length old) new ≡ old → AreRows old rows hashes → AreRows new rows hashes
AreRows-kept {old} {new} {rows} kept are = record {
  within = All-weaker (IsRow (length old)) (IsRow (length new)) (λ r is. record { kept = IsKept-more (length old) (length new) r.kept longer is.kept }) rows are.within;
  hashed = are.hashed ∙ ap (map hash_of) (sym (branches-kept old new rows are.within kept));
}
  where
    longer : length old ≤ length new
    longer = omega (arith, ap length kept, length-take (length old) new)

pub branches-push : (children : List ℕ) (rows : List Row) (r : Row) (b : Branch) → branch_at children r ≡ b → branches_of children (rows ++ r ∷ []) ≡ branches_of children rows ++ b ∷ []
branches-push children rows r b is = map-append (branch_at children) rows (r ∷ []) ∙ ap (λ x. branches_of children rows ++ x ∷ []) is

pub AreRows-push : {children : List ℕ} {rows : List Row} {hashes : List ℕ} (r : Row) (b : Branch) → AreRows children rows hashes → IsRow (length children) r → branch_at children r ≡ b → AreRows children (rows ++ r ∷ []) (hashes ++ hash_of b ∷ [])
AreRows-push {children} {rows} {hashes} r b are inside is = record {
  within = All-push (IsRow (length children)) rows r are.within inside;
  hashed = ap (λ hs. hs ++ hash_of b ∷ []) are.hashed ∙ sym (map-append hash_of (branches_of children rows) (b ∷ [])) ∙ ap (map hash_of) (sym (branches-push children rows r b is));
}

pub on_err : {T E : Type 0} {P : Type 0} (r : Result T E) → P → OnErr r P
on_err (Ok x) p = tt
on_err (Err e) p = p

pub get-last : {X : Type 0} (xs : List X) (x : X) (n : ℕ) → n ≡ length xs → slice_get (xs ++ x ∷ []) n ≡ Some x
get-last xs x n is = slice_get-get_or (xs ++ x ∷ []) n x (omega (arith, is, length_push xs x)) ∙ ap Some (get_or_push xs x x n (sym is))
