-- Where the items of a list stand.
use Rattle.std.proofs.Common.{◌≡◌, ℕ, zero, suc, ◌<◌, List, [], ◌∷◌, ◌++◌, length, map, slice_get, Some, refl, arith}
use Rattle.std.proofs.lemmas.Option.{same_Some}

-- an item stays in place as others are added
pub slice_get-front : {T : Type 0} (xs ys : List T) (n : ℕ) → n < length xs → slice_get (xs ++ ys) n ≡ slice_get xs n
slice_get-front [] ys n below = absurd (omega arith)
slice_get-front (x ∷ xs) ys zero below = refl
slice_get-front (x ∷ xs) ys (suc n) below = slice_get-front xs ys n (omega arith)

-- an item stands after those before it
pub slice_get-seam : {T : Type 0} (xs : List T) (x : T) (ys : List T) → slice_get (xs ++ x ∷ ys) (length xs) ≡ Some x
slice_get-seam [] x ys = refl
slice_get-seam (y ∷ xs) x ys = slice_get-seam xs x ys

-- what an item of a mapped list comes from
pub found_in : {X Y : Type 0} (f : X → Y) (xs : List X) (k : ℕ) (y : Y) → slice_get (map f xs) k ≡ Some y → (x : X) × (slice_get xs k ≡ Some x) × (f x ≡ y)
found_in f [] k y at = absurd (cc)
found_in f (x ∷ xs) zero y at = (x, refl, same_Some (f x) y at)
found_in f (x ∷ xs) (suc k) y at = found_in f xs k y at
