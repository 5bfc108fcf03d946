-- Lists, element by element.
use Rattle.std.proofs.Common.{ℕ, zero, suc, ◌+◌, ◌<◌, List, [], ◌∷◌, ◌++◌, length, get_or, map, All, subst, arith, length-append}
use Rattle.std.proofs.lemmas.List.Elements.{All-nil, All-cons, All-head, All-tail}
use Rattle.std.proofs.lemmas.List.{get_or-append-add}
use Rattle.std.proofs.Math.ListN.{get_or-append}
use Rattle.std.proofs.Math.Seq.{get_or-append_seam}
use Rattle.std.specs.List.{AllZip}

-- the parts of a list of which each element is so
pub All-front : {X : Type 0} (P : X → Type 0) (xs ys : List X) → All P (xs ++ ys) → All P xs
All-front P xs ys all = λ k d below. subst P (get_or-append xs ys d k below) (all k d (omega (arith, length-append xs ys)))

pub All-back : {X : Type 0} (P : X → Type 0) (xs ys : List X) → All P (xs ++ ys) → All P ys
All-back P xs ys all = λ k d below. subst P (get_or-append-add xs ys k d) (all (length xs + k) d (omega (arith, length-append xs ys)))

pub All-last : {X : Type 0} (P : X → Type 0) (xs : List X) (x : X) → All P (xs ++ x ∷ []) → P x
All-last P xs x all = subst P (get_or-append_seam xs x [] x) (all (length xs) x (omega (arith, length-append xs (x ∷ []))))

pub All-one : {X : Type 0} (P : X → Type 0) (x : X) → P x → All P (x ∷ [])
All-one {X} P x p = by
  where
    by : (k : ℕ) (d : X) → k < length (x ∷ []) → P (get_or (x ∷ []) k d)
    by zero d h = p
    by (suc k) d h = absurd (omega arith)

pub All-map-back : {X Y : Type 0} (P : Y → Type 0) (f : X → Y) (xs : List X) → All P (map f xs) → All (λ x. P (f x)) xs
All-map-back P f [] all = All-nil (λ x. P (f x))
All-map-back P f (x ∷ xs) all = All-cons (λ x. P (f x)) x xs (All-head P (f x) (map f xs) all) (All-map-back P f xs (All-tail P (f x) (map f xs) all))

-- lists that are related place by place
pub AllZip-append : {A B : Type 0} (R : A → B → Type 0) (xs zs : List A) (ys ws : List B) → AllZip R xs ys → AllZip R zs ws → AllZip R (xs ++ zs) (ys ++ ws)
AllZip-append R [] zs [] ws first later = later
AllZip-append R [] zs (y ∷ ys) ws first later = absurd first
AllZip-append R (x ∷ xs) zs [] ws first later = absurd first
AllZip-append R (x ∷ xs) zs (y ∷ ys) ws first later = (first.0, AllZip-append R xs zs ys ws first.1 later)

pub AllZip-map : {A B C D : Type 0} (R : A → B → Type 0) (S : C → D → Type 0) (f : A → C) (g : B → D) → ((x : A) (y : B) → R x y → S (f x) (g y)) → (xs : List A) (ys : List B) → AllZip R xs ys → AllZip S (map f xs) (map g ys)
AllZip-map R S f g each [] [] same = tt
AllZip-map R S f g each [] (y ∷ ys) same = absurd same
AllZip-map R S f g each (x ∷ xs) [] same = absurd same
AllZip-map R S f g each (x ∷ xs) (y ∷ ys) same = (each x y same.0, AllZip-map R S f g each xs ys same.1)
