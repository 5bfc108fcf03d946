-- What stands at a configuration of lists whose items have a condition.
use Rattle.std.proofs.Common.{◌≡◌, ℕ, ◌+◌, ◌<◌, List, [], ◌∷◌, ◌++◌, All, map, take, length, get_or, sym, ap, ◌∙◌, if◌then◌else◌}
use Rattle.sc_prep.proofs.Facts.{All-map, items_at-Keeps, items_at-append, map-append, take_more}
use Rattle.sc_prep.proofs.Terms.{Cond, IsCond, IsConfig, Keeps, Sets, items_at}

module _ {A T : Type 0} (f : A → Cond × T) where
  pub items-push : (s : Sets) (xs : List A) (x : A) (c : List ℕ) → items_at s (map f (xs ++ x ∷ [])) c ≡ items_at s (map f xs) c ++ (if s.has (f x).0.0 c then (f x).1 ∷ [] else [])
  items-push s xs x c = ap (λ l. items_at s l c) (map-append f xs (x ∷ [])) ∙ items_at-append s (map f xs) (f x ∷ []) c

  pub items-next : (s : Sets) (xs : List A) (i : ℕ) (x : A) (c : List ℕ) → i < length xs → x ≡ get_or xs i x
      → items_at s (map f (take (i + 1) xs)) c ≡ items_at s (map f (take i xs)) c ++ (if s.has (f x).0.0 c then (f x).1 ∷ [] else [])
  items-next s xs i x c within is =
      ap (λ l. items_at s (map f l) c) (take_more xs i x within)
      ∙ (items-push s (take i xs) (get_or xs i x) c ∙ ap (λ y. items_at s (map f (take i xs)) c ++ (if s.has (f y).0.0 c then (f y).1 ∷ [] else [])) (sym is))

  pub items-keeps : {old new : Sets} (xs : List A) (c : List ℕ) → Keeps old new → All (λ x. IsCond old (f x).0.0) xs → IsConfig old.arities c
      → items_at new (map f xs) c ≡ items_at old (map f xs) c
  items-keeps {old} xs c keeps own listed = items_at-Keeps (map f xs) c keeps (All-map (λ item. IsCond old item.0.0) f xs own) listed

pub map-next : {A B : Type 0} (f : A → B) (xs : List A) (i : ℕ) (x : A) → i < length xs → x ≡ get_or xs i x → map f (take (i + 1) xs) ≡ map f (take i xs) ++ f x ∷ []
map-next f xs i x within is =
    ap (map f) (take_more xs i x within) ∙ (map-append f (take i xs) (get_or xs i x ∷ []) ∙ ap (λ y. map f (take i xs) ++ f y ∷ []) (sym is))
