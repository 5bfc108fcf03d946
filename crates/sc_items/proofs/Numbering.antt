-- The numbers of kernels in the order of their first insertion.
use Rattle.std.proofs.Common.{zero, suc, ◌≡◌, ℕ, Bool, true, false, eqb, List, [], ◌∷◌, ◌++◌, length, slice_get, Some, Vec, inl, inr, refl, sym, ap, ◌∙◌}
use Rattle.std.specs.List.{list_any, position_or_len}
use Rattle.std.specs.Cmp.Lexicographic.{pointwise}
use Rattle.std.specs.declared.alloc.Global.{Global}
use Rattle.std.proofs.lemmas.List.{map_push, length-map}
use Rattle.std.proofs.Math.Numerals.{one-add}
use Rattle.std.proofs.lemmas.Option.{same_Some, none-some}
use Rattle.std.proofs.lemmas.Bool.{false≢true}
use Rattle.std.proofs.lemmas.Slice.Eq.{bytes_eq-Decides}
use Rattle.indexmap.specs.IndexSet.{insert_key}
use Rattle.sc_model.proofs.ListLemmas.{slice_get-seam}
use Rattle.sc_items.specs.Kernel.{lists, IsNumbered}

-- whether two kernels are equal
abbrev pub same_items : Vec ℕ Global → Vec ℕ Global → Bool
same_items a b = pointwise eqb a.items b.items

same_from : (a b : Vec ℕ Global) → same_items a b ≡ true → b.items ≡ a.items
same_from a b e = sym ((bytes_eq-Decides a.items b.items).0 e)

present : (k : Vec ℕ Global) (ks : List (Vec ℕ Global)) → list_any (same_items k) ks ≡ true → slice_get (lists ks) (position_or_len (same_items k) ks) ≡ Some k.items
present k [] h = absurd (false≢true h)
present k (x ∷ xs) h = go (present k xs) (same_items k x) refl
  where
    go : (list_any (same_items k) xs ≡ true → slice_get (lists xs) (position_or_len (same_items k) xs) ≡ Some k.items) → (b : Bool) → same_items k x ≡ b → slice_get (lists (x ∷ xs)) (position_or_len (same_items k) (x ∷ xs)) ≡ Some k.items
    go more true e = rw e (ap (λ items. Some items) (same_from k x e))
    go more false e = let there : list_any (same_items k) xs ≡ true = rw e at h in rw (e, one-add) (more there)

absent : (k : Vec ℕ Global) (ks : List (Vec ℕ Global)) → list_any (same_items k) ks ≡ false → (t : ℕ) → slice_get (lists ks) t ≡ Some k.items → ⊥
absent k [] h t at = none-some k.items at
absent k (x ∷ xs) h zero at = let e : same_items k x ≡ true = (bytes_eq-Decides k.items x.items).1 (sym (same_Some x.items k.items at)) in let wrong : true ≡ false = rw e at h in false≢true (sym wrong)
absent k (x ∷ xs) h (suc t) at = go (λ there. absent k xs there t at) (same_items k x) refl
  where
    go : (list_any (same_items k) xs ≡ false → ⊥) → (b : Bool) → same_items k x ≡ b → ⊥
    go more true e = let wrong : true ≡ false = rw e at h in false≢true (sym wrong)
    go more false e = let there : list_any (same_items k) xs ≡ false = rw e at h in more there

absent-position : (k : Vec ℕ Global) (ks : List (Vec ℕ Global)) → list_any (same_items k) ks ≡ false → position_or_len (same_items k) ks ≡ length ks
absent-position k [] h = refl
absent-position k (x ∷ xs) h = go (absent-position k xs) (same_items k x) refl
  where
    go : (list_any (same_items k) xs ≡ false → position_or_len (same_items k) xs ≡ length xs) → (b : Bool) → same_items k x ≡ b → position_or_len (same_items k) (x ∷ xs) ≡ length (x ∷ xs)
    go more true e = let wrong : true ≡ false = rw e at h in absurd (false≢true (sym wrong))
    go more false e = let there : list_any (same_items k) xs ≡ false = rw e at h in rw (e, one-add) (ap suc (more there))

pub numbered : (k : Vec ℕ Global) (old new : List (Vec ℕ Global)) (number : ℕ) → new ≡ insert_key same_items old k → number ≡ position_or_len (same_items k) old → IsNumbered (lists old) (lists new) k.items number
numbered k old new number e f = go (list_any (same_items k) old) refl
  where
    go : (b : Bool) → list_any (same_items k) old ≡ b → IsNumbered (lists old) (lists new) k.items number
    go true h =
        let kept : new ≡ old = rw h at e in
        record { at = rw (kept, f) (present k old h); grown = inl (ap lists kept) }
    go false h =
        let pushed : new ≡ old ++ k ∷ [] = rw h at e in
        let here : number ≡ length (lists old) = f ∙ absent-position k old h ∙ sym (length-map old (λ (v : Vec ℕ Global). v.items)) in
        let grown : lists new ≡ lists old ++ k.items ∷ [] = ap lists pushed ∙ map_push (λ (v : Vec ℕ Global). v.items) old k in
        record { at = rw (grown, here) (slice_get-seam (lists old) k.items []); grown = inr (grown, here, absent k old h) }
