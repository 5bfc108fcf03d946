-- The first line of a list, and the rest; lines that stand one behind another.
use Rattle.std.proofs.Common.{◌≡◌, ℕ, suc, ◌+◌, ◌<◌, not, Bool, true, List, [], ◌∷◌, ◌++◌, length, take, drop, get_or, add-one, refl, sym, ap, ◌∙◌, subst, arith}
use Rattle.std.proofs.Math.Seq.{split_at, take-length}
use Rattle.std.proofs.Math.ListN.{drop_of_length-le}
use Rattle.std.proofs.lemmas.Bool.{and_parts, not-true}
use Rattle.std.specs.List.{list_all}
use Rattle.c11_directives.specs.Lines.{onto_first, split_lines}
use Rattle.sc_lines.specs.declared.line.Line.{Line}
use Rattle.sc_lines.specs.Split.{FollowFrom}

module _ {T : Type 0} (ends : T → Bool) where
  -- no item ends a line
  abbrev pub is_open : List T → Bool
  is_open xs = list_all (λ t. not (ends t)) xs

  split-front : (xs : List T) (t : T) (ys : List T) → is_open xs ≡ true → ends t ≡ true → split_lines ends (xs ++ t ∷ ys) ≡ xs ∷ split_lines ends ys
  split-front [] t ys o e = rw e
  split-front (x ∷ xs) t ys o e =
      let parts = and_parts (not (ends x)) (is_open xs) o in
      rw (not-true (ends x) parts.0) (ap (onto_first x) (split-front xs t ys parts.1 e))

  split-open : (x : T) (xs : List T) → is_open (x ∷ xs) ≡ true → split_lines ends (x ∷ xs) ≡ (x ∷ xs) ∷ []
  split-open x [] o = rw (not-true (ends x) (and_parts (not (ends x)) true o).0)
  split-open x (y ∷ ys) o =
      let parts = and_parts (not (ends x)) (is_open (y ∷ ys)) o in
      rw (not-true (ends x) parts.0) (ap (onto_first x) (split-open y ys parts.1))

  -- a line up to the first item that ends one
  pub split-at_end : (ts : List T) (i : ℕ) (d : T) → i < length ts → is_open (take i ts) ≡ true → ends (get_or ts i d) ≡ true
      → split_lines ends ts ≡ take i ts ∷ split_lines ends (drop (i + 1) ts)
  split-at_end ts i d h o e = ap (split_lines ends) (split_at ts i d h) ∙ (split-front (take i ts) (get_or ts i d) (drop (suc i) ts) o e ∙ ap (λ k. take i ts ∷ split_lines ends (drop k ts)) (sym (add-one i)))

  -- a last line that no item ends
  pub split-last : (ts : List T) → 0 < length ts → is_open (take (length ts) ts) ≡ true
      → split_lines ends ts ≡ take (length ts) ts ∷ split_lines ends (drop (length ts + 1) ts)
  split-last [] h o = absurd (omega arith)
  split-last (t ∷ ts) h o =
      let n = length (t ∷ ts) in
      let all : take n (t ∷ ts) ≡ t ∷ ts = take-length (t ∷ ts) in
      let past : drop (n + 1) (t ∷ ts) ≡ [] = drop_of_length-le (t ∷ ts) (omega arith) in
      split-open t ts (subst (λ xs. is_open xs ≡ true) all o) ∙ sym (ap (λ xs. xs ∷ split_lines ends (drop (n + 1) (t ∷ ts))) all ∙ ap (λ xs. (t ∷ ts) ∷ split_lines ends xs) past)

-- behind these lines, the first of which begins at a place
abbrev pub behind : ℕ → List Line → ℕ
behind n [] = n
behind n (l ∷ ls) = behind (l.end + 1) ls

pub follow-push : (n : ℕ) (ls : List Line) (l : Line) → FollowFrom n ls → l.first ≡ behind n ls → FollowFrom n (ls ++ l ∷ [])
follow-push n [] l f e = (e, tt)
follow-push n (x ∷ xs) l f e = (f.0, follow-push (x.end + 1) xs l f.1 e)

pub behind-push : (n : ℕ) (ls : List Line) (l : Line) → behind n (ls ++ l ∷ []) ≡ l.end + 1
behind-push n [] l = refl
behind-push n (x ∷ xs) l = behind-push (x.end + 1) xs l
